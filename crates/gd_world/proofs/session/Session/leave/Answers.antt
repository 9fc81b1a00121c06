use Rattle.std.proofs.Common.{◌≡◌, ◌++◌, ◌∷◌, [], set, length, Some, None, ap, sym, ◌∙◌, arith, slice_get}
use Rattle.std.proofs.lemmas.Option.{slice_get-get_or, slice_get_within}
use Rattle.ic_law.specs.Streams.{node_of}
use Rattle.ic_port.specs.Noding.{Noding}
use Rattle.gd_world.specs.declared.step.Step.TheVariants as step
use Rattle.gd_world.specs.Sessions.{Sessional}
use Rattle.gd_world.proofs.Asked.{left_so}
use Rattle.gd_world.proofs.Places.{same_some}
use Rattle.gd_world.proofs.session.Session.leave.Goals as goal

pub returns-clause-ok : goal.returns-clause-ok
returns-clause-ok c =
    let a = c.args.self.now in
    let at = c.args.at in
    let nodes = c.self.inside.nodes.items in
    let node = c.index_mut-node.result.now in
    let viewed : nodes ≡ a.nodes = ap (λ (s : Sessional). s.nodes) c.self.view_is in
    let place = c.place_of.ensures.place in
    let within = slice_get_within a.nodes (node_of at) c.requires.node c.requires.here in
    let here : slice_get a.nodes (node_of at) ≡ Some node =
    ap (λ l. slice_get l (node_of at)) (sym viewed) ∙ ap (slice_get nodes) (sym place) ∙ slice_get-get_or nodes c.place_of.result node (omega (arith, place, within, ap length viewed)) ∙ ap Some (sym c.index_mut-node.ensures.value) in
    left_so c.in_ok-gone.gone at c.args.query a _ node c.leave.new.node c.place_of.ensures.back here
    (ap (λ (n : Noding). n.query) (same_some node c.requires.node (sym here ∙ c.requires.here)) ∙ c.requires.in_it) c.in_ok-gone.ensures.ok
    (ap (λ l. set l c.place_of.result c.leave.new.node) viewed ∙ ap (λ i. set a.nodes i c.leave.new.node) place)
    (c.note.ensures ∙ ap (λ l. l ++ c.new.result ∷ []) (c.in_ok-reserve.ensures.items ∙ ap (λ (s : Sessional). s.past) c.self.view_is) ∙ ap (λ d. a.past ++ d ∷ []) c.new.ensures
    ∙ ap (λ l. a.past ++ record { step = step.Leave at; turned = None; entry = Some (length l) } ∷ []) c.entries-place.ensures)
