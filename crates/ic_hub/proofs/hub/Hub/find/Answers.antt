use Rattle.std.proofs.Common.{◌≡◌, ap, sym, ◌∙◌, subst, slice_index_or, slice_get}
use Rattle.std.proofs.lemmas.Option.{slice_get_within}
use Rattle.ic_conntab.specs.Ends.{keys_of, sender_at, receiver_at}
use Rattle.ic_hub.specs.Hubbing.{Hubbing, Living, IsHub}
use Rattle.ic_hub.proofs.Finds.{found_query, query_there, found_there, found_foreign, found_ended, found_unbegun, indexed}
use Rattle.ic_hub.proofs.hub.Hub.find.Goals as goal

pub sides-requires : goal.sides-requires
sides-requires c =
    let is = subst (λ (s : Hubbing). IsHub s c.self.inside.table) c.self.view_is c.self.invariant in
    let live : c.args.self.now.live ≡ c.self.inside.live.items = ap (λ (s : Hubbing). s.live) (sym c.self.view_is) in
    let first = sym c.place_of.ensures ∙ c.in-Some.is in
    let here = indexed c.args.self.now.live c.args.key.now.query c.in-Some.query c.index.result.now first (c.index.ensures ∙ ap (λ xs. slice_index_or xs c.in-Some.query c.index.result.now) (sym live)) in
    let q = found_query c.args.self.now c.self.inside.table c.args.key.now c.in-Here.place c.in-Some.query c.index.result.now is (sym c.find.ensures ∙ c.in-Here.is) first here in
    let ends = ap (λ (l : Living). l.ends) c.behind-self.view_is in
    slice_get_within (keys_of c.behind-self.inside.places) c.in-Here.place c.args.key.now (ap (λ e. slice_get (keys_of e) c.in-Here.place) ends ∙ q.1)

pub returns-in-Foreign : goal.returns-in-Foreign
returns-in-Foreign c =
    found_foreign c.args.self.now c.self.inside.table c.args.key.now (subst (λ (s : Hubbing). IsHub s c.self.inside.table) c.self.view_is c.self.invariant) (sym c.find.ensures ∙ c.in-Foreign.is)

pub returns-in-Ended : goal.returns-in-Ended
returns-in-Ended c =
    found_ended c.args.self.now c.self.inside.table c.args.key.now (subst (λ (s : Hubbing). IsHub s c.self.inside.table) c.self.view_is c.self.invariant) (sym c.find.ensures ∙ c.in-Ended.is)

pub returns-in-NotBegun : goal.returns-in-NotBegun
returns-in-NotBegun c =
    found_unbegun c.args.self.now c.self.inside.table c.args.key.now (subst (λ (s : Hubbing). IsHub s c.self.inside.table) c.self.view_is c.self.invariant) (sym c.find.ensures ∙ c.in-NotBegun.is)

pub returns-in-Some : goal.returns-in-Some
returns-in-Some c =
    let is = subst (λ (s : Hubbing). IsHub s c.self.inside.table) c.self.view_is c.self.invariant in
    let live : c.args.self.now.live ≡ c.self.inside.live.items = ap (λ (s : Hubbing). s.live) (sym c.self.view_is) in
    let first = sym c.place_of.ensures ∙ c.in-Some.is in
    let here = indexed c.args.self.now.live c.args.key.now.query c.in-Some.query c.index.result.now first (c.index.ensures ∙ ap (λ xs. slice_index_or xs c.in-Some.query c.index.result.now) (sym live)) in
    let h = sym c.find.ensures ∙ c.in-Here.is in
    let q = found_query c.args.self.now c.self.inside.table c.args.key.now c.in-Here.place c.in-Some.query c.index.result.now is h first here in
    let ends = ap (λ (l : Living). l.ends) c.behind-self.view_is in
    let key = ap (λ e. slice_get (keys_of e) c.in-Here.place) ends ∙ q.1 in
    found_there c.args.self.now c.self.inside.table c.args.key.now c.in-Here.place c.in-Some.query c.index.result.now c.sides.result is h first here
    (c.sides.ensures.sender c.args.key.now key ∙ ap (λ e. sender_at e c.args.key.now) ends)
    (c.sides.ensures.receiver c.args.key.now key ∙ ap (λ e. receiver_at e c.args.key.now) ends)

pub returns-in-None : goal.returns-in-None
returns-in-None c =
    absurd (query_there c.args.self.now c.self.inside.table c.args.key.now c.in-Here.place (subst (λ (s : Hubbing). IsHub s c.self.inside.table) c.self.view_is c.self.invariant) (sym c.find.ensures ∙ c.in-Here.is) (sym c.place_of.ensures ∙ c.in-None.is))
