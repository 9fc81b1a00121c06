use Rattle.std.proofs.Common.{◌≡◌, Some, ap, sym, ◌∙◌, subst, slice_index_or}
use Rattle.ic_receiver.specs.Receiving.{Receiving}
use Rattle.ic_hub.specs.Hubbing.{Living}
use Rattle.ic_hub.specs.Counting.{IsCountOfReceiver}
use Rattle.ic_hub.proofs.Putting.{at_index}
use Rattle.ic_hub.proofs.query.Query.taken.Goals as goal

pub returns : goal.returns
returns c = λ receiver at.
    let receivers : c.args.self.now.receivers ≡ c.self.inside.receivers.items = ap (λ (l : Living). l.receivers) (sym c.self.view_is) in
    let here = at_index c.args.self.now.receivers c.args.place c.index.result.now c.requires.here (c.index.ensures ∙ ap (λ xs. slice_index_or xs c.args.place c.index.result.now) (sym receivers)) in
    let both : Some c.index.result.now ≡ Some receiver = sym here ∙ at in
    let same : c.index.result.now ≡ receiver = cc in
    subst (λ (r : Receiving). IsCountOfReceiver r c.of_receiver.result) same c.of_receiver.ensures
