use Rattle.std.proofs.Common.{◌≡◌, Some, ap, sym, ◌∙◌, subst, slice_index_or}
use Rattle.ic_timed_sender.specs.Timed.{TimedState}
use Rattle.ic_hub.specs.Hubbing.{Living}
use Rattle.ic_hub.specs.Counting.{IsCountOfSender}
use Rattle.ic_hub.proofs.Putting.{at_index}
use Rattle.ic_hub.proofs.query.Query.sent.Goals as goal

pub returns : goal.returns
returns c = λ sender at.
    let senders : c.args.self.now.senders ≡ c.self.inside.senders.items = ap (λ (l : Living). l.senders) (sym c.self.view_is) in
    let here = at_index c.args.self.now.senders c.args.place c.index.result.now c.requires.here (c.index.ensures ∙ ap (λ xs. slice_index_or xs c.args.place c.index.result.now) (sym senders)) in
    let both : Some c.index.result.now ≡ Some sender = sym here ∙ at in
    let same : c.index.result.now ≡ sender = cc in
    subst (λ (o : TimedState). IsCountOfSender o c.of_sender.result) same c.of_sender.ensures
