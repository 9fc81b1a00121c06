use Rattle.std.proofs.Common.{◌≡◌, Some, ap, sym, ◌∙◌, slice_get, slice_index_or}
use Rattle.ic_timed_sender.specs.Timed.{TimedState}
use Rattle.ic_hub.specs.Hubbing.{Living}
use Rattle.ic_hub.specs.Calls.{Answered}
use Rattle.ic_hub.proofs.Putting.{at_index, behind, set_in}
use Rattle.ic_hub.proofs.Moving.{sender_living}
use Rattle.ic_hub.proofs.query.Query.finish.Goals as goal

pub returns-then-is_finished : goal.returns-then-is_finished
returns-then-is_finished c =
    let senders : c.args.self.now.senders ≡ c.self.inside.senders.items = ap (λ (l : Living). l.senders) (sym c.self.view_is) in
    behind c.args.place _ c.args.self.now c.index.result.now (at_index c.args.self.now.senders c.args.place c.index.result.now c.requires.here (c.index.ensures ∙ ap (λ xs. slice_index_or xs c.args.place c.index.result.now) (sym senders)))
    (sym c.is_finished.ensures.value ∙ c.if-is_finished.true)

pub invariant_of-self : goal.invariant_of-self
invariant_of-self c =
    let senders : c.args.self.now.senders ≡ c.self.inside.senders.items = ap (λ (l : Living). l.senders) (sym c.self.view_is) in
    let here = at_index c.args.self.now.senders c.args.place c.index_mut.result.now c.requires.here (c.index_mut.ensures.value ∙ ap (λ xs. slice_index_or xs c.args.place c.index_mut.result.now) (sym senders)) in
    sender_living _ c.args.place c.index_mut.result.now c.finish.new.self c.self.invariant (ap (λ xs. slice_get xs c.args.place) (sym senders) ∙ here) c.finish.ensures.end.end

pub returns : goal.returns
returns c =
    let senders : c.args.self.now.senders ≡ c.self.inside.senders.items = ap (λ (l : Living). l.senders) (sym c.self.view_is) in
    let here = at_index c.args.self.now.senders c.args.place c.index_mut.result.now c.requires.here (c.index_mut.ensures.value ∙ ap (λ xs. slice_index_or xs c.args.place c.index_mut.result.now) (sym senders)) in
    let was = at_index c.args.self.now.senders c.args.place c.index.result.now c.requires.here (c.index.ensures ∙ ap (λ xs. slice_index_or xs c.args.place c.index.result.now) (sym senders)) in
    let both : Some c.index_mut.result.now ≡ Some c.index.result.now = sym here ∙ was in
    let same : c.index_mut.result.now ≡ c.index.result.now = cc in
    Answered c.finish.result c.put_answer.ensures (record {
      old = c.index_mut.result.now;
      new = c.finish.new.self;
      here = here;
      is = ap (λ (l : Living). set_in l c.args.place c.finish.new.self) c.self.view_is;
      end = c.finish.ensures.end;
      now = c.finish.ensures.now;
      stands = c.finish.ensures.stands;
    }) (ap (λ (o : TimedState). o.sending.finished) same ∙ sym c.is_finished.ensures.value ∙ c.if-is_finished.false) c.finish.ensures.err c.finish.ensures.formed
