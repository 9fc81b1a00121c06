use Rattle.std.proofs.Common.{◌≡◌, ap, sym, ◌∙◌, subst, slice_index_or}
use Rattle.ic_conntab.specs.Slots.{IsWithin}
use Rattle.ic_hub.specs.Hubbing.{Living, IsLiving}
use Rattle.ic_hub.specs.Leaving.{TellsClear}
use Rattle.ic_hub.proofs.Putting.{at_index}
use Rattle.ic_hub.proofs.Leaving.{sender_tells, receiver_tells, sender_within, receiver_within}
use Rattle.ic_hub.proofs.query.Query.is_over.Goals as goal

pub returns-in-Sender : goal.returns-in-Sender
returns-in-Sender c =
    let living = subst IsLiving c.self.view_is c.self.invariant in
    let senders : c.args.self.now.senders ≡ c.self.inside.senders.items = ap (λ (l : Living). l.senders) (sym c.self.view_is) in
    let less = sender_within c.args.self.now c.in-Sender.place living (subst (IsWithin c.args.self.now.ends) c.in-Sender.is c.requires) in
    let here = at_index c.args.self.now.senders c.in-Sender.place c.index.result.now less (c.index.ensures ∙ ap (λ xs. slice_index_or xs c.in-Sender.place c.index.result.now) (sym senders)) in
    subst (λ slot. TellsClear c.args.self.now slot c.is_over.result) (sym c.in-Sender.is) (sender_tells c.args.self.now c.in-Sender.place c.index.result.now c.is_over.result living here c.is_over.ensures.tells)

pub returns-in-Receiver : goal.returns-in-Receiver
returns-in-Receiver c =
    let living = subst IsLiving c.self.view_is c.self.invariant in
    let receivers : c.args.self.now.receivers ≡ c.self.inside.receivers.items = ap (λ (l : Living). l.receivers) (sym c.self.view_is) in
    let less = receiver_within c.args.self.now c.in-Receiver.place living (subst (IsWithin c.args.self.now.ends) c.in-Receiver.is c.requires) in
    let here = at_index c.args.self.now.receivers c.in-Receiver.place c.index-in-Receiver.result.now less (c.index-in-Receiver.ensures ∙ ap (λ xs. slice_index_or xs c.in-Receiver.place c.index-in-Receiver.result.now) (sym receivers)) in
    subst (λ slot. TellsClear c.args.self.now slot c.is_over-in-Receiver.result) (sym c.in-Receiver.is)
    (receiver_tells c.args.self.now c.in-Receiver.place c.index-in-Receiver.result.now c.is_over-in-Receiver.result living here c.is_over-in-Receiver.ensures.over c.is_over-in-Receiver.ensures.runs)
