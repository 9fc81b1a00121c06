use Rattle.std.proofs.Common.{◌<◌, length, refl, sym, subst, slice_set}
use Rattle.ic_hub.specs.Hubbing.{Living}
use Rattle.ic_hub.specs.Coming.{ReceiverHears}
use Rattle.ic_hub.proofs.ComingSteps.{read_at, forth_end}
use Rattle.ic_hub.proofs.Moving.{receiver_living}
use Rattle.ic_hub.proofs.query.Query.hear_sender.Goals as goal

pub invariant_of-self : goal.invariant_of-self
invariant_of-self c =
    let s = c.self.inside in
    let l : Living = record { number = s.number; ends = s.places; senders = s.senders.items; receivers = s.receivers.items; served = s.served.items } in
    let less = subst (λ (x : Living). c.args.place < length x.receivers) (sym c.self.view_is) c.requires.here in
    let here = read_at s.receivers.items c.args.place c.index_mut.result.now less c.index_mut.ensures.value in
    receiver_living l c.args.place c.index_mut.result.now c.hear_forth.new.receiver c.self.invariant here (forth_end c.args.head.now c.args.body.now c.index_mut.result.now c.hear_forth.new.receiver c.hear_forth.result c.hear_forth.ensures)

pub returns : goal.returns
returns c =
    let s = c.self.inside in
    let after : Living = record { number = s.number; ends = s.places; senders = s.senders.items; receivers = slice_set s.receivers.items c.args.place c.hear_forth.new.receiver; served = s.served.items } in
    let less = subst (λ (x : Living). c.args.place < length x.receivers) (sym c.self.view_is) c.requires.here in
    subst (λ (l : Living). ReceiverHears c.args.place c.args.head.now c.args.body.now l after c.hear_forth.result) c.self.view_is
    (record {
      old = c.index_mut.result.now;
      new = c.hear_forth.new.receiver;
      here = read_at s.receivers.items c.args.place c.index_mut.result.now less c.index_mut.ensures.value;
      is = refl;
      hears = c.hear_forth.ensures;
    })
