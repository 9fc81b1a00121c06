use Rattle.std.proofs.Common.{◌<◌, length, refl, sym, subst, slice_set}
use Rattle.ic_hub.specs.Hubbing.{Living}
use Rattle.ic_hub.specs.Coming.{SenderHears}
use Rattle.ic_hub.proofs.ComingSteps.{read_at, back_end}
use Rattle.ic_hub.proofs.Moving.{sender_living}
use Rattle.ic_hub.proofs.query.Query.hear_receiver.Goals as goal

pub invariant_of-self : goal.invariant_of-self
invariant_of-self c =
    let s = c.self.inside in
    let l : Living = record { number = s.number; ends = s.places; senders = s.senders.items; receivers = s.receivers.items; served = s.served.items } in
    let less = subst (λ (x : Living). c.args.place < length x.senders) (sym c.self.view_is) c.requires.here in
    let here = read_at s.senders.items c.args.place c.index_mut.result.now less c.index_mut.ensures.value in
    sender_living l c.args.place c.index_mut.result.now c.hear_back.new.sender c.self.invariant here (back_end c.args.head.now c.args.body.now c.index_mut.result.now c.hear_back.new.sender c.hear_back.result c.hear_back.ensures).end

pub returns : goal.returns
returns c =
    let s = c.self.inside in
    let after : Living = record { number = s.number; ends = s.places; senders = slice_set s.senders.items c.args.place c.hear_back.new.sender; receivers = s.receivers.items; served = s.served.items } in
    let less = subst (λ (x : Living). c.args.place < length x.senders) (sym c.self.view_is) c.requires.here in
    subst (λ (l : Living). SenderHears c.args.place c.args.head.now c.args.body.now l after c.hear_back.result) c.self.view_is
    (record {
      old = c.index_mut.result.now;
      new = c.hear_back.new.sender;
      here = read_at s.senders.items c.args.place c.index_mut.result.now less c.index_mut.ensures.value;
      is = refl;
      hears = c.hear_back.ensures;
    })
