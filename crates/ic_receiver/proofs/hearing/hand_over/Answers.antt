use Rattle.std.proofs.Common.{◌≡◌, ◌+◌, [], ap, ◌∙◌, sym, subst, Some}
use Rattle.ic_base.specs.declared.datagram.Parcel.{Parcel}
use Rattle.ic_header.specs.declared.flags.Flags.TheVariants.{Ack}
use Rattle.ic_recvring.specs.Ring.{Packet, front_of}
use Rattle.ic_header.specs.Packets.{IsAnswer}
use Rattle.ic_receiver.proofs.Taken.{front_in}
use Rattle.ic_receiver.proofs.hearing.hand_over.Goals as goal

pub returns-clause-hands : goal.returns-clause-hands
returns-clause-hands c =
    let s = c.args.ring.now in
    let packet : Packet = record { seq = c.in-Some.front.seq; last = c.in-Some.front.last; payload = c.in-Some.front.payload.now } in
    let front : front_of s ≡ Some packet = sym c.in-Some.ensures.value in
    let next = (front_in (s.consumed + 1) s.kept packet front).1 in
    record {
      packet = packet;
      front = front;
      from = ap (λ (p : Parcel). p.from) c.in_ok-parcel.ensures;
      payload = ap (λ (p : Parcel). p.payload) c.in_ok-parcel.ensures ∙ c.in_ok-from_slice.ensures;
      last = ap (λ (p : Parcel). p.last) c.in_ok-parcel.ensures;
      run = c.run_end.result;
      run_end = c.run_end.ensures.value;
      answer = subst (λ n. IsAnswer c.args.end.now Ack c.run_end.result n [] c.in_ok-told.told) next c.in_ok-told.ensures;
      after_is = c.consume.ensures.rest;
      stored = c.consume.ensures.stored;
    }
