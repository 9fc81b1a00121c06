use Rattle.std.proofs.Common.{false, sym, subst}
use Rattle.std.specs.List.{Contains}
use Rattle.ic_recvring.specs.Ring.{Packet, Ring, numbers, placed}
use Rattle.ic_recvring.proofs.Stored.{seq_in, placed_there}
use Rattle.ic_recvring.proofs.tests.drawn.store_and_back.Goals as goal

pub take_back-requires : goal.take_back-requires
take_back-requires c =
    let p : Packet = record { seq = c.args.seq; last = false; payload = c.args.payload.now } in
    let stored = c.in-Stored.ensures.stores c.run_end-run.result c.run_end-run.ensures.value in
    subst (λ (t : Ring). Contains (numbers t.kept) c.args.seq) (sym stored.2) (seq_in (placed p c.args.ring.now.kept) p (placed_there p c.args.ring.now.kept))
