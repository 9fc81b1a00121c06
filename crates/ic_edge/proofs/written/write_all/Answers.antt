use Rattle.std.proofs.Common.{◌≡◌, ◌-◌, length, take, drop, arith, length-drop, take_all}
use Rattle.ic_edge.proofs.Known.{Appends-more}
use Rattle.ic_edge.proofs.written.write_all.Goals as goal

pub loop-at-preserved : goal.loop-at-preserved
loop-at-preserved g c =
    let whole : take (length c.args.piece.now - c.loop-at.at) (drop c.loop-at.at c.args.piece.now) ≡ drop c.loop-at.at c.args.piece.now = take_all _ _ (omega (arith, length-drop c.loop-at.at c.args.piece.now)) in
    let bound = rw whole at c.in_ok-n.ensures.bound in
    let bytes = rw whole at c.in_ok-n.ensures.bytes in
    record {
      within = omega (arith, bound, length-drop c.loop-at.at c.args.piece.now);
      taken = Appends-more _ _ _ c.args.piece.now c.loop-at.at c.in_ok-n.n c.loop-at.invariant.taken bytes;
      later = omega (arith, c.in_ok-n.ensures.cause.later);
    }
