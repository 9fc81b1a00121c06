use Rattle.std.proofs.Common.{◌+◌, sym, subst, arith}
use Rattle.ic_chunk.proofs.Ended.{IsLeft, one_on, at_end, ends_by-small}
use Rattle.ic_chunk.proofs.counting.rows_ended.Goals as goal

pub loop-kind-preserved : goal.loop-kind-preserved
loop-kind-preserved c =
    record {
      left = λ chunks each are.
          subst (λ n. IsLeft chunks c.in-Some.behind.now (c.loop-kind.count + n)) (sym c.ends_by-count.ensures)
          (one_on chunks c.loop-kind.rest.now c.in-Some.behind.now c.loop-kind.count c.in-Some.kind (c.loop-kind.invariant.left chunks each are) (sym c.in-Some.ensures.front));
      small = omega (arith, c.loop-kind.invariant.small, c.ends_by-count.ensures, ends_by-small c.in-Some.kind, c.in-Some.ensures.shorter);
    }

pub returns : goal.returns
returns c = λ chunks each are. at_end chunks c.loop-kind.rest.now c.loop-kind.count (c.loop-kind.invariant.left chunks each are) (sym c.in_default.ensures.front)
