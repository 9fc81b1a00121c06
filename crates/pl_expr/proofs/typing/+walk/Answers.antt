use Rattle.std.proofs.Common.{rules, ◌≡◌, ◌∙◌}
use Rattle.std.specs.Prelude.{Err}
use Rattle.pl_expr.proofs.WalkLemmas.{part_passed, part_stopped}
use Rattle.pl_expr.proofs.typing.+walk.Goals as goal

pub walk_all-loop-part-preserved : goal.walk_all-loop-part-preserved
walk_all-loop-part-preserved t c =
    part_passed c.args.kinds.now c.args.parts.now c.part-item.result c.loop-part.part-index c.loop-part.reached c.in_ok-reached.reached _ c.loop-part-test.true c.part-item.is c.loop-part.invariant (search rules)

pub walk_all-returns-in_err-reached : goal.walk_all-returns-in_err-reached
walk_all-returns-in_err-reached t c =
    let e : c.from_residual.result ≡ Err c.in_err-reached.field-0.0 = search rules in
    e ∙ part_stopped c.args.kinds.now c.args.parts.now c.part-item.result c.loop-part.part-index c.loop-part.reached c.in_err-reached.field-0.0 _ c.loop-part-test.true c.part-item.is c.loop-part.invariant (search rules)
