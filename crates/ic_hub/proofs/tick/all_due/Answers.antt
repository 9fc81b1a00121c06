use Rattle.std.proofs.Common.{refl, arith}
use Rattle.std.proofs.lemmas.Option.{slice_get_read}
use Rattle.ic_hub.specs.Ticking.{MayTick, RefusedIn, RefusedFirst}
use Rattle.ic_hub.proofs.Ticking.{refused_first, handed_on}
use Rattle.ic_hub.proofs.tick.all_due.Goals as goal

pub returns-in_err-due-clause-err : goal.returns-in_err-due-clause-err
returns-in_err-due-clause-err c =
    let xs = c.args.live.now in
    let at = slice_get_read xs _ c.loop-query.query-index c.query-item.result refl (omega arith) c.query-item.is in
    handed_on (RefusedFirst MayTick RefusedIn xs) _ c.in_err-due.field-0.0 c.from_residual.ensures.1
    (refused_first MayTick RefusedIn xs c.loop-query.query-index c.query-item.result c.in_err-due.field-0.0 at c.loop-query.invariant.may c.in_err-due.ensures.err)
