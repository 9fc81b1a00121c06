use Rattle.std.proofs.Common.{sym, ◌∙◌, arith, subst}
use Rattle.std.specs.Io.KnownBytes.{Appends}
use Rattle.ic_edge.specs.Causes.{TakesAFront}
use Rattle.icq_top.proofs.Fronts.{front_of_lines, lines_more}
use Rattle.icq_top.proofs.print.print_lines.Goals as goal

pub returns-in-Err-clause-failed : goal.returns-in-Err-clause-failed
returns-in-Err-clause-failed g c = λ _.
    let line = c.as_bytes.ensures.value ∙ c.in_ok-push_line.ensures in
    front_of_lines g.L.Line.text c.args.lines.now c.item-item.result c.loop-item.item-index _ _ _ c.loop-item-test.true (sym c.item-item.is) c.loop-item.invariant.written
    (subst (TakesAFront _ _) line c.in-Err.ensures.err)

pub loop-item-preserved : goal.loop-item-preserved
loop-item-preserved g c =
    let line = c.as_bytes.ensures.value ∙ c.in_ok-push_line.ensures in
    record {
      written = lines_more g.L.Line.text c.args.lines.now c.item-item.result c.loop-item.item-index _ _ _ c.loop-item-test.true (sym c.item-item.is) c.loop-item.invariant.written
          (subst (Appends _ _) line c.in-Ok.ensures.ok);
      later = omega (arith, c.loop-item.invariant.later, c.in-Ok.ensures.cause.later);
    }
