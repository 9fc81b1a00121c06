use Rattle.std.proofs.Common.{◌≤◌, ℕ, length, sym, ◌∙◌, arith}
use Rattle.std.proofs.lemmas.Bool.{ltb-true, ltb-false}
use Rattle.ic_motion.specs.Sending.{route_by}
use Rattle.ic_motion.specs.Putting.{goes_on, begins}
use Rattle.ic_motion.proofs.Works.{begun}
use Rattle.ic_motion.proofs.putting.begin.Goals as goal

pub returns-then-is_busy-clause-ok : goal.returns-then-is_busy-clause-ok
returns-then-is_busy-clause-ok c = goes_on (ltb-true 0 c.args.work.now.end (sym c.is_busy.ensures ∙ c.if-is_busy.true))

pub returns-clause-ok : goal.returns-clause-ok
returns-clause-ok c =
    let n : ℕ = c.args.work.now.end in
    let le : n ≤ 0 = ltb-false 0 n (sym c.is_busy.ensures ∙ c.if-is_busy.false) in
    begins c.begin.new.self (omega (arith, le))
    (begun (route_by c.args.kind.now) c.args.packet (length c.args.targets.now) c.args.row.now c.in_ok-spell.field-0 c.new-splitter.result c.begin.new.self c.in_ok-first.first c.in_ok-first.end c.in_ok-first.ensures c.new-splitter.ensures c.in_ok-spell.ensures.ok c.begin.ensures)
