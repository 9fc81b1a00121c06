use Rattle.std.proofs.Common.{rules, ◌≡◌, true, false, sym, ◌∙◌, get_or}
use Rattle.pl_plan.specs.Tests as spec
use Rattle.pl_plan.proofs.AskLemmas.{goes_on, stops}
use Rattle.pl_plan.proofs.asks.is_prefix.Goals as goal

pub returns-then-not-begins_with : goal.returns-then-not-begins_with
returns-then-not-begins_with c =
    let here : spec.stands_at c.args.keys.now c.loop-i.i (get_or c.args.front.now c.loop-i.i (record { column = 0; down = false })) ≡ false = search rules in
    stops c.args.front.now c.args.keys.now c.loop-i.i (record { column = 0; down = false }) _ c.loop-i-test.true here c.loop-i.invariant

pub loop-i-preserved : goal.loop-i-preserved
loop-i-preserved c =
    let here : spec.stands_at c.args.keys.now c.loop-i.i (get_or c.args.front.now c.loop-i.i (record { column = 0; down = false })) ≡ true = search rules in
    goes_on c.args.front.now c.args.keys.now c.loop-i.i (record { column = 0; down = false }) _ c.loop-i-test.true here c.loop-i.invariant
