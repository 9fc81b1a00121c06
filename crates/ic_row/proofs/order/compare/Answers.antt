use Rattle.std.proofs.Common.{◌≢◌, false, sym, subst, ◌∙◌}
use Rattle.std.specs.declared.cmp.Ordering.{Ordering}
use Rattle.std.specs.declared.cmp.Ordering.TheVariants.{Equal}
use Rattle.ic_row.specs.Order.{compare_by}
use Rattle.ic_row.proofs.OrderLemmas.{passes, decides, is_over}
use Rattle.ic_row.proofs.order.compare.Goals as goal

pub loop-key-preserved : goal.loop-key-preserved
loop-key-preserved c =
    passes c.args.keys.now c.args.a.now c.args.b.now c.loop-key.key-index (record { column = 0; down = false }) (compare_by c.args.keys.now c.args.a.now c.args.b.now) c.loop-key-test.true (sym c.in-Equal.ensures) c.loop-key.invariant

pub returns-in_default : goal.returns-in_default
returns-in_default c =
    let differs = subst (λ (o : Ordering). o ≢ Equal) c.compare_by_key.ensures c.in_default.not-Equal in
    c.compare_by_key.ensures ∙ decides c.args.keys.now c.args.a.now c.args.b.now c.loop-key.key-index (record { column = 0; down = false }) (compare_by c.args.keys.now c.args.a.now c.args.b.now) c.loop-key-test.true differs c.loop-key.invariant

pub returns : goal.returns
returns c = is_over c.args.keys.now c.args.a.now c.args.b.now c.loop-key.key-index (compare_by c.args.keys.now c.args.a.now c.args.b.now) c.loop-key-test.false c.loop-key.invariant
