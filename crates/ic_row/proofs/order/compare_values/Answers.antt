use Rattle.std.proofs.Common.{◌≡◌, sym, subst}
use Rattle.std.specs.Prelude.{◌↔◌}
use Rattle.std.specs.declared.cmp.Ordering.{Ordering}
use Rattle.std.specs.declared.cmp.Ordering.TheVariants.{Equal}
use Rattle.ic_row.proofs.TotalLemmas.{value_cmp_equal}
use Rattle.ic_row.proofs.order.compare_values.Goals as goal

pub returns-clause-same : goal.returns-clause-same
returns-clause-same c = subst (λ (o : Ordering). (o ≡ Equal) ↔ (c.args.a.now ≡ c.args.b.now)) (sym c.order_of.ensures) (value_cmp_equal c.args.a.now c.args.b.now)
