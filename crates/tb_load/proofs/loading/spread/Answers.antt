use Rattle.std.proofs.Common.{◌∙◌, ap}
use Rattle.pl_ops.specs.declared.loaded.Spread.TheVariants.{Apart}
use Rattle.tb_load.proofs.Steps.{kept_at_none}
use Rattle.tb_load.proofs.loading.spread.Goals as goal

pub returns-in_default : goal.returns-in_default
returns-in_default c =
    ap Apart c.new.ensures ∙ kept_at_none c.args.table.schema.place c.args.segments c.args.table.rows c.if-segments-eq0.true c.in_default.not-Everywhere
