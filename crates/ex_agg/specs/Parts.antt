-- How far an aggregate goes.
use Rattle.std.specs.Prelude.{Bool, true, false}
use Rattle.ex_agg.specs.declared.agg.AggPart.{AggPart}
use Rattle.ex_agg.specs.declared.agg.AggPart.TheVariants as parts

-- whether it is given rows of a partial
abbrev pub is_final : AggPart → Bool
is_final parts.Single = false
is_final parts.Partial = false
is_final parts.Final = true
