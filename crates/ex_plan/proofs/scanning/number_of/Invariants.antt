use Rattle.std.proofs.Common.{◌≡◌, drop}
use Rattle.pl_mean.specs.Parts.{number_from}
use Rattle.ex_plan.proofs.scanning.number_of.Given as goal

abbrev pub invariant-loop-number : goal.invariant-loop-number
invariant-loop-number l = number_from l.number l.name (drop l.number l.schemas) ≡ number_from 0 l.name l.schemas
