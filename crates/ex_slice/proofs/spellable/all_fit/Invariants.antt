use Rattle.std.proofs.Common.{take}
use Rattle.std.specs.List.{AllByRecursion}
use Rattle.ic_row.specs.Spelling.{IsValue}
use Rattle.ex_slice.proofs.spellable.all_fit.Given as goal

abbrev pub invariant-loop-value : goal.invariant-loop-value
invariant-loop-value l = AllByRecursion IsValue (take l.value-index l.values)
