use Rattle.std.proofs.Common.{◌≡◌, ◌++◌, length, take}
use Rattle.std.specs.Int.{w16, to_be_bytes}
use Rattle.std.specs.List.{flat_map, AllByRecursion}
use Rattle.ic_row.specs.Spelling.{value_spelling, IsValue}
use Rattle.ic_row.proofs.writing.spell.Given as goal

abbrev pub invariant-loop-value : goal.invariant-loop-value
invariant-loop-value l = record {
  written : l.out.items ≡ to_be_bytes w16 (length l.value-items) ++ flat_map value_spelling (take l.value-index l.value-items);
  each : AllByRecursion IsValue (take l.value-index l.value-items);
}
