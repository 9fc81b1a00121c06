use Rattle.std.proofs.Common.{◌≡◌, ◌++◌, string_bytes, codes, take}
use Rattle.std.specs.List.{flat_map}
use Rattle.icq_top.specs.Text.{value_text}
use Rattle.icq_top.proofs.line.push_row.Given as goal

abbrev pub invariant-loop-value : goal.invariant-loop-value
invariant-loop-value l = string_bytes l.line ≡ string_bytes l.initial.line ++ flat_map (λ value. codes "," ++ value_text value) (take l.value-index l.rest)
