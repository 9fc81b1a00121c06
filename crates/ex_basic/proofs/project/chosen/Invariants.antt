use Rattle.std.proofs.Common.{◌≡◌, take}
use Rattle.ic_row.specs.Values.{key_of}
use Rattle.ex_basic.proofs.project.chosen.Given as goal

abbrev pub invariant-loop-place : goal.invariant-loop-place
invariant-loop-place l = l.values.items ≡ key_of (take l.place-index l.columns) l.row
