use Rattle.std.proofs.Common.{◌≡◌, ◌-◌}
use Rattle.ic_row.specs.Reading.{values_at}
use Rattle.ic_row.proofs.Loop.{with_front}
use Rattle.ic_row.proofs.reading.values_of.Given as goal

abbrev pub invariant-loop : goal.invariant-loop
invariant-loop l = with_front l.values.items (values_at (l.count - l.counter) l.rest) ≡ values_at l.count l.bytes
