use Rattle.std.proofs.Common.{◌≡◌, ◌-◌, length, take, []}
use Rattle.std.specs.List.{AllByRecursion}
use Rattle.ic_row.specs.Spelling.{IsRow}
use Rattle.gd_work.specs.Cutting.{unput}
use Rattle.gd_work.proofs.cutter.Cutter.fill.Given as goal

abbrev pub invariant-loop-row : goal.invariant-loop-row
invariant-loop-row l = record {
  empty : l.self.chunk.items ≡ [];
  packet : l.self.packet ≡ l.fn.self.packet;
  same : unput l.self l.rows ≡ unput l.fn.self l.rows;
  rows : AllByRecursion IsRow (take l.fn.self.begun l.rows) → AllByRecursion IsRow (take l.self.begun l.rows);
}

abbrev pub decreases-loop-row : goal.decreases-loop-row
decreases-loop-row l = length l.rows - l.self.begun
