use Rattle.std.proofs.Common.{◌≡◌, map, false}
use Rattle.std.specs.List.{range_with_len}
use Rattle.gd_law.specs.Answers.{gather_end}
use Rattle.gd_sim.proofs.begin.Beginning.receiving.Given as goal

abbrev pub invariant-loop-from : goal.invariant-loop-from
invariant-loop-from l = l.ends.items ≡ map (gather_end l.self.session l.self.query false) (range_with_len 0 l.from)
