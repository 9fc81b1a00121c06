use Rattle.std.proofs.Common.{◌≡◌, ◌==◌, map, take}
use Rattle.ic_conntab.specs.Ends.{places_where}
use Rattle.ic_conntab.proofs.finding.rows_in.Given as goal

abbrev pub invariant-loop-motion : goal.invariant-loop-motion
invariant-loop-motion l = l.rows.items ≡ map (λ m. places_where (λ k. k.motion == m) l.keys) (take l.motion-index l.motions)
