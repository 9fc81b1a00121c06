use Rattle.std.proofs.Common.{◌≡◌, ◌++◌, length, map}
use Rattle.tb_load.specs.Kept.{spread_of}
use Rattle.tb_load.proofs.loading.spreads.Given as goal

-- those so far and those that are left, spread, are all of them
abbrev pub invariant-tables : goal.invariant-tables
invariant-tables l = l.spreads ++ map (spread_of l.segments) l.left ≡ map (spread_of l.segments) l.fn.tables

abbrev pub decreases-tables : goal.decreases-tables
decreases-tables l = length l.left
