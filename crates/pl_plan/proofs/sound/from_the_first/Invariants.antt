use Rattle.std.proofs.Common.{◌≡◌, ◌++◌, length}
use Rattle.std.specs.Prelude.{reverse}
use Rattle.pl_plan.proofs.sound.from_the_first.Given as goal

abbrev pub invariant-loop-locus : goal.invariant-loop-locus
invariant-loop-locus l = l.loci ++ reverse l.left ≡ reverse l.fn.from_the_last

abbrev pub decreases-loop-locus : goal.decreases-loop-locus
decreases-loop-locus l = length l.left
