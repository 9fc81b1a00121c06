use Rattle.std.proofs.Common.{◌≡◌, drop}
use Rattle.pl_tree.specs.Places as places
use Rattle.pl_tree.proofs.PlaceLemmas.{after}
use Rattle.pl_tree.proofs.loci.places_of.Given as goal

abbrev pub invariant-loop-column : goal.invariant-loop-column
invariant-loop-column l = after l.found (places.places_of (drop l.column-index l.wanted) l.columns) ≡ places.places_of l.wanted l.columns
