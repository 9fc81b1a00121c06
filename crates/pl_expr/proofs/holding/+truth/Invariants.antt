use Rattle.std.proofs.Common.{◌≡◌, map, drop}
use Rattle.pl_expr.specs.Truths.{conjunction, disjunction, all_of, any_of}
use Rattle.pl_expr.specs.Holding.{truth_of}
use Rattle.pl_expr.proofs.holding.+truth.Given as goal

abbrev pub invariant-all-loop-part : goal.invariant-all-loop-part
invariant-all-loop-part l = conjunction l.so_far (all_of (map (truth_of l.row) (drop l.part-index l.parts))) ≡ all_of (map (truth_of l.row) l.parts)

abbrev pub invariant-any-loop-part : goal.invariant-any-loop-part
invariant-any-loop-part l = disjunction l.so_far (any_of (map (truth_of l.row) (drop l.part-index l.parts))) ≡ any_of (map (truth_of l.row) l.parts)
