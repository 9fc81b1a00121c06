use Rattle.std.proofs.Common.{◌≡◌, ◌+◌, ◌++◌, length, map}
use Rattle.std.specs.List.{AllByRecursion}
use Rattle.pl_tree.specs.Trees.{tree_in}
use Rattle.pl_tree.specs.Sizes.{IsPlan}
use Rattle.pl_plan.specs.Kept.{given_with}
use Rattle.icq_top.specs.Judging.{refusal_from, judged_by}
use Rattle.icq_top.proofs.judging.judged.Given as goal

-- the plans so far and those that are left, judged, are all of them, and none so far was refused
abbrev pub invariant-loop-alloc : goal.invariant-loop-alloc
invariant-loop-alloc l =
    record {
      together : l.plans ++ map (judged_by (given_with l.schemas l.segments l.settings)) l.left ≡ map (judged_by (given_with l.schemas l.segments l.settings)) l.fn.queries;
      refusals : refusal_from (given_with l.schemas l.segments l.settings) 1 l.fn.queries ≡ refusal_from (given_with l.schemas l.segments l.settings) (l.query + 1) l.left;
      each : AllByRecursion (λ plan. IsPlan (tree_in plan)) l.left;
      count : l.query + length l.left ≡ length l.fn.queries;
    }

abbrev pub decreases-loop-alloc : goal.decreases-loop-alloc
decreases-loop-alloc l = length l.left
