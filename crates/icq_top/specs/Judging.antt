-- Which of a document's plans is refused first, and why, as a function.
use Rattle.std.specs.Prelude.{◌≡◌, ℕ, ◌+◌, List, [], ◌∷◌, Bool, ◌&&◌, nat_lt, if◌then◌else◌, Option, Some, None}
use Rattle.pl_tree.specs.declared.node.Plan.{Plan}
use Rattle.pl_tree.specs.Trees.{Tree, tree_in}
use Rattle.pl_plan.specs.declared.rule.Rule.{Rule}
use Rattle.pl_plan.specs.declared.rule.Rule.TheVariants.{UnknownTable, Column, ColumnKind, JoinLocus, AggLocus, LimitLocus, OrderMissing, MotionAboveEntry, PartialUnmatched, NotAtEntry, TooWide, TooMany}
use Rattle.pl_plan.specs.declared.rule.PlanFault.{PlanFault}
use Rattle.pl_plan.specs.declared.sound.Judged.{Judged}
use Rattle.pl_plan.specs.Places.{Place, places_in, is_root, is_reached, limit_over}
use Rattle.pl_plan.specs.Tests.{names_no_table, names_no_column, mixes_kinds, joins_apart, aggregates_apart, limits_early, merges_unsorted, moves_from_entry, is_unmatched, ends_away}
use Rattle.pl_plan.specs.Motions.{ring_room, workers}
use Rattle.pl_plan.specs.Rules.{Given, most_bytes, most_workers}
use Rattle.pl_plan.specs.Soundness.{IsSound, IsFirstFault}
use Rattle.pl_plan.specs.Kept.{judged_with}
use Rattle.icq_top.specs.declared.stop.Stop.{Stop}
use Rattle.icq_top.specs.declared.stop.Stop.TheVariants.{Unsound}

-- ---- one plan

-- all rules by their numbers, each with whether the node at this place breaks it
unfoldable pub tests_at : Given → Place → List (Rule × Bool)
tests_at g p =
    (UnknownTable, names_no_table g.schemas p.node)
    ∷ (Column, names_no_column g.schemas p.node)
    ∷ (ColumnKind, mixes_kinds g.schemas p.node)
    ∷ (JoinLocus, joins_apart g.schemas p.node)
    ∷ (AggLocus, aggregates_apart g.schemas p.node)
    ∷ (LimitLocus, limits_early g.schemas (is_root p.above) (limit_over p.above) p.node)
    ∷ (OrderMissing, merges_unsorted p.node)
    ∷ (MotionAboveEntry, moves_from_entry g.schemas p.node)
    ∷ (PartialUnmatched, is_unmatched (is_reached p.above) p.node)
    ∷ (NotAtEntry, ends_away g.schemas (is_root p.above) p.node)
    ∷ (TooWide (ring_room g.schemas g.segments g.settings p.node), is_root p.above && nat_lt most_bytes (ring_room g.schemas g.segments g.settings p.node))
    ∷ (TooMany (workers g.schemas g.segments p.node), is_root p.above && nat_lt most_workers (workers g.schemas g.segments p.node))
    ∷ []

-- the first rule that is broken
abbrev pub first_rule : List (Rule × Bool) → Option Rule
first_rule [] = None
first_rule (test ∷ tests) = if test.1 then Some test.0 else first_rule tests

abbrev pub fault_or : ℕ → Option Rule → Option PlanFault → Option PlanFault
fault_or node None later = later
fault_or node (Some rule) later = Some (record { node = node; rule = rule })

-- the first of these nodes that breaks a rule, and the least rule that it breaks
abbrev pub fault_among : Given → List Place → Option PlanFault
fault_among g [] = None
fault_among g (p ∷ ps) = fault_or p.number (first_rule (tests_at g p)) (fault_among g ps)

-- the first fault of a plan: of its nodes in postorder
abbrev pub fault_of : Given → Tree → Option PlanFault
fault_of g tree = fault_among g (places_in tree)

-- it is what judging a plan names, and there is none if the plan is sound
pub record FaultsAreFirst : Type 0 where
  pub fault : (g : Given) (tree : Tree) (fault : PlanFault) → IsFirstFault g tree fault → fault_of g tree ≡ Some fault
  pub sound : (g : Given) (tree : Tree) → IsSound g tree → fault_of g tree ≡ None

-- ---- all plans

abbrev pub refusal_or : ℕ → Option PlanFault → Option Stop → Option Stop
refusal_or query None later = later
refusal_or query (Some fault) later = Some (Unsound query fault)

-- the first of these plans that has a fault, if the first has this number
abbrev pub refusal_from : Given → ℕ → List Plan → Option Stop
refusal_from g query [] = None
refusal_from g query (plan ∷ plans) = refusal_or query (fault_of g (tree_in plan)) (refusal_from g (query + 1) plans)

-- a plan as it was judged
abbrev pub judged_by : Given → Plan → Judged
judged_by g plan = judged_with plan g.schemas g.segments g.settings
