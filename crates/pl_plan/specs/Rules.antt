-- The rules of plans: what breaks each of them at a node.
use Rattle.std.specs.Prelude.{◌≡◌, ℕ, ◌<◌, true, List}
use Rattle.ic_base.specs.declared.settings.Settings.{Settings}
use Rattle.pl_tree.specs.declared.schema.Schema.{Schema}
use Rattle.pl_plan.specs.declared.rule.Rule.{Rule}
use Rattle.pl_plan.specs.declared.rule.Rule.TheVariants.{UnknownTable, Column, ColumnKind, JoinLocus, AggLocus, LimitLocus, OrderMissing, MotionAboveEntry, PartialUnmatched, NotAtEntry, TooWide, TooMany}
use Rattle.pl_plan.specs.Places.{Place, is_root, is_reached, limit_over}
use Rattle.pl_plan.specs.Tests.{names_no_table, names_no_column, mixes_kinds, joins_apart, aggregates_apart, limits_early, merges_unsorted, moves_from_entry, is_unmatched, ends_away}
use Rattle.pl_plan.specs.Motions.{ring_room, workers}

-- what a plan is judged with
pub record Given : Type 0 where
  pub schemas : List Schema
  pub segments : ℕ
  pub settings : Settings

abbrev pub most_bytes : ℕ
most_bytes = 2147483648

abbrev pub most_workers : ℕ
most_workers = 1024

-- the node at this place breaks this rule
abbrev pub Breaks : Given → Place → Rule → Type 0
Breaks g p UnknownTable = names_no_table g.schemas p.node ≡ true
Breaks g p Column = names_no_column g.schemas p.node ≡ true
Breaks g p ColumnKind = mixes_kinds g.schemas p.node ≡ true
Breaks g p JoinLocus = joins_apart g.schemas p.node ≡ true
Breaks g p AggLocus = aggregates_apart g.schemas p.node ≡ true
Breaks g p LimitLocus = limits_early g.schemas (is_root p.above) (limit_over p.above) p.node ≡ true
Breaks g p OrderMissing = merges_unsorted p.node ≡ true
Breaks g p MotionAboveEntry = moves_from_entry g.schemas p.node ≡ true
Breaks g p PartialUnmatched = is_unmatched (is_reached p.above) p.node ≡ true
Breaks g p NotAtEntry = ends_away g.schemas (is_root p.above) p.node ≡ true
Breaks g p (TooWide bytes) = (is_root p.above ≡ true) × (most_bytes < bytes) × (bytes ≡ ring_room g.schemas g.segments g.settings p.node)
Breaks g p (TooMany n) = (is_root p.above ≡ true) × (most_workers < n) × (n ≡ workers g.schemas g.segments p.node)

-- the rules have numbers, from 1
abbrev pub rule_number : Rule → ℕ
rule_number UnknownTable = 1
rule_number Column = 2
rule_number ColumnKind = 3
rule_number JoinLocus = 4
rule_number AggLocus = 5
rule_number LimitLocus = 6
rule_number OrderMissing = 7
rule_number MotionAboveEntry = 8
rule_number PartialUnmatched = 9
rule_number NotAtEntry = 10
rule_number (TooWide bytes) = 11
rule_number (TooMany n) = 12
