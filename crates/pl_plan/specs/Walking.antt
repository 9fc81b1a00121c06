-- One walk over a plan: what each node gives, or the first fault. A node is judged by what its children give.
use Rattle.std.specs.Prelude.{◌≡◌, ℕ, ◌+◌, Bool, true, false, not, ◌&&◌, ◌||◌, if◌then◌else◌, List, [], ◌∷◌, ◌++◌, length, Option, Some, None, Result, Ok, Err}
use Rattle.std.specs.List.{list_any}
use Rattle.ic_row.specs.declared.order.Key.{Key}
use Rattle.ic_row.specs.declared.value.Kind.{Kind}
use Rattle.pl_expr.specs.declared.expr.Expr.{Expr}
use Rattle.pl_expr.specs.declared.typing.ExprFlaw.TheVariants as flaw
use Rattle.pl_expr.specs.Entries.{entries_of}
use Rattle.pl_expr.specs.Typing.{is_flawed}
use Rattle.pl_tree.specs.declared.node.Pair.{Pair}
use Rattle.pl_tree.specs.declared.node.Call.{Call}
use Rattle.pl_tree.specs.declared.schema.Schema.{Schema}
use Rattle.pl_tree.specs.declared.schema.Locus.{Locus}
use Rattle.pl_tree.specs.declared.schema.Locus.TheVariants.{Entry, Hashed, Replicated, Strewn}
use Rattle.pl_tree.specs.Trees.{Tree, Scan, Filter, Project, Limit, Sort, Join, Single, Partial, Final, Gather, Redistribute, Broadcast}
use Rattle.pl_tree.specs.Columns.{schema_named, table_kinds, chosen_kinds, aggregate_kinds}
use Rattle.pl_tree.specs.Loci.{table_locus, moved_to, joined_locus}
use Rattle.pl_tree.specs.Orders.{kept_order, keys_in}
use Rattle.pl_plan.specs.declared.rule.Rule.{Rule}
use Rattle.pl_plan.specs.declared.rule.Rule.TheVariants.{UnknownTable, Column, ColumnKind, JoinLocus, AggLocus, LimitLocus, OrderMissing, MotionAboveEntry, PartialUnmatched, NotAtEntry}
use Rattle.pl_plan.specs.declared.rule.PlanFault.{PlanFault}
use Rattle.pl_plan.specs.declared.rule.PlanNo.{PlanNo}
use Rattle.pl_plan.specs.declared.rule.PlanNo.TheVariants.{Fault, Memory}
use Rattle.pl_plan.specs.declared.above.Above.{Above}
use Rattle.pl_plan.specs.declared.facts.Facts.{Facts}
use Rattle.pl_plan.specs.Above as above
use Rattle.pl_plan.specs.Tests.{is_missing, any_past, key_past, pair_past, call_past, is_none, pair_differs, sums_no_int, may_join, parts_groups, parts_final, group_width, stops_early, is_prefix, is_entry, has_none}

-- ---- answers

-- what was answered is what the walk gives, unless memory ran out
abbrev pub Gives : Result Facts PlanNo → Result Facts PlanFault → Type 0
Gives (Ok facts) walk = walk ≡ Ok facts
Gives (Err (Fault fault)) walk = walk ≡ Err fault
Gives (Err Memory) walk = Unit {0}

infixl 10 ◌>>=◌
abbrev pub ◌>>=◌ : Result Facts PlanFault → (Facts → Result Facts PlanFault) → Result Facts PlanFault
(Ok facts) >>= next = next facts
(Err fault) >>= next = Err fault

-- the rule, if it is broken, and else what is broken of the later ones
abbrev pub first_of : Bool → Rule → Option Rule → Option Rule
first_of true rule later = Some rule
first_of false rule later = later

abbrev pub fault_at : ℕ → Rule → PlanFault
fault_at n rule = record { node = n; rule = rule }

abbrev pub unless_broken : Option Rule → ℕ → Facts → Result Facts PlanFault
unless_broken None n facts = Ok facts
unless_broken (Some rule) n facts = Err (fault_at n rule)

-- a node's own rules come first, and then that the root stands at the dispatcher
abbrev pub root_rule : Above → Facts → Option Rule
root_rule up facts = first_of (up.root && not (is_entry facts.locus)) NotAtEntry None

abbrev pub or_else : Option Rule → Option Rule → Option Rule
or_else None later = later
or_else (Some rule) later = Some rule

abbrev pub settled : Option Rule → Above → ℕ → Facts → Result Facts PlanFault
settled rule up n facts = unless_broken (or_else rule (root_rule up facts)) n facts

-- ---- each node, by its children's facts

-- the loci of a child and of those below it, from the last one in preorder to the first
abbrev pub under : Facts → List Locus
under f = f.below ++ f.locus ∷ []

abbrev pub with_order : List Key → Facts → Facts
with_order keys f = record { kinds = f.kinds; locus = f.locus; order = keys; below = under f; next = f.next }

abbrev pub scanned : Above → ℕ → Option Schema → Result Facts PlanFault
scanned up n schema =
    settled (first_of (is_missing schema) UnknownTable None) up n
    (record { kinds = table_kinds schema; locus = table_locus schema; order = []; below = []; next = n + 1 })

abbrev pub filtered : Above → ℕ → Expr → Facts → Result Facts PlanFault
filtered up n e f =
    settled (first_of (list_any (is_flawed f.kinds flaw.Column) (entries_of e)) Column (first_of (list_any (is_flawed f.kinds flaw.Kind) (entries_of e)) ColumnKind None)) up n (with_order f.order f)

abbrev pub projected : Above → ℕ → List ℕ → Facts → Result Facts PlanFault
projected up n cols f =
    settled (first_of (any_past (length f.kinds) cols) Column None) up n
    (record { kinds = chosen_kinds f.kinds cols; locus = moved_to cols f.locus; order = kept_order cols f.order; below = under f; next = f.next })

abbrev pub limited : Above → ℕ → ℕ → Facts → Result Facts PlanFault
limited up n count f = settled (first_of (stops_early up.root up.over count f.locus) LimitLocus None) up n (with_order f.order f)

abbrev pub sorted : Above → ℕ → List Key → Facts → Result Facts PlanFault
sorted up n ks f = settled (first_of (list_any (key_past (length f.kinds)) ks) Column None) up n (with_order ks f)

abbrev pub joined : Above → ℕ → List Pair → Facts → Facts → Result Facts PlanFault
joined up n on l r =
    settled (first_of (list_any (pair_past (length l.kinds) (length r.kinds)) on) Column (first_of (list_any (pair_differs l.kinds r.kinds) on) ColumnKind (first_of (not (may_join on l.locus r.locus)) JoinLocus None))) up n
    (record { kinds = l.kinds ++ r.kinds; locus = joined_locus (length l.kinds) l.locus r.locus; order = []; below = under r ++ under l; next = r.next })

abbrev pub aggregate_rule : Option Rule → List Kind → List ℕ → List Call → Option Rule
aggregate_rule rule kinds g cs =
    first_of (any_past (length kinds) g || list_any (call_past (length kinds)) cs) Column (first_of (list_any (sums_no_int kinds) cs) ColumnKind rule)

abbrev pub aggregate_facts : List ℕ → List Call → Facts → Facts
aggregate_facts g cs f = record { kinds = aggregate_kinds f.kinds g cs; locus = moved_to g f.locus; order = []; below = under f; next = f.next }

abbrev pub aggregated : Option Rule → Above → ℕ → List ℕ → List Call → Facts → Result Facts PlanFault
aggregated rule up n g cs f = settled (aggregate_rule rule f.kinds g cs) up n (aggregate_facts g cs f)

abbrev pub single : Above → ℕ → List ℕ → List Call → Facts → Result Facts PlanFault
single up n g cs f = aggregated (first_of (parts_groups g f.locus) AggLocus None) up n g cs f

abbrev pub partial : Above → ℕ → List ℕ → List Call → Facts → Result Facts PlanFault
partial up n g cs f = aggregated (first_of (not up.reached) PartialUnmatched None) up n g cs f

abbrev pub finished : Above → ℕ → Option ℕ → Facts → Result Facts PlanFault
finished up n width f = settled (first_of (parts_final width f.locus) AggLocus (first_of (has_none width) PartialUnmatched None)) up n (with_order [] f)

abbrev pub gathered : Above → ℕ → List Key → Facts → Result Facts PlanFault
gathered up n ks f =
    settled (first_of (list_any (key_past (length f.kinds)) ks) Column (first_of (not (is_prefix ks f.order)) OrderMissing (first_of (is_entry f.locus) MotionAboveEntry None))) up n
    (record { kinds = f.kinds; locus = Entry; order = ks; below = under f; next = f.next })

abbrev pub redistributed : Above → ℕ → List ℕ → Facts → Result Facts PlanFault
redistributed up n ks f =
    settled (first_of (is_none ks || any_past (length f.kinds) ks) Column (first_of (is_entry f.locus) MotionAboveEntry None)) up n
    (record { kinds = f.kinds; locus = Hashed ks; order = []; below = under f; next = f.next })

abbrev pub broadcast : Above → ℕ → Facts → Result Facts PlanFault
broadcast up n f =
    settled (first_of (is_entry f.locus) MotionAboveEntry None) up n
    (record { kinds = f.kinds; locus = Replicated; order = []; below = under f; next = f.next })

-- ---- the walk

-- a node of this number, with what stands above it
abbrev pub walked : List Schema → Above → ℕ → Tree → Result Facts PlanFault
walked s up n (Scan t) = scanned up n (schema_named t s)
walked s up n (Filter e c) = walked s above.other (n + 1) c >>= filtered up n e
walked s up n (Project cols c) = walked s (above.under_project up) (n + 1) c >>= projected up n cols
walked s up n (Limit k c) = walked s (above.under_limit k up) (n + 1) c >>= limited up n k
walked s up n (Sort ks c) = walked s above.other (n + 1) c >>= sorted up n ks
walked s up n (Join on l r) = walked s above.other (n + 1) l >>= (λ f. walked s above.other f.next r >>= joined up n on f)
walked s up n (Single g cs c) = walked s above.other (n + 1) c >>= single up n g cs
walked s up n (Partial g cs c) = walked s above.other (n + 1) c >>= partial up n g cs
walked s up n (Final c) = walked s above.under_final (n + 1) c >>= finished up n (group_width c)
walked s up n (Gather o c) = walked s (above.under_gather up) (n + 1) c >>= gathered up n (keys_in o)
walked s up n (Redistribute ks c) = walked s (above.under_motion up) (n + 1) c >>= redistributed up n ks
walked s up n (Broadcast c) = walked s (above.under_motion up) (n + 1) c >>= broadcast up n
