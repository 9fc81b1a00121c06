-- What is asked of a node, by cases of the node; each test says yes if a rule is broken.
use Rattle.std.specs.Prelude.{ℕ, Bool, true, false, not, ◌&&◌, ◌||◌, ◌==◌, nat_lt, nat_le, slice_get, List, [], ◌∷◌, map, length, Option, Some, None}
use Rattle.std.specs.Option.{option_map}
use Rattle.std.specs.List.{list_any}
use Rattle.ic_row.specs.declared.order.Key.{Key}
use Rattle.ic_row.specs.declared.value.Kind.{Kind}
use Rattle.ic_row.specs.declared.value.Kind.TheVariants as kind
use Rattle.pl_expr.specs.declared.typing.ExprFlaw.TheVariants as flaw
use Rattle.pl_expr.specs.Entries.{entries_of}
use Rattle.pl_expr.specs.Typing.{same_kind, is_flawed}
use Rattle.pl_tree.specs.declared.node.Pair.{Pair}
use Rattle.pl_tree.specs.declared.node.Call.{Call}
use Rattle.pl_tree.specs.declared.node.Call.TheVariants.{Count, CountOf, Sum, Min, Max}
use Rattle.pl_tree.specs.declared.schema.Schema.{Schema}
use Rattle.pl_tree.specs.declared.schema.Locus.{Locus}
use Rattle.pl_tree.specs.declared.schema.Locus.TheVariants.{Entry, Hashed, Replicated, Strewn}
use Rattle.pl_tree.specs.Trees.{Tree, Scan, Filter, Project, Limit, Sort, Join, Single, Partial, Final, Gather, Redistribute, Broadcast}
use Rattle.pl_tree.specs.Columns.{schema_named, kinds_of, kind_at, width_of}
use Rattle.pl_tree.specs.Loci.{locus_of}
use Rattle.pl_tree.specs.Orders.{keys_in, order_of}
use Rattle.pl_tree.specs.Partials.{Groups, partial_under}

-- ---- rule 1

abbrev pub is_missing : Option Schema → Bool
is_missing None = true
is_missing (Some schema) = false

-- a scan names no table
abbrev pub names_no_table : List Schema → Tree → Bool
names_no_table s (Scan t) = is_missing (schema_named t s)
names_no_table s _ = false

-- ---- rule 2

-- a position isn't below the width
abbrev pub is_past : ℕ → ℕ → Bool
is_past width column = nat_le width column

abbrev pub any_past : ℕ → List ℕ → Bool
any_past width columns = list_any (is_past width) columns

abbrev pub key_past : ℕ → Key → Bool
key_past width key = is_past width key.column

abbrev pub pair_past : ℕ → ℕ → Pair → Bool
pair_past left right pair = is_past left pair.left || is_past right pair.right

abbrev pub call_past : ℕ → Call → Bool
call_past width Count = false
call_past width (CountOf c) = is_past width c
call_past width (Sum c) = is_past width c
call_past width (Min c) = is_past width c
call_past width (Max c) = is_past width c

-- a hash of no columns would name no segment for each row, so it counts as a position that isn't there
abbrev pub is_none : List ℕ → Bool
is_none [] = true
is_none (c ∷ cs) = false

-- a position isn't below the child's width
abbrev pub names_no_column : List Schema → Tree → Bool
names_no_column s (Filter e c) = list_any (is_flawed (kinds_of s c) flaw.Column) (entries_of e)
names_no_column s (Project cols c) = any_past (width_of s c) cols
names_no_column s (Sort ks c) = list_any (key_past (width_of s c)) ks
names_no_column s (Join on l r) = list_any (pair_past (width_of s l) (width_of s r)) on
names_no_column s (Single g cs c) = any_past (width_of s c) g || list_any (call_past (width_of s c)) cs
names_no_column s (Partial g cs c) = any_past (width_of s c) g || list_any (call_past (width_of s c)) cs
names_no_column s (Gather o c) = list_any (key_past (width_of s c)) (keys_in o)
names_no_column s (Redistribute ks c) = is_none ks || any_past (width_of s c) ks
names_no_column s _ = false

-- ---- rule 3

abbrev pub pair_differs : List Kind → List Kind → Pair → Bool
pair_differs left right pair = not (same_kind (kind_at left pair.left) (kind_at right pair.right))

abbrev pub sums_no_int : List Kind → Call → Bool
sums_no_int kinds (Sum c) = not (same_kind (kind_at kinds c) kind.Int)
sums_no_int kinds _ = false

-- the kinds of a comparison or of a pair differ, or a sum's column isn't int
abbrev pub mixes_kinds : List Schema → Tree → Bool
mixes_kinds s (Filter e c) = list_any (is_flawed (kinds_of s c) flaw.Kind) (entries_of e)
mixes_kinds s (Join on l r) = list_any (pair_differs (kinds_of s l) (kinds_of s r)) on
mixes_kinds s (Single g cs c) = list_any (sums_no_int (kinds_of s c)) cs
mixes_kinds s (Partial g cs c) = list_any (sums_no_int (kinds_of s c)) cs
mixes_kinds s _ = false

-- ---- rule 4

abbrev pub is_pair : ℕ → ℕ → Pair → Bool
is_pair a b pair = (pair.left == a) && (pair.right == b)

-- the columns are as many on both sides, and each two stand among the pairs
abbrev pub are_paired : List Pair → List ℕ → List ℕ → Bool
are_paired on [] [] = true
are_paired on [] (b ∷ more) = false
are_paired on (a ∷ more) [] = false
are_paired on (a ∷ more) (b ∷ others) = list_any (is_pair a b) on && are_paired on more others

-- the loci that two sides of a join may have
abbrev pub may_join : List Pair → Locus → Locus → Bool
may_join on Entry Entry = true
may_join on Replicated Replicated = true
may_join on (Hashed a) Replicated = true
may_join on Strewn Replicated = true
may_join on Replicated (Hashed b) = true
may_join on Replicated Strewn = true
may_join on (Hashed a) (Hashed b) = are_paired on a b
may_join on _ _ = false

abbrev pub joins_apart : List Schema → Tree → Bool
joins_apart s (Join on l r) = not (may_join on (locus_of s l) (locus_of s r))
joins_apart s _ = false

-- ---- rule 5

abbrev pub is_in : List ℕ → ℕ → Bool
is_in columns c = list_any (λ d. d == c) columns

abbrev pub is_outside : List ℕ → ℕ → Bool
is_outside group c = not (is_in group c)

abbrev pub is_strewn : Locus → Bool
is_strewn Strewn = true
is_strewn _ = false

-- rows of one group can stand at two places
abbrev pub parts_groups : List ℕ → Locus → Bool
parts_groups group Entry = false
parts_groups group Replicated = false
parts_groups group (Hashed a) = list_any (is_outside group) a
parts_groups group Strewn = true

-- a final's group are its child's first columns
abbrev pub parts_first : ℕ → Locus → Bool
parts_first width Entry = false
parts_first width Replicated = false
parts_first width (Hashed a) = list_any (is_past width) a
parts_first width Strewn = true

-- how many columns the group has that a final over this child makes whole
abbrev pub group_width : Tree → Option ℕ
group_width c = option_map (λ (groups : Groups). length groups.group) (partial_under c)

-- without a partial there is no group, and only strewn rows are known to be wrong
abbrev pub parts_final : Option ℕ → Locus → Bool
parts_final (Some width) locus = parts_first width locus
parts_final None locus = is_strewn locus

-- a single or a final stands on Strewn, or on Hashed with a column outside the group
abbrev pub aggregates_apart : List Schema → Tree → Bool
aggregates_apart s (Single g cs c) = parts_groups g (locus_of s c)
aggregates_apart s (Final c) = parts_final (group_width c) (locus_of s c)
aggregates_apart s _ = false

-- ---- rule 6

abbrev pub is_over : ℕ → Option ℕ → Bool
is_over count None = true
is_over count (Some n) = nat_lt count n

-- the place of a limit isn't allowed: at Entry only the root, at segments only under a gather and the root's limit
abbrev pub stops_early : Bool → Option ℕ → ℕ → Locus → Bool
stops_early root over count Entry = not root
stops_early root over count Replicated = true
stops_early root over count (Hashed a) = is_over count over
stops_early root over count Strewn = is_over count over

-- of a node that is the root or not, and over which the root's limit stands or not
abbrev pub limits_early : List Schema → Bool → Option ℕ → Tree → Bool
limits_early s root over (Limit n c) = stops_early root over n (locus_of s c)
limits_early s root over _ = false

-- ---- rule 7

abbrev pub same_flag : Bool → Bool → Bool
same_flag true b = b
same_flag false b = not b

abbrev pub same_key : Key → Key → Bool
same_key a b = (a.column == b.column) && same_flag a.down b.down

abbrev pub is_prefix : List Key → List Key → Bool
is_prefix [] keys = true
is_prefix (a ∷ more) [] = false
is_prefix (a ∷ more) (b ∷ keys) = same_key a b && is_prefix more keys

abbrev pub is_key : Option Key → Key → Bool
is_key None key = false
is_key (Some other) key = same_key key other

abbrev pub stands_at : List Key → ℕ → Key → Bool
stands_at keys place key = is_key (slice_get keys place) key

-- a gather's order isn't a prefix of what its child delivers
abbrev pub merges_unsorted : Tree → Bool
merges_unsorted (Gather o c) = not (is_prefix (keys_in o) (order_of c))
merges_unsorted _ = false

-- ---- rule 8

abbrev pub is_entry : Locus → Bool
is_entry Entry = true
is_entry _ = false

-- a motion's child stands at the dispatcher
abbrev pub moves_from_entry : List Schema → Tree → Bool
moves_from_entry s (Gather o c) = is_entry (locus_of s c)
moves_from_entry s (Redistribute ks c) = is_entry (locus_of s c)
moves_from_entry s (Broadcast c) = is_entry (locus_of s c)
moves_from_entry s _ = false

-- ---- rule 9

abbrev pub has_none : Option ℕ → Bool
has_none None = true
has_none (Some width) = false

-- a final without its partial, or a partial without its final
abbrev pub is_unmatched : Bool → Tree → Bool
is_unmatched reached (Partial g cs c) = not reached
is_unmatched reached (Final c) = has_none (group_width c)
is_unmatched reached _ = false

-- ---- rule 10

-- the root stands elsewhere than at the dispatcher
abbrev pub ends_away : List Schema → Bool → Tree → Bool
ends_away s root tree = root && not (is_entry (locus_of s tree))
