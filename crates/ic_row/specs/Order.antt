-- The order of rows by keys.
use Rattle.std.specs.Prelude.{ℕ, Bool, if◌then◌else◌, List, [], ◌∷◌}
use Rattle.std.specs.declared.cmp.Ordering.{Ordering}
use Rattle.std.specs.declared.cmp.Ordering.TheVariants.{Less, Equal, Greater}
use Rattle.std.specs.Ordering.{nat_cmp, int_cmp, ordering_reverse, ordering_then}
use Rattle.std.specs.Cmp.Lexicographic.{slice_cmp}
use Rattle.std.specs.List.Sorted.{IsSorted}
use Rattle.ic_row.specs.declared.value.Value.{Value}
use Rattle.ic_row.specs.declared.value.Value.TheVariants.{Null, Int, Wide, Chars}
use Rattle.ic_row.specs.declared.order.Key.{Key}
use Rattle.ic_row.specs.Values.{column}

-- the order of the kinds among each other; it never matters in a column of one kind
abbrev pub rank_of : Value → ℕ
rank_of (Int n) = 0
rank_of (Wide n) = 1
rank_of (Chars text) = 2
rank_of Null = 3

-- numbers by size, texts by bytes, null last
abbrev pub value_cmp : Value → Value → Ordering
value_cmp (Int a) (Int b) = int_cmp a b
value_cmp (Wide a) (Wide b) = int_cmp a b
value_cmp (Chars a) (Chars b) = slice_cmp nat_cmp a b
value_cmp a b = nat_cmp (rank_of a) (rank_of b)

-- the order reversed, if the flag says so
abbrev pub directed : Bool → Ordering → Ordering
directed down order = if down then ordering_reverse order else order

-- null is last in both directions
abbrev pub column_cmp : Bool → Value → Value → Ordering
column_cmp down Null Null = Equal
column_cmp down Null b = Greater
column_cmp down a Null = Less
column_cmp down a b = directed down (value_cmp a b)

-- rows by the values of the key's column
abbrev pub key_cmp : Key → List Value → List Value → Ordering
key_cmp key a b = column_cmp key.down (column a key.column) (column b key.column)

-- the first key in which the rows differ decides
unfoldable pub compare_by : List Key → List Value → List Value → Ordering
compare_by [] a b = Equal
compare_by (key ∷ keys) a b = ordering_then (key_cmp key a b) (compare_by keys a b)

-- no row comes before one that it sorts after
abbrev pub IsSortedBy : List Key → List (List Value) → Type 0
IsSortedBy keys rows = IsSorted (compare_by keys) rows
