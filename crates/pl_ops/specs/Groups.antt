-- The groups of an aggregate, and what its calls give of each.
use Rattle.std.specs.Prelude.{ℕ, zero, suc, ◌+◌, ℤ, pos, ◌+ℤ◌, Bool, true, false, not, ◌&&◌, if◌then◌else◌, List, [], ◌∷◌, ◌++◌, length, map, filter}
use Rattle.std.specs.declared.cmp.Ordering.{Ordering}
use Rattle.std.specs.Ordering.{is_lt}
use Rattle.ic_row.specs.declared.value.Value.{Value}
use Rattle.ic_row.specs.declared.value.Value.TheVariants.{Null, Int, Wide, Chars}
use Rattle.ic_row.specs.Values.{is_null, column, key_of}
use Rattle.ic_row.specs.Order.{value_cmp}
use Rattle.pl_tree.specs.declared.node.Call.{Call}
use Rattle.pl_tree.specs.declared.node.Call.TheVariants.{Count, CountOf, Sum, Min, Max}
use Rattle.pl_ops.specs.Rows.{Line, same_value}

-- ---- groups

-- value by value; a null is the same as a null
abbrev pub same_line : Line → Line → Bool
same_line [] [] = true
same_line [] (y ∷ ys) = false
same_line (x ∷ xs) [] = false
same_line (x ∷ xs) (y ∷ ys) = same_value x y && same_line xs ys

abbrev pub differs : Line → Line → Bool
differs key other = not (same_line key other)

-- without repetitions, each at its first place
abbrev pub distinct : List Line → List Line
distinct [] = []
distinct (key ∷ keys) = key ∷ filter (differs key) (distinct keys)

-- the keys of the groups, in the order of their first rows; with no columns there is one group, over nothing too
abbrev pub group_keys : List ℕ → List Line → List Line
group_keys [] rows = [] ∷ []
group_keys (c ∷ columns) rows = distinct (map (key_of (c ∷ columns)) rows)

abbrev pub in_group : List ℕ → Line → Line → Bool
in_group columns key row = same_line key (key_of columns row)

-- ---- calls

-- the number in a value of an int or a wide column
abbrev pub number_in : Value → ℤ
number_in (Int n) = n
number_in (Wide n) = n
number_in _ = pos 0

-- null is absent
abbrev pub absent_or : (Value → Value → Value) → Value → Value → Value
absent_or f Null b = b
absent_or f a Null = a
absent_or f a b = f a b

abbrev pub lesser : Value → Value → Value
lesser a b = if is_lt (value_cmp b a) then b else a

abbrev pub greater : Value → Value → Value
greater a b = if is_lt (value_cmp a b) then b else a

-- two counts, two sums, the lesser and the greater of two values
unfoldable pub joined_value : Call → Value → Value → Value
joined_value Count a b = Int (number_in a +ℤ number_in b)
joined_value (CountOf c) a b = Int (number_in a +ℤ number_in b)
joined_value (Sum c) a b = absent_or (λ x y. Wide (number_in x +ℤ number_in y)) a b
joined_value (Min c) a b = absent_or lesser a b
joined_value (Max c) a b = absent_or greater a b

-- a count is 0 over nothing, and all else is null
unfoldable pub value_of_none : Call → Value
value_of_none Count = Int (pos 0)
value_of_none (CountOf c) = Int (pos 0)
value_of_none (Sum c) = Null
value_of_none (Min c) = Null
value_of_none (Max c) = Null

abbrev pub widened : Value → Value
widened (Int n) = Wide n
widened value = value

-- what one row brings to a call of a single or a partial
unfoldable pub brought : Call → Line → Value
brought Count row = Int (pos 1)
brought (CountOf c) row = Int (pos (if is_null (column row c) then 0 else 1))
brought (Sum c) row = widened (column row c)
brought (Min c) row = column row c
brought (Max c) row = column row c

abbrev pub over : Call → List Value → Value
over call [] = value_of_none call
over call (value ∷ values) = joined_value call value (over call values)

-- ---- aggregates

-- of one group the results of all calls
abbrev pub results_of : List Call → List Line → Line
results_of [] rows = []
results_of (call ∷ calls) rows = over call (map (brought call) rows) ∷ results_of calls rows

-- of one group the results of all calls, from those of its partials, which begin at this column
abbrev pub results_from : ℕ → List Call → List Line → Line
results_from c [] rows = []
results_from c (call ∷ calls) rows = over call (map (λ row. column row c) rows) ∷ results_from (c + 1) calls rows

abbrev pub columns_from : ℕ → ℕ → List ℕ
columns_from first zero = []
columns_from first (suc n) = first ∷ columns_from (first + 1) n

-- one row for each group: its key, then the results
unfoldable pub grouped : List ℕ → (List Line → Line) → List Line → List Line
grouped columns results rows = map (λ key. key ++ results (filter (in_group columns key) rows)) (group_keys columns rows)

-- of a single and of a partial
abbrev pub aggregate_rows : List ℕ → List Call → List Line → List Line
aggregate_rows group calls rows = grouped group (results_of calls) rows

-- of a final, whose partial had this group and these calls
abbrev pub final_rows : List ℕ → List Call → List Line → List Line
final_rows group calls rows = grouped (columns_from 0 (length group)) (results_from (length group) calls) rows
