-- The rows that an operator gives of the rows it is given, as functions on lists.
use Rattle.std.specs.Prelude.{ℕ, Bool, not, ◌&&◌, if◌then◌else◌, List, [], ◌∷◌, ◌++◌, map, flat_map, filter}
use Rattle.std.specs.List.{list_all}
use Rattle.std.specs.Ordering.{is_eq, is_le}
use Rattle.ic_row.specs.declared.value.Value.{Value}
use Rattle.ic_row.specs.declared.order.Key.{Key}
use Rattle.ic_row.specs.Values.{is_null, column, key_of}
use Rattle.ic_row.specs.Order.{value_cmp, compare_by}
use Rattle.pl_expr.specs.declared.expr.Expr.{Expr}
use Rattle.pl_expr.specs.Holding.{keeps}
use Rattle.pl_tree.specs.declared.node.Pair.{Pair}

-- a row is the list of its values
abbrev pub Line : Type 0
Line = List Value

-- the rows of which the predicate is true
unfoldable pub filter_rows : Expr → List Line → List Line
filter_rows test rows = filter (keeps test) rows

-- of each row these columns, in this order
unfoldable pub project_rows : List ℕ → List Line → List Line
project_rows columns rows = map (key_of columns) rows

-- equal only with the same kind and content
abbrev pub same_value : Value → Value → Bool
same_value a b = is_eq (value_cmp a b)

-- the two values are equal, and not null
abbrev pub pair_meets : Line → Line → Pair → Bool
pair_meets left right pair = not (is_null (column left pair.left)) && same_value (column left pair.left) (column right pair.right)

abbrev pub side_by_side : List Pair → Line → Line → List Line
side_by_side pairs left right = if list_all (pair_meets left right) pairs then (left ++ right) ∷ [] else []

-- matches of one left row come in the order of the right rows
unfoldable pub join_rows : List Pair → List Line → List Line → List Line
join_rows pairs right left = flat_map (λ l. flat_map (side_by_side pairs l) right) left

-- before the first row that it isn't after
abbrev pub insert_row : List Key → Line → List Line → List Line
insert_row keys row [] = row ∷ []
insert_row keys row (other ∷ rows) = if is_le (compare_by keys row other) then row ∷ other ∷ rows else other ∷ insert_row keys row rows

-- by the keys; rows that are equal in them stay in their order
unfoldable pub sort_rows : List Key → List Line → List Line
sort_rows keys [] = []
sort_rows keys (row ∷ rows) = insert_row keys row (sort_rows keys rows)
