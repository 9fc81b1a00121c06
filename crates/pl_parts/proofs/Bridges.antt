-- The functions of the crates below in the form in which the lemmas take them.
use Rattle.std.proofs.Common.{◌≡◌, ℕ, zero, suc, ◌+◌, cond, List, [], ◌∷◌, ◌++◌, map, length, refl, sym, ap, ◌∙◌, arith}
use Rattle.std.specs.Prelude.{◌&&◌, flat_map}
use Rattle.std.specs.List.{list_all}
use Rattle.ic_row.specs.Values.{column, key_of}
use Rattle.pl_expr.specs.declared.expr.Expr.{Expr}
use Rattle.pl_expr.specs.Holding.{keeps}
use Rattle.pl_tree.specs.declared.node.Pair.{Pair}
use Rattle.pl_tree.specs.declared.node.Call.{Call}
use Rattle.pl_ops.specs.Rows as rows
use Rattle.pl_ops.specs.Rows.{Line as Row, same_value, pair_meets, side_by_side}
use Rattle.pl_ops.specs.Groups as groups
use Rattle.pl_ops.specs.Groups.{brought, over, results_of, results_from, columns_from, grouped}
use Rattle.pl_parts.proofs.Bags.{filter_flat}
use Rattle.pl_parts.proofs.Forms.{Columns, filter_rows, project_rows, pairs_match, joined, join_rows, totals, brought_by, carried_from, firsts, aggregate_rows, final_rows}

pub filter_is : (e : Expr) (xs : List Row) → filter_rows (keeps e) xs ≡ rows.filter_rows e xs
unfolding filter_rows rows.filter_rows
filter_is e xs = sym (filter_flat (keeps e) xs)

pub project_is : (cols : Columns) (xs : List Row) → project_rows cols xs ≡ rows.project_rows cols xs
unfolding project_rows rows.project_rows
project_is cols [] = refl
project_is cols (x ∷ xs) = ap (λ l. key_of cols x ∷ l) (project_is cols xs)

pairs_are : (on : List Pair) (l r : Row) → pairs_match on l r ≡ list_all (pair_meets l r) on
unfolding pairs_match
pairs_are [] l r = refl
pairs_are (p ∷ on) l r = ap (λ b. pair_meets l r p && b) (pairs_are on l r)

joined_is : (on : List Pair) (l r : Row) → joined on l r ≡ side_by_side on l r
joined_is on l r = ap (λ b. cond b ((l ++ r) ∷ []) []) (pairs_are on l r)

pub join_is : (on : List Pair) (r l : List Row) → join_rows on r l ≡ rows.join_rows on r l
unfolding join_rows rows.join_rows
join_is on r l = λ i. flat_map (λ x. flat_map (λ y. joined_is on x y i) r) l

results_are : (cs : List Call) (xs : List Row) → totals (brought_by cs) xs ≡ results_of cs xs
unfolding totals
results_are [] xs = refl
results_are (call ∷ cs) xs = ap (λ l. over call (map (brought call) xs) ∷ l) (results_are cs xs)

pub aggregate_is : (g : Columns) (cs : List Call) (xs : List Row) → aggregate_rows g cs xs ≡ groups.aggregate_rows g cs xs
aggregate_is g cs xs = λ i. grouped g (λ ys. results_are cs ys i) xs

carried_are : (at : ℕ) (cs : List Call) (xs : List Row) → totals (carried_from at cs) xs ≡ results_from at cs xs
unfolding totals
carried_are at [] xs = refl
carried_are at (call ∷ cs) xs =
    let e : suc at ≡ at + 1 = omega arith in
    ap (λ l. over call (map (λ row. column row at) xs) ∷ l) (carried_are (suc at) cs xs ∙ ap (λ n. results_from n cs xs) e)

firsts_are : (at n : ℕ) → firsts at n ≡ columns_from at n
firsts_are at zero = refl
firsts_are at (suc n) = let e : suc at ≡ at + 1 = omega arith in ap (λ l. at ∷ l) (firsts_are (suc at) n ∙ ap (λ m. columns_from m n) e)

pub final_is : (g : Columns) (cs : List Call) (xs : List Row) → final_rows g cs xs ≡ groups.final_rows g cs xs
final_is g cs xs = ap (λ c. grouped c (totals (carried_from (length g) cs)) xs) (firsts_are 0 (length g)) ∙ (λ i. grouped (columns_from 0 (length g)) (λ ys. carried_are (length g) cs ys i) xs)
