-- The sort moves rows, and puts them in order.
use Rattle.std.proofs.Common.{◌≡◌, Bool, true, false, cond, List, [], ◌∷◌, refl, ap}
use Rattle.std.specs.declared.cmp.Ordering.{Ordering}
use Rattle.std.specs.declared.cmp.Ordering.TheVariants.{Less, Equal, Greater}
use Rattle.std.specs.Ordering.{is_lt, is_le, ordering_reverse}
use Rattle.ic_row.specs.declared.order.Key.{Key}
use Rattle.ic_row.specs.Order.{compare_by}
use Rattle.ic_row.proofs.TotalLemmas.{compare_by_total}
use Rattle.pl_ops.specs.Rows.{Line as Row, insert_row, sort_rows}
use Rattle.pl_ops.specs.Merging.{sorts_before}
use Rattle.pl_answers.proofs.InOrder.{InOrder}
use Rattle.pl_parts.proofs.Bags.{Perm, pnil, pcons, pswap, ptrans, itself, back, All-perm}
use Rattle.pl_parts.proofs.Members.{All-in, All-from_in}
use Rattle.pl_answers.proofs.Ordering.{apart, trans}

insert_moves : (keys : List Key) (row : Row) (rows : List Row) → Perm (insert_row keys row rows) (row ∷ rows)
insert_moves keys row [] = itself (row ∷ [])
insert_moves keys row (other ∷ rows) = by (is_le (compare_by keys row other)) (insert_moves keys row rows)
  where
    by : (b : Bool) → Perm (insert_row keys row rows) (row ∷ rows) → Perm (cond b (row ∷ other ∷ rows) (other ∷ insert_row keys row rows)) (row ∷ other ∷ rows)
    by true p = itself (row ∷ other ∷ rows)
    by false p = ptrans (pcons other p) (pswap other row rows)

pub sort_moves : (keys : List Key) (rows : List Row) → Perm (sort_rows keys rows) rows
unfolding sort_rows
sort_moves keys [] = pnil
sort_moves keys (row ∷ rows) = ptrans (insert_moves keys row (sort_rows keys rows)) (pcons row (sort_moves keys rows))

not_before : (o p : Ordering) → o ≡ ordering_reverse p → is_le p ≡ true → is_lt o ≡ false
not_before o Less h e = ap is_lt h
not_before o Equal h e = ap is_lt h
not_before o Greater h e = absurd (cc)

is_before : (o p : Ordering) → o ≡ ordering_reverse p → is_le p ≡ false → is_lt o ≡ true
is_before o Less h e = absurd (cc)
is_before o Equal h e = absurd (cc)
is_before o Greater h e = ap is_lt h

le_not : (keys : List Key) (row other : Row) → is_le (compare_by keys row other) ≡ true → sorts_before keys other row ≡ false
unfolding sorts_before
le_not keys row other e = not_before (compare_by keys other row) (compare_by keys row other) ((compare_by_total keys).antisymm other row) e

gt_is : (keys : List Key) (row other : Row) → is_le (compare_by keys row other) ≡ false → sorts_before keys other row ≡ true
unfolding sorts_before
gt_is keys row other e = is_before (compare_by keys other row) (compare_by keys row other) ((compare_by_total keys).antisymm other row) e

insert_orders : (keys : List Key) (row : Row) (rows : List Row) → InOrder (sorts_before keys) rows → InOrder (sorts_before keys) (insert_row keys row rows)
insert_orders keys row [] h = (tt, tt)
insert_orders keys row (other ∷ rows) h = by (is_le (compare_by keys row other)) refl (insert_orders keys row rows h.1)
  where
    by : (b : Bool) → is_le (compare_by keys row other) ≡ b → InOrder (sorts_before keys) (insert_row keys row rows) → InOrder (sorts_before keys) (cond b (row ∷ other ∷ rows) (other ∷ insert_row keys row rows))
    by true q ih =
        let e = le_not keys row other q in
        ((e, All-from_in (λ y. sorts_before keys y row ≡ false) rows (λ y i. trans keys y other row (All-in (λ z. sorts_before keys z other ≡ false) y rows h.0 i) e)), h)
    by false q ih = (All-perm (λ y. sorts_before keys y other ≡ false) (back (insert_moves keys row rows)) (apart keys other row (gt_is keys row other q), h.0), ih)

pub sort_orders : (keys : List Key) (rows : List Row) → InOrder (sorts_before keys) (sort_rows keys rows)
unfolding sort_rows
sort_orders keys [] = tt
sort_orders keys (row ∷ rows) = insert_orders keys row (sort_rows keys rows) (sort_orders keys rows)
