-- What std's stable sort makes of rows is `sort_rows`.
use Rattle.std.proofs.Common.{◌≡◌, suc, Bool, true, false, not, ◌&&◌, cond, if◌then◌else◌, List, [], ◌∷◌, length, filter, refl, sym, ap, ◌∙◌, true≢false}
use Rattle.std.specs.declared.cmp.Ordering.{Ordering}
use Rattle.std.specs.declared.cmp.Ordering.TheVariants.{Less, Equal, Greater}
use Rattle.std.specs.Ordering.{is_lt, is_le, ordering_reverse}
use Rattle.std.specs.Cmp.{IsStrictWeakOrder}
use Rattle.std.specs.List.Sorted.{IsSortedBy, IsStableBy, ties}
use Rattle.std.proofs.lemmas.List.Sorted.{ranks_by}
use Rattle.ic_row.specs.declared.order.Key.{Key}
use Rattle.ic_row.specs.Order.{compare_by}
use Rattle.ic_row.proofs.TotalLemmas.{compare_by_total}
use Rattle.pl_ops.specs.Rows.{Line, insert_row, sort_rows}
use Rattle.ex_basic.proofs.Stable.{Low, Up, up_from, only}

-- whether a row comes before another one
abbrev pub precedes : List Key → Line → Line → Bool
precedes keys x y = is_lt (compare_by keys x y)

pub order : (keys : List Key) → IsStrictWeakOrder (precedes keys)
order keys = ranks_by (compare_by_total keys) (λ x. x)

module _ (keys : List Key) where
  turned : (o p : Ordering) (b : Bool) → p ≡ ordering_reverse o → is_le o ≡ b → is_lt p ≡ not b
  turned Less p b e h = ap is_lt e ∙ ap not h
  turned Equal p b e h = ap is_lt e ∙ ap not h
  turned Greater p b e h = ap is_lt e ∙ ap not h

  -- a row goes before another one, or after it
  goes : (row other : Line) (b : Bool) → is_le (compare_by keys row other) ≡ b → precedes keys other row ≡ not b
  goes row other b h = turned (compare_by keys row other) (compare_by keys other row) b ((compare_by_total keys).antisymm other row) h

  -- ---- sorted

  low_all : (row other : Line) (rows : List Line) → precedes keys other row ≡ false → Low (precedes keys) other rows → Low (precedes keys) row rows
  low_all row other [] p low = tt
  low_all row other (w ∷ rows) p low = ((order keys).chain w other row low.0 p, low_all row other rows p low.1)

  low_insert : (y row : Line) (rows : List Line) → precedes keys row y ≡ false → Low (precedes keys) y rows → Low (precedes keys) y (insert_row keys row rows)
  low_insert y row [] p low = (p, tt)
  low_insert y row (other ∷ rows) p low = by (is_le (compare_by keys row other)) (low_insert y row rows p low.1)
    where
      by : (b : Bool) → Low (precedes keys) y (insert_row keys row rows) → Low (precedes keys) y (if b then row ∷ other ∷ rows else other ∷ insert_row keys row rows)
      by true rest = (p, low)
      by false rest = (low.0, rest)

  up_insert : (row : Line) (rows : List Line) → Up (precedes keys) rows → Up (precedes keys) (insert_row keys row rows)
  up_insert row [] u = (tt, tt)
  up_insert row (other ∷ rows) u = by (is_le (compare_by keys row other)) refl (up_insert row rows u.1)
    where
      by : (b : Bool) → is_le (compare_by keys row other) ≡ b → Up (precedes keys) (insert_row keys row rows)
          → Up (precedes keys) (if b then row ∷ other ∷ rows else other ∷ insert_row keys row rows)
      by true e rest = let p = goes row other true e in ((p, low_all row other rows p u.0), u)
      by false e rest = (low_insert other row rows ((order keys).one_way other row (goes row other false e)) u.0, rest)

  pub sort_up : (rows : List Line) → Up (precedes keys) (sort_rows keys rows)
  unfolding sort_rows
  sort_up [] = tt
  sort_up (row ∷ rows) = up_insert row (sort_rows keys rows) (sort_up rows)

  -- ---- stable

  both_false : (p q : Bool) → (not p && not q) ≡ true → (p ≡ false) × (q ≡ false)
  both_false true q e = absurd (true≢false (sym e))
  both_false false true e = absurd (true≢false (sym e))
  both_false false false e = (refl, refl)

  not_both : (x row other : Line) → precedes keys other row ≡ true → ties (precedes keys) x row ≡ true → ties (precedes keys) x other ≡ true → ⊥
  not_both x row other p e f =
      let a = both_false (precedes keys x row) (precedes keys row x) e in
      let b = both_false (precedes keys x other) (precedes keys other x) f in
      true≢false (sym p ∙ (order keys).chain other x row b.1 a.0)

  exchanged : (p q : Bool) (row other : Line) (rows : List Line) → (p ≡ true → q ≡ true → ⊥)
      → cond q (other ∷ cond p (row ∷ rows) rows) (cond p (row ∷ rows) rows) ≡ cond p (row ∷ cond q (other ∷ rows) rows) (cond q (other ∷ rows) rows)
  exchanged true true row other rows h = absurd (h refl refl)
  exchanged true false row other rows h = refl
  exchanged false true row other rows h = refl
  exchanged false false row other rows h = refl

  insert_stable : (x row : Line) (rows : List Line) → filter (ties (precedes keys) x) (insert_row keys row rows) ≡ filter (ties (precedes keys) x) (row ∷ rows)
  insert_stable x row [] = refl
  insert_stable x row (other ∷ rows) = by (is_le (compare_by keys row other)) refl (insert_stable x row rows)
    where
      by : (b : Bool) → is_le (compare_by keys row other) ≡ b
          → filter (ties (precedes keys) x) (insert_row keys row rows) ≡ filter (ties (precedes keys) x) (row ∷ rows)
          → filter (ties (precedes keys) x) (if b then row ∷ other ∷ rows else other ∷ insert_row keys row rows) ≡ filter (ties (precedes keys) x) (row ∷ other ∷ rows)
      by true e rest = refl
      by false e rest =
          ap (λ l. cond (ties (precedes keys) x other) (other ∷ l) l) rest
          ∙ exchanged (ties (precedes keys) x row) (ties (precedes keys) x other) row other (filter (ties (precedes keys) x) rows) (not_both x row other (goes row other false e))

  sort_stable : (x : Line) (rows : List Line) → filter (ties (precedes keys) x) (sort_rows keys rows) ≡ filter (ties (precedes keys) x) rows
  unfolding sort_rows
  sort_stable x [] = refl
  sort_stable x (row ∷ rows) =
      insert_stable x row (sort_rows keys rows)
      ∙ ap (λ l. cond (ties (precedes keys) x row) (row ∷ l) l) (sort_stable x rows)

  -- ---- the same

  pub sorted_is : (xs ys : List Line) → IsSortedBy (precedes keys) ys → IsStableBy (precedes keys) xs ys → ys ≡ sort_rows keys xs
  sorted_is xs ys up stable =
      only (precedes keys) (order keys) ys (sort_rows keys xs) (up_from (precedes keys) (order keys) ys up) (sort_up xs) (λ x. stable x ∙ sym (sort_stable x xs))

  -- ---- as many

  insert_length : (row : Line) (rows : List Line) → length (insert_row keys row rows) ≡ length (row ∷ rows)
  insert_length row [] = refl
  insert_length row (other ∷ rows) = by (is_le (compare_by keys row other)) (insert_length row rows)
    where
      by : (b : Bool) → length (insert_row keys row rows) ≡ length (row ∷ rows) → length (if b then row ∷ other ∷ rows else other ∷ insert_row keys row rows) ≡ length (row ∷ other ∷ rows)
      by true rest = refl
      by false rest = ap suc rest

  pub sort_length : (rows : List Line) → length (sort_rows keys rows) ≡ length rows
  unfolding sort_rows
  sort_length [] = refl
  sort_length (row ∷ rows) = insert_length row (sort_rows keys rows) ∙ ap suc (sort_length rows)
