-- `before` is the strict part of a total preorder, and lists in order stay so.
use Rattle.std.proofs.Common.{◌≡◌, ℕ, suc, ◌+◌, ◌<◌, Bool, true, false, cond, List, [], ◌∷◌, ◌++◌, map, length, Option, Some, None, refl, sym, ap, ◌∙◌, subst, inl, inr, arith}
use Rattle.std.specs.Prelude.{filter, zero, get_or}
use Rattle.std.specs.List.{AllByRecursion, position_from}
use Rattle.std.specs.declared.cmp.Ordering.{Ordering}
use Rattle.std.specs.declared.cmp.Ordering.TheVariants.{Less, Equal, Greater}
use Rattle.std.specs.Ordering.{is_lt, is_gt, ordering_then, ordering_reverse}
use Rattle.std.proofs.lemmas.Cmp.{upto, tied_itself}
use Rattle.std.proofs.lemmas.Bool.Decides.{nat_tests}
use Rattle.std.specs.Prelude.{◌==◌}
use Rattle.ic_row.specs.declared.order.Key.{Key}
use Rattle.ic_row.specs.Values.{column, key_of}
use Rattle.ic_row.specs.Order.{column_cmp, key_cmp, compare_by, IsSortedBy}
use Rattle.ic_row.proofs.TotalLemmas.{compare_by_total}
use Rattle.pl_tree.specs.Places.{place_of}
use Rattle.pl_tree.specs.Orders.{key_at, unless_dropped, kept_order}
use Rattle.pl_ops.specs.Rows.{Line as Row, project_rows}
use Rattle.pl_ops.specs.Merging.{sorts_before}
use Rattle.pl_answers.proofs.InOrder.{InOrder}
use Rattle.pl_parts.proofs.Members.{In, All-in, All-from_in, In-left, In-right}

-- ---- the preorder

pub irrefl : (keys : List Key) (a : Row) → sorts_before keys a a ≡ false
unfolding sorts_before
irrefl keys a = ap is_lt (tied_itself (compare_by_total keys) a)

less_apart : (o p : Ordering) → o ≡ ordering_reverse p → is_lt o ≡ true → is_lt p ≡ false
less_apart o Less h e = absurd (let q = ap is_lt h in cc)
less_apart o Equal h e = refl
less_apart o Greater h e = refl

pub apart : (keys : List Key) (a b : Row) → sorts_before keys a b ≡ true → sorts_before keys b a ≡ false
unfolding sorts_before
apart keys a b h = less_apart (compare_by keys a b) (compare_by keys b a) ((compare_by_total keys).antisymm a b) h

turned_not : (o p : Ordering) → o ≡ ordering_reverse p → is_lt o ≡ false → is_gt p ≡ false
turned_not o Less h e = refl
turned_not o Equal h e = refl
turned_not o Greater h e = absurd (let q = ap is_lt h in cc)

turned_back : (o p : Ordering) → o ≡ ordering_reverse p → is_gt p ≡ false → is_lt o ≡ false
turned_back o Less h e = ap is_lt h
turned_back o Equal h e = ap is_lt h
turned_back o Greater h e = absurd (cc)

pub trans : (keys : List Key) (a b c : Row) → sorts_before keys a b ≡ false → sorts_before keys b c ≡ false → sorts_before keys a c ≡ false
unfolding sorts_before
trans keys a b c h k =
    let t = compare_by_total keys in
    turned_back (compare_by keys a c) (compare_by keys c a) (t.antisymm a c)
    (upto t c b a (turned_not (compare_by keys b c) (compare_by keys c b) (t.antisymm b c) k) (turned_not (compare_by keys a b) (compare_by keys b a) (t.antisymm a b) h))

pub none_before : (a b : Row) → sorts_before [] a b ≡ false
unfolding sorts_before compare_by
none_before a b = refl

-- ---- fewer keys

then_first : (o p q : Ordering) → (is_lt p ≡ false → is_lt q ≡ false) → is_lt (ordering_then o p) ≡ false → is_lt (ordering_then o q) ≡ false
then_first Less p q f h = h
then_first Equal p q f h = f h
then_first Greater p q f h = refl

pub fewer_keys : (keys rest : List Key) (a b : Row) → sorts_before (keys ++ rest) a b ≡ false → sorts_before keys a b ≡ false
unfolding sorts_before compare_by
fewer_keys [] rest a b h = refl
fewer_keys (key ∷ keys) rest a b h = then_first (key_cmp key a b) (compare_by (keys ++ rest) a b) (compare_by keys a b) (fewer_keys keys rest a b) h

-- the column at the place of a column
place_from : (c n i : ℕ) (cols : List ℕ) (row : Row) → position_from (λ d. d == c) n cols ≡ Some i → (j : ℕ) × (i ≡ n + j) × (column (key_of cols row) j ≡ column row c)
place_from c n i [] row h = absurd (cc)
place_from c n i (d ∷ cols) row h = by (d == c) refl (λ m. place_from c (n + 1) i cols row m)
  where
    by : (t : Bool) → (d == c) ≡ t → (position_from (λ d. d == c) (n + 1) cols ≡ Some i → (j : ℕ) × (i ≡ (n + 1) + j) × (column (key_of cols row) j ≡ column row c)) → (j : ℕ) × (i ≡ n + j) × (column (key_of (d ∷ cols) row) j ≡ column row c)
    by true e ih =
        let q : Some n ≡ Some i = sym (ap (λ t. cond t (Some n) (position_from (λ d. d == c) (n + 1) cols)) e) ∙ h in
        let same : n ≡ i = cc in
        let here : d ≡ c = grind (arith, nat_tests) in
        (0, omega arith, ap (column row) here)
    by false e ih =
        let q : position_from (λ d. d == c) (n + 1) cols ≡ Some i = sym (ap (λ t. cond t (Some n) (position_from (λ d. d == c) (n + 1) cols)) e) ∙ h in
        let r = ih q in
        (suc r.0, omega (arith, r.1), r.2)

place_key : (i c : ℕ) (cols : List ℕ) (row : Row) → place_of c cols ≡ Some i → column (key_of cols row) i ≡ column row c
place_key i c cols row h = let r = place_from c 0 i cols row h in let e : i ≡ r.0 = omega (arith, r.1) in ap (column (key_of cols row)) e ∙ r.2

-- of projected rows the order by the keys that are kept
pub kept_keys : (cols : List ℕ) (keys : List Key) (a b : Row) → sorts_before keys a b ≡ false → sorts_before (kept_order cols keys) (key_of cols a) (key_of cols b) ≡ false
unfolding sorts_before compare_by
kept_keys cols [] a b h = refl
kept_keys cols (key ∷ keys) a b h = by (place_of key.column cols) refl (kept_keys cols keys a b)
  where
    by : (o : Option ℕ) → place_of key.column cols ≡ o → (is_lt (compare_by keys a b) ≡ false → is_lt (compare_by (kept_order cols keys) (key_of cols a) (key_of cols b)) ≡ false) → is_lt (compare_by (unless_dropped o key.down (kept_order cols keys)) (key_of cols a) (key_of cols b)) ≡ false
    by None e ih = refl
    by (Some i) e ih =
        let same : key_cmp (key_at key.down i) (key_of cols a) (key_of cols b) ≡ key_cmp key a b =
        ap (λ v. column_cmp key.down v (column (key_of cols b) i)) (place_key i key.column cols a e) ∙ ap (λ v. column_cmp key.down (column a key.column) v) (place_key i key.column cols b e) in
        subst (λ o. is_lt (ordering_then o (compare_by (kept_order cols keys) (key_of cols a) (key_of cols b))) ≡ false) (sym same)
        (then_first (key_cmp key a b) (compare_by keys a b) (compare_by (kept_order cols keys) (key_of cols a) (key_of cols b)) ih h)

-- ---- lists in order

module _ (B : Row → Row → Bool) where
  pub order_alone : (xs ys : List Row) → InOrder B (xs ++ ys) → InOrder B xs
  order_alone [] ys h = tt
  order_alone (x ∷ xs) ys h = (All-from_in (λ y. B y x ≡ false) xs (λ y i. All-in (λ z. B z x ≡ false) y (xs ++ ys) h.0 (In-left y xs ys i)), order_alone xs ys h.1)

  pub order_apart : (xs ys : List Row) → InOrder B (xs ++ ys) → (y x : Row) → In y ys → In x xs → B y x ≡ false
  order_apart [] ys h y x i j = absurd j
  order_apart (z ∷ xs) ys h y x i (inl e) = subst (λ w. B y w ≡ false) (sym e) (All-in (λ w. B w z ≡ false) y (xs ++ ys) h.0 (In-right y xs ys i))
  order_apart (z ∷ xs) ys h y x i (inr j) = order_apart xs ys h.1 y x i j

  pub order_none : ((a b : Row) → B a b ≡ false) → (xs : List Row) → InOrder B xs
  order_none h [] = tt
  order_none h (x ∷ xs) = (All-from_in (λ y. B y x ≡ false) xs (λ y i. h y x), order_none h xs)

  filter_low : (test : Row → Bool) (x : Row) (zs : List Row) → AllByRecursion (λ y. B y x ≡ false) zs → AllByRecursion (λ y. B y x ≡ false) (filter test zs)
  filter_low test x [] a = tt
  filter_low test x (z ∷ zs) a = each (test z) (filter_low test x zs a.1)
    where
      each : (b : Bool) → AllByRecursion (λ y. B y x ≡ false) (filter test zs) → AllByRecursion (λ y. B y x ≡ false) (cond b (z ∷ filter test zs) (filter test zs))
      each true r = (a.0, r)
      each false r = r

  pub order_filter : (test : Row → Bool) (xs : List Row) → InOrder B xs → InOrder B (filter test xs)
  order_filter test [] h = tt
  order_filter test (x ∷ xs) h = by (test x) (order_filter test xs h.1)
    where
      by : (b : Bool) → InOrder B (filter test xs) → InOrder B (cond b (x ∷ filter test xs) (filter test xs))
      by true r = (filter_low test x xs h.0, r)
      by false r = r

module _ (B C : Row → Row → Bool) where
  pub order_weaker : ((a b : Row) → B a b ≡ false → C a b ≡ false) → (xs : List Row) → InOrder B xs → InOrder C xs
  order_weaker f [] h = tt
  order_weaker f (x ∷ xs) h = (All-from_in (λ y. C y x ≡ false) xs (λ y i. f y x (All-in (λ z. B z x ≡ false) y xs h.0 i)), order_weaker f xs h.1)

  pub order_map : (f : Row → Row) → ((a b : Row) → B a b ≡ false → C (f a) (f b) ≡ false) → (xs : List Row) → InOrder B xs → InOrder C (map f xs)
  order_map f g [] h = tt
  order_map f g (x ∷ xs) h = (low xs h.0, order_map f g xs h.1)
    where
      low : (zs : List Row) → AllByRecursion (λ y. B y x ≡ false) zs → AllByRecursion (λ y. C y (f x) ≡ false) (map f zs)
      low [] a = tt
      low (z ∷ zs) a = (g z x a.0, low zs a.1)

pub project_map : (cols : List ℕ) (xs : List Row) → project_rows cols xs ≡ map (key_of cols) xs
unfolding project_rows
project_map cols xs = refl

pub order_project : (cols : List ℕ) (keys : List Key) (xs : List Row) → InOrder (sorts_before keys) xs → InOrder (sorts_before (kept_order cols keys)) (project_rows cols xs)
order_project cols keys xs h = subst (InOrder (sorts_before (kept_order cols keys))) (sym (project_map cols xs)) (order_map (sorts_before keys) (sorts_before (kept_order cols keys)) (key_of cols) (kept_keys cols keys) xs h)

-- ---- the library's word for order, which asks of neighbours alone

neighbours : (keys : List Key) (xs : List Row) → InOrder (sorts_before keys) xs → (k : ℕ) (d : Row) → suc k < length xs → sorts_before keys (get_or xs (suc k) d) (get_or xs k d) ≡ false
neighbours keys [] h k d l = absurd (omega arith)
neighbours keys (x ∷ []) h k d l = absurd (omega arith)
neighbours keys (x ∷ y ∷ xs) h zero d l = h.0.0
neighbours keys (x ∷ y ∷ xs) h (suc k) d l = neighbours keys (y ∷ xs) h.1 k d (omega arith)

pub is_sorted : (keys : List Key) (xs : List Row) → InOrder (sorts_before keys) xs → IsSortedBy keys xs
unfolding sorts_before
is_sorted keys xs h = λ k d z l. let e : suc k ≡ k + 1 = omega arith in subst (λ j. is_lt (compare_by keys (get_or xs j d) (get_or xs k d)) ≡ false) e (neighbours keys xs h k d (omega arith))
