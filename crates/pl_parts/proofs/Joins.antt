-- Joins of bags, and of parts.
use Rattle.std.proofs.Common.{◌≡◌, ℕ, zero, suc, ◌<◌, Bool, true, false, not, List, [], ◌∷◌, ◌++◌, length, get_or, refl, sym, ap, ◌∙◌, subst, inl, inr, arith}
use Rattle.std.specs.Prelude.{◌&&◌, flat_map}
use Rattle.ic_row.specs.declared.value.Value.{Value}
use Rattle.pl_ops.specs.Rows.{Line as Row, same_value}
use Rattle.pl_parts.proofs.Forms.{Columns, kept, pairs_match, joined, join_rows, PairsStand, upto}
use Rattle.pl_tree.specs.declared.node.Pair.{Pair}
use Rattle.ic_row.specs.Values.{column, key_of, is_null}
use Rattle.pl_parts.proofs.Bags.{Perm, ptrans, itself, alike, flat, flat_all, flat_each, flat_same, flat_flat, flat_turned}
use Rattle.pl_parts.proofs.Members.{In, In-from_flat, All-from_in}
use Rattle.pl_parts.proofs.Segments.{one_hit, upto_below}
use Rattle.pl_parts.proofs.Grouping.{same_value_is}
use Rattle.pl_parts.proofs.Numbers.{both_true}

pub join_perm : (on : List Pair) {l l' r r' : List Row} → Perm l l' → Perm r r' → Perm (join_rows on r l) (join_rows on r' l')
unfolding join_rows
join_perm on {l} {l'} {r} {r'} p q =
    ptrans (flat (λ x. flat_map (joined on x) r) p) (flat_all (λ x. flat_map (joined on x) r) (λ x. flat_map (joined on x) r') (λ x. flat (joined on x) q) l')

pair_equal : (p : Pair) (on : List Pair) (l r : Row) → pairs_match (p ∷ on) l r ≡ true → (column l p.left ≡ column r p.right) × (pairs_match on l r ≡ true)
unfolding pairs_match
pair_equal p on l r h =
    let a = both_true (not (is_null (column l p.left)) && same_value (column l p.left) (column r p.right)) (pairs_match on l r) h in
    let b = both_true (not (is_null (column l p.left))) (same_value (column l p.left) (column r p.right)) a.0 in
    (same_value_is (column l p.left) (column r p.right) b.1, a.1)

stands_at : (on : List Pair) (p : Pair) (l r : Row) (k : ℕ) → k < length on → get_or on k p ≡ p → pairs_match on l r ≡ true → column l p.left ≡ column r p.right
stands_at [] p l r k i e h = absurd (omega arith)
stands_at (q ∷ on) p l r zero i e h = subst (λ (t : Pair). column l t.left ≡ column r t.right) e (pair_equal q on l r h).0
stands_at (q ∷ on) p l r (suc k) i e h = stands_at on p l r k (omega arith) e (pair_equal q on l r h).1

-- where each pair of columns stands in `on`, matching rows have one key
pub keys_equal : (on : List Pair) (a b : Columns) (l r : Row) → PairsStand on a b → pairs_match on l r ≡ true → key_of a l ≡ key_of b r
keys_equal on [] [] l r s h = refl
keys_equal on [] (b ∷ bs) l r s h = absurd s
keys_equal on (a ∷ more) [] l r s h = absurd s
keys_equal on (a ∷ more) (b ∷ bs) l r s h =
    ap (λ v. v ∷ key_of more l) (stands_at on (record { left = a; right = b }) l r s.0.0 s.0.1 s.0.2 h)
    ∙ ap (λ k. column r b ∷ k) (keys_equal on more bs l r s.1 h)

no_pair : (on : List Pair) (l r : Row) → (pairs_match on l r ≡ true → ⊥) → joined on l r ≡ []
no_pair on l r h = by (pairs_match on l r) h
  where
    by : (b : Bool) → (b ≡ true → ⊥) → kept b (l ++ r) ≡ []
    by true n = absurd (n refl)
    by false n = refl

pub no_pairs : (on : List Pair) (l : Row) (rs : List Row) → ((r : Row) → In r rs → pairs_match on l r ≡ true → ⊥) → flat_map (joined on l) rs ≡ []
no_pairs on l [] h = refl
no_pairs on l (r ∷ rs) h = ap (λ x. x ++ flat_map (joined on l) rs) (no_pair on l r (h r (inl refl))) ∙ no_pairs on l rs (λ x i. h x (inr i))

-- a row of a join
pub In-from_join : (on : List Pair) (row : Row) (r l : List Row) → In row (join_rows on r l) → (x : Row) × (y : Row) × (In x l) × (In y r) × (pairs_match on x y ≡ true) × (row ≡ x ++ y)
unfolding join_rows
In-from_join on row r l i =
    let a = In-from_flat (λ x. flat_map (joined on x) r) row l i in
    let b = In-from_flat (joined on a.0) row r a.2 in
    let c = by a.0 b.0 (pairs_match on a.0 b.0) b.2 in
    (a.0, b.0, a.1, b.1, c.0, c.1)
  where
    by : (x y : Row) (t : Bool) → In row (kept t (x ++ y)) → (t ≡ true) × (row ≡ x ++ y)
    by x y true (inl e) = (refl, e)
    by x y true (inr h) = absurd h
    by x y false h = absurd h

module _ (on : List Pair) (n : ℕ) (L R : ℕ → List Row) where
  -- a left side in parts
  left_parts : (rs : List Row) → join_rows on rs (flat_map L (upto n)) ≡ flat_map (λ s. join_rows on rs (L s)) (upto n)
  unfolding join_rows
  left_parts rs = flat_flat L (λ x. flat_map (joined on x) rs) (upto n)

  -- both sides by the same keys
  pub join_hashed : (seg : List Value → ℕ) → ((k : List Value) → seg k < n) → (a b : Columns) → PairsStand on a b → ((s : ℕ) (row : Row) → In row (L s) → seg (key_of a row) ≡ s) → ((s : ℕ) (row : Row) → In row (R s) → seg (key_of b row) ≡ s) → Perm (flat_map (λ s. join_rows on (R s) (L s)) (upto n)) (join_rows on (flat_map R (upto n)) (flat_map L (upto n)))
  unfolding join_rows
  join_hashed seg below a b stands at_l at_r =
      ptrans (flat_all (λ s. flat_map (λ x. flat_map (joined on x) (R s)) (L s)) (λ s. flat_map (λ x. flat_map (joined on x) (flat_map R (upto n))) (L s))
      (λ s. alike (flat_same (λ x. seg (key_of a x) ≡ s) (λ x. flat_map (joined on x) (R s)) (λ x. flat_map (joined on x) (flat_map R (upto n))) (λ x e. sym (whole s x e)) (L s) (All-from_in (λ x. seg (key_of a x) ≡ s) (L s) (at_l s)))) (upto n))
      (alike (sym (left_parts (flat_map R (upto n)))))
    where
      whole : (s : ℕ) (x : Row) → seg (key_of a x) ≡ s → flat_map (joined on x) (flat_map R (upto n)) ≡ flat_map (joined on x) (R s)
      whole s x e = flat_flat R (joined on x) (upto n) ∙ one_hit (λ t. flat_map (joined on x) (R t)) n s (subst (λ k. k < n) e (below (key_of a x))) (λ t apart. no_pairs on x (R t) (λ r i m. apart (sym (at_r t r i) ∙ ap seg (sym (keys_equal on a b x r stands m)) ∙ e)))

  -- the right side everywhere
  pub join_right : (m : List Row) → ((s : ℕ) → s < n → Perm (R s) m) → Perm (flat_map (λ s. join_rows on (R s) (L s)) (upto n)) (join_rows on m (flat_map L (upto n)))
  join_right m h = ptrans (flat_each (λ s. s < n) (λ s. join_rows on (R s) (L s)) (λ s. join_rows on m (L s)) (λ s i. join_perm on (itself (L s)) (h s i)) (upto n) (upto_below n)) (alike (sym (left_parts m)))

  -- the left side everywhere
  pub join_left : (m : List Row) → ((s : ℕ) → s < n → Perm (L s) m) → Perm (flat_map (λ s. join_rows on (R s) (L s)) (upto n)) (join_rows on (flat_map R (upto n)) m)
  unfolding join_rows
  join_left m h =
      ptrans (flat_each (λ s. s < n) (λ s. join_rows on (R s) (L s)) (λ s. join_rows on (R s) m) (λ s i. join_perm on (h s i) (itself (R s))) (upto n) (upto_below n))
      (ptrans (flat_turned (λ s x. flat_map (joined on x) (R s)) (upto n) m)
      (flat_all (λ x. flat_map (λ s. flat_map (joined on x) (R s)) (upto n)) (λ x. flat_map (joined on x) (flat_map R (upto n))) (λ x. alike (sym (flat_flat R (joined on x) (upto n)))) m))
