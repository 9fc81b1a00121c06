-- The places of columns among others.
use Rattle.std.proofs.Common.{◌≡◌, ℕ, suc, ◌+◌, ◌<◌, ◌≤◌, Bool, true, false, cond, [], ◌∷◌, ◌++◌, length, Option, Some, None, refl, sym, ap, ◌∙◌, subst, arith, get_or-append-add}
use Rattle.std.specs.Prelude.{◌==◌}
use Rattle.std.specs.List.{position_from}
use Rattle.std.proofs.lemmas.Bool.Decides.{nat_tests}
use Rattle.std.proofs.lemmas.List.{get_or_append_left}
use Rattle.ic_row.specs.declared.value.Value.TheVariants.{Null}
use Rattle.pl_ops.specs.Rows.{Line as Row}
use Rattle.pl_tree.specs.Places.{place_of, both, places_of}
use Rattle.pl_tree.specs.Loci.{behind}
use Rattle.pl_parts.proofs.Forms.{Columns, IsKey, Below}
use Rattle.ic_row.specs.Values.{column, key_of}

place_from : (a n i : ℕ) (cols : Columns) (row rest : Row) → position_from (λ c. c == a) n cols ≡ Some i → (j : ℕ) × (i ≡ n + j) × (column (key_of cols row ++ rest) j ≡ column row a) × (j < length cols)
place_from a n i [] row rest h = absurd (cc)
place_from a n i (c ∷ cols) row rest h = by (c == a) refl (λ m. place_from a (n + 1) i cols row rest m)
  where
    by : (t : Bool) → (c == a) ≡ t → (position_from (λ d. d == a) (n + 1) cols ≡ Some i → (j : ℕ) × (i ≡ (n + 1) + j) × (column (key_of cols row ++ rest) j ≡ column row a) × (j < length cols)) → (j : ℕ) × (i ≡ n + j) × (column (key_of (c ∷ cols) row ++ rest) j ≡ column row a) × (j < length (c ∷ cols))
    by true e ih =
        let q : Some n ≡ Some i = sym (ap (λ t. cond t (Some n) (position_from (λ d. d == a) (n + 1) cols)) e) ∙ h in
        let same : n ≡ i = cc in
        let here : c ≡ a = grind (arith, nat_tests) in
        (0, omega arith, ap (column row) here, omega arith)
    by false e ih =
        let q : position_from (λ d. d == a) (n + 1) cols ≡ Some i = sym (ap (λ t. cond t (Some n) (position_from (λ d. d == a) (n + 1) cols)) e) ∙ h in
        let r = ih q in
        (suc r.0, omega (arith, r.1), r.2, omega (arith, r.3))

place_is : (a i : ℕ) (cols : Columns) (row rest : Row) → place_of a cols ≡ Some i → (column (key_of cols row ++ rest) i ≡ column row a) × (i < length cols)
place_is a i cols row rest h = let r = place_from a 0 i cols row rest h in let e : i ≡ r.0 = omega (arith, r.1) in (ap (column (key_of cols row ++ rest)) e ∙ r.2, omega (arith, r.3, e))

both_back : (o : Option ℕ) (os : Option Columns) (b : Columns) → both o os ≡ Some b → (i : ℕ) × (is : Columns) × (o ≡ Some i) × (os ≡ Some is) × (i ∷ is ≡ b)
both_back None os b h = absurd (cc)
both_back (Some i) None b h = absurd (cc)
both_back (Some i) (Some is) b h = (i, is, refl, refl, cc)

pub places_key : (a cols b : Columns) (row rest : Row) → places_of a cols ≡ Some b → key_of b (key_of cols row ++ rest) ≡ key_of a row
places_key [] cols b row rest h = let e : [] ≡ b = cc in subst (λ t. key_of t (key_of cols row ++ rest) ≡ []) e refl
places_key (x ∷ a) cols b row rest h =
    let r = both_back (place_of x cols) (places_of a cols) b h in
    subst (λ t. key_of t (key_of cols row ++ rest) ≡ key_of (x ∷ a) row) r.4
    (ap (λ v. v ∷ key_of r.1 (key_of cols row ++ rest)) (place_is x r.0 cols row rest r.2).0 ∙ ap (λ l. column row x ∷ l) (places_key a cols r.1 row rest r.3))

pub places_below : (a cols b : Columns) (n : ℕ) → length cols ≤ n → places_of a cols ≡ Some b → Below n b
places_below [] cols b n l h = let e : [] ≡ b = cc in subst (Below n) e tt
places_below (x ∷ a) cols b n l h =
    let r = both_back (place_of x cols) (places_of a cols) b h in
    let i = (place_is x r.0 cols [] [] r.2).1 in
    subst (Below n) r.4 (omega (arith, i), places_below a cols r.1 n l r.3)

pub places_is_key : (a cols b : Columns) → IsKey a → places_of a cols ≡ Some b → IsKey b
places_is_key [] cols b k h = absurd k
places_is_key (x ∷ a) cols b k h = let r = both_back (place_of x cols) (places_of a cols) b h in subst IsKey r.4 tt

-- no column has a place among none
pub places_of_none : (a b : Columns) → IsKey a → places_of a [] ≡ Some b → ⊥
places_of_none [] b k h = k
places_of_none (x ∷ a) b k h = absurd (cc)

-- the columns of a row that is joined from two
pub key_left : (a : Columns) (n : ℕ) (l r : Row) → length l ≡ n → Below n a → key_of a (l ++ r) ≡ key_of a l
key_left [] n l r e h = refl
key_left (x ∷ a) n l r e h = ap (λ v. v ∷ key_of a (l ++ r)) (get_or_append_left l r Null x (omega (arith, h.0))) ∙ ap (λ k. column l x ∷ k) (key_left a n l r e h.1)

pub key_right : (b : Columns) (n : ℕ) (l r : Row) → length l ≡ n → key_of (behind n b) (l ++ r) ≡ key_of b r
key_right [] n l r e = refl
key_right (x ∷ b) n l r e =
    ap (λ v. v ∷ key_of (behind n b) (l ++ r)) (ap (λ k. column (l ++ r) (k + x)) (sym e) ∙ get_or-append-add l r x Null)
    ∙ ap (λ k. column r x ∷ k) (key_right b n l r e)

pub shifted_below : (b : Columns) (n m : ℕ) → Below m b → Below (n + m) (behind n b)
shifted_below [] n m h = tt
shifted_below (x ∷ b) n m h = (omega (arith, h.0), shifted_below b n m h.1)

pub shifted_is_key : (b : Columns) (n : ℕ) → IsKey b → IsKey (behind n b)
shifted_is_key [] n h = h
shifted_is_key (x ∷ b) n h = tt

pub below_more : (a : Columns) (n m : ℕ) → Below n a → Below (n + m) a
below_more [] n m h = tt
below_more (x ∷ a) n m h = (omega (arith, h.0), below_more a n m h.1)
