-- Rows that each have one segment stand at the segments each once.
use Rattle.std.proofs.Common.{◌≡◌, ℕ, zero, suc, ◌+◌, ◌<◌, ◌≤◌, List, [], ◌∷◌, ◌++◌, cond, ◌==◌, refl, ap, sym, ◌∙◌, subst, arith, inl, inr}
use Rattle.std.specs.List.{range_with_len, flat_map}
use Rattle.std.specs.List.Sorted.{IsPermutation}
use Rattle.std.proofs.lemmas.Bool.Decides.{eqb_tells}
use Rattle.std.proofs.lemmas.List.Sorted.{IsPermutation-refl, IsPermutation-trans, IsPermutation-append_right, IsPermutation-cons, IsPermutation-middle, IsPermutation-sym}
use Rattle.tb_load.proofs.Choosing.{chosen-cons}
use Rattle.tb_load.proofs.Parts.{at_home}

-- the segments above a row's own have it not
none_has : {R : Type 0} (c : ℕ) (f g : ℕ → List R) (row : R) → ((s : ℕ) → f s ≡ cond (c == s) (row ∷ g s) (g s)) → (k m : ℕ) → c < k
    → flat_map f (range_with_len k m) ≡ flat_map g (range_with_len k m)
none_has c f g row is k zero lt = refl
none_has c f g row is k (suc m) lt =
    let here : f k ≡ g k = elim (eqb_tells c k) [
      | inl w ↦ absurd (omega (arith, lt, w.1))
      | inr w ↦ is k ∙ ap (λ b. cond b (row ∷ g k) (g k)) w.0
    ] in
    ap (λ l. l ++ flat_map f (range_with_len (k + 1) m)) here ∙ ap (λ l. g k ++ l) (none_has c f g row is (k + 1) m (omega (arith, lt)))

-- one segment has it
one_has : {R : Type 0} (c : ℕ) (f g : ℕ → List R) (row : R) → ((s : ℕ) → f s ≡ cond (c == s) (row ∷ g s) (g s)) → (k m : ℕ) → k ≤ c → c < k + m
    → IsPermutation (row ∷ flat_map g (range_with_len k m)) (flat_map f (range_with_len k m))
one_has c f g row is k zero le lt = absurd (omega (arith, le, lt))
one_has c f g row is k (suc m) le lt =
    let before = flat_map g (range_with_len (k + 1) m) in
    elim (eqb_tells c k) [
      | inl w ↦
          let same : flat_map f (range_with_len k (suc m)) ≡ row ∷ (g k ++ before) =
          ap (λ l. l ++ flat_map f (range_with_len (k + 1) m)) (is k ∙ ap (λ b. cond b (row ∷ g k) (g k)) w.0)
          ∙ ap (λ l. row ∷ (g k ++ l)) (none_has c f g row is (k + 1) m (omega (arith, w.1))) in
          subst (IsPermutation (row ∷ (g k ++ before))) (sym same) (IsPermutation-refl (row ∷ (g k ++ before)))
      | inr w ↦
          let here : f k ≡ g k = is k ∙ ap (λ b. cond b (row ∷ g k) (g k)) w.0 in
          let later = one_has c f g row is (k + 1) m (omega (arith, le, w.1)) (omega (arith, lt)) in
          subst (λ l. IsPermutation (row ∷ (g k ++ before)) (l ++ flat_map f (range_with_len (k + 1) m))) (sym here)
          (IsPermutation-trans _ _ _ (IsPermutation-sym _ _ (IsPermutation-middle (g k) row before)) (IsPermutation-append_right (g k) _ _ later))
    ]

none_of_none : {R : Type 0} (home : ℕ × R → ℕ) (i k m : ℕ) → flat_map (λ s. at_home home s i []) (range_with_len k m) ≡ []
none_of_none home i k zero = refl
none_of_none home i k (suc m) = none_of_none home i (k + 1) m

pub each_once : {R : Type 0} (home : ℕ × R → ℕ) (n : ℕ) → ((row : ℕ × R) → home row < n) → (i : ℕ) (rows : List R)
    → IsPermutation rows (flat_map (λ s. at_home home s i rows) (range_with_len 0 n))
each_once home n below i [] = subst (IsPermutation []) (sym (none_of_none home i 0 n)) (IsPermutation-refl [])
each_once home n below i (row ∷ rows) =
    let own : home (i, row) < n = below (i, row) in
    IsPermutation-trans _ _ _ (IsPermutation-cons row _ _ (each_once home n below (i + 1) rows))
    (one_has (home (i, row)) (λ s. at_home home s i (row ∷ rows)) (λ s. at_home home s (i + 1) rows) row (λ s. chosen-cons (λ x. home x == s) i row rows) 0 n (omega arith) (omega (arith, own)))
