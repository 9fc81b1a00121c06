-- Parts of rows that each have one segment, and a row put behind those of its segment.
use Rattle.std.proofs.Common.{◌≡◌, ◌≢◌, ℕ, zero, suc, ◌+◌, ◌<◌, List, [], ◌∷◌, ◌++◌, length, map, cond, ◌==◌, refl, ap, sym, ◌∙◌, subst, arith, inl, inr, set, get_or, replicate, append-nil}
use Rattle.std.specs.List.{range_with_len}
use Rattle.std.proofs.lemmas.Bool.Decides.{eqb_tells}
use Rattle.std.proofs.lemmas.List.{length-set, get_or-set_same, get_or-set_other}
use Rattle.std.proofs.lemmas.List.FromFn.{length-map-range_with_len, get_or-map-range_with_len, fill_by_all}
use Rattle.tb_load.proofs.Choosing.{chosen, chosen-push}

-- the rows whose segment is this one, where the first has this number
abbrev pub at_home : {R : Type 0} → (ℕ × R → ℕ) → ℕ → ℕ → List R → List R
at_home home segment i rows = chosen (λ row. home row == segment) i rows

abbrev pub parts_by : {R : Type 0} → (ℕ × R → ℕ) → ℕ → List R → List (List R)
parts_by home n rows = map (λ segment. at_home home segment 0 rows) (range_with_len 0 n)

push_home : {R : Type 0} (home : ℕ × R → ℕ) (s : ℕ) (rows : List R) (row : R)
    → at_home home s 0 (rows ++ row ∷ []) ≡ at_home home s 0 rows ++ cond (home (length rows, row) == s) (row ∷ []) []
push_home home s rows row =
    let number : 0 + length rows ≡ length rows = omega arith in
    chosen-push (λ x. home x == s) 0 rows row ∙ ap (λ k. at_home home s 0 rows ++ cond (home (k, row) == s) (row ∷ []) []) number

pub parts_of_one_more : {R : Type 0} (home : ℕ × R → ℕ) (n s : ℕ) (rows : List R) (row : R) → s ≡ home (length rows, row) → s < n
    → set (parts_by home n rows) s (get_or (parts_by home n rows) s [] ++ row ∷ []) ≡ parts_by home n (rows ++ row ∷ [])
parts_of_one_more home n s rows row is lt =
    let before = parts_by home n rows in
    let part = get_or before s [] ++ row ∷ [] in
    let long : length before ≡ n = length-map-range_with_len (λ segment. at_home home segment 0 rows) 0 n in
    let known : (k : ℕ) → k < n → get_or before k [] ≡ at_home home k 0 rows =
    λ k below. get_or-map-range_with_len (λ segment. at_home home segment 0 rows) 0 n k k [] below (omega arith) in
    let each : (k : ℕ) → k < n → get_or (set before s part) k [] ≡ at_home home k 0 (rows ++ row ∷ []) =
    λ k below. elim (eqb_tells (home (length rows, row)) k) [
      | inl w ↦
          let same : s ≡ k = is ∙ w.1 in
          let here : get_or (set before s part) s [] ≡ part = get_or-set_same before s part [] (omega (arith, lt, long)) in
          subst (λ j. get_or (set before s part) j [] ≡ part) same here
          ∙ ap (λ j. get_or before j [] ++ row ∷ []) same
          ∙ ap (λ l. l ++ row ∷ []) (known k below)
          ∙ sym (push_home home k rows row ∙ ap (λ b. at_home home k 0 rows ++ cond b (row ∷ []) []) w.0)
      | inr w ↦
          let other : k ≢ s = λ e. w.1 (sym (e ∙ is)) in
          get_or-set_other before s k part [] other
          ∙ known k below
          ∙ sym (push_home home k rows row ∙ ap (λ b. at_home home k 0 rows ++ cond b (row ∷ []) []) w.0 ∙ append-nil (at_home home k 0 rows))
    ] in
    fill_by_all (λ segment. at_home home segment 0 (rows ++ row ∷ [])) (set before s part) n [] (length-set before s part ∙ long) each

none_from : {R : Type 0} (home : ℕ × R → ℕ) (a n : ℕ) → replicate n [] ≡ map (λ segment. at_home home segment 0 []) (range_with_len a n)
none_from home a zero = refl
none_from home a (suc n) = ap (λ l. [] ∷ l) (none_from home (a + 1) n)

pub parts_of_none : {R : Type 0} (home : ℕ × R → ℕ) (n : ℕ) → replicate n [] ≡ parts_by home n []
parts_of_none home n = none_from home 0 n
