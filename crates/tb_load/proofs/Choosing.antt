-- Rows chosen by a test of their number and themselves.
use Rattle.std.proofs.Common.{◌≡◌, ℕ, ◌+◌, List, [], ◌∷◌, ◌++◌, length, map, Bool, true, false, cond, refl, ap, sym, ◌∙◌, subst, arith}
use Rattle.std.specs.List.{AllByRecursion, filter, enumerate_from}

-- the rows that pass the test, where the first has this number
abbrev pub chosen : {R : Type 0} → (ℕ × R → Bool) → ℕ → List R → List R
chosen p i rows = map (λ row. row.1) (filter p (enumerate_from i rows))

pub chosen-cons : {R : Type 0} (p : ℕ × R → Bool) (i : ℕ) (row : R) (rows : List R)
    → chosen p i (row ∷ rows) ≡ cond (p (i, row)) (row ∷ chosen p (i + 1) rows) (chosen p (i + 1) rows)
chosen-cons {R = R} p i row rows = at (p (i, row)) row (filter p (enumerate_from (i + 1) rows))
  where
    at : (b : Bool) (row : R) (more : List (ℕ × R))
        → map (λ (x : ℕ × R). x.1) (cond b ((i, row) ∷ more) more) ≡ cond b (row ∷ map (λ (x : ℕ × R). x.1) more) (map (λ (x : ℕ × R). x.1) more)
    at true row more = refl
    at false row more = refl

-- one row more, at the end
pub chosen-push : {R : Type 0} (p : ℕ × R → Bool) (i : ℕ) (rows : List R) (row : R)
    → chosen p i (rows ++ row ∷ []) ≡ chosen p i rows ++ cond (p (i + length rows, row)) (row ∷ []) []
chosen-push p i [] row = chosen-cons p i row [] ∙ ap (λ k. cond (p (k, row)) (row ∷ []) []) (omega arith)
chosen-push {R = R} p i (first ∷ rows) row =
    let later : chosen p (i + 1) (rows ++ row ∷ []) ≡ chosen p (i + 1) rows ++ cond (p (i + length (first ∷ rows), row)) (row ∷ []) [] =
    chosen-push p (i + 1) rows row ∙ ap (λ k. chosen p (i + 1) rows ++ cond (p (k, row)) (row ∷ []) []) (omega arith) in
    chosen-cons p i first (rows ++ row ∷ [])
    ∙ at (p (i, first)) first _ _ _ later
    ∙ ap (λ l. l ++ cond (p (i + length (first ∷ rows), row)) (row ∷ []) []) (sym (chosen-cons p i first rows))
  where
    at : (b : Bool) (first : R) (xs ys zs : List R) → xs ≡ ys ++ zs → cond b (first ∷ xs) xs ≡ cond b (first ∷ ys) ys ++ zs
    at true first xs ys zs e = ap (λ l. first ∷ l) e
    at false first xs ys zs e = e

pub chosen-every : {R : Type 0} (i : ℕ) (rows : List R) → chosen (λ _. true) i rows ≡ rows
chosen-every i [] = refl
chosen-every i (row ∷ rows) = ap (λ l. row ∷ l) (chosen-every (i + 1) rows)

-- what holds of each row holds of the chosen ones
pub chosen-all : {R : Type 0} (P : R → Type 0) (p : ℕ × R → Bool) (i : ℕ) (rows : List R) → AllByRecursion P rows → AllByRecursion P (chosen p i rows)
chosen-all P p i [] all = tt
chosen-all {R = R} P p i (row ∷ rows) all =
    subst (AllByRecursion P) (sym (chosen-cons p i row rows)) (at (p (i, row)) row _ all.0 (chosen-all P p (i + 1) rows all.1))
  where
    at : (b : Bool) (row : R) (xs : List R) → P row → AllByRecursion P xs → AllByRecursion P (cond b (row ∷ xs) xs)
    at true row xs x all = (x, all)
    at false row xs x all = all

-- what the test tells of a row holds of the chosen ones
pub chosen-pass : {R : Type 0} (P : R → Type 0) (p : ℕ × R → Bool) (tells : (i : ℕ) (row : R) → p (i, row) ≡ true → P row) (i : ℕ) (rows : List R)
    → AllByRecursion P (chosen p i rows)
chosen-pass P p tells i [] = tt
chosen-pass {R = R} P p tells i (row ∷ rows) =
    subst (AllByRecursion P) (sym (chosen-cons p i row rows)) (at (p (i, row)) row _ (tells i row) (chosen-pass P p tells (i + 1) rows))
  where
    at : (b : Bool) (row : R) (xs : List R) → (b ≡ true → P row) → AllByRecursion P xs → AllByRecursion P (cond b (row ∷ xs) xs)
    at true row xs x all = (x refl, all)
    at false row xs x all = all
