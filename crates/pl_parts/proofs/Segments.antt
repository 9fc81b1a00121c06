-- One row goes to one segment.
use Rattle.std.proofs.Common.{◌≡◌, ℕ, zero, suc, ◌<◌, ◌≤◌, Bool, true, false, cond, List, [], ◌∷◌, ◌++◌, refl, ap, ◌∙◌, arith, append-nil, inl, inr}
use Rattle.std.specs.Prelude.{filter, flat_map, ◌==◌, ◌⊎◌}
use Rattle.std.specs.List.{AllByRecursion}
use Rattle.std.proofs.lemmas.Bool.{cases_eq}
use Rattle.std.proofs.lemmas.Bool.Decides.{nat_tests}
use Rattle.pl_ops.specs.Rows.{Line as Row}
use Rattle.pl_parts.proofs.Forms.{upto}
use Rattle.pl_parts.proofs.Bags.{Perm, ptrans, alike, flat_all, flat_turned, flat_same, filter_flat}
use Rattle.pl_parts.proofs.Members.{NoTwice, All-in}

eqb_no : (a s : ℕ) → (s ≡ a → ⊥) → (a == s) ≡ false
eqb_no a s h = grind (arith, nat_tests)

eqb_yes : (a : ℕ) → (a == a) ≡ true
eqb_yes a = grind (arith, nat_tests)

pub eqb_is : (a s : ℕ) → (a == s) ≡ true → a ≡ s
eqb_is a s h = grind (arith, nat_tests)

pub upto_below : (n : ℕ) → AllByRecursion (λ s. s < n) (upto n)
upto_below n = up_to n n (omega arith)
  where
    up_to : (m k : ℕ) → k ≤ m → AllByRecursion (λ s. s < m) (upto k)
    up_to m zero h = tt
    up_to m (suc k) h = (omega arith, up_to m k (omega arith))

module _ {X : Type 0} where
  pub no_hit : (f : ℕ → List X) (n k : ℕ) → n ≤ k → ((s : ℕ) → (s ≡ k → ⊥) → f s ≡ []) → flat_map f (upto n) ≡ []
  no_hit f zero k h e = refl
  no_hit f (suc n) k h e = ap (λ l. l ++ flat_map f (upto n)) (e n (λ q. omega arith)) ∙ no_hit f n k (omega arith) e

  -- all pieces but one are empty
  pub one_hit : (f : ℕ → List X) (n k : ℕ) → k < n → ((s : ℕ) → (s ≡ k → ⊥) → f s ≡ []) → flat_map f (upto n) ≡ f k
  one_hit f zero k h e = absurd (omega arith)
  one_hit f (suc n) k h e = cases (one_hit f n k) (cases_eq n k)
    where
      cases : (k < n → ((s : ℕ) → (s ≡ k → ⊥) → f s ≡ []) → flat_map f (upto n) ≡ f k) → (n ≡ k) ⊎ (n ≡ k → ⊥) → f n ++ flat_map f (upto n) ≡ f k
      cases ih (inl q) = ap (λ l. f n ++ l) (no_hit f n k (omega arith) e) ∙ append-nil (f n) ∙ ap f q
      cases ih (inr q) = ap (λ l. l ++ flat_map f (upto n)) (e n q) ∙ ih (omega arith) e

  only : (x : X) (a s : ℕ) → (s ≡ a → ⊥) → cond (a == s) (x ∷ []) [] ≡ []
  only x a s h = ap (λ (b : Bool). cond b (x ∷ []) []) (eqb_no a s h)

  here : (x : X) (a : ℕ) → cond (a == a) (x ∷ []) [] ≡ x ∷ []
  here x a = ap (λ b. cond b (x ∷ []) []) (eqb_yes a)

  pub once : (x : X) (n a : ℕ) → a < n → flat_map (λ s. cond (a == s) (x ∷ []) []) (upto n) ≡ x ∷ []
  once x n a h = one_hit (λ s. cond (a == s) (x ∷ []) []) n a h (λ s q. only x a s q) ∙ here x a

  pub singles : (xs : List X) → flat_map (λ x. x ∷ []) xs ≡ xs
  singles [] = refl
  singles (x ∷ xs) = ap (λ l. x ∷ l) (singles xs)

  -- the rows of all segments together are the rows
  pub parted : (f : X → ℕ) (n : ℕ) (xs : List X) → AllByRecursion (λ x. f x < n) xs → Perm (flat_map (λ s. filter (λ x. f x == s) xs) (upto n)) xs
  parted f n xs h =
      ptrans (flat_all (λ s. filter (λ x. f x == s) xs) (λ s. flat_map (λ x. cond (f x == s) (x ∷ []) []) xs) (λ s. alike (filter_flat (λ x. f x == s) xs)) (upto n))
      (ptrans (flat_turned (λ s x. cond (f x == s) (x ∷ []) []) (upto n) xs)
      (alike (flat_same (λ x. f x < n) (λ x. flat_map (λ s. cond (f x == s) (x ∷ []) []) (upto n)) (λ x. x ∷ []) (λ x q. once x n (f x) q) xs h ∙ singles xs)))

step : (row : Row) (us : List Row) (b : Bool) → cond b (row ∷ us) us ≡ cond b (row ∷ []) [] ++ us
step row us true = refl
step row us false = refl

pub NoTwice-upto : (n : ℕ) → NoTwice (upto n)
NoTwice-upto zero = tt
NoTwice-upto (suc n) = ((λ i. let h : n < n = All-in (λ s. s < n) n (upto n) (upto_below n) i in absurd (omega arith)), NoTwice-upto n)
