-- The first n rows of a merge need no more than n of each sender.
use Rattle.std.proofs.Common.{◌≡◌, ℕ, zero, suc, ◌≤◌, Bool, true, false, cond, List, [], ◌∷◌, take, refl, sym, ap, ◌∙◌, subst, arith}
use Rattle.pl_ops.specs.Rows.{Line as Row}
use Rattle.pl_ops.specs.Merging.{Pick, Nothing, Taken, picked, passed, least, followed, merged}

-- each list is cut, at no less than n rows
abbrev pub AreCut : ℕ → List (List Row) → List (List Row) → Type 0
AreCut n [] [] = Unit {0}
AreCut n (l ∷ ls) (k ∷ ks) = ((m : ℕ) × (n ≤ m) × (k ≡ take m l)) × AreCut n ls ks
AreCut n _ _ = ⊥

module _ (before : Row → Row → Bool) where
  -- the same row was picked, and what is left is cut
  abbrev Alike : ℕ → Pick → Pick → Type 0
  Alike n Nothing Nothing = Unit {0}
  Alike n (Taken r ls) (Taken q ks) = (r ≡ q) × AreCut n ls ks
  Alike n _ _ = ⊥

  less_cut : (n : ℕ) (ls ks : List (List Row)) → AreCut (suc n) ls ks → AreCut n ls ks
  less_cut n [] [] h = tt
  less_cut n [] (k ∷ ks) h = h
  less_cut n (l ∷ ls) [] h = h
  less_cut n (l ∷ ls) (k ∷ ks) h = let i = h.0.1 in ((h.0.0, omega arith, h.0.2), less_cut n ls ks h.1)

  none_cut : (n : ℕ) (ls ks : List (List Row)) → AreCut n ls ks → AreCut n ([] ∷ ls) ([] ∷ ks)
  none_cut n ls ks h = ((suc n, omega arith, refl), h)

  passed_alike : (n : ℕ) (p q : Pick) → Alike n p q → Alike n (passed p) (passed q)
  passed_alike n Nothing Nothing h = tt
  passed_alike n (Taken r ls) (Taken q ks) h = (h.0, none_cut n ls ks h.1)
  passed_alike n Nothing (Taken q ks) h = h
  passed_alike n (Taken r ls) Nothing h = h

  picked_alike : (n m : ℕ) (h : Row) (t : List Row) (ls ks : List (List Row)) (p q : Pick) → n ≤ m → AreCut n ls ks → Alike n p q → Alike n (picked before h t ls p) (picked before h (take m t) ks q)
  picked_alike n m h t ls ks Nothing Nothing i c a = (refl, ((m, i, refl), c))
  picked_alike n m h t ls ks (Taken r us) (Taken q vs) i c a = by (before r h) (before q h) (ap (λ x. before x h) a.0)
    where
      by : (b b' : Bool) → b ≡ b' → Alike n (cond b (Taken r ((h ∷ t) ∷ us)) (Taken h (t ∷ ls))) (cond b' (Taken q ((h ∷ take m t) ∷ vs)) (Taken h (take m t ∷ ks)))
      by true true e = (a.0, ((suc m, omega arith, refl), a.1))
      by false false e = (refl, ((m, i, refl), c))
      by true false e = absurd (cc)
      by false true e = absurd (cc)
  picked_alike n m h t ls ks Nothing (Taken q vs) i c a = absurd a
  picked_alike n m h t ls ks (Taken r us) Nothing i c a = absurd a

  least_alike : (n : ℕ) (ls ks : List (List Row)) → AreCut (suc n) ls ks → Alike n (least before ls) (least before ks)
  least_alike n [] [] h = tt
  least_alike n [] (k ∷ ks) h = absurd h
  least_alike n (l ∷ ls) [] h = absurd h
  least_alike n (l ∷ ls) (k ∷ ks) h = subst (λ x. Alike n (least before (l ∷ ls)) (least before (x ∷ ks))) (sym h.0.2) (cut l h.0.0 h.0.1 (least_alike n ls ks h.1))
    where
      cut : (l' : List Row) (m : ℕ) → suc n ≤ m → Alike n (least before ls) (least before ks) → Alike n (least before (l' ∷ ls)) (least before (take m l' ∷ ks))
      cut l' zero i a = absurd (omega arith)
      cut [] (suc m) i a = passed_alike n (least before ls) (least before ks) a
      cut (x ∷ t) (suc m) i a = picked_alike n m x t ls ks (least before ls) (least before ks) (omega arith) (less_cut n ls ks h.1) a

  pub merged_cut : (n : ℕ) (ls ks : List (List Row)) → AreCut n ls ks → merged before n ls ≡ merged before n ks
  merged_cut zero ls ks h = refl
  merged_cut (suc n) ls ks h = by (least before ls) (least before ks) (least_alike n ls ks h) (λ us vs. merged_cut n us vs)
    where
      by : (p q : Pick) → Alike n p q → ((us vs : List (List Row)) → AreCut n us vs → merged before n us ≡ merged before n vs) → followed (merged before n) p ≡ followed (merged before n) q
      by Nothing Nothing a ih = refl
      by (Taken r us) (Taken q vs) a ih = ap (λ x. x ∷ merged before n us) a.0 ∙ ap (λ l. q ∷ l) (ih us vs a.1)
      by Nothing (Taken q vs) a ih = absurd a
      by (Taken r us) Nothing a ih = absurd a
