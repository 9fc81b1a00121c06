-- What one more entry does to a list of entries.
use Rattle.std.proofs.Common.{◌≡◌, List, [], ◌∷◌, ◌++◌, refl, ap, sym, ◌∙◌, subst, inl, inr, ◌⊎◌}
use Rattle.ic_turn.specs.declared.entry.Entry.{Entry}
use Rattle.ic_turn.specs.Entries.{Every}

-- the one more stands last, or the place is among the others
cut_at : {A : Type 0} (xs : List A) (x : A) (before : List A) (e : A) (after : List A) → xs ++ x ∷ [] ≡ before ++ e ∷ after
    → ((before ≡ xs) × (e ≡ x)) ⊎ ((rest : List A) × (xs ≡ before ++ e ∷ rest))
cut_at [] x [] e after h = let same : x ≡ e = cc in inl (refl, sym same)
cut_at [] x (b ∷ []) e after h = let bad : [] ≡ e ∷ after = cc in cc
cut_at [] x (b ∷ c ∷ before) e after h = let bad : [] ≡ c ∷ (before ++ e ∷ after) = cc in cc
cut_at (a ∷ xs) x [] e after h = let same : a ≡ e = cc in inr (xs, ap (λ y. y ∷ xs) same)
cut_at (a ∷ xs) x (b ∷ before) e after h =
    let same : a ≡ b = cc in
    let rest : xs ++ x ∷ [] ≡ before ++ e ∷ after = cc in
    elim (cut_at xs x before e after rest) [
      | inl w ↦ inl (ap (λ l. b ∷ l) w.0 ∙ ap (λ y. y ∷ xs) (sym same), w.1)
      | inr w ↦ inr (w.0, ap (λ y. y ∷ xs) same ∙ ap (λ l. b ∷ l) w.1)
    ]

pub every_push : {A R : Type 0} (P : List (Entry A R) → Entry A R → Type 0) (h : List (Entry A R)) (e : Entry A R) → Every P h → P h e → Every P (h ++ e ∷ [])
every_push P h e every here before x after at =
    elim (cut_at h e before x after at) [
      | inl w ↦ subst (λ b. P b x) (sym w.0) (subst (λ y. P h y) (sym w.1) here)
      | inr w ↦ every before x w.0 w.1
    ]
