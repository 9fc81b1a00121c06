-- What one more entry does to a list of entries.
use Rattle.std.proofs.Common.{◌≡◌, List, [], ◌∷◌, ◌++◌, length, refl, ap, sym, ◌∙◌, subst, arith, inl, inr, ◌⊎◌, append_assoc, append-nil, length-append, ◌+◌}
use Rattle.std.specs.List.{AllByRecursion}
use Rattle.ic_turn.specs.declared.entry.Entry.{Entry}
use Rattle.ic_turn.specs.Entries.{entries_of, Every, StandsWith}

-- the one more stands last, or the place is among the others
cut_at : {A : Type 0} (xs : List A) (x : A) (before : List A) (e : A) (after : List A) → xs ++ x ∷ [] ≡ before ++ e ∷ after
    → ((before ≡ xs) × (e ≡ x)) ⊎ ((rest : List A) × (xs ≡ before ++ e ∷ rest))
cut_at [] x [] e after h = let same : x ≡ e = cc in inl (refl, sym same)
cut_at [] x (b ∷ []) e after h = let bad : [] ≡ e ∷ after = cc in cc
cut_at [] x (b ∷ c ∷ before) e after h = let bad : [] ≡ c ∷ (before ++ e ∷ after) = cc in cc
cut_at (a ∷ xs) x [] e after h = let same : a ≡ e = cc in inr (xs, ap (λ y. y ∷ xs) same)
cut_at (a ∷ xs) x (b ∷ before) e after h =
    let same : a ≡ b = cc in
    let rest : xs ++ x ∷ [] ≡ before ++ e ∷ after = cc in
    elim (cut_at xs x before e after rest) [
      | inl w ↦ inl (ap (λ l. b ∷ l) w.0 ∙ ap (λ y. y ∷ xs) (sym same), w.1)
      | inr w ↦ inr (w.0, ap (λ y. y ∷ xs) same ∙ ap (λ l. b ∷ l) w.1)
    ]

module _ {A R : Type 0} where
  pub every_none : (P : List (Entry A R) → Entry A R → Type 0) → Every P []
  every_none P [] e after h = let bad : [] ≡ e ∷ after = h in cc
  every_none P (b ∷ before) e after h = let bad : [] ≡ b ∷ (before ++ e ∷ after) = h in cc

  pub every_push : (P : List (Entry A R) → Entry A R → Type 0) (h : List (Entry A R)) (e : Entry A R) → Every P h → P h e → Every P (h ++ e ∷ [])
  every_push P h e every here before x after at =
      elim (cut_at h e before x after at) [
        | inl w ↦ subst (λ b. P b x) (sym w.0) (subst (λ y. P h y) (sym w.1) here)
        | inr w ↦ every before x w.0 w.1
      ]

  pub each_push : (P : Entry A R → Type 0) (es : List (Entry A R)) (e : Entry A R) → AllByRecursion P es → P e → AllByRecursion P (es ++ e ∷ [])
  each_push P [] e h here = (here, tt)
  each_push P (x ∷ es) e h here = (h.0, each_push P es e h.1 here)

  pub entries_of-push : (asks : List A) (replies : List R) (ask : A) (reply : R) → length replies ≡ length asks
      → entries_of (asks ++ ask ∷ []) (replies ++ reply ∷ []) ≡ entries_of asks replies ++ record { ask = ask; reply = reply } ∷ []
  entries_of-push [] [] ask reply same = refl
  entries_of-push [] (r ∷ replies) ask reply same = absurd (omega (arith, same))
  entries_of-push (a ∷ asks) [] ask reply same = absurd (omega (arith, same))
  entries_of-push (a ∷ asks) (r ∷ replies) ask reply same =
      ap (λ es. record { ask = a; reply = r } ∷ es) (entries_of-push asks replies ask reply (omega (arith, same)))

  pub stands_with_none : (before : List (Entry A R) → Type 0) → StandsWith before before []
  stands_with_none before entries h = subst before (sym (append-nil entries)) h

  pub stands_with_trans : (first then last : List (Entry A R) → Type 0) (es more : List (Entry A R)) → StandsWith first then es → StandsWith then last more → StandsWith first last (es ++ more)
  stands_with_trans first then last es more p q entries h = subst last (append_assoc entries es more) (q (entries ++ es) (p entries h))

  -- ---- a run of asks, and one ask more

  module _ (asks : List A) (replies now : List R) (ask : A) (reply : R) (same : length replies ≡ length asks) (adds : now ≡ replies ++ reply ∷ []) where
    grown : entries_of (asks ++ ask ∷ []) now ≡ entries_of asks replies ++ record { ask = ask; reply = reply } ∷ []
    grown = ap (λ rs. entries_of (asks ++ ask ∷ []) rs) adds ∙ entries_of-push asks replies ask reply same

    pub same_push : length now ≡ length (asks ++ ask ∷ [])
    same_push = ap length adds ∙ length-append replies (reply ∷ []) ∙ ap (λ n. n + 1) same ∙ sym (length-append asks (ask ∷ []))

    pub answered_push : (P : A → R → Type 0) → AllByRecursion (λ (e : Entry A R). P e.ask e.reply) (entries_of asks replies) → P ask reply
        → AllByRecursion (λ (e : Entry A R). P e.ask e.reply) (entries_of (asks ++ ask ∷ []) now)
    answered_push P h here = subst (AllByRecursion (λ (e : Entry A R). P e.ask e.reply)) (sym grown) (each_push (λ e. P e.ask e.reply) (entries_of asks replies) (record { ask = ask; reply = reply }) h here)

    pub stood_push : (first then last : List (Entry A R) → Type 0) → StandsWith first then (entries_of asks replies)
        → StandsWith then last (record { ask = ask; reply = reply } ∷ []) → StandsWith first last (entries_of (asks ++ ask ∷ []) now)
    stood_push first then last h more = subst (StandsWith first last) (sym grown) (stands_with_trans first then last (entries_of asks replies) _ h more)
