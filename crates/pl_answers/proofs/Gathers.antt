-- An ordered gather over what came gives the first rows of the merge.
use Rattle.std.proofs.Common.{◌≡◌, ℕ, zero, suc, ◌+◌, ◌≤◌, Bool, true, false, cond, List, [], ◌∷◌, ◌++◌, length, take, refl, sym, ap, ◌∙◌, subst, arith}
use Rattle.pl_ops.specs.Rows.{Line as Row}
use Rattle.pl_ops.specs.Streams.{Stream}
use Rattle.pl_ops.specs.Merging.{Pick, Nothing, Taken, picked, passed, least, followed, merged, Choice, Waits, Over, Gives, beside, skipped, by_head, choice_of, going_on, merge_stream}

-- what came is the front of what there is, and all of it where it has ended
abbrev pub AreFronts : List Stream → List (List Row) → Type 0
AreFronts [] [] = Unit {0}
AreFronts (s ∷ ss) (l ∷ ls) = ((rest : List Row) × (l ≡ s.rows ++ rest) × (s.ended ≡ true → rest ≡ [])) × AreFronts ss ls
AreFronts _ _ = ⊥

module _ (before : Row → Row → Bool) where
  -- what was chosen is what would be picked, if nothing has to be waited for
  abbrev Meets : Choice → Pick → Type 0
  Meets Waits p = Unit {0}
  Meets Over Nothing = Unit {0}
  Meets (Gives r ss) (Taken q ls) = (r ≡ q) × AreFronts ss ls
  Meets _ _ = ⊥

  skipped_meets : (c : Choice) (p : Pick) → Meets c p → Meets (skipped c) (passed p)
  skipped_meets Waits p h = tt
  skipped_meets Over Nothing h = tt
  skipped_meets (Gives r ss) (Taken q ls) h = (h.0, (([], refl, λ e. refl), h.1))
  skipped_meets Over (Taken q ls) h = h
  skipped_meets (Gives r ss) Nothing h = h

  beside_meets : (x : Row) (t : Stream) (u : List Row) (ss : List Stream) (ls : List (List Row)) (c : Choice) (p : Pick) → (rest : List Row) × (u ≡ t.rows ++ rest) × (t.ended ≡ true → rest ≡ []) → AreFronts ss ls → Meets c p → Meets (beside before x t ss c) (picked before x u ls p)
  beside_meets x t u ss ls Waits p f fs h = tt
  beside_meets x t u ss ls Over Nothing f fs h = (refl, (f, fs))
  beside_meets x t u ss ls (Gives r us) (Taken q vs) f fs h = by (before r x) (before q x) (ap (λ z. before z x) h.0)
    where
      by : (b b' : Bool) → b ≡ b' → Meets (cond b (Gives r (record { rows = x ∷ t.rows; ended = t.ended } ∷ us)) (Gives x (t ∷ ss))) (cond b' (Taken q ((x ∷ u) ∷ vs)) (Taken x (u ∷ ls)))
      by true true e = (h.0, ((f.0, ap (λ l. x ∷ l) f.1, f.2), h.1))
      by false false e = (refl, (f, fs))
      by true false e = absurd (cc)
      by false true e = absurd (cc)
  beside_meets x t u ss ls Over (Taken q vs) f fs h = absurd h
  beside_meets x t u ss ls (Gives r us) Nothing f fs h = absurd h

  choice_meets : (ss : List Stream) (ls : List (List Row)) → AreFronts ss ls → Meets (choice_of before ss) (least before ls)
  choice_meets [] [] f = tt
  choice_meets [] (l ∷ ls) f = absurd f
  choice_meets (s ∷ ss) [] f = absurd f
  choice_meets (s ∷ ss) (l ∷ ls) f = subst (λ x. Meets (choice_of before (s ∷ ss)) (least before (x ∷ ls))) (sym f.0.1) (by s.rows s.ended f.0.0 f.0.2 (choice_meets ss ls f.1))
    where
      by : (rows : List Row) (e : Bool) (rest : List Row) → (e ≡ true → rest ≡ []) → Meets (choice_of before ss) (least before ls) → Meets (by_head before rows e ss (choice_of before ss)) (least before ((rows ++ rest) ∷ ls))
      by [] true rest g m = subst (λ x. Meets (skipped (choice_of before ss)) (least before (x ∷ ls))) (sym (g refl)) (skipped_meets (choice_of before ss) (least before ls) m)
      by [] false rest g m = tt
      by (x ∷ t) e rest g m = beside_meets x (record { rows = t; ended = e }) (t ++ rest) ss ls (choice_of before ss) (least before ls) (rest, refl, g) f.1 m

  -- it gives the first rows of the merge; where it has ended, there are no more
  pub record IsFirst (ls : List (List Row)) (t : Stream) : Type 0 where
    pub many : ℕ
    pub rows : t.rows ≡ merged before many ls
    pub ended : t.ended ≡ true → (m : ℕ) → merged before (many + m) ls ≡ merged before many ls

  none_more : (ls : List (List Row)) → least before ls ≡ Nothing → (m : ℕ) → merged before m ls ≡ []
  none_more ls e zero = refl
  none_more ls e (suc m) = ap (followed (merged before m)) e

  pub ordered_first : (n : ℕ) (ss : List Stream) (ls : List (List Row)) → AreFronts ss ls → IsFirst ls (merge_stream before n ss)
  ordered_first zero ss ls f = record { many = 0; rows = refl; ended = λ e. absurd (cc) }
  ordered_first (suc n) ss ls f = by (choice_of before ss) (least before ls) refl (choice_meets ss ls f) (λ us vs g. ordered_first n us vs g)
    where
      by : (c : Choice) (p : Pick) → least before ls ≡ p → Meets c p → ((us : List Stream) (vs : List (List Row)) → AreFronts us vs → IsFirst vs (merge_stream before n us)) → IsFirst ls (going_on (merge_stream before n) c)
      by Waits p e h ih = record { many = 0; rows = refl; ended = λ e'. absurd (cc) }
      by Over Nothing e h ih = record { many = 0; rows = refl; ended = λ e' m. none_more ls e (0 + m) }
      by (Gives r us) (Taken q vs) e h ih =
          let t = ih us vs h.1 in
          let one : (m : ℕ) → merged before (suc m) ls ≡ q ∷ merged before m vs = λ m. ap (followed (merged before m)) e in
          record {
            many = suc t.many;
            rows = ap (λ z. z ∷ (merge_stream before n us).rows) h.0 ∙ ap (λ l. q ∷ l) t.rows ∙ sym (one t.many);
            ended = λ e' m. let s : suc t.many + m ≡ suc (t.many + m) = omega arith in
                ap (λ k. merged before k ls) s ∙ one (t.many + m) ∙ ap (λ l. q ∷ l) (t.ended e' m) ∙ sym (one t.many);
          }
      by Over (Taken q vs) e h ih = absurd h
      by (Gives r us) Nothing e h ih = absurd h

  pub take_merged : (n k : ℕ) (ls : List (List Row)) → n ≤ k → take n (merged before k ls) ≡ merged before n ls
  take_merged zero k ls h = refl
  take_merged (suc n) zero ls h = absurd (omega arith)
  take_merged (suc n) (suc k) ls h = by (least before ls) (λ us. take_merged n k us (omega arith))
    where
      by : (p : Pick) → ((us : List (List Row)) → take n (merged before k us) ≡ merged before n us) → take (suc n) (followed (merged before k) p) ≡ followed (merged before n) p
      by Nothing ih = refl
      by (Taken r us) ih = ap (λ l. r ∷ l) (ih us)

  pub merged_short : (k : ℕ) (ls : List (List Row)) → length (merged before k ls) ≤ k
  merged_short zero ls = omega arith
  merged_short (suc k) ls = by (least before ls) (λ us. merged_short k us)
    where
      by : (p : Pick) → ((us : List (List Row)) → length (merged before k us) ≤ k) → length (followed (merged before k) p) ≤ suc k
      by Nothing ih = omega arith
      by (Taken r us) ih = let i = ih us in omega arith
