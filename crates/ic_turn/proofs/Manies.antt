-- One pass more of many.
use Rattle.std.proofs.Common.{◌≡◌, ℕ, suc, ◌+◌, ◌-◌, ◌<◌, ◌≤◌, List, [], ◌∷◌, ◌++◌, reverse, refl, ap, sym, ◌∙◌, arith}
use Rattle.std.proofs.lemmas.List.{reverse-append}
use Rattle.ic_turn.specs.Passes.{Passing, giver, given_as, given, joined_with}
use Rattle.ic_turn.specs.Many.{given_after, all_given, all_joined}

module _ {A R K : Type 0} where
  pub all_joined_push : (p : Passing A R K) (qs : List (Passing A R K)) (q : Passing A R K) → all_joined p (qs ++ q ∷ []) ≡ joined_with (all_joined p qs) q
  all_joined_push p [] q = refl
  all_joined_push p (x ∷ qs) q = all_joined_push (joined_with p x) qs q

  -- one joined more
  pub joins_push : (p : Passing A R K) (qs : List (Passing A R K)) (q was now : Passing A R K) → was ≡ all_joined p qs → now ≡ joined_with was q → now ≡ all_joined p (qs ++ q ∷ [])
  joins_push p qs q was now is join = join ∙ ap (λ z. joined_with z q) is ∙ sym (all_joined_push p qs q)

  -- one given more, of the number before
  pub given_more : (p : Passing A R K) (left k : ℕ) (gs : List (Passing A R K)) (g : Passing A R K) → g ≡ given_as (suc left) p → gs ≡ given_after (suc left) k p → g ∷ gs ≡ given_after left (suc k) p
  given_more p left k gs g is was = (λ j. is j ∷ was j)

  pub cuts_push : (p q r g : Passing A R K) (k : ℕ) (old new : List (Passing A R K)) → 0 < q.spare → q ≡ record p { spare = q.spare } → r ≡ giver q → g ≡ given q
      → reverse old ≡ given_after q.spare k p → new ≡ old ++ g ∷ [] → reverse new ≡ given_after r.spare (k + 1) p
  cuts_push p q r g k old new some_spare same is_r is_g was adds =
      let left : ℕ = q.spare - 1 in
      let up : q.spare ≡ suc left = omega arith in
      let less : left ≡ r.spare = sym (ap (λ z. z.spare) is_r) in
      let more : suc k ≡ k + 1 = omega arith in
      let one : g ≡ given_as (suc left) p = is_g ∙ ap (λ z. given_as q.spare z) same ∙ ap (λ n. given_as n p) up in
      ap reverse adds ∙ reverse-append old (g ∷ []) ∙ given_more p left k (reverse old) g one (was ∙ ap (λ n. given_after n k p) up) ∙ (λ j. given_after (less j) (more j) p)

  pub cuts_end : (p q : Passing A R K) (k : ℕ) (old all : List (Passing A R K)) → p.spare ≡ q.spare + k → p.spare ≤ k → q ≡ record p { spare = q.spare }
      → reverse old ≡ given_after q.spare k p → all ≡ reverse (old ++ q ∷ []) → all ≡ all_given p
  cuts_end p q k old all sums far same was is =
      let none : q.spare ≡ 0 = omega arith in
      let whole : k ≡ p.spare = omega arith in
      let own : q ≡ record p { spare = 0 } = same ∙ (λ j. record p { spare = none j }) in
      let others : reverse old ≡ given_after 0 p.spare p = was ∙ (λ j. given_after (none j) (whole j) p) in
      is ∙ reverse-append old (q ∷ []) ∙ (λ j. own j ∷ others j)
