-- The passes of many workers.
use Rattle.std.specs.Prelude.{◌≡◌, ℕ, zero, suc, List, [], ◌∷◌}
use Rattle.ic_turn.specs.Passes.{Passing, Grows, given_as, joined_with}

module _ {A R K : Type 0} where
  -- so many that it gives, from the number after this one on
  abbrev pub given_after : ℕ → ℕ → Passing A R K → List (Passing A R K)
  given_after number zero p = []
  given_after number (suc n) p = given_as (suc number) p ∷ given_after (suc number) n p

  -- itself, without spare numbers, and then all that it gives
  abbrev pub all_given : Passing A R K → List (Passing A R K)
  all_given p = record p { spare = 0 } ∷ given_after 0 p.spare p

  -- a pass that took in others, in their order
  abbrev pub all_joined : Passing A R K → List (Passing A R K) → Passing A R K
  all_joined p [] = p
  all_joined p (q ∷ qs) = all_joined (joined_with p q) qs

  -- two passes with so many entries of their own more, as one
  abbrev pub HaveBoth : ℕ → Passing A R K → Passing A R K → Passing A R K → Type 0
  HaveBoth n a b both = (a' b' : Passing A R K) × Grows n a a' × Grows n b b' × (both ≡ joined_with a' b')

  -- four passes, two and two
  abbrev pub HaveAll : ℕ → Passing A R K × Passing A R K → Passing A R K × Passing A R K → Passing A R K → Type 0
  HaveAll n first second all = (ab cd : Passing A R K) × HaveBoth n first.0 first.1 ab × HaveBoth n second.0 second.1 cd × (all ≡ joined_with ab cd)
