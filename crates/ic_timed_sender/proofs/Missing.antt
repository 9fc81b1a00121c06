-- A report of what is missing that isn't stray frees nothing that wasn't emitted.
use Rattle.std.proofs.Common.{◌≡◌, ℕ, zero, suc, ◌+◌, ◌-◌, ◌/◌, ◌%◌, ◌<◌, ◌≤◌, List, [], ◌∷◌, length, refl, arith, inl, inr}
use Rattle.std.specs.Prelude.{take, drop}
use Rattle.std.specs.Int.{w32, from_be_bytes}
use Rattle.std.proofs.lemmas.Bool.{cases_lt}
use Rattle.ic_law.specs.Numbers.{words_in, words_from, IsIncreasingFrom, last_or}
use Rattle.ic_sender.specs.Sending.{Sending}
use Rattle.ic_sender.specs.Calls.{IsStrayDisorder}

pub at_most : (a b : ℕ) → (b < a → ⊥) → a ≤ b
at_most a b never = elim (cases_lt b a) [ inl lt ↦ absurd (never lt) | inr le ↦ le ]

least_last : (n : ℕ) (words : List ℕ) → IsIncreasingFrom (n + 1) words → n ≤ last_or n words
least_last n [] increase = omega arith
least_last n (w ∷ words) increase = let rest = least_last w words increase.1 in omega (arith, increase.0, rest)

-- the first of some numbers that increase is at most the last
first_last : (body : List ℕ) → 0 < length body → length body % 4 ≡ 0 → IsIncreasingFrom 1 (words_in body) → from_be_bytes w32 (take 4 body) ≤ last_or 0 (words_in body)
first_last body more whole = by (length body / 4) refl
  where
    by : (n : ℕ) → length body / 4 ≡ n → IsIncreasingFrom 1 (words_from n body) → from_be_bytes w32 (take 4 body) ≤ last_or 0 (words_from n body)
    by zero e increase = absurd (omega (arith, e, more, whole))
    by (suc n) e increase = least_last (from_be_bytes w32 (take 4 body)) (words_from n (drop 4 body)) increase.1

pub missing_within : (s : Sending) (seq extra : ℕ) (body : List ℕ) → 0 < length body → length body % 4 ≡ 0 → (IsStrayDisorder s seq extra body → ⊥) → from_be_bytes w32 (take 4 body) - 1 ≤ s.sent
missing_within s seq extra body more whole fine =
    at_most (from_be_bytes w32 (take 4 body) - 1) s.sent
    (λ beyond. fine (inr (inr (inl (λ increase.
    let first = first_last body more whole increase in
    let before = at_most extra s.sent (λ lt. fine (inr (inl lt))) in
    fine (inr (inr (inr (omega (arith, beyond, first, before))))))))))
