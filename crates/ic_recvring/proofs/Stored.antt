-- What a stored packet adds: for whoever keeps a history beside the ring.
use Rattle.std.proofs.Common.{◌≡◌, ℕ, suc, ltb, Bool, true, false, cond, List, [], ◌∷◌, refl, ap, ◌∙◌, subst, arith, inl, inr, ◌⊎◌}
use Rattle.std.specs.List.{Contains, filter}
use Rattle.std.proofs.lemmas.Bool.Decides.{leb_tells}
use Rattle.std.proofs.lemmas.List.Elements.{Contains-append_cases, Contains-append_left, Contains-append_right}
use Rattle.ic_recvring.specs.Numbers.{numbers_from}
use Rattle.ic_recvring.specs.Ring.{Packet, Ring, numbers, stored_of, placed}
use Rattle.ic_recvring.proofs.Among.{Contains-none, Contains-head, Contains-tail, head_or_tail}

in_filter : {A : Type 0} (p : A → Bool) (xs : List A) (x : A) → Contains xs x → p x ≡ true → Contains (filter p xs) x
in_filter p [] x h pass = absurd (Contains-none x h)
in_filter p (y ∷ xs) x h pass = by (p y) refl (λ there. in_filter p xs x there pass)
  where
    by : (b : Bool) → p y ≡ b → (Contains xs x → Contains (filter p xs) x) → Contains (cond b (y ∷ filter p xs) (filter p xs)) x
    by true e later = elim (head_or_tail y xs x h) [
      | inl same ↦ subst (Contains (y ∷ filter p xs)) same (Contains-head y (filter p xs))
      | inr there ↦ Contains-tail y (filter p xs) x (later there)
    ]
    by false e later = elim (head_or_tail y xs x h) [
      | inl same ↦ absurd (let on : p y ≡ true = ap p same ∙ pass in cc)
      | inr there ↦ later there
    ]

from_filter : {A : Type 0} (p : A → Bool) (xs : List A) (x : A) → Contains (filter p xs) x → Contains xs x
from_filter p [] x h = h
from_filter p (y ∷ xs) x h = by (p y) h (from_filter p xs x)
  where
    by : (b : Bool) → Contains (cond b (y ∷ filter p xs) (filter p xs)) x → (Contains (filter p xs) x → Contains xs x) → Contains (y ∷ xs) x
    by true k later = elim (head_or_tail y (filter p xs) x k) [
      | inl same ↦ subst (Contains (y ∷ xs)) same (Contains-head y xs)
      | inr there ↦ Contains-tail y xs x (later there)
    ]
    by false k later = Contains-tail y xs x (later k)

pub seq_in : (packets : List Packet) (q : Packet) → Contains packets q → Contains (numbers packets) q.seq
seq_in [] q h = absurd (Contains-none q h)
seq_in (p ∷ packets) q h =
    elim (head_or_tail p packets q h) [
      | inl same ↦ subst (λ (x : Packet). Contains (p.seq ∷ numbers packets) x.seq) same (Contains-head p.seq (numbers packets))
      | inr there ↦ Contains-tail p.seq (numbers packets) q.seq (seq_in packets q there)
    ]

pub packet_with : (packets : List Packet) (n : ℕ) → Contains (numbers packets) n → (q : Packet) × Contains packets q × (q.seq ≡ n)
packet_with [] n h = absurd (Contains-none n h)
packet_with (p ∷ packets) n h =
    elim (head_or_tail p.seq (numbers packets) n h) [
      | inl same ↦ (p, Contains-head p packets, same)
      | inr there ↦ let found = packet_with packets n there in (found.0, Contains-tail p packets found.0 found.1, found.2)
    ]

-- ---- a packet among others

pub placed_there : (p : Packet) (packets : List Packet) → Contains (placed p packets) p
placed_there p packets =
    Contains-append_right (filter (λ (q : Packet). ltb q.seq p.seq) packets) (p ∷ filter (λ (q : Packet). ltb p.seq q.seq) packets) p (Contains-head p (filter (λ (q : Packet). ltb p.seq q.seq) packets))

pub placed_keeps : (p : Packet) (packets : List Packet) (q : Packet) → (Contains (numbers packets) p.seq → ⊥) → Contains packets q → Contains (placed p packets) q
placed_keeps p packets q new h =
    elim (leb_tells (suc q.seq) p.seq) [
      | inl before ↦ Contains-append_left (filter (λ (q : Packet). ltb q.seq p.seq) packets) (p ∷ filter (λ (q : Packet). ltb p.seq q.seq) packets) q (in_filter (λ (q : Packet). ltb q.seq p.seq) packets q h before.0)
      | inr behind ↦ elim (leb_tells (suc p.seq) q.seq) [
        | inl after ↦ Contains-append_right (filter (λ (q : Packet). ltb q.seq p.seq) packets) (p ∷ filter (λ (q : Packet). ltb p.seq q.seq) packets) q
            (Contains-tail p (filter (λ (q : Packet). ltb p.seq q.seq) packets) q (in_filter (λ (q : Packet). ltb p.seq q.seq) packets q h after.0))
        | inr not_after ↦ let same : q.seq ≡ p.seq = omega (arith, behind.1, not_after.1) in absurd (new (subst (Contains (numbers packets)) same (seq_in packets q h)))
      ]
    ]

pub placed_from : (p : Packet) (packets : List Packet) (q : Packet) → Contains (placed p packets) q → (p ≡ q) ⊎ Contains packets q
placed_from p packets q h =
    elim (Contains-append_cases (filter (λ (q : Packet). ltb q.seq p.seq) packets) (p ∷ filter (λ (q : Packet). ltb p.seq q.seq) packets) q h) [
      | inl w ↦ inr (from_filter (λ (q : Packet). ltb q.seq p.seq) packets q w)
      | inr w ↦ elim (head_or_tail p (filter (λ (q : Packet). ltb p.seq q.seq) packets) q w) [
        | inl same ↦ inl same
        | inr there ↦ inr (from_filter (λ (q : Packet). ltb p.seq q.seq) packets q there)
      ]
    ]

-- ---- the stored numbers

pub stored_there : (s : Ring) (p : Packet) → Contains (stored_of (record s { kept = placed p s.kept })) p.seq
stored_there s p = Contains-append_right (numbers_from 1 s.consumed) (numbers (placed p s.kept)) p.seq (seq_in (placed p s.kept) p (placed_there p s.kept))

pub stored_keeps : (s : Ring) (p : Packet) (n : ℕ) → (Contains (numbers s.kept) p.seq → ⊥) → Contains (stored_of s) n → Contains (stored_of (record s { kept = placed p s.kept })) n
stored_keeps s p n new h =
    elim (Contains-append_cases (numbers_from 1 s.consumed) (numbers s.kept) n h) [
      | inl w ↦ Contains-append_left (numbers_from 1 s.consumed) (numbers (placed p s.kept)) n w
      | inr w ↦
          let found = packet_with s.kept n w in
          Contains-append_right (numbers_from 1 s.consumed) (numbers (placed p s.kept)) n (subst (Contains (numbers (placed p s.kept))) found.2 (seq_in (placed p s.kept) found.0 (placed_keeps p s.kept found.0 new found.1)))
    ]

pub stored_from : (s : Ring) (p : Packet) (n : ℕ) → Contains (stored_of (record s { kept = placed p s.kept })) n → (p.seq ≡ n) ⊎ Contains (stored_of s) n
stored_from s p n h =
    elim (Contains-append_cases (numbers_from 1 s.consumed) (numbers (placed p s.kept)) n h) [
      | inl w ↦ inr (Contains-append_left (numbers_from 1 s.consumed) (numbers s.kept) n w)
      | inr w ↦
          let found = packet_with (placed p s.kept) n w in
          elim (placed_from p s.kept found.0 found.1) [
            | inl same ↦ inl (ap (λ (x : Packet). x.seq) same ∙ found.2)
            | inr there ↦ inr (Contains-append_right (numbers_from 1 s.consumed) (numbers s.kept) n (subst (Contains (numbers s.kept)) found.2 (seq_in s.kept found.0 there)))
          ]
    ]
