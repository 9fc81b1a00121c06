-- A packet that is taken back: packets without it are as they were before it was stored.
use Rattle.std.proofs.Common.{◌≡◌, ℕ, suc, ◌-◌, ◌<◌, ◌≤◌, ◌==◌, ltb, Bool, true, false, not, cond, List, [], ◌∷◌, ◌++◌, refl, ap, ◌∙◌, arith, inl, inr}
use Rattle.std.specs.List.{Contains, filter}
use Rattle.std.proofs.lemmas.Bool.Decides.{eqb_tells, leb_tells}
use Rattle.std.proofs.lemmas.List.Elements.{filter-append}
use Rattle.ic_recvring.specs.Numbers.{Increases}
use Rattle.ic_recvring.specs.Ring.{Packet, numbers, placed}
use Rattle.ic_recvring.proofs.Among.{Contains-tail, head_or_tail}

-- ---- packets without one of them

abbrev pub other : ℕ → Packet → Bool
other n p = not (p.seq == n)

pub pass : (n : ℕ) (p : Packet) (ps : List Packet) → (p.seq ≡ n → ⊥) → filter (other n) (p ∷ ps) ≡ p ∷ filter (other n) ps
pass n p ps apart = elim (eqb_tells p.seq n) [ inl w ↦ absurd (apart w.1) | inr w ↦ ap (λ b. cond (not b) (p ∷ filter (other n) ps) (filter (other n) ps)) w.0 ]

pub stop : (n : ℕ) (p : Packet) (ps : List Packet) → p.seq ≡ n → filter (other n) (p ∷ ps) ≡ filter (other n) ps
stop n p ps is = elim (eqb_tells p.seq n) [ inl w ↦ ap (λ b. cond (not b) (p ∷ filter (other n) ps) (filter (other n) ps)) w.0 | inr w ↦ absurd (w.1 is) ]

none_of : (n : ℕ) (ps : List Packet) → (Contains (numbers ps) n → ⊥) → filter (other n) ps ≡ ps
none_of n [] apart = refl
none_of n (p ∷ ps) apart = pass n p ps (λ is. apart (0, omega arith, is)) ∙ ap (λ l. p ∷ l) (none_of n ps (λ h. apart (Contains-tail p.seq (numbers ps) n h)))

-- ---- what was stored is taken back

pub below_none : (n low : ℕ) (ps : List Packet) → n ≤ low → Increases low (numbers ps) → filter (λ (q : Packet). ltb q.seq n) ps ≡ []
below_none n low [] le up = refl
below_none n low (p ∷ ps) le up =
    elim (leb_tells (suc p.seq) n) [
      | inl w ↦ absurd (omega (arith, w.1, le, up.0))
      | inr w ↦ ap (λ b. cond b (p ∷ filter (λ (q : Packet). ltb q.seq n) ps) (filter (λ (q : Packet). ltb q.seq n) ps)) w.0 ∙ below_none n p.seq ps (omega (arith, le, up.0)) up.1
    ]

pub above_all : (n low : ℕ) (ps : List Packet) → n ≤ low → Increases low (numbers ps) → filter (λ (q : Packet). ltb n q.seq) ps ≡ ps
above_all n low [] le up = refl
above_all n low (p ∷ ps) le up =
    elim (leb_tells (suc n) p.seq) [
      | inl w ↦ ap (λ b. cond b (p ∷ filter (λ (q : Packet). ltb n q.seq) ps) (filter (λ (q : Packet). ltb n q.seq) ps)) w.0 ∙ ap (λ l. p ∷ l) (above_all n p.seq ps (omega (arith, le, up.0)) up.1)
      | inr w ↦ absurd (omega (arith, w.1, le, up.0))
    ]

-- lesser and greater ones are all, where none is equal
parted : (n low : ℕ) (ps : List Packet) → Increases low (numbers ps) → (Contains (numbers ps) n → ⊥) → filter (λ (q : Packet). ltb q.seq n) ps ++ filter (λ (q : Packet). ltb n q.seq) ps ≡ ps
parted n low [] up apart = refl
parted n low (p ∷ ps) up apart =
    elim (leb_tells (suc p.seq) n) [
      | inl w ↦
          let right : filter (λ (q : Packet). ltb n q.seq) (p ∷ ps) ≡ filter (λ (q : Packet). ltb n q.seq) ps = elim (leb_tells (suc n) p.seq) [
            | inl v ↦ absurd (omega (arith, w.1, v.1))
            | inr v ↦ ap (λ b. cond b (p ∷ filter (λ (q : Packet). ltb n q.seq) ps) (filter (λ (q : Packet). ltb n q.seq) ps)) v.0
          ] in
          ap (λ b. cond b (p ∷ filter (λ (q : Packet). ltb q.seq n) ps) (filter (λ (q : Packet). ltb q.seq n) ps) ++ filter (λ (q : Packet). ltb n q.seq) (p ∷ ps)) w.0
          ∙ ap (λ l. (p ∷ filter (λ (q : Packet). ltb q.seq n) ps) ++ l) right
          ∙ ap (λ l. p ∷ l) (parted n p.seq ps up.1 (λ h. apart (Contains-tail p.seq (numbers ps) n h)))
      | inr w ↦
          let above_n : n < p.seq = elim (eqb_tells p.seq n) [ inl v ↦ absurd (apart (0, omega arith, v.1)) | inr v ↦ beyond (omega (arith, w.1)) v.1 ] in
          ap (λ l. l ++ filter (λ (q : Packet). ltb n q.seq) (p ∷ ps)) (below_none n (p.seq - 1) (p ∷ ps) (omega (arith, above_n)) (omega (arith, above_n), up.1))
          ∙ above_all n (p.seq - 1) (p ∷ ps) (omega (arith, above_n)) (omega (arith, above_n), up.1)
    ]
  where
    beyond : (n ≤ p.seq) → (p.seq ≡ n → ⊥) → n < p.seq
    beyond le apart = elim (leb_tells (suc n) p.seq) [ inl v ↦ v.1 | inr v ↦ absurd (apart (omega (arith, le, v.1))) ]

in_filtered : (f : Packet → Bool) (ps : List Packet) (n : ℕ) → Contains (numbers (filter f ps)) n → Contains (numbers ps) n
in_filtered f [] n h = h
in_filtered f (p ∷ ps) n h = by (f p) h (in_filtered f ps n)
  where
    by : (b : Bool) → Contains (numbers (cond b (p ∷ filter f ps) (filter f ps))) n → (Contains (numbers (filter f ps)) n → Contains (numbers ps) n) → Contains (numbers (p ∷ ps)) n
    by true k later = elim (head_or_tail p.seq (numbers (filter f ps)) n k) [ inl same ↦ (0, omega arith, same) | inr there ↦ Contains-tail p.seq (numbers ps) n (later there) ]
    by false k later = Contains-tail p.seq (numbers ps) n (later k)

pub placed_back : (p : Packet) (low : ℕ) (ps : List Packet) → Increases low (numbers ps) → (Contains (numbers ps) p.seq → ⊥) → filter (λ q. not (q.seq == p.seq)) (placed p ps) ≡ ps
placed_back p low ps up new =
    filter-append (other p.seq) (filter (λ (q : Packet). ltb q.seq p.seq) ps) (p ∷ filter (λ (q : Packet). ltb p.seq q.seq) ps)
    ∙ ap (λ l. filter (other p.seq) (filter (λ (q : Packet). ltb q.seq p.seq) ps) ++ l) (stop p.seq p (filter (λ (q : Packet). ltb p.seq q.seq) ps) refl)
    ∙ ap (λ l. l ++ filter (other p.seq) (filter (λ (q : Packet). ltb p.seq q.seq) ps)) (none_of p.seq (filter (λ (q : Packet). ltb q.seq p.seq) ps) (λ h. new (in_filtered (λ (q : Packet). ltb q.seq p.seq) ps p.seq h)))
    ∙ ap (λ l. filter (λ (q : Packet). ltb q.seq p.seq) ps ++ l) (none_of p.seq (filter (λ (q : Packet). ltb p.seq q.seq) ps) (λ h. new (in_filtered (λ (q : Packet). ltb p.seq q.seq) ps p.seq h)))
    ∙ parted p.seq low ps up new
