-- The packets of a stretch of numbers, wherever they lie: at says which packet a number has.
use Rattle.std.proofs.Common.{◌≡◌, ◌≢◌, ℕ, zero, suc, ◌+◌, ◌<◌, ◌≤◌, ◌==◌, ltb, cond, List, [], ◌∷◌, ◌++◌, Option, Some, None, refl, ap, sym, ◌∙◌, subst, arith, inl, inr}
use Rattle.std.specs.List.{AllByRecursion, Contains, filter, find}
use Rattle.std.proofs.lemmas.Bool.Decides.{leb_tells, eqb_tells}
use Rattle.ic_recvring.specs.Numbers.{Increases}
use Rattle.ic_recvring.specs.Ring.{Packet, numbers, placed}
use Rattle.ic_recvring.specs.Views.{joined, window}
use Rattle.ic_recvring.proofs.Among.{Contains-none, Contains-head, Contains-tail, head_or_tail}
use Rattle.ic_recvring.proofs.Stored.{seq_in, packet_with}
use Rattle.ic_recvring.proofs.Back.{other, pass, stop, below_none, above_all}

-- each packet has the number at which it is
abbrev pub AreNamed : (ℕ → Option Packet) → Type 0
AreNamed at = (k : ℕ) (p : Packet) → at k ≡ Some p → p.seq ≡ k

-- ---- the same packets, or none

pub same_window : (at now : ℕ → Option Packet) (n count : ℕ) → ((k : ℕ) → n ≤ k → k < n + count → at k ≡ now k) → window at n count ≡ window now n count
same_window at now n zero same = refl
same_window at now n (suc count) same =
    ap (λ o. joined o (window at (n + 1) count)) (same n (omega arith) (omega arith))
    ∙ ap (joined (now n)) (same_window at now (n + 1) count (λ k low high. same k (omega (arith, low)) (omega (arith, high))))

pub no_window : (at : ℕ → Option Packet) (n count : ℕ) → ((k : ℕ) → at k ≡ None) → window at n count ≡ []
no_window at n zero none = refl
no_window at n (suc count) none = ap (λ o. joined o (window at (n + 1) count)) (none n) ∙ no_window at (n + 1) count none

pub window-more : (at : ℕ → Option Packet) (n count : ℕ) → at (n + count) ≡ None → window at n (suc count) ≡ window at n count
window-more at n zero none = let here : n + zero ≡ n = omega arith in ap (λ o. joined o []) (ap at (sym here) ∙ none)
window-more at n (suc count) none =
    let further : n + suc count ≡ n + 1 + count = omega arith in
    ap (joined (at n)) (window-more at (n + 1) count (ap at (sym further) ∙ none))

-- ---- their numbers

module _ (at : ℕ → Option Packet) (named : AreNamed at) where
  pub increases : (low n count : ℕ) → low < n → Increases low (numbers (window at n count))
  increases low n zero lt = tt
  increases low n (suc count) lt = by (at n) refl (λ below h. increases below (n + 1) count h)
    where
      by : (o : Option Packet) → at n ≡ o → ((below : ℕ) → below < n + 1 → Increases below (numbers (window at (n + 1) count))) → Increases low (numbers (joined o (window at (n + 1) count)))
      by None e rest = rest low (omega (arith, lt))
      by (Some p) e rest = let is = named n p e in (omega (arith, is, lt), rest p.seq (omega (arith, is)))

  pub each : (P : Packet → Type 0) (n count : ℕ) → ((k : ℕ) (p : Packet) → k < n + count → at k ≡ Some p → P p) → AllByRecursion P (window at n count)
  each P n zero all = tt
  each P n (suc count) all = by (at n) refl (each P (n + 1) count (λ k p lt. all k p (omega (arith, lt))))
    where
      by : (o : Option Packet) → at n ≡ o → AllByRecursion P (window at (n + 1) count) → AllByRecursion P (joined o (window at (n + 1) count))
      by None e rest = rest
      by (Some p) e rest = (all n p (omega arith) e, rest)

  pub there : (n count k : ℕ) (p : Packet) → n ≤ k → k < n + count → at k ≡ Some p → Contains (window at n count) p
  there n zero k p low high is = absurd (omega (arith, low, high))
  there n (suc count) k p low high is =
      elim (leb_tells k n) [
        | inl w ↦ let same : n ≡ k = omega (arith, low, w.1) in subst (λ o. Contains (joined o (window at (n + 1) count)) p) (sym (ap at same ∙ is)) (Contains-head p (window at (n + 1) count))
        | inr w ↦ by (at n) (there (n + 1) count k p (omega (arith, w.1)) (omega (arith, high)) is)
      ]
    where
      by : (o : Option Packet) → Contains (window at (n + 1) count) p → Contains (joined o (window at (n + 1) count)) p
      by None h = h
      by (Some q) h = Contains-tail q (window at (n + 1) count) p h

  pub from : (n count : ℕ) (p : Packet) → Contains (window at n count) p → (at p.seq ≡ Some p) × (n ≤ p.seq) × (p.seq < n + count)
  from n zero p h = absurd (Contains-none p h)
  from n (suc count) p h = by (at n) refl (λ k. let found = from (n + 1) count p k in (found.0, omega (arith, found.1), omega (arith, found.2))) h
    where
      by : (o : Option Packet) → at n ≡ o → (Contains (window at (n + 1) count) p → (at p.seq ≡ Some p) × (n ≤ p.seq) × (p.seq < n + suc count)) → Contains (joined o (window at (n + 1) count)) p
          → (at p.seq ≡ Some p) × (n ≤ p.seq) × (p.seq < n + suc count)
      by None e further k = further k
      by (Some q) e further k =
          elim (head_or_tail q (window at (n + 1) count) p k) [
            | inl same ↦
                let is : p.seq ≡ n = ap (λ (x : Packet). x.seq) (sym same) ∙ named n q e in
                (ap at is ∙ e ∙ ap Some same, omega (arith, is), omega (arith, is))
            | inr later ↦ further later
          ]

  -- a number is among them where it has a packet
  pub number_there : (n count k : ℕ) (p : Packet) → n ≤ k → k < n + count → at k ≡ Some p → Contains (numbers (window at n count)) k
  number_there n count k p low high is = subst (Contains (numbers (window at n count))) (named k p is) (seq_in (window at n count) p (there n count k p low high is))

  pub number_from : (n count k : ℕ) → Contains (numbers (window at n count)) k → (p : Packet) × (at k ≡ Some p) × (n ≤ k) × (k < n + count)
  number_from n count k h =
      let found = packet_with (window at n count) k h in
      let p = found.0 in
      let is = from n count p found.1 in
      (p, ap at (sym found.2) ∙ is.0, omega (arith, is.1, found.2), omega (arith, is.2, found.2))

  -- ---- the first one

  no_first : (n : ℕ) (packets : List Packet) → Increases n (numbers packets) → find (λ p. p.seq == n) packets ≡ None
  no_first n [] up = refl
  no_first n (p ∷ packets) up =
      elim (eqb_tells p.seq n) [
        | inl w ↦ absurd (omega (arith, w.1, up.0))
        | inr w ↦ ap (λ b. cond b (Some p) (find (λ p. p.seq == n) packets)) w.0 ∙ no_first n packets (lower packets up.1)
      ]
    where
      lower : (ps : List Packet) → Increases p.seq (numbers ps) → Increases n (numbers ps)
      lower [] more = tt
      lower (q ∷ ps) more = (omega (arith, more.0, up.0), more.1)

  pub first_is : (n count : ℕ) → find (λ p. p.seq == n) (window at n (suc count)) ≡ at n
  first_is n count = by (at n) refl
    where
      by : (o : Option Packet) → at n ≡ o → find (λ p. p.seq == n) (joined o (window at (n + 1) count)) ≡ o
      by None e = no_first n (window at (n + 1) count) (increases n (n + 1) count (omega arith))
      by (Some p) e =
          elim (eqb_tells p.seq n) [
            | inl w ↦ ap (λ b. cond b (Some p) (find (λ q. q.seq == n) (window at (n + 1) count))) w.0
            | inr w ↦ absurd (w.1 (named n p e))
          ]

-- ---- one packet more

placed_first : (p : Packet) (packets : List Packet) → Increases p.seq (numbers packets) → placed p packets ≡ p ∷ packets
placed_first p packets up =
    ap (λ l. l ++ p ∷ filter (λ (q : Packet). ltb p.seq q.seq) packets) (below_none p.seq p.seq packets (omega arith) up) ∙ ap (λ l. p ∷ l) (above_all p.seq p.seq packets (omega arith) up)

placed_later : (p q : Packet) (packets : List Packet) → q.seq < p.seq → placed p (q ∷ packets) ≡ q ∷ placed p packets
placed_later p q packets lt =
    elim (leb_tells (suc q.seq) p.seq) [
      | inl w ↦ elim (leb_tells (suc p.seq) q.seq) [
        | inl v ↦ absurd (omega (arith, v.1, lt))
        | inr v ↦
            ap (λ b. cond b (q ∷ filter (λ (x : Packet). ltb x.seq p.seq) packets) (filter (λ (x : Packet). ltb x.seq p.seq) packets) ++ p ∷ filter (λ (x : Packet). ltb p.seq x.seq) (q ∷ packets)) w.0
            ∙ ap (λ b. q ∷ filter (λ (x : Packet). ltb x.seq p.seq) packets ++ p ∷ cond b (q ∷ filter (λ (x : Packet). ltb p.seq x.seq) packets) (filter (λ (x : Packet). ltb p.seq x.seq) packets)) v.0
      ]
      | inr w ↦ absurd (omega (arith, w.1, lt))
    ]

pub placed_window : (at now : ℕ → Option Packet) → AreNamed at → (m : ℕ) (p : Packet) → at m ≡ None → now m ≡ Some p → p.seq ≡ m → (n count : ℕ) → ((k : ℕ) → k ≢ m → n ≤ k → k < n + count → now k ≡ at k) → n ≤ m → m < n + count
    → window now n count ≡ placed p (window at n count)
placed_window at now named m p none is seq n zero same low high = absurd (omega (arith, low, high))
placed_window at now named m p none is seq n (suc count) same low high =
    elim (leb_tells m n) [
      | inl w ↦
          let here : n ≡ m = omega (arith, low, w.1) in
          ap (λ o. joined o (window now (n + 1) count)) (ap now here ∙ is)
          ∙ ap (λ l. p ∷ l) (same_window now at (n + 1) count (λ k from to. same k (λ e. omega (arith, e, from, here)) (omega (arith, from)) (omega (arith, to))))
          ∙ sym (placed_first p (window at (n + 1) count) (increases at named p.seq (n + 1) count (omega (arith, seq, here))))
          ∙ ap (λ o. placed p (joined o (window at (n + 1) count))) (sym (ap at here ∙ none))
      | inr w ↦
          ap (λ o. joined o (window now (n + 1) count)) (same n (λ e. omega (arith, e, w.1)) (omega arith) (omega arith))
          ∙ ap (joined (at n)) (placed_window at now named m p none is seq (n + 1) count (λ k apart from to. same k apart (omega (arith, from)) (omega (arith, to))) (omega (arith, w.1)) (omega (arith, high)))
          ∙ by (at n) refl w.1
    ]
  where
    by : (o : Option Packet) → at n ≡ o → n < m → joined o (placed p (window at (n + 1) count)) ≡ placed p (joined o (window at (n + 1) count))
    by None e lt = refl
    by (Some q) e lt = sym (placed_later p q (window at (n + 1) count) (let first = named n q e in omega (arith, first, seq, lt)))

-- ---- one packet less

pub window_without : (at now : ℕ → Option Packet) → AreNamed at → (m : ℕ) → now m ≡ None → (n count : ℕ) → ((k : ℕ) → k ≢ m → n ≤ k → k < n + count → now k ≡ at k)
    → window now n count ≡ filter (other m) (window at n count)
window_without at now named m none n zero same = refl
window_without at now named m none n (suc count) same =
    ap (joined (now n)) (window_without at now named m none (n + 1) count (λ k apart low high. same k apart (omega (arith, low)) (omega (arith, high)))) ∙ by (at n) refl
  where
    by : (o : Option Packet) → at n ≡ o → joined (now n) (filter (other m) (window at (n + 1) count)) ≡ filter (other m) (joined o (window at (n + 1) count))
    by None e =
        elim (eqb_tells n m) [
          | inl w ↦ ap (λ o. joined o (filter (other m) (window at (n + 1) count))) (ap now w.1 ∙ none)
          | inr w ↦ ap (λ o. joined o (filter (other m) (window at (n + 1) count))) (same n w.1 (omega arith) (omega arith) ∙ e)
        ]
    by (Some q) e =
        elim (eqb_tells n m) [
          | inl w ↦ ap (λ o. joined o (filter (other m) (window at (n + 1) count))) (ap now w.1 ∙ none) ∙ sym (stop m q (window at (n + 1) count) (named n q e ∙ w.1))
          | inr w ↦
              ap (λ o. joined o (filter (other m) (window at (n + 1) count))) (same n w.1 (omega arith) (omega arith) ∙ e)
              ∙ sym (pass m q (window at (n + 1) count) (λ is. w.1 (sym (named n q e) ∙ is)))
        ]
