-- Passes that asked beside each other come back, and hold all numbers again.
use Rattle.std.proofs.Common.{◌≡◌, ℕ, zero, suc, ◌+◌, ◌-◌, ◌*◌, ◌^◌, ◌≤◌, List, [], ◌∷◌, ◌++◌, map, length, refl, ap, sym, ◌∙◌, subst, arith, append_assoc, length-append, append-nil}
use mathlib.Core.Option.{some, some-injective, some-ne-none}
use lib.ListN.{get_elem?}
use Rattle.ic_turn.specs.declared.view.Placed.{Placed}
use Rattle.ic_turn.specs.declared.view.Numbered.{Numbered}
use Rattle.ic_turn.specs.declared.view.Part.{Part}
use Rattle.ic_turn.specs.Parts.{placed, entries_by, Has, HasAll, total, ArePartsOf}
use Rattle.ic_turn.specs.Passes.{Turning, Passing, held, HoldsAll, Adds, Waits, Grows, opening_pass, giver, given, joined_with}
use Rattle.ic_turn.specs.Many.{HaveBoth, HaveAll}

module _ {A R : Type 0} where
  abbrev numbers : List (Part A R) → List ℕ
  numbers ps = map (λ (p : Part A R). p.number) ps

  has_number : (ps : List (Part A R)) (i k : ℕ) → get_elem? (numbers ps) i ≡ some k → Has k ps
  has_number [] i k at = absurd (some-ne-none k (sym at))
  has_number (p ∷ ps) zero k at = (0, p, refl, some-injective p.number k at)
  has_number (p ∷ ps) (suc i) k at = let h = has_number ps i k at in (suc h.0, h.1, h.2, h.3)

  has_one : (ps : List (Part A R)) → numbers ps ≡ 0 ∷ [] → HasAll 1 ps
  has_one ps is zero lt = has_number ps 0 0 (ap (λ l. get_elem? l 0) is)
  has_one ps is (suc k) lt = absurd (omega (arith, lt))

  has_two : (ps : List (Part A R)) → numbers ps ≡ 0 ∷ 1 ∷ [] → HasAll 2 ps
  has_two ps is zero lt = has_number ps 0 0 (ap (λ l. get_elem? l 0) is)
  has_two ps is (suc zero) lt = has_number ps 1 1 (ap (λ l. get_elem? l 1) is)
  has_two ps is (suc (suc k)) lt = absurd (omega (arith, lt))

  has_four : (ps : List (Part A R)) → numbers ps ≡ 0 ∷ 1 ∷ 2 ∷ 3 ∷ [] → HasAll 4 ps
  has_four ps is zero lt = has_number ps 0 0 (ap (λ l. get_elem? l 0) is)
  has_four ps is (suc zero) lt = has_number ps 1 1 (ap (λ l. get_elem? l 1) is)
  has_four ps is (suc (suc zero)) lt = has_number ps 2 2 (ap (λ l. get_elem? l 2) is)
  has_four ps is (suc (suc (suc zero))) lt = has_number ps 3 3 (ap (λ l. get_elem? l 3) is)
  has_four ps is (suc (suc (suc (suc k)))) lt = absurd (omega (arith, lt))

  -- what the list has of a number
  pub entries_are : (list : List (Numbered A R)) (ps : List (Part A R)) (i : ℕ) (p : Part A R) → ArePartsOf list ps → get_elem? ps i ≡ some p → entries_by p.number list ≡ map (λ (c : Placed A R). c.entry) p.entries
  entries_are list ps i p parts at = ap (λ l. map (λ (c : Placed A R). c.entry) l) (sym (parts i p at))

module _ {A R K : Type 0} where
  abbrev pub own : ℕ → Turning K → List (Placed A R) → ℕ → Passing A R K
  own number turn mine met = record { turn = turn; number = number; spare = 0; mine = mine; met = met; joined = [] }

  -- the passes of a turn, cut off one after another
  pub opening_is : (turn : Turning K) (p : Passing A R K) (n : ℕ) → turn.passes ≡ n → p ≡ opening_pass turn → p ≡ record (own 0 turn [] 0) { spare = n - 1 }
  opening_is turn p n passes is = is ∙ (λ j. record (own 0 turn [] 0) { spare = passes j - 1 })

  pub giver_is : (turn : Turning K) (p q : Passing A R K) (n : ℕ) → p ≡ record (own 0 turn [] 0) { spare = n } → q ≡ giver p → q ≡ record (own 0 turn [] 0) { spare = n - 1 }
  giver_is turn p q n was is = is ∙ ap giver was

  pub given_is : (turn : Turning K) (p q : Passing A R K) (n : ℕ) → p ≡ record (own 0 turn [] 0) { spare = n } → q ≡ given p → q ≡ own n turn [] 0
  given_is turn p q n was is = is ∙ ap given was

  pub asked : (number : ℕ) (turn : Turning K) (mine : List (Placed A R)) (met : ℕ) (p q : Passing A R K) (a : A) (r : R) → p ≡ own number turn mine met → (w : Adds p a r q) → q ≡ own number turn (mine ++ placed w.0 a r ∷ []) met
  asked number turn mine met p q a r is w = w.1 ∙ (λ j. record (is j) { mine = (is j).mine ++ placed w.0 a r ∷ [] })

  pub entries_own : (list : List (Numbered A R)) (q : Passing A R K) (turn : Turning K) (mine : List (Placed A R)) (met : ℕ) → q ≡ own 0 turn mine met → ArePartsOf list (held q) → entries_by 0 list ≡ map (λ (c : Placed A R). c.entry) mine
  entries_own list q turn mine met is parts = entries_are list (held (own 0 turn mine met)) 0 (record { number = 0; entries = mine }) (subst (λ p. ArePartsOf list (held p)) is parts) refl

  pub entries_both : (list : List (Numbered A R)) (q : Passing A R K) (turn : Turning K) (first second : List (Placed A R)) (met met' : ℕ) → q ≡ joined_with (own 0 turn first met) (own 1 turn second met') → ArePartsOf list (held q)
      → (entries_by 0 list ≡ map (λ (c : Placed A R). c.entry) first) × (entries_by 1 list ≡ map (λ (c : Placed A R). c.entry) second)
  entries_both list q turn first second met met' is parts =
      let both : Passing A R K = joined_with (own 0 turn first met) (own 1 turn second met') in
      let there = subst (λ p. ArePartsOf list (held p)) is parts in
      (entries_are list (held both) 0 (record { number = 0; entries = first }) there refl, entries_are list (held both) 1 (record { number = 1; entries = second }) there refl)

  pub one_holds : (p : Passing A R K) (turn : Turning K) (mine : List (Placed A R)) (met : ℕ) → turn.passes ≡ 1 → p ≡ own 0 turn mine met → HoldsAll p
  one_holds p turn mine met passes is = subst HoldsAll (sym is) (subst (λ n. HasAll n (held (own 0 turn mine met))) (sym passes) (has_one (held (own 0 turn mine met)) refl))

  pub one_isnt_met : (p : Passing A R K) (turn : Turning K) → turn.passes ≡ 1 → p ≡ own 0 turn [] 0 → (HoldsAll p → 2 ^ 64 - 1 ≤ total (held p)) → ⊥
  one_isnt_met p turn passes is much =
      let none : total (held p) ≡ 0 = ap (λ q. total (held q)) is in
      let many = much (one_holds p turn [] 0 passes is) in
      omega (arith, none, many)

  pub two_hold : (p : Passing A R K) (turn : Turning K) (first second : List (Placed A R)) (met met' : ℕ) → turn.passes ≡ 2 → p ≡ joined_with (own 0 turn first met) (own 1 turn second met') → HoldsAll p
  two_hold p turn first second met met' passes is =
      let both : Passing A R K = joined_with (own 0 turn first met) (own 1 turn second met') in
      subst HoldsAll (sym is) (subst (λ n. HasAll n (held both)) (sym passes) (has_two (held both) refl))

  -- two passes that asked once and twice, as one
  pub two_back : (turn : Turning K) (pass first second first' second' second'' all : Passing A R K) (a b c : A) (x y z : R) → turn.passes ≡ 2 → pass ≡ opening_pass turn → first ≡ giver pass → second ≡ given pass
      → (u : Adds first a x first') → (v : Adds second b y second') → (w : Adds second' c z second'') → all ≡ joined_with first' second''
      → all ≡ joined_with (own 0 turn (placed u.0 a x ∷ []) 0) (own 1 turn (placed v.0 b y ∷ placed w.0 c z ∷ []) 0)
  two_back turn pass first second first' second' second'' all a b c x y z passes is f s u v w joins =
      let p = opening_is turn pass 2 passes is in
      let first_is = asked 0 turn [] 0 first first' a x (giver_is turn pass first 1 p f) u in
      let second_is = asked 1 turn [] 0 second second' b y (given_is turn pass second 1 p s) v in
      let then_is = asked 1 turn (placed v.0 b y ∷ []) 0 second' second'' c z second_is w in
      joins ∙ (λ j. joined_with (first_is j) (then_is j))

  pub grows_none : (p : Passing A R K) → Grows 0 p p
  grows_none p = ([], refl, (λ j. record p { mine = sym (append-nil p.mine) j }))

  pub grows_more : (n : ℕ) (p q r : Passing A R K) (a : A) (reply : R) → Grows n p q → Waits q a reply r → Grows (n + 1) p r
  grows_more n p q r a reply g w =
      let c : Placed A R = placed w.0 a reply in
      let adds : q.mine ≡ p.mine ++ g.0 = ap (λ z. z.mine) g.2 in
      let met : q.met + w.1 ≡ r.met = sym (ap (λ z. z.met) w.2) in
      let mine : q.mine ++ c ∷ [] ≡ p.mine ++ (g.0 ++ c ∷ []) = ap (λ l. l ++ c ∷ []) adds ∙ append_assoc p.mine g.0 (c ∷ []) in (
        g.0 ++ c ∷ [],
        length-append g.0 (c ∷ []) ∙ ap (λ (z : ℕ). z + 1) g.1,
        w.2 ∙ (λ j. record (g.2 j) { mine = mine j; met = met j }),
      )

  pub four_hold : (turn : Turning K) (n : ℕ) (a b c d ab cd all : Passing A R K) → turn.passes ≡ 4
      → a ≡ own 0 turn [] 0 → b ≡ own 1 turn [] 0 → c ≡ own 2 turn [] 0 → d ≡ own 3 turn [] 0
      → HaveBoth n a b ab → HaveBoth n c d cd → all ≡ joined_with ab cd
      → HoldsAll all × (total (held all) ≡ 4 * n)
  four_hold turn n a b c d ab cd all passes at_a at_b at_c at_d l r is =
      let first : l.0 ≡ own 0 turn l.2.0 l.0.met = l.2.2 ∙ (λ j. record (at_a j) { mine = (at_a j).mine ++ l.2.0; met = l.0.met }) in
      let second : l.1 ≡ own 1 turn l.3.0 l.1.met = l.3.2 ∙ (λ j. record (at_b j) { mine = (at_b j).mine ++ l.3.0; met = l.1.met }) in
      let third : r.0 ≡ own 2 turn r.2.0 r.0.met = r.2.2 ∙ (λ j. record (at_c j) { mine = (at_c j).mine ++ r.2.0; met = r.0.met }) in
      let fourth : r.1 ≡ own 3 turn r.3.0 r.1.met = r.3.2 ∙ (λ j. record (at_d j) { mine = (at_d j).mine ++ r.3.0; met = r.1.met }) in
      let whole : Passing A R K = joined_with (joined_with (own 0 turn l.2.0 l.0.met) (own 1 turn l.3.0 l.1.met)) (joined_with (own 2 turn r.2.0 r.0.met) (own 3 turn r.3.0 r.1.met)) in
      let same : all ≡ whole = is ∙ (λ j. joined_with (l.4 j) (r.4 j)) ∙ (λ j. joined_with (joined_with (first j) (second j)) (joined_with (third j) (fourth j))) in
      let x : ℕ = length l.2.0 in
      let y : ℕ = length l.3.0 in
      let z : ℕ = length r.2.0 in
      let w : ℕ = length r.3.0 in
      let xs : x ≡ n = l.2.1 in
      let ys : y ≡ n = l.3.1 in
      let zs : z ≡ n = r.2.1 in
      let ws : w ≡ n = r.3.1 in
      let sums : x + (y + (z + (w + 0))) ≡ 4 * n = omega arith in (
        subst HoldsAll (sym same) (subst (λ k. HasAll k (held whole)) (sym passes) (has_four (held whole) refl)),
        ap (λ p. total (held p)) same ∙ sums,
      )

  -- four passes that asked beside each other, as one
  pub four_back : (turn : Turning K) (n : ℕ) (pass a b c d all : Passing A R K) → turn.passes ≡ 4 → pass ≡ opening_pass turn
      → (a ≡ giver (giver (giver pass))) × (b ≡ given (giver (giver pass))) → (c ≡ given (giver pass)) × (d ≡ given pass) → HaveAll n (a, b) (c, d) all → HoldsAll all × (total (held all) ≡ 4 * n)
  four_back turn n pass a b c d all passes is ab cd h =
      let p = opening_is turn pass 4 passes is in
      four_hold turn n a b c d h.0 h.1 all passes (ab.0 ∙ ap (λ z. giver (giver (giver z))) p) (ab.1 ∙ ap (λ z. given (giver (giver z))) p) (cd.0 ∙ ap (λ z. given (giver z)) p) (cd.1 ∙ ap given p) h.2 h.3 h.4
