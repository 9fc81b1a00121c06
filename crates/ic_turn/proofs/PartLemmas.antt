-- Lists of parts: what one entry more does to them, and how they are given away and taken in.
use Rattle.std.proofs.Common.{◌≡◌, ◌≢◌, ℕ, zero, suc, ◌+◌, ◌<◌, ◌≤◌, eqb, List, [], ◌∷◌, ◌++◌, length, set, refl, sym, ap, ◌∙◌, subst, ⊎_elim, arith, append_assoc, append-nil, zero-add, cond, eq-eqb, ne_eqb, inl, inr, ◌⊎◌}
use mathlib.Core.Logic.{dite}
use mathlib.Core.Option.{some, some-injective, some-ne-none}
use native.Mathlib.Decide.{ℕ_discrete}
use lib.ListN.{get_elem?}
use Rattle.atomic_table.proofs.Lists.{at_set, set_here}
use Rattle.ic_turn.specs.declared.view.Placed.{Placed}
use Rattle.ic_turn.specs.declared.view.Numbered.{Numbered}
use Rattle.ic_turn.specs.declared.view.Part.{Part}
use Rattle.ic_turn.specs.Parts.{placed, numbered, part_from, part_of, blank, blank_down, Has, HasAll, Distinct, total, AreBelow, ArePartsOf}
use Rattle.ic_turn.specs.Views.{with_spares, longer, with_own, own_number}
use Rattle.ic_turn.specs.Rule.{Owns, OwnsEach}

module _ {T : Type 0} where
  pub at_inside : (l : List T) (i : ℕ) (a : T) → get_elem? l i ≡ some a → i < length l
  at_inside [] i a e = absurd (some-ne-none a (sym e))
  at_inside (x ∷ xs) zero a e = omega arith
  at_inside (x ∷ xs) (suc i) a e = let r = at_inside xs i a e in omega arith

  pub at_put : (l : List T) (i : ℕ) (a b : T) → get_elem? l i ≡ some a → get_elem? (set l i b) i ≡ some b
  at_put l i a b e = set_here l i b (at_inside l i a e)

  pub each_set : (P : ℕ → T → Type 0) (l : List T) (i : ℕ) (w : T) → P i w → ((j : ℕ) (v : T) → j ≢ i → get_elem? l j ≡ some v → P j v)
      → (j : ℕ) (v : T) → get_elem? (set l i w) j ≡ some v → P j v
  each_set P l i w mine others j v e = ⊎_elim (λ (t : (j ≡ i) × (w ≡ v)). subst (λ (x : ℕ × T). P x.0 x.1) (λ k. (sym t.0 k, t.1 k)) mine)
      (λ (t : (j ≢ i) × (get_elem? l j ≡ some v)). others j v t.0 t.1) (at_set l i j w v e)

  pub first_is : (l : List T) → 0 < length l → (a : T) × (get_elem? l 0 ≡ some a)
  first_is [] h = absurd (omega arith)
  first_is (x ∷ xs) h = (x, refl)

  -- what stands in two lists behind one another
  pub at_append : (xs ys : List T) (i : ℕ) (a : T) → get_elem? (xs ++ ys) i ≡ some a → (get_elem? xs i ≡ some a) ⊎ ((k : ℕ) × (get_elem? ys k ≡ some a))
  at_append [] ys i a e = inr (i, e)
  at_append (x ∷ xs) ys zero a e = inl e
  at_append (x ∷ xs) ys (suc i) a e = at_append xs ys i a e

  pub at_end : (xs : List T) (y a : T) (i : ℕ) → get_elem? (xs ++ y ∷ []) i ≡ some a → (get_elem? xs i ≡ some a) ⊎ ((i ≡ length xs) × (y ≡ a))
  at_end [] y a zero e = inr (refl, some-injective y a e)
  at_end [] y a (suc i) e = absurd (some-ne-none a (sym e))
  at_end (x ∷ xs) y a zero e = inl e
  at_end (x ∷ xs) y a (suc i) e = ⊎_elim (λ t. inl t) (λ t. inr (ap suc t.0, t.1)) (at_end xs y a i e)

module _ {A R : Type 0} where
  abbrev pub only_if : ℕ → ℕ → Numbered A R → List (Placed A R)
  only_if i k e = cond (eqb e.number k) (placed i e.entry.ask e.entry.reply ∷ []) []

  pub part_snoc : (i k : ℕ) (es : List (Numbered A R)) (e : Numbered A R) → part_from i k (es ++ e ∷ []) ≡ part_from i k es ++ only_if (i + length es) k e
  part_snoc i k [] e = append-nil _ ∙ ap (λ (z : ℕ). only_if z k e) (omega arith)
  part_snoc i k (x ∷ xs) e =
      let next : suc i + length xs ≡ i + length (x ∷ xs) = omega arith in
      ap (λ l. only_if i k x ++ l) (part_snoc (suc i) k xs e ∙ ap (λ (z : ℕ). part_from (suc i) k xs ++ only_if z k e) next) ∙ sym (append_assoc (only_if i k x) (part_from (suc i) k xs) (only_if (i + length (x ∷ xs)) k e))

  pub part_more : (k : ℕ) (es : List (Numbered A R)) (e : Numbered A R) → e.number ≡ k → part_of k (es ++ e ∷ []) ≡ part_of k es ++ placed (length es) e.entry.ask e.entry.reply ∷ []
  part_more k es e is = part_snoc 0 k es e ∙ (λ j. part_from 0 k es ++ cond (eq-eqb e.number k is j) (placed (zero-add (length es) j) e.entry.ask e.entry.reply ∷ []) [])

  pub part_same : (k : ℕ) (es : List (Numbered A R)) (e : Numbered A R) → e.number ≢ k → part_of k (es ++ e ∷ []) ≡ part_of k es
  part_same k es e other = part_snoc 0 k es e ∙ (ap (λ b. part_from 0 k es ++ cond b (placed (0 + length es) e.entry.ask e.entry.reply ∷ []) []) (ne_eqb e.number k other) ∙ append-nil _)

  -- parts in which the calls from the place i on are counted
  abbrev pub parts_from : ℕ → List (Numbered A R) → List (Part A R) → ℕ
  parts_from i es [] = 0
  parts_from i es (p ∷ ps) = length (part_from i p.number es) + parts_from i es ps

  pub none_counted : (i : ℕ) (ps : List (Part A R)) → parts_from i [] ps ≡ 0
  none_counted i [] = refl
  none_counted i (p ∷ ps) = zero-add (parts_from i [] ps) ∙ none_counted i ps

  pub count_other : (i : ℕ) (e : Numbered A R) (es : List (Numbered A R)) (ps : List (Part A R)) → ¬ Has e.number ps → parts_from i (e ∷ es) ps ≡ parts_from (suc i) es ps
  count_other i e es [] none_has = refl
  count_other i e es (p ∷ ps) none_has =
      let apart : e.number ≢ p.number = λ h. none_has (0, p, refl, sym h) in
      let more = count_other i e es ps (λ h. none_has (suc h.0, h.1, h.2, h.3)) in
      let one : length (part_from i p.number (e ∷ es)) ≡ length (part_from (suc i) p.number es) = ap (λ b. length (cond b (placed i e.entry.ask e.entry.reply ∷ []) [] ++ part_from (suc i) p.number es)) (ne_eqb e.number p.number apart) in
      (λ j. one j + more j)

  pub later : (p : Part A R) (ps : List (Part A R)) (k : ℕ) → k ≢ p.number → Has k (p ∷ ps) → Has k ps
  later p ps k other (zero, q, at, is) = absurd (other (sym is ∙ ap (λ (z : Part A R). z.number) (sym (some-injective p q at))))
  later p ps k other (suc i, q, at, is) = (i, q, at, is)

  pub count_one : (i : ℕ) (e : Numbered A R) (es : List (Numbered A R)) (ps : List (Part A R)) → Distinct ps → Has e.number ps → parts_from i (e ∷ es) ps ≡ suc (parts_from (suc i) es ps)
  count_one i e es [] apart has = absurd (some-ne-none has.1 (sym has.2))
  count_one i e es (p ∷ ps) apart has = dite (ℕ_discrete e.number p.number)
      (λ is.
      let one : length (part_from i p.number (e ∷ es)) ≡ suc (length (part_from (suc i) p.number es)) = ap (λ b. length (cond b (placed i e.entry.ask e.entry.reply ∷ []) [] ++ part_from (suc i) p.number es)) (eq-eqb e.number p.number is) in
      let more = count_other i e es ps (subst (λ (z : ℕ). ¬ Has z ps) (sym is) apart.0) in
      let a : ℕ = length (part_from i p.number (e ∷ es)) in
      let b : ℕ = length (part_from (suc i) p.number es) in
      let c : ℕ = parts_from i (e ∷ es) ps in
      let d : ℕ = parts_from (suc i) es ps in
      let ab : a ≡ suc b = one in
      let cd : c ≡ d = more in
      let all : a + c ≡ suc (b + d) = omega arith in
      all)
      (λ other.
      let one : length (part_from i p.number (e ∷ es)) ≡ length (part_from (suc i) p.number es) = ap (λ b. length (cond b (placed i e.entry.ask e.entry.reply ∷ []) [] ++ part_from (suc i) p.number es)) (ne_eqb e.number p.number other) in
      let more = count_one i e es ps apart.1 (later p ps e.number other has) in
      let a : ℕ = length (part_from i p.number (e ∷ es)) in
      let b : ℕ = length (part_from (suc i) p.number es) in
      let c : ℕ = parts_from i (e ∷ es) ps in
      let d : ℕ = parts_from (suc i) es ps in
      let ab : a ≡ b = one in
      let cd : c ≡ suc d = more in
      let all : a + c ≡ suc (b + d) = omega arith in
      all)

  pub counts : (i passes : ℕ) (es : List (Numbered A R)) (ps : List (Part A R)) → Distinct ps → HasAll passes ps → AreBelow passes es → parts_from i es ps ≡ length es
  counts i passes [] ps apart all low = none_counted i ps
  counts i passes (e ∷ es) ps apart all low = count_one i e es ps apart (all e.number (low 0 e refl)) ∙ ap suc (counts (suc i) passes es ps apart all (λ k z at. low (suc k) z at))

  pub same_total : (log : List (Numbered A R)) (ps : List (Part A R)) → ArePartsOf log ps → total ps ≡ parts_from 0 log ps
  same_total log [] fits = refl
  same_total log (p ∷ ps) fits = let a = ap length (fits 0 p refl) in let b = same_total log ps (λ i q at. fits (suc i) q at) in (λ j. a j + b j)

  pub total_is : (passes : ℕ) (log : List (Numbered A R)) (ps : List (Part A R)) → Distinct ps → HasAll passes ps → AreBelow passes log → ArePartsOf log ps → total ps ≡ length log
  total_is passes log ps apart all low fits = same_total log ps fits ∙ counts 0 passes log ps apart all low

  pub below_more : (n : ℕ) (es : List (Numbered A R)) (e : Numbered A R) → AreBelow n es → e.number < n → AreBelow n (es ++ e ∷ [])
  below_more n es e all low i z at = ⊎_elim (λ t. all i z t) (λ t. subst (λ (q : Numbered A R). q.number < n) t.1 low) (at_end es e z i at)

  -- a call more in the first part
  pub held_longer : (c : Placed A R) (n : ℕ) (ps : List (Part A R)) → with_spares n (with_own c ps) ≡ with_own c (with_spares n ps)
  held_longer c n [] = refl
  held_longer c n (p ∷ ps) = refl

  pub distinct_longer : (c : Placed A R) (ps : List (Part A R)) → Distinct ps → Distinct (with_own c ps)
  distinct_longer c [] d = d
  distinct_longer c (p ∷ ps) d = d

  pub held_some : (n : ℕ) (ps : List (Part A R)) → 0 < length ps → 0 < length (with_spares n ps)
  held_some n [] h = absurd (omega arith)
  held_some n (p ∷ ps) h = omega arith

  pub own_held : (n : ℕ) (ps : List (Part A R)) → own_number (with_spares n ps) ≡ own_number ps
  own_held n [] = refl
  own_held n (p ∷ ps) = refl

  pub own_is : (ps : List (Part A R)) (p : Part A R) → get_elem? ps 0 ≡ some p → own_number ps ≡ p.number
  own_is [] p e = absurd (some-ne-none p (sym e))
  own_is (q ∷ ps) p e = ap (λ (z : Part A R). z.number) (some-injective q p e)

  pub own_more : (c : Placed A R) (ps : List (Part A R)) → 0 < length ps → 0 < length (with_own c ps)
  own_more c [] h = absurd (omega arith)
  own_more c (p ∷ ps) h = omega arith

  pub held_join : (n : ℕ) (ps qs : List (Part A R)) → 0 < length ps → with_spares n (ps ++ qs) ≡ with_spares n ps ++ qs
  held_join n [] qs h = absurd (omega arith)
  held_join n (p ∷ ps) qs h = ap (λ l. p ∷ l) (sym (append_assoc (blank_down n) ps qs))

  pub distinct_append : (ps qs : List (Part A R)) → Distinct ps → Distinct qs → ((k : ℕ) → Has k ps → Has k qs → ⊥) → Distinct (ps ++ qs)
  distinct_append [] qs d e apart = e
  distinct_append (p ∷ ps) qs d e apart = (
    (λ h. ⊎_elim (λ t. d.0 (h.0, h.1, t, h.3)) (λ t. apart p.number (0, p, refl, refl) (t.0, h.1, t.1, h.3)) (at_append ps qs h.0 h.1 h.2)),
    distinct_append ps qs d.1 e (λ k a b. apart k (suc a.0, a.1, a.2, a.3) b),
  )

  pub own_longer : (passes : ℕ) (log : List (Numbered A R)) (owner : ℕ → ℕ) (id : ℕ) (ps : List (Part A R)) (a : A) (r : R) → OwnsEach passes log owner id ps → Distinct ps
      → OwnsEach passes (log ++ numbered (own_number ps) a r ∷ []) owner id (with_own (placed (length log) a r) ps)
  own_longer passes log owner id [] a r each apart i q at = absurd (some-ne-none q (sym at))
  own_longer passes log owner id (p ∷ ps) a r each apart zero q at =
      let was = each zero p refl in
      subst (Owns passes (log ++ numbered p.number a r ∷ []) owner id) (some-injective (longer (placed (length log) a r) p) q at)
      (was.0, was.1, ap (λ l. l ++ placed (length log) a r ∷ []) was.2 ∙ sym (part_more p.number log (numbered p.number a r) refl))
  own_longer passes log owner id (p ∷ ps) a r each apart (suc i) q at =
      let was = each (suc i) q at in
      (was.0, was.1, was.2 ∙ sym (part_same q.number log (numbered p.number a r) (λ e. apart.0 (i, q, at, sym e))))

  pub others_own : (passes : ℕ) (log : List (Numbered A R)) (owner : ℕ → ℕ) (id j : ℕ) (ps : List (Part A R)) (e : Numbered A R) → owner e.number ≡ id → j ≢ id → OwnsEach passes log owner j ps → OwnsEach passes (log ++ e ∷ []) owner j ps
  others_own passes log owner id j ps e mine other each i q at =
      let was = each i q at in
      (was.0, was.1, was.2 ∙ sym (part_same q.number log e (λ h. other (sym was.1 ∙ (ap owner (sym h) ∙ mine)))))

-- the number k goes to the seat j
abbrev pub handed : (ℕ → ℕ) → ℕ → ℕ → ℕ → ℕ
handed owner k j z = cond (eqb z k) j (owner z)

pub handed_here : (owner : ℕ → ℕ) (k j : ℕ) → handed owner k j k ≡ j
handed_here owner k j = ap (λ b. cond b j (owner k)) (eq-eqb k k refl)

pub handed_else : (owner : ℕ → ℕ) (k j z : ℕ) → z ≢ k → handed owner k j z ≡ owner z
handed_else owner k j z other = ap (λ b. cond b j (owner z)) (ne_eqb z k other)

-- all of the seat k goes to the seat j
abbrev pub merged : (ℕ → ℕ) → ℕ → ℕ → ℕ → ℕ
merged owner k j z = cond (eqb (owner z) k) j (owner z)

module _ {A R : Type 0} where
  pub blank_at : (n i : ℕ) (p : Part A R) → get_elem? (blank_down n) i ≡ some p → (p.number ≤ n) × (0 < p.number) × (p.entries ≡ [])
  blank_at zero i p e = absurd (some-ne-none p (sym e))
  blank_at (suc n) zero p e =
      let is : suc n ≡ p.number = ap (λ (z : Part A R). z.number) (some-injective (blank (suc n)) p e) in
      (omega arith, omega arith, sym (ap (λ (z : Part A R). z.entries) (some-injective (blank (suc n)) p e)))
  blank_at (suc n) (suc i) p e = let r = blank_at n i p e in let a = r.0 in (omega arith, r.1, r.2)

  module _ (passes : ℕ) (log : List (Numbered A R)) (owner : ℕ → ℕ) where
    pub giver_each : (id end n : ℕ) (p : Part A R) (ps : List (Part A R)) → OwnsEach passes log owner id (with_spares (suc n) (p ∷ ps)) → Distinct (with_spares (suc n) (p ∷ ps))
        → OwnsEach passes log (handed owner (suc n) end) id (with_spares n (p ∷ ps))
    giver_each id end n p ps each d zero q at =
        let was = each zero q at in
        let is = some-injective p q at in
        let apart : q.number ≢ suc n = λ e. d.0 (0, blank (suc n), refl, sym e ∙ ap (λ (z : Part A R). z.number) (sym is)) in
        (was.0, handed_else owner (suc n) end q.number apart ∙ was.1, was.2)
    giver_each id end n p ps each d (suc i) q at =
        let was = each (suc (suc i)) q at in
        let apart : q.number ≢ suc n = λ e. d.1.0 (i, q, at, e) in
        (was.0, handed_else owner (suc n) end q.number apart ∙ was.1, was.2)

    pub giver_parts : (id end n : ℕ) (ps : List (Part A R)) → 0 < length ps → OwnsEach passes log owner id (with_spares (suc n) ps) → Distinct (with_spares (suc n) ps)
        → OwnsEach passes log (handed owner (suc n) end) id (with_spares n ps) × Distinct (with_spares n ps)
    giver_parts id end n [] h each d = absurd (omega arith)
    giver_parts id end n (p ∷ ps) h each d = (giver_each id end n p ps each d, ((λ h. d.0 (suc h.0, h.1, h.2, h.3)), d.1.1))

    pub spare_owned : (id n : ℕ) (ps : List (Part A R)) → 0 < length ps → OwnsEach passes log owner id (with_spares (suc n) ps) → Owns passes log owner id (blank (suc n))
    spare_owned id n [] h each = absurd (omega arith)
    spare_owned id n (p ∷ ps) h each = each 1 (blank (suc n)) refl

    pub given_parts : (id end n : ℕ) → Owns passes log owner id (blank (suc n)) → OwnsEach passes log (handed owner (suc n) end) end (blank (suc n) ∷ [])
    given_parts id end n was zero q at = subst (Owns passes log (handed owner (suc n) end) end) (some-injective (blank (suc n)) q at) (was.0, handed_here owner (suc n) end, was.2)
    given_parts id end n was (suc i) q at = absurd (some-ne-none q (sym at))

    pub else_parts : (id end j n : ℕ) (ps : List (Part A R)) → j ≢ id → owner (suc n) ≡ id → OwnsEach passes log owner j ps → OwnsEach passes log (handed owner (suc n) end) j ps
    else_parts id end j n ps other mine each i q at =
        let was = each i q at in
        (was.0, handed_else owner (suc n) end q.number (λ e. other (sym was.1 ∙ (ap owner e ∙ mine))) ∙ was.1, was.2)

    pub unmerged : (id other j : ℕ) (ps : List (Part A R)) → j ≢ other → OwnsEach passes log owner j ps → OwnsEach passes log (merged owner other id) j ps
    unmerged id other j ps apart each i q at =
        let was = each i q at in
        (was.0, ap (λ b. cond b id (owner q.number)) (ne_eqb (owner q.number) other (λ e. apart (sym was.1 ∙ e))) ∙ was.1, was.2)

    pub merged_in : (id other : ℕ) (qs : List (Part A R)) → OwnsEach passes log owner other qs → OwnsEach passes log (merged owner other id) id qs
    merged_in id other qs each i q at =
        let was = each i q at in
        (was.0, ap (λ b. cond b id (owner q.number)) (eq-eqb (owner q.number) other was.1), was.2)

    pub both_parts : (id other : ℕ) (ps qs : List (Part A R)) → id ≢ other → OwnsEach passes log owner id ps → Distinct ps → OwnsEach passes log owner other qs → Distinct qs
        → OwnsEach passes log (merged owner other id) id (ps ++ qs) × Distinct (ps ++ qs)
    both_parts id other ps qs apart mine d theirs e = (
      (λ i q at. ⊎_elim (λ t. unmerged id other id ps apart mine i q t) (λ t. merged_in id other qs theirs t.0 q t.1) (at_append ps qs i q at)),
      distinct_append ps qs d e (λ k a b.
          let x = mine a.0 a.1 a.2 in
          let y = theirs b.0 b.1 b.2 in
          apart (sym x.1 ∙ (ap owner (a.3 ∙ sym b.3) ∙ y.1))),
    )

pub blank_distinct : (A R : Type 0) (n : ℕ) → Distinct (blank_down {A = A} {R = R} n)
blank_distinct A R zero = tt
blank_distinct A R (suc n) = ((λ h. let b = blank_at n h.0 h.1 h.2 in let le = b.0 in let is = h.3 in absurd (omega arith)), blank_distinct A R n)
