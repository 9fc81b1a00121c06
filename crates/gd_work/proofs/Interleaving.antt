-- The rows let out are the rows of all senders, in some order.
use Rattle.std.proofs.Common.{◌≡◌, ℕ, zero, suc, ◌+◌, ◌<◌, ℤ, List, [], ◌∷◌, ◌++◌, length, Bool, true, false, cond, refl, ap, sym, ◌∙◌, subst, arith, inl, inr, ◌⊎◌, append_assoc, append-nil}
use Rattle.std.proofs.lemmas.List.Sorted.{IsPermutation-refl, IsPermutation-trans, IsPermutation-append_left, IsPermutation-append_right, IsPermutation-append_comm}
use Rattle.std.proofs.lemmas.List.Elements.{Contains-append_left, Contains-append_right, Contains-push}
use Rattle.std.proofs.lemmas.Bool.Decides.{Decides-int_eq}
use Rattle.std.specs.List.{AllByRecursion, IsDistinct, Contains, flat_map}
use Rattle.std.specs.List.Sorted.{IsPermutation}
use Rattle.std.specs.Ordering.{int_eq}
use Rattle.ic_base.specs.declared.datagram.Parcel.{Parcel}
use Rattle.ic_row.specs.declared.value.Value.{Value}
use Rattle.ic_chunk.specs.Assembly.{Assembles, IsStream}
use Rattle.ic_chunk.proofs.OneWay.{one_assembly}
use Rattle.gd_work.specs.Taking.{payloads_from, Completes, LetsOut, nothing, completes, spoils}
use Rattle.gd_work.specs.Laws.{Gave, LetsOutAll}
use Rattle.gd_work.proofs.Taken.{payloads-same, payloads-other, nothing_assembles}

-- ---- lists of senders

contains_head : {X : Type 0} (x : X) (xs : List X) → Contains (x ∷ xs) x
contains_head x xs = (0, omega arith, refl)

contains_tail : {X : Type 0} (y : X) (xs : List X) (x : X) → Contains xs x → Contains (y ∷ xs) x
contains_tail y xs x (k, lt, is) = (suc k, omega (arith, lt), is)

same_of : (of other : ℤ → List (List Value)) (senders : List ℤ) → ((s : ℤ) → Contains senders s → of s ≡ other s) → flat_map of senders ≡ flat_map other senders
same_of of other [] h = refl
same_of of other (s ∷ senders) h = ap (λ l. l ++ flat_map of senders) (h s (contains_head s senders)) ∙ ap (λ l. other s ++ l) (same_of of other senders (λ t in_it. h t (contains_tail s senders t in_it)))

none_of : (of : ℤ → List (List Value)) (senders : List ℤ) → ((s : ℤ) → Contains senders s → of s ≡ []) → flat_map of senders ≡ []
none_of of [] h = refl
none_of of (s ∷ senders) h = ap (λ l. l ++ flat_map of senders) (h s (contains_head s senders)) ∙ none_of of senders (λ t in_it. h t (contains_tail s senders t in_it))

-- the first isn't among the others
not_again : (s t : ℤ) (senders : List ℤ) → AllByRecursion (λ y. int_eq s y ≡ false) senders → Contains senders t → t ≡ s → ⊥
not_again s t [] h (k, lt, is) same = omega (arith, lt)
not_again s t (y ∷ senders) h (zero, lt, is) same = differ (int_eq s y) h.0 ((Decides-int_eq s y).1 (sym same ∙ sym is))
  where
    differ : (b : Bool) → b ≡ false → b ≡ true → ⊥
    differ true x z = cc
    differ false x z = cc
not_again s t (y ∷ senders) h (suc k, lt, is) same = not_again s t senders h.1 (k, omega (arith, lt), is) same

-- one of the senders gave some more
one_more : (before now : ℤ → List (List Value)) (given : List (List Value)) (who : ℤ) (senders : List ℤ) → IsDistinct int_eq senders → Contains senders who
    → now who ≡ before who ++ given → ((s : ℤ) → (s ≡ who → ⊥) → now s ≡ before s) → IsPermutation (flat_map now senders) (flat_map before senders ++ given)
unfolding IsDistinct
one_more before now given who [] distinct (k, lt, is) grown other = absurd (omega (arith, lt))
one_more before now given who (s ∷ senders) distinct (zero, lt, is) grown other =
    let rest = flat_map before senders in
    let same : flat_map now senders ≡ rest = same_of now before senders (λ t in_it. other t (λ t_is. not_again s t senders distinct.0 in_it (t_is ∙ sym is))) in
    let here : now s ≡ before s ++ given = ap now is ∙ grown ∙ ap (λ t. before t ++ given) (sym is) in
    let all : flat_map now (s ∷ senders) ≡ before s ++ (given ++ rest) = ap (λ l. l ++ flat_map now senders) here ∙ ap (λ l. (before s ++ given) ++ l) same ∙ append_assoc (before s) given rest in
    subst (λ l. IsPermutation l ((before s ++ rest) ++ given)) (sym all)
    (subst (IsPermutation (before s ++ (given ++ rest))) (sym (append_assoc (before s) rest given))
    (IsPermutation-append_right (before s) (given ++ rest) (rest ++ given) (IsPermutation-append_comm given rest)))
one_more before now given who (s ∷ senders) distinct (suc k, lt, is) grown other =
    let in_it : Contains senders who = (k, omega (arith, lt), is) in
    let same : now s ≡ before s = other s (λ s_is. not_again s who senders distinct.0 in_it (sym s_is)) in
    let rest = one_more before now given who senders distinct.1 in_it grown other in
    subst (λ l. IsPermutation (l ++ flat_map now senders) ((before s ++ flat_map before senders) ++ given)) (sym same)
    (subst (IsPermutation (before s ++ flat_map now senders)) (sym (append_assoc (before s) (flat_map before senders) given))
    (IsPermutation-append_right (before s) (flat_map now senders) (flat_map before senders ++ given) rest))

-- ---- before one more parcel

-- the rows of each sender before it
earlier : ℤ → List (List Value) → (ℤ → List (List Value)) → ℤ → List (List Value)
earlier who done of s = cond (int_eq s who) done (of s)

earlier-same : (who s : ℤ) (done : List (List Value)) (of : ℤ → List (List Value)) → s ≡ who → earlier who done of s ≡ done
unfolding earlier
earlier-same who s done of is = ap (λ b. cond b done (of s)) ((Decides-int_eq s who).1 is)

earlier-other : (who s : ℤ) (done : List (List Value)) (of : ℤ → List (List Value)) → (s ≡ who → ⊥) → earlier who done of s ≡ of s
unfolding earlier
earlier-other who s done of ne = ap (λ b. cond b done (of s)) (not_same (int_eq s who) refl)
  where
    not_same : (b : Bool) → int_eq s who ≡ b → int_eq s who ≡ false
    not_same true is = absurd (ne ((Decides-int_eq s who).0 is))
    not_same false is = is

gave_before : (before : List Parcel) (p : Parcel) (given : List (List Value)) (comp : Completes before p given) (of : ℤ → List (List Value)) (s : ℤ)
    → Gave s (before ++ p ∷ []) (of s) → Gave s before (earlier p.from comp.done of s)
gave_before before p given comp of s gave =
    elim (cases (int_eq s p.from) refl) [
      | inl is ↦
          let same = (Decides-int_eq s p.from).0 is in
          subst (Gave s before) (sym (earlier-same p.from s comp.done of same)) (subst (λ t. Gave t before comp.done) (sym same) (record { rest = comp.rest; ended = comp.ended; assemble = comp.was }))
      | inr ne ↦
          subst (Gave s before) (sym (earlier-other p.from s comp.done of ne))
          (record { rest = gave.rest; ended = gave.ended; assemble = subst (λ l. Assembles l (of s) gave.rest gave.ended) (payloads-other s before p (λ is. ne (sym is))) gave.assemble })
    ]
  where
    cases : (b : Bool) → int_eq s p.from ≡ b → (int_eq s p.from ≡ true) ⊎ (s ≡ p.from → ⊥)
    cases true is = inl is
    cases false is = inr (λ same. differ (int_eq s p.from) is ((Decides-int_eq s p.from).1 same))
      where
        differ : (b : Bool) → b ≡ false → b ≡ true → ⊥
        differ true x z = cc
        differ false x z = cc

-- what its sender gave grew by what it completes
grown : (before : List Parcel) (p : Parcel) (given : List (List Value)) (comp : Completes before p given) (of : ℤ → List (List Value)) → Gave p.from (before ++ p ∷ []) (of p.from)
    → of p.from ≡ earlier p.from comp.done of p.from ++ given
grown before p given comp of gave =
    (one_assembly (payloads_from p.from (before ++ p ∷ [])) (of p.from) (comp.done ++ given) gave.rest comp.now_rest gave.ended comp.now_ended gave.assemble comp.is).0
    ∙ ap (λ l. l ++ given) (sym (earlier-same p.from p.from comp.done of refl))

pub lets_out_all : LetsOutAll
lets_out_all parcels rows senders of nothing distinct known gave =
    subst (λ l. IsPermutation l []) (sym (none_of of senders (λ s in_it. let g = gave s in_it in (one_assembly [] (of s) [] g.rest [] g.ended false g.assemble nothing_assembles).0))) (IsPermutation-refl [])
lets_out_all parcels rows senders of (completes before p done given lets comp) distinct known gave =
    let in_it : Contains senders p.from = known p (Contains-push before p) in
    let old = earlier p.from comp.done of in
    let rest = lets_out_all before done senders old lets distinct (λ q q_in. known q (Contains-append_left before (p ∷ []) q q_in)) (λ s s_in. gave_before before p given comp of s (gave s s_in)) in
    IsPermutation-trans (flat_map of senders) (flat_map old senders ++ given) (done ++ given)
    (one_more old of given p.from senders distinct in_it (grown before p given comp of (gave p.from in_it)) (λ s ne. sym (earlier-other p.from s comp.done of ne)))
    (IsPermutation-append_left given (flat_map old senders) done rest)
lets_out_all parcels rows senders of (spoils before p done lets bad) distinct known gave =
    let g = gave p.from (known p (Contains-push before p)) in
    absurd (bad (record { rows = of p.from; rest = g.rest; ended = g.ended; assemble = g.assemble }))
