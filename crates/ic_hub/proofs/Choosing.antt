-- Which of several receivers comes first in cyclic order.
use Rattle.std.proofs.Common.{◌≡◌, ℕ, ◌+◌, ◌<◌, ℤ, negsuc, pos, ◌+ℤ◌, List, [], ◌∷◌, ◌++◌, length, take, Option, Some, None, refl, ap, sym, ◌∙◌, subst, arith, inl, inr, ◌⊎◌, slice_get, get_or}
use Rattle.std.specs.Prelude.{◌≤ℤ◌, ◌<ℤ◌}
use Rattle.std.specs.List.{Contains}
use Rattle.std.proofs.lemmas.Int.{ints, by_lt_z}
use Rattle.std.proofs.lemmas.List.{take_more}
use Rattle.std.proofs.lemmas.List.Elements.{Contains-append_left, Contains-push, Contains-push_cases}
use Rattle.ic_header.specs.Packets.{IsSegment}
use Rattle.ic_law.specs.Arriving.{ComesBefore}
use Rattle.ic_receiver.specs.Receiving.{Receiving, IsReady}
use Rattle.ic_receiver.specs.Standing.{NotReady}
use Rattle.ic_hub.specs.declared.take.Ranked.{Ranked}
use Rattle.ic_hub.specs.Taking.{rank_of, NobodyReady, ComesFirst, Finds, IsFirstOf, StillNot, StaysFirst, BecomesFirst}

-- ---- ranks

least_itself : (a : ℤ) → a ≤ℤ a
least_itself a = omega (arith, ints)

le_then : (a b c : ℤ) → a ≤ℤ b → b ≤ℤ c → a ≤ℤ c
le_then a b c h k = omega (arith, ints)

behind : (last from : ℤ) → last <ℤ from → rank_of (Some last) from ≡ from +ℤ negsuc 64
behind last from h = grind (arith, ints)

before : (last from : ℤ) → from ≤ℤ last → rank_of (Some last) from ≡ from
before last from h = grind (arith, ints)

same_or_less : (a b : ℤ) → a ≤ℤ b → (a ≡ b) ⊎ (a <ℤ b)
same_or_less a b h = by_lt_z a b (λ less. inr less) (λ other. inl (omega (arith, ints)))

both_behind : (a b : ℤ) → (a +ℤ negsuc 64) ≤ℤ (b +ℤ negsuc 64) → a ≤ℤ b
both_behind a b h = omega (arith, ints)

never_before : (a b : ℤ) → IsSegment a → IsSegment b → a ≤ℤ (b +ℤ negsuc 64) → ⊥
never_before a b sa sb h = let least : negsuc 0 ≤ℤ a = sa.0 in let most : b ≤ℤ pos 63 = sb.1 in omega (arith, ints)

-- who has the lesser rank comes before, and one rank is of one segment
pub rank_first : (last : Option ℤ) (a b : ℤ) → IsSegment a → IsSegment b → rank_of last a ≤ℤ rank_of last b → (a ≡ b) ⊎ ComesBefore last a b
rank_first None a b sa sb h = same_or_less a b h
rank_first (Some last) a b sa sb h = by_lt_z last a
    (λ a_behind. by_lt_z last b
    (λ b_behind. elim (same_or_less a b (both_behind a b (subst (λ x. x ≤ℤ (b +ℤ negsuc 64)) (behind last a a_behind) (subst (λ x. rank_of (Some last) a ≤ℤ x) (behind last b b_behind) h)))) [
      | inl same ↦ inl same
      | inr less ↦ inr (inl (a_behind, inr less))
    ])
    (λ b_before. inr (inl (a_behind, inl b_before))))
    (λ a_before. by_lt_z last b
    (λ b_behind. absurd (never_before a b sa sb (subst (λ x. x ≤ℤ (b +ℤ negsuc 64)) (before last a a_before) (subst (λ x. rank_of (Some last) a ≤ℤ x) (behind last b b_behind) h))))
    (λ b_before. elim (same_or_less a b (subst (λ x. x ≤ℤ b) (before last a a_before) (subst (λ x. rank_of (Some last) a ≤ℤ x) (before last b b_before) h))) [
      | inl same ↦ inl same
      | inr less ↦ inr (inr (a_before, b_before, less))
    ]))

-- ---- one more place

pub is_it : (receivers : List Receiving) (place other : ℕ) (r x : Receiving) → slice_get receivers place ≡ Some r → place ≡ other → slice_get receivers other ≡ Some x → r ≡ x
is_it receivers place other r x here same at = let both : Some r ≡ Some x = sym here ∙ ap (λ n. slice_get receivers n) same ∙ at in cc

nobody_more : (receivers : List Receiving) (places : List ℕ) (place : ℕ) (r : Receiving) → slice_get receivers place ≡ Some r → NotReady r → NobodyReady receivers places → NobodyReady receivers (places ++ place ∷ [])
nobody_more receivers places place r here not_ready nobody = λ p x among at. elim (Contains-push_cases places place p among) [
  | inl there ↦ nobody p x there at
  | inr same ↦ subst NotReady (is_it receivers place p r x here same at) not_ready
]

first_more : (receivers : List Receiving) (places : List ℕ) (last : Option ℤ) (place p : ℕ) (rank : ℤ) (r : Receiving) → slice_get receivers place ≡ Some r → NotReady r ⊎ (rank ≤ℤ rank_of last r.end.key.from) → ComesFirst receivers places last p rank
    → ComesFirst receivers (places ++ place ∷ []) last p rank
first_more receivers places last place p rank r here later first =
    record {
      among = Contains-append_left places (place ∷ []) p first.among;
      receiver = first.receiver;
      here = first.here;
      ready = first.ready;
      rank_is = first.rank_is;
      first = λ other x among at. elim (Contains-push_cases places place other among) [
        | inl there ↦ first.first other x there at
        | inr same ↦ subst (λ (y : Receiving). NotReady y ⊎ (rank ≤ℤ rank_of last y.end.key.from)) (is_it receivers place other r x here same at) later
      ];
    }

first_now : (receivers : List Receiving) (places : List ℕ) (last : Option ℤ) (first : Option Ranked) (place : ℕ) (r : Receiving) → slice_get receivers place ≡ Some r → IsReady r
    → ((found : Ranked) → first ≡ Some found → rank_of last r.end.key.from ≤ℤ found.rank) → Finds receivers places last first → ComesFirst receivers (places ++ place ∷ []) last place (rank_of last r.end.key.from)
first_now receivers places last first place r here ready least found =
    record {
      among = Contains-push places place;
      receiver = r;
      here = here;
      ready = ready;
      rank_is = refl;
      first = λ other x among at. elim (Contains-push_cases places place other among) [
        | inl there ↦ by first found least other x there at
        | inr same ↦ inr (subst (λ (y : Receiving). rank_of last r.end.key.from ≤ℤ rank_of last y.end.key.from) (is_it receivers place other r x here same at) (least_itself (rank_of last r.end.key.from)))
      ];
    }
  where
    by : (f : Option Ranked) → Finds receivers places last f → ((g : Ranked) → f ≡ Some g → rank_of last r.end.key.from ≤ℤ g.rank) → (other : ℕ) (x : Receiving) → Contains places other → slice_get receivers other ≡ Some x
        → NotReady x ⊎ (rank_of last r.end.key.from ≤ℤ rank_of last x.end.key.from)
    by None nobody below other x there at = inl (nobody other x there at)
    by (Some g) leads below other x there at = elim (leads.first other x there at) [
      | inl not_ready ↦ inl not_ready
      | inr le ↦ inr (le_then (rank_of last r.end.key.from) g.rank (rank_of last x.end.key.from) (below g refl) le)
    ]

pub found_more : (receivers : List Receiving) (places : List ℕ) (last : Option ℤ) (first result : Option Ranked) (place : ℕ) (r : Receiving) → slice_get receivers place ≡ Some r → IsFirstOf first r place last result → Finds receivers places last first
    → Finds receivers (places ++ place ∷ []) last result
found_more receivers places last first result place r here (StillNot not_ready is) found = subst (Finds receivers (places ++ place ∷ []) last) (sym is) (by first found)
  where
    by : (f : Option Ranked) → Finds receivers places last f → Finds receivers (places ++ place ∷ []) last f
    by None nobody = nobody_more receivers places place r here not_ready nobody
    by (Some g) leads = first_more receivers places last place g.place g.rank r here (inl not_ready) leads
found_more receivers places last first result place r here (StaysFirst one was le is) found =
    subst (Finds receivers (places ++ place ∷ []) last) (sym (is ∙ was)) (first_more receivers places last place one.place one.rank r here (inr le) (subst (Finds receivers places last) was found))
found_more receivers places last first result place r here (BecomesFirst ready least now at rank is) found =
    subst (Finds receivers (places ++ place ∷ []) last) (sym is)
    (subst (λ n. ComesFirst receivers (places ++ place ∷ []) last n now.rank) (sym at) (subst (λ n. ComesFirst receivers (places ++ place ∷ []) last place n) (sym rank) (first_now receivers places last first place r here ready least found)))

-- ---- a walk over places

-- what was found of the places so far, with the next
pub found_next : (receivers : List Receiving) (places : List ℕ) (i : ℕ) (last : Option ℤ) (first result : Option Ranked) (r : Receiving) → i < length places → slice_get receivers (get_or places i 0) ≡ Some r → IsFirstOf first r (get_or places i 0) last result
    → Finds receivers (take i places) last first → Finds receivers (take (i + 1) places) last result
found_next receivers places i last first result r within here is found =
    subst (λ xs. Finds receivers xs last result) (sym (take_more places i 0 within)) (found_more receivers (take i places) last first result (get_or places i 0) r here is found)

-- a place among the first ones and the next
pub next_cases : (places : List ℕ) (i place : ℕ) → i < length places → Contains (take (i + 1) places) place → Contains (take i places) place ⊎ (get_or places i 0 ≡ place)
next_cases places i place within among = Contains-push_cases (take i places) (get_or places i 0) place (subst (λ xs. Contains xs place) (take_more places i 0 within) among)
