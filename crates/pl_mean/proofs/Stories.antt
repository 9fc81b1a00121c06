-- The worked plans, by computation.
use Rattle.std.proofs.Common.{◌≡◌, ℕ, ◌∙◌, zero, suc, ◌<◌, ◌+◌, true, false, cond, List, [], ◌∷◌, refl, ap, arith}
use Rattle.std.specs.List.{AllByRecursion, fold}
use Rattle.std.proofs.lemmas.List.Sorted.{sum_by-IsPermutation}
use Rattle.ic_row.specs.Order.{compare_by, IsSortedBy}
use Rattle.ic_row.specs.Hash.{segment_for, basis, hash_step}
use Rattle.ic_row.specs.Spelling.{int_spelling}
use Rattle.pl_ops.specs.Rows.{Line, join_rows}
use Rattle.pl_ops.specs.Groups.{grouped, joined_value, value_of_none, brought}
use Rattle.pl_ops.specs.Routing.{routed}
use Rattle.pl_ops.specs.Merging.{sorts_before}
use Rattle.pl_mean.specs.Parts.{sent_by}
use Rattle.pl_mean.specs.Worked.{JoinMeans, JoinIsRouted, CountMeans, WaitsForHeads, GivesLeast, TiesFromLeast, GivesAsTaken, IsMerged, OrderCounts, AreAnyTwo, TwoAreTwo, AreTopTwo, LeastIsThere, later, by_first, in_order, l_rows, two, int, letter}
use Rattle.ic_row.specs.declared.value.Value.TheVariants.{Null}

pub join_means : JoinMeans
unfolding join_rows
join_means = refl

pub join_is_routed : JoinIsRouted
unfolding routed sent_by segment_for basis hash_step int_spelling
join_is_routed = (refl, refl, refl)

pub count_means : CountMeans
unfolding sent_by grouped joined_value value_of_none brought
count_means = (refl, refl)

-- ---- gathers

pub waits_for_heads : WaitsForHeads
unfolding sorts_before compare_by
waits_for_heads = refl

pub gives_least : GivesLeast
unfolding sorts_before compare_by
gives_least = refl

pub ties_from_least : TiesFromLeast
unfolding sorts_before compare_by
ties_from_least = refl

pub gives_as_taken : GivesAsTaken
gives_as_taken = refl

-- ---- answers

sorted_in_order : IsSortedBy by_first in_order
unfolding compare_by
sorted_in_order zero d low high = refl
sorted_in_order (suc zero) d low high = refl
sorted_in_order (suc (suc zero)) d low high = refl
sorted_in_order (suc (suc (suc k))) d low high = let e : suc (suc (suc k)) + 1 < 4 = high in absurd (omega (arith, e))

sorted_by_none : (rows : List Line) → IsSortedBy [] rows
unfolding compare_by
sorted_by_none rows k d low high = refl

pub is_merged : IsMerged
is_merged = record { permuted = record { moves = (2, 3) ∷ (1, 3) ∷ (0, 1) ∷ []; below = (omega arith, omega arith, (omega arith, omega arith, (omega arith, omega arith, tt))); is = refl }; sorted = sorted_in_order }

pub order_counts : OrderCounts
unfolding compare_by
order_counts lawful = let e : true ≡ false = lawful.sorted 0 [] (omega arith) (omega arith) in absurd (cc)

pub are_any_two : AreAnyTwo
unfolding sorts_before compare_by
are_any_two = (
  record {
    left = two (int 2) (letter 120) ∷ two (int 1) (letter 122) ∷ [];
    permuted = record { moves = (2, 3) ∷ (0, 2) ∷ []; below = (omega arith, omega arith, (omega arith, omega arith, tt)); is = refl };
    count = refl;
    sorted = sorted_by_none (two (int 2) (letter 119) ∷ two Null (letter 121) ∷ []);
    first = ((refl, (refl, tt)), ((refl, (refl, tt)), tt));
  },
  record { left = l_rows; permuted = record { moves = []; below = tt; is = refl }; count = refl; sorted = sorted_by_none []; first = (tt, (tt, (tt, (tt, tt)))) },
)

pub two_are_two : TwoAreTwo
two_are_two = (λ lawful. let e : 1 ≡ 2 = lawful.count in omega (arith, e), λ lawful. let e : 3 ≡ 2 = lawful.count in omega (arith, e))

sorted_two : IsSortedBy by_first (two (int 1) (letter 122) ∷ two (int 2) (letter 119) ∷ [])
unfolding compare_by
sorted_two zero d low high = refl
sorted_two (suc k) d low high = let e : suc k + 1 < 2 = high in absurd (omega (arith, e))

pub are_top_two : AreTopTwo
unfolding sorts_before compare_by
are_top_two = record {
  left = later ∷ two Null (letter 121) ∷ [];
  permuted = record { moves = (1, 3) ∷ (0, 2) ∷ []; below = (omega arith, omega arith, (omega arith, omega arith, tt)); is = refl };
  count = refl;
  sorted = sorted_two;
  first = ((refl, (refl, tt)), ((refl, (refl, tt)), tt));
}

-- 1 for a row that sorts before the later one
abbrev earlier : Line → ℕ
earlier row = cond (sorts_before by_first row later) 1 0

none_earlier : (count : ℕ) (rows left : List Line) → AllByRecursion (λ other. AllByRecursion (λ row. sorts_before by_first other row ≡ false) (later ∷ rows)) left
    → fold (λ a x. a + earlier x) count left ≡ count
none_earlier count rows [] all = refl
none_earlier count rows (x ∷ left) all =
    let e : earlier x ≡ 0 = ap (λ b. cond b 1 0) all.0.0 in
    let same : count + earlier x ≡ count = omega (arith, e) in
    none_earlier (count + earlier x) rows left all.1 ∙ same

pub least_is_there : LeastIsThere
unfolding sorts_before compare_by
least_is_there lawful =
    let none = none_earlier 0 (two (int 2) (letter 119) ∷ []) lawful.left lawful.first in
    let sums : 1 ≡ fold (λ a x. a + earlier x) 0 lawful.left = sum_by-IsPermutation earlier (later ∷ two (int 2) (letter 119) ∷ lawful.left) l_rows lawful.permuted in
    let e : 1 ≡ 0 = sums ∙ none in omega (arith, e)
