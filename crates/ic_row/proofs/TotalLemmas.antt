-- The order is total for all keys.
use Rattle.std.proofs.Common.{sym, ◌≡◌, ℕ, Bool, true, false, ℤ, pos, List, [], ◌∷◌, refl, subst, ◌∙◌, ap}
use Rattle.std.specs.declared.cmp.Ordering.{Ordering}
use Rattle.std.specs.declared.cmp.Ordering.TheVariants.{Less, Equal, Greater}
use Rattle.std.specs.Ordering.{nat_cmp, int_cmp, ordering_then, is_le, is_gt, on, then_cmp, flip_args}
use Rattle.std.specs.Cmp.{IsTotalOrder}
use Rattle.std.specs.Cmp.Lexicographic.{slice_cmp}
use Rattle.std.proofs.lemmas.Cmp.{upto, tied_itself, nat_cmp_total, int_cmp_total, on_total, then_total, back_total, nat_list_cmp_total}
use Rattle.std.specs.Prelude.{◌↔◌}
use Rattle.std.proofs.lemmas.Map.Lookups.{exact_bytes, exact_signed}
use Rattle.ic_row.specs.declared.value.Value.{Value}
use Rattle.ic_row.specs.declared.value.Value.TheVariants.{Null, Int, Wide, Chars}
use Rattle.ic_row.specs.declared.order.Key.{Key}
use Rattle.ic_row.specs.Values.{column}
use Rattle.ic_row.specs.Order.{rank_of, value_cmp, directed, column_cmp, key_cmp, compare_by}
use Rattle.ic_row.specs.Laws.{IsPreorder}

-- ---- values: by kind, by number, by text

number_in : Value → ℤ
number_in Null = pos 0
number_in (Int n) = n
number_in (Wide n) = n
number_in (Chars text) = pos 0

bytes_in : Value → List ℕ
bytes_in Null = []
bytes_in (Int n) = []
bytes_in (Wide n) = []
bytes_in (Chars text) = text

composed : Value → Value → Ordering
composed = then_cmp (on rank_of nat_cmp) (then_cmp (on number_in int_cmp) (on bytes_in (slice_cmp nat_cmp)))

composed_total : IsTotalOrder composed
unfolding composed
composed_total = then_total (on_total rank_of nat_cmp_total) (then_total (on_total number_in int_cmp_total) (on_total bytes_in nat_list_cmp_total))

then-Equal : (o : Ordering) → ordering_then o Equal ≡ o
then-Equal Less = refl
then-Equal Equal = refl
then-Equal Greater = refl

composed_is : (a b : Value) → composed a b ≡ value_cmp a b
unfolding composed number_in bytes_in
composed_is Null Null = refl
composed_is Null (Int m) = refl
composed_is Null (Wide m) = refl
composed_is Null (Chars t) = refl
composed_is (Int n) Null = refl
composed_is (Int n) (Int m) = then-Equal (int_cmp n m)
composed_is (Int n) (Wide m) = refl
composed_is (Int n) (Chars t) = refl
composed_is (Wide n) Null = refl
composed_is (Wide n) (Int m) = refl
composed_is (Wide n) (Wide m) = then-Equal (int_cmp n m)
composed_is (Wide n) (Chars t) = refl
composed_is (Chars s) Null = refl
composed_is (Chars s) (Int m) = refl
composed_is (Chars s) (Wide m) = refl
composed_is (Chars s) (Chars t) = refl

-- a comparison that is the same at each pair is total too
along : {K : Type 0} (R S : K → K → Ordering) → ((x y : K) → R x y ≡ S x y) → IsTotalOrder R → IsTotalOrder S
along R S same total = subst IsTotalOrder (λ i x y. same x y i) total

pub value_cmp_total : IsTotalOrder value_cmp
value_cmp_total = along composed value_cmp composed_is composed_total

-- only the same values are equal
pub value_cmp_same : (a b : Value) → value_cmp a b ≡ Equal → a ≡ b
value_cmp_same Null Null e = refl
value_cmp_same Null (Int m) e = absurd cc
value_cmp_same Null (Wide m) e = absurd cc
value_cmp_same Null (Chars t) e = absurd cc
value_cmp_same (Int n) Null e = absurd cc
value_cmp_same (Int n) (Int m) e = ap Int (exact_signed n m e)
value_cmp_same (Int n) (Wide m) e = absurd cc
value_cmp_same (Int n) (Chars t) e = absurd cc
value_cmp_same (Wide n) Null e = absurd cc
value_cmp_same (Wide n) (Int m) e = absurd cc
value_cmp_same (Wide n) (Wide m) e = ap Wide (exact_signed n m e)
value_cmp_same (Wide n) (Chars t) e = absurd cc
value_cmp_same (Chars s) Null e = absurd cc
value_cmp_same (Chars s) (Int m) e = absurd cc
value_cmp_same (Chars s) (Wide m) e = absurd cc
value_cmp_same (Chars s) (Chars t) e = ap Chars (exact_bytes s t e)

pub value_cmp_equal : (a b : Value) → (value_cmp a b ≡ Equal) ↔ (a ≡ b)
value_cmp_equal a b = (value_cmp_same a b, λ same. ap (value_cmp a) (sym same) ∙ tied_itself value_cmp_total a)

-- ---- columns: with and without a value, and then by the values

lack : Value → ℕ
lack Null = 1
lack (Int n) = 0
lack (Wide n) = 0
lack (Chars text) = 0

turned : Bool → Value → Value → Ordering
turned false = value_cmp
turned true = flip_args value_cmp

turned_total : (down : Bool) → IsTotalOrder (turned down)
unfolding turned
turned_total false = value_cmp_total
turned_total true = back_total value_cmp_total

turned_is : (down : Bool) (a b : Value) → turned down a b ≡ directed down (value_cmp a b)
unfolding turned
turned_is false a b = refl
turned_is true a b = value_cmp_total.antisymm b a

sided : Bool → Value → Value → Ordering
sided down = then_cmp (on lack nat_cmp) (turned down)

sided_is : (down : Bool) (a b : Value) → sided down a b ≡ column_cmp down a b
unfolding sided lack
sided_is down Null Null = turned_is down Null Null ∙ null_null down
  where
    null_null : (down : Bool) → directed down Equal ≡ Equal
    null_null true = refl
    null_null false = refl
sided_is down Null (Int m) = refl
sided_is down Null (Wide m) = refl
sided_is down Null (Chars t) = refl
sided_is down (Int n) Null = refl
sided_is down (Int n) (Int m) = turned_is down (Int n) (Int m)
sided_is down (Int n) (Wide m) = turned_is down (Int n) (Wide m)
sided_is down (Int n) (Chars t) = turned_is down (Int n) (Chars t)
sided_is down (Wide n) Null = refl
sided_is down (Wide n) (Int m) = turned_is down (Wide n) (Int m)
sided_is down (Wide n) (Wide m) = turned_is down (Wide n) (Wide m)
sided_is down (Wide n) (Chars t) = turned_is down (Wide n) (Chars t)
sided_is down (Chars s) Null = refl
sided_is down (Chars s) (Int m) = turned_is down (Chars s) (Int m)
sided_is down (Chars s) (Wide m) = turned_is down (Chars s) (Wide m)
sided_is down (Chars s) (Chars t) = turned_is down (Chars s) (Chars t)

column_cmp_total : (down : Bool) → IsTotalOrder (column_cmp down)
unfolding sided
column_cmp_total down = along (sided down) (column_cmp down) (sided_is down) (then_total (on_total lack nat_cmp_total) (turned_total down))

-- ---- rows

key_cmp_total : (key : Key) → IsTotalOrder (key_cmp key)
key_cmp_total key = on_total (λ (row : List Value). column row key.column) (column_cmp_total key.down)

pub compare_by_total : (keys : List Key) → IsTotalOrder (compare_by keys)
unfolding compare_by
compare_by_total [] = record { antisymm = λ x y. refl; trans = λ x y z p q. p; congr = λ x y z p. refl }
compare_by_total (key ∷ keys) = then_total (key_cmp_total key) (compare_by_total keys)

pub orders_rows : (keys : List Key) → IsPreorder (compare_by keys)
orders_rows keys =
    let total = compare_by_total keys in
    record {
      itself = λ a. tied_itself total a;
      swapped = λ a b. total.antisymm b a;
      chain = λ a b c p q. not_gt (compare_by keys a c) (upto total a b c (gt_not (compare_by keys a b) p) (gt_not (compare_by keys b c) q));
    }
  where
    gt_not : (o : Ordering) → is_le o ≡ true → is_gt o ≡ false
    gt_not Less h = refl
    gt_not Equal h = refl
    gt_not Greater h = absurd cc

    not_gt : (o : Ordering) → is_gt o ≡ false → is_le o ≡ true
    not_gt Less h = refl
    not_gt Equal h = refl
    not_gt Greater h = absurd cc
