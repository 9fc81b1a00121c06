-- The results of a group once a row more is in it.
use Rattle.std.proofs.Common.{◌≡◌, ℕ, ◌+◌, ℤ, pos, Bool, true, false, if◌then◌else◌, List, [], ◌∷◌, ◌++◌, map, refl, sym, ap, ◌∙◌, true≢false}
use Rattle.std.specs.Prelude.{◌+ℤ◌}
use Rattle.std.proofs.Math.IntN.{+ℤ_assoc, +ℤ_comm}
use Rattle.std.specs.Ordering.{is_lt, ordering_reverse}
use Rattle.std.specs.declared.cmp.Ordering.{Ordering}
use Rattle.std.specs.declared.cmp.Ordering.TheVariants.{Less, Equal, Greater}
use Rattle.ic_row.specs.declared.value.Value.{Value}
use Rattle.ic_row.specs.declared.value.Value.TheVariants.{Null, Int, Wide}
use Rattle.ic_row.specs.Values.{is_null}
use Rattle.ic_row.specs.Order.{value_cmp}
use Rattle.ic_row.proofs.TotalLemmas.{value_cmp_total, value_cmp_same}
use Rattle.pl_tree.specs.declared.node.Call.{Call}
use Rattle.pl_tree.specs.declared.node.Call.TheVariants.{Count, CountOf, Sum, Min, Max}
use Rattle.pl_ops.specs.Rows.{Line}
use Rattle.pl_ops.specs.Groups.{number_in, absent_or, lesser, greater, joined_value, value_of_none, over}
use Rattle.ex_agg.specs.Calls.{wide_sum, brought_at, results, renewed}
use Rattle.ex_agg.proofs.Joined.{absent_right, absent_left, both_there}

-- ---- one of two

abbrev pub chosen : (Value → Value → Bool) → Value → Value → Value
chosen L a b = if L b a then b else a

chosen_assoc : (L : Value → Value → Bool) → ((a b c : Value) → L c b ≡ true → L b a ≡ true → L c a ≡ true)
    → ((a b c : Value) → L c b ≡ false → L b a ≡ false → L c a ≡ false)
    → (a b c : Value) → chosen L a (chosen L b c) ≡ chosen L (chosen L a b) c
chosen_assoc L up down a b c = by (L c b) (L b a) refl refl
  where
    by : (p q : Bool) → L c b ≡ p → L b a ≡ q → chosen L a (if p then c else b) ≡ chosen L (if q then b else a) c
    by true true e f = ap (λ x. if x then c else a) (up a b c e f) ∙ sym (ap (λ x. if x then c else b) e)
    by true false e f = refl
    by false true e f = ap (λ x. if x then b else a) f ∙ sym (ap (λ x. if x then c else b) e)
    by false false e f = ap (λ x. if x then b else a) f ∙ sym (ap (λ x. if x then c else a) (down a b c e f))

less_is : (o : Ordering) → is_lt o ≡ true → o ≡ Less
less_is Less h = refl
less_is Equal h = absurd (true≢false (sym h))
less_is Greater h = absurd (true≢false (sym h))

less_trans : (x y z : Value) → is_lt (value_cmp x y) ≡ true → is_lt (value_cmp y z) ≡ true → is_lt (value_cmp x z) ≡ true
less_trans x y z p q = ap is_lt (value_cmp_total.trans x y z (less_is (value_cmp x y) p) (less_is (value_cmp y z) q))

not_less_trans : (x y z : Value) → is_lt (value_cmp x y) ≡ false → is_lt (value_cmp y z) ≡ false → is_lt (value_cmp x z) ≡ false
not_less_trans x y z p q = by (value_cmp y x) (value_cmp x z) refl refl
  where
    by : (o r : Ordering) → value_cmp y x ≡ o → value_cmp x z ≡ r → is_lt r ≡ false
    by Less Less e f = absurd (true≢false (sym (ap is_lt (value_cmp_total.trans y x z e f)) ∙ q))
    by Equal Less e f = absurd (true≢false (sym (ap is_lt f) ∙ ap (λ v. is_lt (value_cmp v z)) (sym (value_cmp_same y x e)) ∙ q))
    by Greater Less e f = absurd (true≢false (sym (ap is_lt (value_cmp_total.antisymm x y ∙ ap ordering_reverse e)) ∙ p))
    by o Equal e f = refl
    by o Greater e f = refl

lesser_assoc : (a b c : Value) → lesser a (lesser b c) ≡ lesser (lesser a b) c
lesser_assoc a b c = chosen_assoc (λ x y. is_lt (value_cmp x y)) (λ a b c p q. less_trans c b a p q) (λ a b c p q. not_less_trans c b a p q) a b c

greater_assoc : (a b c : Value) → greater a (greater b c) ≡ greater (greater a b) c
greater_assoc a b c = chosen_assoc (λ x y. is_lt (value_cmp y x)) (λ a b c p q. less_trans a b c q p) (λ a b c p q. not_less_trans a b c q p) a b c

-- ---- with values that may be absent

module _ (f : Value → Value → Value) (there : (a b : Value) → is_null a ≡ false → is_null b ≡ false → is_null (f a b) ≡ false)
    (assoc : (a b c : Value) → f a (f b c) ≡ f (f a b) c) where
  absent_assoc : (a b c : Value) → absent_or f a (absent_or f b c) ≡ absent_or f (absent_or f a b) c
  absent_assoc a b c = by (is_null a) (is_null b) (is_null c) refl refl refl
    where
      g : Value → Value → Value
      g = absent_or f

      by : (p q r : Bool) → is_null a ≡ p → is_null b ≡ q → is_null c ≡ r → absent_or f a (absent_or f b c) ≡ absent_or f (absent_or f a b) c
      by true q r e h k = absent_left f a (absent_or f b c) e ∙ sym (ap (λ x. absent_or f x c) (absent_left f a b e))
      by false true r e h k = ap (absent_or f a) (absent_left f b c h) ∙ sym (ap (λ x. absent_or f x c) (absent_right f a b h))
      by false false true e h k = ap (absent_or f a) (absent_right f b c k) ∙ sym (absent_right f (absent_or f a b) c k)
      by false false false e h k =
          ap (absent_or f a) (both_there f b c h k) ∙ both_there f a (f b c) e (there b c h k) ∙ assoc a b c
          ∙ sym (ap (λ x. absent_or f x c) (both_there f a b e h) ∙ both_there f (f a b) c (there a b e h) k)

chosen_there : (b : Bool) (x y : Value) → is_null x ≡ false → is_null y ≡ false → is_null (if b then x else y) ≡ false
chosen_there true x y p q = p
chosen_there false x y p q = q

sum_assoc : (a b c : ℤ) → a +ℤ (b +ℤ c) ≡ (a +ℤ b) +ℤ c
sum_assoc a b c = sym (+ℤ_assoc a b c)

joined_assoc : (call : Call) (a b c : Value) → joined_value call a (joined_value call b c) ≡ joined_value call (joined_value call a b) c
unfolding joined_value
joined_assoc Count a b c = ap Int (sum_assoc (number_in a) (number_in b) (number_in c))
joined_assoc (CountOf n) a b c = ap Int (sum_assoc (number_in a) (number_in b) (number_in c))
joined_assoc (Sum n) a b c = absent_assoc wide_sum (λ a b p q. refl) (λ a b c. ap Wide (sum_assoc (number_in a) (number_in b) (number_in c))) a b c
joined_assoc (Min n) a b c = absent_assoc lesser (λ a b p q. chosen_there (is_lt (value_cmp b a)) b a q p) lesser_assoc a b c
joined_assoc (Max n) a b c = absent_assoc greater (λ a b p q. chosen_there (is_lt (value_cmp a b)) b a q p) greater_assoc a b c

from_none : (f : Value → Value → Value) (a : Value) → absent_or f a Null ≡ absent_or f Null a
from_none f a = absent_right f a Null refl ∙ sym (absent_left f Null a refl)

joined_none : (call : Call) (a : Value) → joined_value call a (value_of_none call) ≡ joined_value call (value_of_none call) a
unfolding joined_value value_of_none
joined_none Count a = ap Int (+ℤ_comm (number_in a) (pos 0))
joined_none (CountOf n) a = ap Int (+ℤ_comm (number_in a) (pos 0))
joined_none (Sum n) a = from_none wide_sum a
joined_none (Min n) a = from_none lesser a
joined_none (Max n) a = from_none greater a

-- ---- a value more

over_next : (call : Call) (values : List Value) (v : Value) → over call (values ++ v ∷ []) ≡ joined_value call (over call values) v
over_next call [] v = joined_none call v
over_next call (w ∷ values) v = ap (joined_value call w) (over_next call values v) ∙ joined_assoc call w (over call values) v

map_next : (f : Line → Value) (rows : List Line) (row : Line) → map f (rows ++ row ∷ []) ≡ map f rows ++ f row ∷ []
map_next f [] row = refl
map_next f (r ∷ rows) row = ap (λ l. f r ∷ l) (map_next f rows row)

pub results_step : (final : Bool) (c : ℕ) (calls : List Call) (rows : List Line) (row : Line) → results final c calls (rows ++ row ∷ []) ≡ renewed final c calls (results final c calls rows) row
results_step final c [] rows row = refl
results_step final c (call ∷ calls) rows row = λ i.
    (ap (over call) (map_next (brought_at final c call) rows row) ∙ over_next call (map (brought_at final c call) rows) (brought_at final c call row)) i
    ∷ results_step final (c + 1) calls rows row i

pub results_none : (final : Bool) (c : ℕ) (calls : List Call) → results final c calls [] ≡ map value_of_none calls
results_none final c [] = refl
results_none final c (call ∷ calls) = ap (λ l. value_of_none call ∷ l) (results_none final (c + 1) calls)
