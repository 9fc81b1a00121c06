-- At the byte at which reading stops, no value's spelling begins.
use Rattle.std.proofs.Common.{◌≡◌, ◌≢◌, ℕ, zero, suc, ◌-◌, ◌^◌, ◌<◌, Bool, true, false, cond, eqb, ltb, List, [], ◌∷◌, ◌++◌, length, take, drop, Option, Some, None, Result, Ok, Err, refl, sym, ap, ◌∙◌, append_assoc, arith, inl, inr, ◌⊎◌}
use Rattle.std.specs.List.{flat_map, AllByRecursion}
use Rattle.std.specs.Int.{w16, from_be_bytes, to_be_bytes}
use Rattle.std.proofs.lemmas.Bool.{ltb-true, eqb-false}
use Rattle.std.proofs.lemmas.List.{length-append}
use Rattle.ic_row.specs.declared.value.Value.{Value}
use Rattle.ic_row.specs.Spelling.{value_spelling, IsValue}
use Rattle.ic_row.specs.Reading.{◌>>=◌, number_at, value_at, values_at, row_at}
use Rattle.ic_row.specs.Faults.{Begins, BeginsNoValue, end_of, IsFaultAt, NoCount, NoValue, Trailing}
use Rattle.ic_row.proofs.Fields.{IsBytes, Takes, wide16, number_takes}
use Rattle.ic_row.proofs.ValueLemmas.{TakesValue, value_takes, value_again}
use Rattle.ic_row.proofs.RowLemmas.{TakesValues, values_take}

abbrev failed : {A : Type 0} → ℕ → Result A ℕ
failed left = Err left

err_is : {A : Type 0} (x y : ℕ) → failed {A = A} x ≡ failed y → x ≡ y
err_is x y e = cc

-- either the first step failed, or the second
bind_err : {A B : Type 0} (r : Result A ℕ) (f : A → Result B ℕ) (left : ℕ) → (r >>= f) ≡ Err left → (r ≡ Err left) ⊎ ((x : A) × (r ≡ Ok x) × (f x ≡ Err left))
bind_err {A} {B} (Ok x) f left e = inr (x, refl, e)
bind_err {A} {B} (Err d) f left e = inl (ap Err (err_is {A = B} d left e))

none_or_some : {A : Type 0} (o : Option A) → (o ≡ None) ⊎ ((x : A) × (o ≡ Some x))
none_or_some None = inl refl
none_or_some (Some x) = inr (x, refl)

begins_none : (bytes : List ℕ) → value_at bytes ≡ None → BeginsNoValue bytes
begins_none bytes no_value value more is e =
    let there : value_at bytes ≡ Some (value, more) = ap value_at e ∙ value_again value more is in
    clash (value, more) (sym no_value ∙ there)
  where
    clash : (x : Value × List ℕ) → None ≡ Some x → ⊥
    clash x h = cc

-- values that are read, up to one that can't be
record StopsAfter (n : ℕ) (bytes : List ℕ) (left : ℕ) : Type 0 where
  pub values : List Value
  pub rest : List ℕ
  pub parts : bytes ≡ flat_map value_spelling values ++ rest
  pub each : AllByRecursion IsValue values
  pub fewer : length values < n
  pub nothing : BeginsNoValue rest
  pub left_is : left ≡ length rest

stops_here : (n : ℕ) (bytes : List ℕ) (left : ℕ) → value_at bytes ≡ None → left ≡ length bytes → StopsAfter (suc n) bytes left
stops_here n bytes left no_value is = record { values = []; rest = bytes; parts = refl; each = tt; fewer = omega arith; nothing = begins_none bytes no_value; left_is = is }

stops_later : (n : ℕ) (bytes : List ℕ) (left : ℕ) (x : Value × List ℕ) → TakesValue bytes x → StopsAfter n x.1 left → StopsAfter (suc n) bytes left
stops_later n bytes left x t s = record {
  values = x.0 ∷ s.values;
  rest = s.rest;
  parts = t.takes.parts ∙ ap (λ (l : List ℕ). value_spelling x.0 ++ l) s.parts ∙ sym (append_assoc (value_spelling x.0) (flat_map value_spelling s.values) s.rest);
  each = (t.is, s.each);
  fewer = omega (arith, s.fewer);
  nothing = s.nothing;
  left_is = s.left_is;
}

values_stop : (n : ℕ) (bytes : List ℕ) (left : ℕ) → IsBytes bytes → values_at n bytes ≡ Err left → StopsAfter n bytes left
unfolding values_at
values_stop zero bytes left fits e = absurd cc
values_stop (suc n) bytes left fits e =
    elim (none_or_some (value_at bytes)) [
      | inl p ↦ stops_here n bytes left p (sym (err_is {A = List Value × List ℕ} (length bytes) left (rw p at e)))
      | inr p ↦
          let second : (values_at n p.0.1 >>= λ others. Ok (p.0.0 ∷ others.0, others.1)) ≡ Err left = rw p.1 at e in
          let t = value_takes bytes p.0 fits p.1 in
          elim (bind_err (values_at n p.0.1) (λ others. Ok (p.0.0 ∷ others.0, others.1)) left second) [
            | inl q ↦ stops_later n bytes left p.0 t (values_stop n p.0.1 left t.takes.rest_fits q)
            | inr q ↦ absurd (clash (p.0.0 ∷ q.0.0, q.0.1) q.2)
          ]
    ]
  where
    clash : (x : List Value × List ℕ) → Ok x ≡ failed left → ⊥
    clash x h = cc

-- ---- a row

short_count : (bytes : List ℕ) → number_at w16 bytes ≡ None → length bytes < 2
short_count bytes e = by (ltb (length bytes) 2) (from_be_bytes w16 (take 2 bytes), drop 2 bytes) e (λ h. ltb-true _ _ h)
  where
    by : (b : Bool) (x : ℕ × List ℕ) → cond b None (Some x) ≡ None → (b ≡ true → length bytes < 2) → length bytes < 2
    by true x h f = f refl
    by false x h f = absurd cc

-- the place of a stop, from the number of bytes left
place_is : (bytes : List ℕ) (count : ℕ) (values : List Value) (rest : List ℕ) (left : ℕ) → Begins bytes count values rest → left ≡ length rest → length bytes - left ≡ end_of values
place_is bytes count values rest left begins is =
    let whole = ap length begins.parts in
    omega (arith, whole, is, length-append (to_be_bytes w16 count) (flat_map value_spelling values ++ rest), length-append (flat_map value_spelling values) rest)

begins_with : (bytes : List ℕ) (n : ℕ × List ℕ) (values : List Value) (rest : List ℕ) → Takes bytes (to_be_bytes w16 n.0) n.1 × (n.0 < 2 ^ 16) → n.1 ≡ flat_map value_spelling values ++ rest → AllByRecursion IsValue values → Begins bytes n.0 values rest
begins_with bytes n values rest first parts each = record { parts = first.0.parts ∙ ap (λ (l : List ℕ). to_be_bytes w16 n.0 ++ l) parts; small = first.1; each = each }

stops_at_value : (bytes : List ℕ) (n : ℕ × List ℕ) (left : ℕ) → Takes bytes (to_be_bytes w16 n.0) n.1 × (n.0 < 2 ^ 16) → StopsAfter n.0 n.1 left → IsFaultAt bytes (length bytes - left)
stops_at_value bytes n left first s =
    let begins = begins_with bytes n s.values s.rest first s.parts s.each in
    NoValue n.0 s.values s.rest begins s.fewer s.nothing (place_is bytes n.0 s.values s.rest left begins s.left_is)

stops_behind : (bytes : List ℕ) (n : ℕ × List ℕ) (left : ℕ) (x : List Value × List ℕ) → Takes bytes (to_be_bytes w16 n.0) n.1 × (n.0 < 2 ^ 16) → TakesValues n.0 n.1 x
    → cond (eqb (length x.1) 0) (Ok x.0) (Err (length x.1)) ≡ Err left → IsFaultAt bytes (length bytes - left)
stops_behind bytes n left x first t e =
    let g = guarded (eqb (length x.1) 0) x.0 (length x.1) e in
    let more : length x.1 ≢ 0 = eqb-false _ _ g.0 in
    let begins = begins_with bytes n x.0 x.1 first t.takes.parts t.each in
    Trailing n.0 x.0 x.1 begins t.many (λ empty. more (ap length empty)) (place_is bytes n.0 x.0 x.1 left begins (sym g.1))
  where
    guarded : (b : Bool) (y : List Value) (d : ℕ) → cond b (Ok y) (Err d) ≡ Err left → (b ≡ false) × (d ≡ left)
    guarded true y d h = absurd cc
    guarded false y d h = (refl, err_is {A = List Value} d left h)

pub row_stops_at : (bytes : List ℕ) (left : ℕ) → IsBytes bytes → row_at bytes ≡ Err left → IsFaultAt bytes (length bytes - left)
unfolding row_at
row_stops_at bytes left fits e =
    elim (none_or_some (number_at w16 bytes)) [
      | inl p ↦ let is = err_is {A = List Value} (length bytes) left (rw p at e) in NoCount (short_count bytes p) (omega (arith, is))
      | inr p ↦
          let n = p.0 in
          let second : (values_at n.0 n.1 >>= λ x. cond (eqb (length x.1) 0) (Ok x.0) (Err (length x.1))) ≡ Err left = rw p.1 at e in
          let first = number_takes w16 wide16 bytes n.0 n.1 fits p.1 in
          elim (bind_err (values_at n.0 n.1) (λ x. cond (eqb (length x.1) 0) (Ok x.0) (Err (length x.1))) left second) [
            | inl q ↦ stops_at_value bytes n left first (values_stop n.0 n.1 left first.0.rest_fits q)
            | inr q ↦ stops_behind bytes n left q.0 first (values_take n.0 n.1 q.0 first.0.rest_fits q.1) q.2
          ]
    ]
