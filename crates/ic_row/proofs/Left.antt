-- When reading stops, no more bytes are left than there were.
use Rattle.std.proofs.Common.{◌≡◌, ℕ, zero, suc, ◌≤◌, Bool, true, false, cond, eqb, ltb, List, [], ◌∷◌, length, take, drop, Option, Some, None, Result, Ok, Err, refl, ap, subst, arith, length-drop}
use Rattle.std.specs.Option.{option_map, ok_or}
use Rattle.std.specs.Int.{Width, w16, w32, w64, w128, byte_len, from_be_bytes}
use Rattle.std.specs.Str.{is_utf8}
use Rattle.ic_row.specs.declared.value.Value.{Value}
use Rattle.ic_row.specs.declared.value.Value.TheVariants.{Null, Chars}
use Rattle.ic_row.specs.Reading.{◌>>=◌, number_at, int_from, wide_from, int_at, wide_at, text_from, text_at, value_behind, value_at, values_at, row_at}

-- a reader leaves no more bytes than it was given
abbrev Leaves : {A : Type 0} → ℕ → Option (A × List ℕ) → Type 0
Leaves n None = Unit {0}
Leaves n (Some x) = length x.1 ≤ n

Leaves-cond : {A : Type 0} (n : ℕ) (b : Bool) (x y : Option (A × List ℕ)) → Leaves n x → Leaves n y → Leaves n (cond b x y)
Leaves-cond n true x y p q = p
Leaves-cond n false x y p q = q

Leaves-map : {A B : Type 0} (n : ℕ) (f : A × List ℕ → B × List ℕ) → ((x : A × List ℕ) → (f x).1 ≡ x.1) → (o : Option (A × List ℕ)) → Leaves n o → Leaves n (option_map f o)
Leaves-map n f same None h = tt
Leaves-map n f same (Some x) h = omega (arith, ap length (same x))

number_leaves : (w : Width) (bytes : List ℕ) → Leaves (length bytes) (number_at w bytes)
number_leaves w bytes = Leaves-cond (length bytes) (ltb (length bytes) (byte_len w)) None (Some (from_be_bytes w (take (byte_len w) bytes), drop (byte_len w) bytes)) tt (omega (arith, length-drop (byte_len w) bytes))

text_leaves : (n : ℕ) (o : Option (ℕ × List ℕ)) → Leaves n o → Leaves n (text_from o)
text_leaves n None h = tt
text_leaves n (Some x) h = Leaves-cond n (ltb (length x.1) x.0) None (cond (is_utf8 (take x.0 x.1)) (Some (Chars (take x.0 x.1), drop x.0 x.1)) None) tt
    (Leaves-cond n (is_utf8 (take x.0 x.1)) (Some (Chars (take x.0 x.1), drop x.0 x.1)) None (omega (arith, h, length-drop x.0 x.1)) tt)

behind_leaves : (tag : ℕ) (bytes : List ℕ) → Leaves (length bytes) (value_behind tag bytes)
unfolding int_at wide_at text_at
behind_leaves tag bytes =
    let n = length bytes in
    let at_3 : Option (Value × List ℕ) = cond (eqb tag 3) (wide_at bytes) None in
    let at_2 : Option (Value × List ℕ) = cond (eqb tag 2) (text_at bytes) at_3 in
    let at_1 : Option (Value × List ℕ) = cond (eqb tag 1) (int_at bytes) at_2 in
    let l_3 : Leaves n at_3 = Leaves-cond n (eqb tag 3) (wide_at bytes) None (Leaves-map n wide_from (λ x. refl) (number_at w128 bytes) (number_leaves w128 bytes)) tt in
    let l_2 : Leaves n at_2 = Leaves-cond n (eqb tag 2) (text_at bytes) at_3 (text_leaves n (number_at w32 bytes) (number_leaves w32 bytes)) l_3 in
    let l_1 : Leaves n at_1 = Leaves-cond n (eqb tag 1) (int_at bytes) at_2 (Leaves-map n int_from (λ x. refl) (number_at w64 bytes) (number_leaves w64 bytes)) l_2 in
    Leaves-cond n (eqb tag 0) (Some (Null, bytes)) at_1 (omega arith) l_1

value_leaves : (bytes : List ℕ) → Leaves (length bytes) (value_at bytes)
unfolding value_at
value_leaves [] = tt
value_leaves (tag ∷ bytes) = wider (value_behind tag bytes) (behind_leaves tag bytes)
  where
    wider : (o : Option (Value × List ℕ)) → Leaves (length bytes) o → Leaves (suc (length bytes)) o
    wider None h = tt
    wider (Some x) h = omega (arith, h)

-- no more bytes are left at a stop, or after the values, than there were
abbrev LeavesAt : ℕ → Result (List Value × List ℕ) ℕ → Type 0
LeavesAt n (Ok x) = length x.1 ≤ n
LeavesAt n (Err left) = left ≤ n

others_leave : (n m : ℕ) (v : Value) (r : Result (List Value × List ℕ) ℕ) → m ≤ n → LeavesAt m r → LeavesAt n (r >>= λ x. Ok (v ∷ x.0, x.1))
others_leave n m v (Ok x) le h = omega (arith, h)
others_leave n m v (Err left) le h = omega (arith, h)

first_leaves : (count n : ℕ) (o : Option (Value × List ℕ)) → ((bytes : List ℕ) → LeavesAt (length bytes) (values_at count bytes)) → Leaves n o → LeavesAt n (ok_or o n >>= λ f. values_at count f.1 >>= λ x. Ok (f.0 ∷ x.0, x.1))
first_leaves count n None ind h = omega arith
first_leaves count n (Some f) ind h = others_leave n (length f.1) f.0 (values_at count f.1) h (ind f.1)

values_leave : (count : ℕ) (bytes : List ℕ) → LeavesAt (length bytes) (values_at count bytes)
unfolding values_at
values_leave zero bytes = omega arith
values_leave (suc count) bytes = first_leaves count (length bytes) (value_at bytes) (values_leave count) (value_leaves bytes)

-- a row stops with no more left than there was
abbrev StopsWithin : ℕ → Result (List Value) ℕ → Type 0
StopsWithin n (Ok row) = Unit {0}
StopsWithin n (Err left) = left ≤ n

row_stops : (bytes : List ℕ) → StopsWithin (length bytes) (row_at bytes)
unfolding row_at
row_stops bytes = counted (number_at w16 bytes) (number_leaves w16 bytes)
  where
    guarded : (b : Bool) (x : List Value × List ℕ) → length x.1 ≤ length bytes → StopsWithin (length bytes) (cond b (Ok x.0) (Err (length x.1)))
    guarded true x h = tt
    guarded false x h = h

    ended : (n : ℕ) (r : Result (List Value × List ℕ) ℕ) → n ≤ length bytes → LeavesAt n r → StopsWithin (length bytes) (r >>= λ x. cond (eqb (length x.1) 0) (Ok x.0) (Err (length x.1)))
    ended n (Ok x) le h = guarded (eqb (length x.1) 0) x (omega (arith, h))
    ended n (Err left) le h = omega (arith, h)

    counted : (o : Option (ℕ × List ℕ)) → Leaves (length bytes) o → StopsWithin (length bytes) (ok_or o (length bytes) >>= λ n. values_at n.0 n.1 >>= λ x. cond (eqb (length x.1) 0) (Ok x.0) (Err (length x.1)))
    counted None h = omega arith
    counted (Some n) h = ended (length n.1) (values_at n.0 n.1) h (values_leave n.0 n.1)

-- so its offset can be computed
pub left_within : (bytes : List ℕ) (left : ℕ) → row_at bytes ≡ Err left → left ≤ length bytes
left_within bytes left e = subst (StopsWithin (length bytes)) e (row_stops bytes)
