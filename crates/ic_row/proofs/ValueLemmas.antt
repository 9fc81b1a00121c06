-- What is read has these bytes as its spelling, and a spelled value is read back, whatever follows it.
use Rattle.std.proofs.Common.{◌≡◌, ℕ, ◌^◌, ◌<◌, ◌≤◌, Bool, true, false, cond, eqb, ltb, List, [], ◌∷◌, ◌++◌, length, take, drop, Option, Some, None, refl, sym, ap, subst, ◌∙◌, append_assoc, arith, inl, inr, ◌⊎◌}
use Rattle.std.specs.Int.{w32, w64, w128, to_be_bytes, cast_unsigned}
use Rattle.std.specs.Str.{is_utf8}
use Rattle.std.proofs.lemmas.Str.{IsUtf8-from_is_utf8, is_utf8-from_IsUtf8}
use Rattle.std.proofs.lemmas.Bool.{eqb-true, ltb-false, le-ltb}
use Rattle.std.proofs.lemmas.List.{take_at, drop_at, take-append-drop, length-append, length-take}
use Rattle.ic_row.specs.declared.value.Value.{Value}
use Rattle.ic_row.specs.declared.value.Value.TheVariants.{Null, Int, Wide, Chars}
use Rattle.ic_row.specs.Spelling.{int_spelling, text_spelling, wide_spelling, value_spelling, IsValue}
use Rattle.ic_row.specs.Reading.{number_at, int_at, wide_at, text_from, text_at, value_behind, value_at}
use Rattle.ic_row.proofs.Fields.{IsBytes, IsBytes-drop, IsBytes-rest, Takes, Takes-then, some_is, wide32, number_takes, number_again, int_takes, int_again, wide_takes, wide_again}

-- ---- texts

text_takes : (bytes : List ℕ) (x : Value × List ℕ) → IsBytes bytes → text_at bytes ≡ Some x → (text : List ℕ) × (x.0 ≡ Chars text) × Takes bytes (to_be_bytes w32 (length text) ++ text) x.1 × IsValue (Chars text)
unfolding text_at
text_takes bytes x fits e = at (number_at w32 bytes) (λ n rest is. number_takes w32 wide32 bytes n rest fits is) e
  where
    guarded : {A : Type 0} (b : Bool) (o : Option A) (y : A) → cond b None o ≡ Some y → (b ≡ false) × (o ≡ Some y)
    guarded true o y h = absurd cc
    guarded false o y h = (refl, h)

    allowed : {A : Type 0} (b : Bool) (v y : A) → cond b (Some v) None ≡ Some y → (b ≡ true) × (v ≡ y)
    allowed true v y h = (refl, some_is v y h)
    allowed false v y h = absurd cc

    at : (o : Option (ℕ × List ℕ)) → ((n : ℕ) (rest : List ℕ) → o ≡ Some (n, rest) → Takes bytes (to_be_bytes w32 n) rest × (n < 2 ^ 32)) → text_from o ≡ Some x
        → (text : List ℕ) × (x.0 ≡ Chars text) × Takes bytes (to_be_bytes w32 (length text) ++ text) x.1 × IsValue (Chars text)
    at None t h = absurd cc
    at (Some n) t h =
        let text = take n.0 n.1 in
        let rest = drop n.0 n.1 in
        let first = t n.0 n.1 refl in
        let g = guarded (ltb (length n.1) n.0) (cond (is_utf8 text) (Some (Chars text, rest)) None) x h in
        let u = allowed (is_utf8 text) (Chars text, rest) x g.1 in
        let long : n.0 ≤ length n.1 = ltb-false _ _ g.0 in
        let len : length text ≡ n.0 = omega (arith, length-take n.0 n.1) in
        let second : Takes n.1 text rest = record { parts = sym (take-append-drop n.0 n.1); rest_fits = IsBytes-drop n.0 n.1 first.0.rest_fits } in
        let both = Takes-then bytes (to_be_bytes w32 n.0) n.1 text rest first.0 second in
        let whole : Takes bytes (to_be_bytes w32 (length text) ++ text) rest = subst (λ (k : ℕ). Takes bytes (to_be_bytes w32 k ++ text) rest) (sym len) both in
        let rest_is : rest ≡ x.1 = ap (λ (p : Value × List ℕ). p.1) u.1 in
        (text, sym (ap (λ (p : Value × List ℕ). p.0) u.1), subst (λ (r : List ℕ). Takes bytes (to_be_bytes w32 (length text) ++ text) r) rest_is whole, (omega (arith, len, first.1), IsUtf8-from_is_utf8 text u.0))

text_again : (text rest : List ℕ) → IsValue (Chars text) → text_at ((to_be_bytes w32 (length text) ++ text) ++ rest) ≡ Some (Chars text, rest)
unfolding text_at
text_again text rest is =
    let long : ltb (length (text ++ rest)) (length text) ≡ false = le-ltb _ _ (omega (arith, length-append text rest)) in
    let utf8 : is_utf8 text ≡ true = is_utf8-from_IsUtf8 text is.1 in
    let number : number_at w32 ((to_be_bytes w32 (length text) ++ text) ++ rest) ≡ Some (length text, text ++ rest) = ap (number_at w32) (append_assoc (to_be_bytes w32 (length text)) text rest) ∙ number_again w32 wide32 (length text) (text ++ rest) is.0 in
    ap text_from number ∙ rw (long, take_at text rest (length text) refl, drop_at text rest (length text) refl, utf8) refl

-- ---- values

-- a value with the bytes that it takes
pub record TakesValue (bytes : List ℕ) (x : Value × List ℕ) : Type 0 where
  pub takes : Takes bytes (value_spelling x.0) x.1
  pub is : IsValue x.0

tagged : (t tag : ℕ) (v : Value) (bytes body : List ℕ) (x : Value × List ℕ) → t ≡ tag → value_spelling v ≡ tag ∷ body → x.0 ≡ v → Takes bytes body x.1 → IsValue v → TakesValue (t ∷ bytes) x
tagged t tag v bytes body x is spelled value taken fits = record {
  takes = record { parts = ap (λ (n : ℕ). n ∷ bytes) is ∙ ap (λ (l : List ℕ). tag ∷ l) taken.parts ∙ ap (λ (l : List ℕ). l ++ x.1) (sym spelled ∙ ap value_spelling (sym value)); rest_fits = taken.rest_fits };
  is = subst IsValue (sym value) fits;
}

chosen : {A : Type 0} (b : Bool) (x y z : A) → cond b x y ≡ z → ((b ≡ true) × (x ≡ z)) ⊎ ((b ≡ false) × (y ≡ z))
chosen true x y z e = inl (refl, e)
chosen false x y z e = inr (refl, e)

behind_takes : (tag : ℕ) (bytes : List ℕ) (x : Value × List ℕ) → IsBytes bytes → value_behind tag bytes ≡ Some x → TakesValue (tag ∷ bytes) x
unfolding int_spelling text_spelling wide_spelling
behind_takes tag bytes x fits e =
    let at_3 : Option (Value × List ℕ) = cond (eqb tag 3) (wide_at bytes) None in
    let at_2 : Option (Value × List ℕ) = cond (eqb tag 2) (text_at bytes) at_3 in
    let at_1 : Option (Value × List ℕ) = cond (eqb tag 1) (int_at bytes) at_2 in
    elim (chosen (eqb tag 0) (Some (Null, bytes)) at_1 (Some x) e) [
      | inl p ↦ null p.0 (some_is (Null, bytes) x p.1)
      | inr p ↦ elim (chosen (eqb tag 1) (int_at bytes) at_2 (Some x) p.1) [
        | inl q ↦ let t = int_takes bytes x fits q.1 in tagged tag 1 (Int t.0) bytes (to_be_bytes w64 (cast_unsigned w64 t.0)) x (eqb-true _ _ q.0) refl t.1 t.2 t.3
        | inr q ↦ elim (chosen (eqb tag 2) (text_at bytes) at_3 (Some x) q.1) [
          | inl r ↦ let t = text_takes bytes x fits r.1 in tagged tag 2 (Chars t.0) bytes (to_be_bytes w32 (length t.0) ++ t.0) x (eqb-true _ _ r.0) refl t.1 t.2 t.3
          | inr r ↦ elim (chosen (eqb tag 3) (wide_at bytes) None (Some x) r.1) [
            | inl s ↦ let t = wide_takes bytes x fits s.1 in tagged tag 3 (Wide t.0) bytes (to_be_bytes w128 (cast_unsigned w128 t.0)) x (eqb-true _ _ s.0) refl t.1 t.2 t.3
            | inr s ↦ absurd (nothing x s.1)
          ]
        ]
      ]
    ]
  where
    nothing : (y : Value × List ℕ) → None ≡ Some y → ⊥
    nothing y h = cc

    null : eqb tag 0 ≡ true → (Null, bytes) ≡ x → TakesValue (tag ∷ bytes) x
    null is same = subst (TakesValue (tag ∷ bytes)) same (tagged tag 0 Null bytes [] (Null, bytes) (eqb-true _ _ is) refl refl (record { parts = refl; rest_fits = fits }) tt)

pub value_takes : (bytes : List ℕ) (x : Value × List ℕ) → IsBytes bytes → value_at bytes ≡ Some x → TakesValue bytes x
unfolding value_at
value_takes [] x fits e = absurd cc
value_takes (tag ∷ bytes) x fits e = behind_takes tag bytes x (IsBytes-rest tag bytes fits) e

pub value_again : (v : Value) (rest : List ℕ) → IsValue v → value_at (value_spelling v ++ rest) ≡ Some (v, rest)
unfolding value_at int_spelling text_spelling wide_spelling
value_again Null rest is = refl
value_again (Int n) rest is = int_again n rest is
value_again (Chars text) rest is = text_again text rest is
value_again (Wide n) rest is = wide_again n rest is
