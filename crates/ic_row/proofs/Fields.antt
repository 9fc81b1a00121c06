-- A number that is read is the number that was written, and what was written is read again.
use Rattle.std.proofs.Common.{◌≡◌, ℕ, suc, ◌+◌, ◌^◌, ◌<◌, ◌≤◌, Bool, true, false, cond, ltb, ℤ, List, ◌∷◌, ◌++◌, length, get_or, take, drop, Option, Some, None, refl, sym, ap, subst, ◌∙◌, append_assoc, arith, inl, inr}
use Rattle.std.specs.Option.{option_map}
use Rattle.std.specs.Int.{Width, w16, w32, w64, w128, byte_len, from_be_bytes, to_be_bytes, cast_unsigned, cast_signed}
use mir.Val.{bits}
use Rattle.std.specs.Int.RustNames.{FitsSigned}
use Rattle.std.proofs.lemmas.Bool.{cases_lt, ltb-false, le-ltb}
use Rattle.std.proofs.lemmas.List.{take_at, drop_at, take-append-drop, length-append, length-take, get_or-drop, get_or-take, get_or_past}
use Rattle.std.proofs.lemmas.Nat.{be_bytes_2, be_bytes_4, be_bytes_8, from_be_bytes-to_be_bytes_2, from_be_bytes-to_be_bytes_4, from_be_bytes-to_be_bytes_8}
use Rattle.std.proofs.lemmas.Int.{to_z-of_z, of_z-to_z}
use Rattle.std.proofs.Math.Facts.{Fits-of_z, Fits-of_lt, Fits-lt-pow, sfits_to_z}
use Rattle.ic_row.specs.declared.value.Value.{Value}
use Rattle.ic_row.specs.declared.value.Value.TheVariants.{Int, Wide}
use Rattle.ic_row.specs.Reading.{number_at, int_from, wide_from, int_at, wide_at}
use Rattle.ic_row.proofs.Wide.{be_bytes_16, below_16, from_be_bytes-to_be_bytes_16}

abbrev pub IsBytes : List ℕ → Type 0
IsBytes bytes = (i : ℕ) → get_or bytes i 0 < 256

pub IsBytes-drop : (n : ℕ) (bytes : List ℕ) → IsBytes bytes → IsBytes (drop n bytes)
IsBytes-drop n bytes h i = rw get_or-drop (h (n + i))

IsBytes-take : (n : ℕ) (bytes : List ℕ) → IsBytes bytes → IsBytes (take n bytes)
IsBytes-take n bytes h i =
    elim (cases_lt i n) [
      | inl lt ↦ rw (get_or-take n bytes i 0 lt) (h i)
      | inr le ↦ rw (get_or_past (take n bytes) i 0 (omega (arith, length-take n bytes))) (omega arith)
    ]

pub IsBytes-rest : (b : ℕ) (bytes : List ℕ) → IsBytes (b ∷ bytes) → IsBytes bytes
IsBytes-rest b bytes h i = h (suc i)

-- what a reader took from the front
pub record Takes (bytes text rest : List ℕ) : Type 0 where
  pub parts : bytes ≡ text ++ rest
  pub rest_fits : IsBytes rest

pub Takes-then : (a x b y c : List ℕ) → Takes a x b → Takes b y c → Takes a (x ++ y) c
Takes-then a x b y c p q = record { parts = p.parts ∙ ap (λ (t : List ℕ). x ++ t) q.parts ∙ sym (append_assoc x y c); rest_fits = q.rest_fits }

abbrev found : {A : Type 0} → A → Option A
found x = Some x

pub some_is : {A : Type 0} (x y : A) → found x ≡ found y → x ≡ y
some_is x y e = cc

-- a step that found something
pub map_some : {A B : Type 0} (f : A → B) (o : Option A) (y : B) → option_map f o ≡ Some y → (x : A) × (o ≡ Some x) × (f x ≡ y)
map_some f (Some x) y e = (x, refl, some_is (f x) y e)
map_some f None y e = absurd cc

-- ---- numbers

pub record IsWide (w : Width) : Type 0 where
  pub len : (n : ℕ) → length (to_be_bytes w n) ≡ byte_len w
  pub back : (bytes : List ℕ) → length bytes ≡ byte_len w → IsBytes bytes → to_be_bytes w (from_be_bytes w bytes) ≡ bytes
  pub again : (n : ℕ) → n < 2 ^ bits w → from_be_bytes w (to_be_bytes w n) ≡ n
  pub below : (bytes : List ℕ) → IsBytes bytes → from_be_bytes w bytes < 2 ^ bits w

pub wide16 : IsWide w16
wide16 = record {
  len = λ n. refl;
  back = λ bytes len fits. be_bytes_2 bytes _ len fits refl;
  again = λ n lt. from_be_bytes-to_be_bytes_2 n lt;
  below = λ bytes fits. omega (arith, fits 0, fits 1);
}

pub wide32 : IsWide w32
wide32 = record {
  len = λ n. refl;
  back = λ bytes len fits. be_bytes_4 bytes _ len fits refl;
  again = λ n lt. from_be_bytes-to_be_bytes_4 n lt;
  below = λ bytes fits. omega (arith, fits 0, fits 1, fits 2, fits 3);
}

pub wide64 : IsWide w64
wide64 = record {
  len = λ n. refl;
  back = λ bytes len fits. be_bytes_8 bytes _ len fits refl;
  again = λ n lt. from_be_bytes-to_be_bytes_8 n lt;
  below = λ bytes fits. omega (arith, fits 0, fits 1, fits 2, fits 3, fits 4, fits 5, fits 6, fits 7);
}

pub wide128 : IsWide w128
wide128 = record {
  len = λ n. refl;
  back = λ bytes len fits. be_bytes_16 bytes len fits;
  again = λ n lt. from_be_bytes-to_be_bytes_16 n lt;
  below = λ bytes fits. below_16 bytes fits;
}

pub number_takes : (w : Width) (wide : IsWide w) (bytes : List ℕ) (n : ℕ) (rest : List ℕ) → IsBytes bytes → number_at w bytes ≡ Some (n, rest) → Takes bytes (to_be_bytes w n) rest × (n < 2 ^ bits w)
number_takes w wide bytes n rest fits e =
    let g = taken (ltb (length bytes) (byte_len w)) (from_be_bytes w (take (byte_len w) bytes), drop (byte_len w) bytes) (n, rest) e in
    let long : byte_len w ≤ length bytes = ltb-false _ _ g.0 in
    let n-is : from_be_bytes w (take (byte_len w) bytes) ≡ n = ap (λ (p : ℕ × List ℕ). p.0) g.1 in
    let rest-is : drop (byte_len w) bytes ≡ rest = ap (λ (p : ℕ × List ℕ). p.1) g.1 in
    let front : to_be_bytes w n ≡ take (byte_len w) bytes = rw (← n-is) (wide.back (take (byte_len w) bytes) (omega (arith, length-take (byte_len w) bytes)) (IsBytes-take (byte_len w) bytes fits)) in
    (record { parts = rw (front, ← rest-is) (sym (take-append-drop (byte_len w) bytes)); rest_fits = rw (← rest-is) (IsBytes-drop (byte_len w) bytes fits) }, rw (← n-is) (wide.below (take (byte_len w) bytes) (IsBytes-take (byte_len w) bytes fits)))
  where
    taken : {A : Type 0} (b : Bool) (x y : A) → cond b None (Some x) ≡ Some y → (b ≡ false) × (x ≡ y)
    taken true x y e = absurd cc
    taken false x y e = (refl, some_is x y e)

pub number_again : (w : Width) (wide : IsWide w) (n : ℕ) (rest : List ℕ) → n < 2 ^ bits w → number_at w (to_be_bytes w n ++ rest) ≡ Some (n, rest)
number_again w wide n rest lt =
    let len = wide.len n in
    let long : ltb (length (to_be_bytes w n ++ rest)) (byte_len w) ≡ false = le-ltb _ _ (omega (arith, length-append (to_be_bytes w n) rest)) in
    rw (long, take_at (to_be_bytes w n) rest (byte_len w) len, drop_at (to_be_bytes w n) rest (byte_len w) len, wide.again n lt) refl

-- ---- ints and wides

pub int_takes : (bytes : List ℕ) (x : Value × List ℕ) → IsBytes bytes → int_at bytes ≡ Some x → (n : ℤ) × (x.0 ≡ Int n) × Takes bytes (to_be_bytes w64 (cast_unsigned w64 n)) x.1 × FitsSigned w64 n
unfolding int_at
int_takes bytes x fits e =
    let a = map_some int_from (number_at w64 bytes) x e in
    let t = number_takes w64 wide64 bytes a.0.0 a.0.1 fits a.1 in
    let same : cast_unsigned w64 (cast_signed w64 a.0.0) ≡ a.0.0 = of_z-to_z w64 a.0.0 t.1 in
    let rest : a.0.1 ≡ x.1 = ap (λ (p : Value × List ℕ). p.1) a.2 in
    let taken : Takes bytes (to_be_bytes w64 (cast_unsigned w64 (cast_signed w64 a.0.0))) x.1 = subst (λ (m : ℕ). Takes bytes (to_be_bytes w64 m) x.1) (sym same) (subst (λ (r : List ℕ). Takes bytes (to_be_bytes w64 a.0.0) r) rest t.0) in
    (cast_signed w64 a.0.0, sym (ap (λ (p : Value × List ℕ). p.0) a.2), taken, sfits_to_z (Fits-of_lt t.1))

pub wide_takes : (bytes : List ℕ) (x : Value × List ℕ) → IsBytes bytes → wide_at bytes ≡ Some x → (n : ℤ) × (x.0 ≡ Wide n) × Takes bytes (to_be_bytes w128 (cast_unsigned w128 n)) x.1 × FitsSigned w128 n
unfolding wide_at
wide_takes bytes x fits e =
    let a = map_some wide_from (number_at w128 bytes) x e in
    let t = number_takes w128 wide128 bytes a.0.0 a.0.1 fits a.1 in
    let same : cast_unsigned w128 (cast_signed w128 a.0.0) ≡ a.0.0 = of_z-to_z w128 a.0.0 t.1 in
    let rest : a.0.1 ≡ x.1 = ap (λ (p : Value × List ℕ). p.1) a.2 in
    let taken : Takes bytes (to_be_bytes w128 (cast_unsigned w128 (cast_signed w128 a.0.0))) x.1 = subst (λ (m : ℕ). Takes bytes (to_be_bytes w128 m) x.1) (sym same) (subst (λ (r : List ℕ). Takes bytes (to_be_bytes w128 a.0.0) r) rest t.0) in
    (cast_signed w128 a.0.0, sym (ap (λ (p : Value × List ℕ). p.0) a.2), taken, sfits_to_z (Fits-of_lt t.1))

pub int_again : (n : ℤ) (rest : List ℕ) → FitsSigned w64 n → int_at (to_be_bytes w64 (cast_unsigned w64 n) ++ rest) ≡ Some (Int n, rest)
unfolding int_at
int_again n rest fits =
    ap (option_map int_from) (number_again w64 wide64 (cast_unsigned w64 n) rest (Fits-lt-pow (Fits-of_z fits)))
    ∙ ap (λ (z : ℤ). Some (Int z, rest)) (to_z-of_z w64 n fits)

pub wide_again : (n : ℤ) (rest : List ℕ) → FitsSigned w128 n → wide_at (to_be_bytes w128 (cast_unsigned w128 n) ++ rest) ≡ Some (Wide n, rest)
unfolding wide_at
wide_again n rest fits =
    ap (option_map wide_from) (number_again w128 wide128 (cast_unsigned w128 n) rest (Fits-lt-pow (Fits-of_z fits)))
    ∙ ap (λ (z : ℤ). Some (Wide z, rest)) (to_z-of_z w128 n fits)
