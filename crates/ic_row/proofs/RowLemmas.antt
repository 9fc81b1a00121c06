-- A row that is read has these bytes as its spelling; a spelled row is read back; the fault named is the first one.
use Rattle.std.proofs.Common.{◌≡◌, ℕ, zero, suc, Bool, true, false, cond, eqb, List, [], ◌∷◌, ◌++◌, length, Option, Some, None, Result, Ok, Err, refl, sym, ap, subst, ◌∙◌, append_assoc, arith}
use Rattle.std.specs.Option.{ok_or}
use Rattle.std.specs.List.{flat_map, AllByRecursion}
use Rattle.std.specs.Int.{w16, to_be_bytes}
use Rattle.std.proofs.lemmas.Bool.{eqb-true}
use Rattle.std.proofs.lemmas.List.{append-nil, nil_from_length}
use Rattle.ic_row.specs.declared.value.Value.{Value}
use Rattle.ic_row.specs.declared.value.Value.TheVariants.{Null, Int, Wide, Chars}
use Rattle.ic_row.specs.Spelling.{value_spelling, spelling_of, IsValue, IsRow, Spells, FitsLength, HasLengths}
use Rattle.ic_row.specs.Reading.{◌>>=◌, number_at, value_at, values_at, row_at, placed, read_row_of}
use Rattle.ic_row.proofs.Fields.{IsBytes, Takes, Takes-then, wide16, number_takes, number_again}
use Rattle.ic_row.proofs.ValueLemmas.{value_takes, value_again}

-- the value of a step that didn't fail
bind_ok : {A B : Type 0} (r : Result A ℕ) (f : A → Result B ℕ) (y : B) → (r >>= f) ≡ Ok y → (x : A) × (r ≡ Ok x) × (f x ≡ Ok y)
bind_ok (Ok x) f y e = (x, refl, e)
bind_ok (Err d) f y e = absurd cc

abbrev done : {A : Type 0} → A → Result A ℕ
done x = Ok x

ok_is : {A : Type 0} (x y : A) → done x ≡ done y → x ≡ y
ok_is x y e = cc

some_from_ok : {A : Type 0} (o : Option A) (left : ℕ) (x : A) → ok_or o left ≡ Ok x → o ≡ Some x
some_from_ok None left x e = absurd cc
some_from_ok (Some y) left x e = ap Some (ok_is y x e)

guard_ended : {A : Type 0} (b : Bool) (d : ℕ) (x y : A) → cond b (Ok x) (Err d) ≡ Ok y → (b ≡ true) × (x ≡ y)
guard_ended true d x y e = (refl, ok_is x y e)
guard_ended false d x y e = absurd cc

-- every row of the program can be spelled
texts_fit : (vs : List Value) → AllByRecursion IsValue vs → AllByRecursion FitsLength vs
texts_fit [] each = tt
texts_fit (Null ∷ vs) each = (tt, texts_fit vs each.1)
texts_fit (Int n ∷ vs) each = (tt, texts_fit vs each.1)
texts_fit (Wide n ∷ vs) each = (tt, texts_fit vs each.1)
texts_fit (Chars text ∷ vs) each = (each.0.0, texts_fit vs each.1)

pub has_lengths : (row : List Value) → IsRow row → HasLengths row
has_lengths row is = record { count = is.count; texts = texts_fit row is.values }

-- ---- several values

-- values that are read, and how many of them
pub record TakesValues (count : ℕ) (bytes : List ℕ) (x : List Value × List ℕ) : Type 0 where
  pub takes : Takes bytes (flat_map value_spelling x.0) x.1
  pub many : length x.0 ≡ count
  pub each : AllByRecursion IsValue x.0

pub values_take : (n : ℕ) (bytes : List ℕ) (x : List Value × List ℕ) → IsBytes bytes → values_at n bytes ≡ Ok x → TakesValues n bytes x
unfolding values_at
values_take zero bytes x fits e = subst (TakesValues 0 bytes) (ok_is ([], bytes) x e) (record { takes = record { parts = refl; rest_fits = fits }; many = refl; each = tt })
values_take (suc n) bytes x fits e =
    let a = bind_ok (ok_or (value_at bytes) (length bytes)) (λ first. values_at n first.1 >>= λ others. Ok (first.0 ∷ others.0, others.1)) x e in
    let b = bind_ok (values_at n a.0.1) (λ others. Ok (a.0.0 ∷ others.0, others.1)) x a.2 in
    let first = value_takes bytes a.0 fits (some_from_ok (value_at bytes) (length bytes) a.0 a.1) in
    let second = values_take n a.0.1 b.0 first.takes.rest_fits b.1 in
    let both = Takes-then bytes (value_spelling a.0.0) a.0.1 (flat_map value_spelling b.0.0) b.0.1 first.takes second.takes in
    let made : List Value × List ℕ = (a.0.0 ∷ b.0.0, b.0.1) in
    subst (TakesValues (suc n) bytes) (ok_is made x b.2) (record { takes = both; many = ap suc second.many; each = (first.is, second.each) })

pub values_again : (vs : List Value) (rest : List ℕ) → AllByRecursion IsValue vs → values_at (length vs) (flat_map value_spelling vs ++ rest) ≡ Ok (vs, rest)
unfolding values_at
values_again [] rest fits = refl
values_again (v ∷ vs) rest fits =
    let regrouped : flat_map value_spelling (v ∷ vs) ++ rest ≡ value_spelling v ++ (flat_map value_spelling vs ++ rest) = append_assoc (value_spelling v) (flat_map value_spelling vs) rest in
    ap (values_at (suc (length vs))) regrouped ∙ rw (value_again v (flat_map value_spelling vs ++ rest) fits.0, values_again vs rest fits.1) refl

-- ---- a row

-- a row read from the front, with bytes after it
pub row_front : List ℕ → Result (List Value × List ℕ) ℕ
row_front bytes = ok_or (number_at w16 bytes) (length bytes) >>= λ n. values_at n.0 n.1

front_again : (row : List Value) (more : List ℕ) → IsRow row → row_front (spelling_of row ++ more) ≡ Ok (row, more)
unfolding row_front spelling_of
front_again row more is =
    let bytes = flat_map value_spelling row ++ more in
    let regrouped : spelling_of row ++ more ≡ to_be_bytes w16 (length row) ++ bytes = append_assoc (to_be_bytes w16 (length row)) (flat_map value_spelling row) more in
    ap row_front regrouped ∙ rw (number_again w16 wide16 (length row) bytes is.count) (values_again row more is.values)

pub begins_alone : (a b : List Value) (x y : List ℕ) → IsRow a → IsRow b → spelling_of a ++ x ≡ spelling_of b ++ y → (a ≡ b) × (x ≡ y)
begins_alone a b x y p q e =
    let both : done (a, x) ≡ done (b, y) = sym (front_again a x p) ∙ ap row_front e ∙ front_again b y q in
    let same = ok_is (a, x) (b, y) both in
    (ap (λ (r : List Value × List ℕ). r.0) same, ap (λ (r : List Value × List ℕ). r.1) same)

pub one_spelling : (a b : List Value) → IsRow a → IsRow b → spelling_of a ≡ spelling_of b → a ≡ b
one_spelling a b p q e = (begins_alone a b [] [] p q (ap (λ (l : List ℕ). l ++ []) e)).0

pub prefix_free : (a b : List Value) (more : List ℕ) → IsRow a → IsRow b → spelling_of a ++ more ≡ spelling_of b → more ≡ []
prefix_free a b more p q e = (begins_alone a b more [] p q (e ∙ sym (append-nil (spelling_of b)))).1

pub row_takes : (bytes : List ℕ) (row : List Value) → IsBytes bytes → row_at bytes ≡ Ok row → Spells row bytes
unfolding row_at spelling_of
row_takes bytes row fits e =
    let a = bind_ok (ok_or (number_at w16 bytes) (length bytes)) (λ n. values_at n.0 n.1 >>= λ x. cond (eqb (length x.1) 0) (Ok x.0) (Err (length x.1))) row e in
    let b = bind_ok (values_at a.0.0 a.0.1) (λ x. cond (eqb (length x.1) 0) (Ok x.0) (Err (length x.1))) row a.2 in
    let g = guard_ended (eqb (length b.0.1) 0) (length b.0.1) b.0.0 row b.2 in
    let first = number_takes w16 wide16 bytes a.0.0 a.0.1 fits (some_from_ok (number_at w16 bytes) (length bytes) a.0 a.1) in
    let second = values_take a.0.0 a.0.1 b.0 first.0.rest_fits b.1 in
    let nothing : b.0.1 ≡ [] = nil_from_length b.0.1 (eqb-true _ _ g.0) in
    let both = (Takes-then bytes (to_be_bytes w16 a.0.0) a.0.1 (flat_map value_spelling b.0.0) b.0.1 first.0 second.takes).parts in
    let whole : bytes ≡ spelling_of b.0.0 = both ∙ ap (λ (r : List ℕ). (to_be_bytes w16 a.0.0 ++ flat_map value_spelling b.0.0) ++ r) nothing ∙ append-nil (to_be_bytes w16 a.0.0 ++ flat_map value_spelling b.0.0) ∙ ap (λ (k : ℕ). to_be_bytes w16 k ++ flat_map value_spelling b.0.0) (sym second.many) in
    subst (λ (v : List Value). Spells v bytes) g.1 (record { is_row = record { count = omega (arith, second.many, first.1); values = second.each }; are = whole })

row_again : (row : List Value) → IsRow row → row_at (spelling_of row) ≡ Ok row
unfolding row_at spelling_of
row_again row is =
    let bytes = flat_map value_spelling row in
    let rest : values_at (length row) bytes ≡ Ok (row, []) = ap (values_at (length row)) (sym (append-nil bytes)) ∙ values_again row [] is.values in
    rw (number_again w16 wide16 (length row) bytes is.count, rest) refl

pub read_again : (row : List Value) → IsRow row → read_row_of (spelling_of row) ≡ Ok row
read_again row is = ap (placed (spelling_of row)) (row_again row is)
