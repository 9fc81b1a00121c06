-- What is left to cut, one chunk on and at the end.
use Rattle.std.proofs.Common.{◌≡◌, ℕ, suc, ◌+◌, ◌-◌, ◌*◌, ◌/◌, ◌%◌, ◌<◌, ◌≤◌, List, [], ◌∷◌, length, take, drop, min, true, false, cond, ◌==◌, eq-eqb, inl, inr, refl, ap, sym, ◌∙◌, arith, length-drop}
use Rattle.std.proofs.lemmas.Nat.{div-mul-add, div-add-mod'}
use Rattle.std.proofs.Math.Nat.{div-eq_of_lt}
use Rattle.std.proofs.lemmas.Bool.{cases_lt}
use Rattle.std.proofs.lemmas.Bool.Decides.{nat_tests}
use Rattle.std.proofs.lemmas.List.{drop-drop, take_all, drop_all, nil_from_length}
use Rattle.ic_chunk.specs.Cutting.{pieces, count_of, bodies_of, tail_of, group_of, left_of, kind_of}

one_more : (x room : ℕ) → 0 < room → (x + room) / room ≡ suc (x / room)
one_more x room some =
    let whole : x + room ≡ suc (x / room) * room + x % room = omega (arith, div-add-mod' x room) in
    ap (λ n. n / room) whole ∙ div-mul-add (suc (x / room)) room (x % room) (omega arith)

count_of-nil : (room : ℕ) → 0 < room → count_of room [] ≡ 0
unfolding count_of
count_of-nil room some = div-eq_of_lt (omega arith)

count_of-suc : (room : ℕ) (bytes : List ℕ) → 0 < room → 0 < length bytes → count_of room bytes ≡ suc (count_of room (drop room bytes))
unfolding count_of
count_of-suc room bytes some filled =
    elim (cases_lt room (length bytes)) [
      | inl lt ↦
          let front : length bytes + room - 1 ≡ (length bytes - 1) + room = omega arith in
          let back : length (drop room bytes) + room - 1 ≡ length bytes - 1 = omega (arith, length-drop room bytes) in
          ap (λ n. n / room) front ∙ one_more (length bytes - 1) room some ∙ ap (λ n. suc (n / room)) (sym back)
      | inr le ↦
          let front : length bytes + room - 1 ≡ (length bytes - 1) + room = omega arith in
          let none : (length bytes - 1) / room ≡ 0 = div-eq_of_lt (omega arith) in
          let back : length (drop room bytes) + room - 1 ≡ room - 1 = omega (arith, length-drop room bytes) in
          let none_back : (room - 1) / room ≡ 0 = div-eq_of_lt (omega arith) in
          ap (λ n. n / room) front ∙ one_more (length bytes - 1) room some ∙ ap suc none ∙ ap suc (sym none_back) ∙ ap (λ n. suc (n / room)) (sym back)
    ]

pub bodies_of-nil : (room : ℕ) → 0 < room → bodies_of room [] ≡ []
bodies_of-nil room some = ap (λ n. pieces room n []) (count_of-nil room some)

pub bodies_of-more : (room : ℕ) (bytes : List ℕ) → 0 < room → 0 < length bytes → bodies_of room bytes ≡ take room bytes ∷ bodies_of room (drop room bytes)
bodies_of-more room bytes some filled = ap (λ n. pieces room n bytes) (count_of-suc room bytes some filled)

-- one chunk of what is left: its kind at the row's front, and after it
record Steps (room : ℕ) (bytes : List ℕ) (size : ℕ) : Type 0 where
  pub tail : tail_of (bodies_of room bytes) ≡ record { kind = kind_of false (size == length bytes); body = take size bytes } ∷ tail_of (bodies_of room (drop size bytes))
  pub group : group_of (bodies_of room bytes) ≡ record { kind = kind_of true (size == length bytes); body = take size bytes } ∷ tail_of (bodies_of room (drop size bytes))

steps-last : (room : ℕ) (bytes : List ℕ) (size : ℕ) → 0 < room → 0 < length bytes → length bytes ≤ room → size ≡ length bytes → Steps room bytes size
steps-last room bytes size some filled le is =
    let test : (size == length bytes) ≡ true = eq-eqb size (length bytes) is in
    let body : take room bytes ≡ take size bytes = take_all room bytes le ∙ sym (take_all size bytes (omega arith)) in
    let none : drop room bytes ≡ [] = drop_all room bytes le in
    let none_too : drop size bytes ≡ [] = drop_all size bytes (omega arith) in
    let cut : bodies_of room bytes ≡ take size bytes ∷ [] = bodies_of-more room bytes some filled ∙ ap (λ b. b ∷ bodies_of room (drop room bytes)) body ∙ ap (λ l. take size bytes ∷ bodies_of room l) none ∙ ap (λ l. take size bytes ∷ l) (bodies_of-nil room some) in
    let rest : tail_of (bodies_of room (drop size bytes)) ≡ [] = ap (λ l. tail_of (bodies_of room l)) none_too ∙ ap tail_of (bodies_of-nil room some) in
    record { tail = rw (cut, test, rest) refl; group = rw (cut, test, rest) refl }

steps-more : (room : ℕ) (bytes : List ℕ) (size : ℕ) → 0 < room → room < length bytes → size ≡ room → Steps room bytes size
steps-more room bytes size some lt is =
    let test : (size == length bytes) ≡ false = grind (arith, nat_tests) in
    let more : 0 < length (drop size bytes) = omega (arith, length-drop size bytes) in
    let cut : bodies_of room bytes ≡ take size bytes ∷ bodies_of room (drop size bytes) = bodies_of-more room bytes some (omega arith) ∙ ap (λ n. take n bytes ∷ bodies_of room (drop n bytes)) (sym is) in
    let next = bodies_of-more room (drop size bytes) some more in
    record { tail = rw (cut, test, next) refl; group = rw (cut, test, next) refl }

steps : (room : ℕ) (bytes : List ℕ) (size : ℕ) → 0 < room → 0 < length bytes → size ≡ min (length bytes) room → Steps room bytes size
steps room bytes size some filled is =
    elim (cases_lt room (length bytes)) [
      | inl lt ↦ steps-more room bytes size some lt (omega arith)
      | inr le ↦ steps-last room bytes size some filled le (omega arith)
    ]

behind : (room : ℕ) (row : List ℕ) (done : ℕ) → 0 < done → left_of room row done ≡ tail_of (bodies_of room (drop done row))
behind room row done some =
    let test : (done == 0) ≡ false = grind (arith, nat_tests) in
    ap (λ b. cond b (group_of (bodies_of room row)) (tail_of (bodies_of room (drop done row)))) test

then_behind : (room : ℕ) (row : List ℕ) (done size : ℕ) → 0 < size → tail_of (bodies_of room (drop size (drop done row))) ≡ left_of room row (done + size)
then_behind room row done size some = ap (λ l. tail_of (bodies_of room l)) (drop-drop size done row) ∙ sym (behind room row (done + size) (omega arith))

-- one chunk on
pub left_of-more : (room : ℕ) (row : List ℕ) (done size : ℕ) → 0 < room → 0 < length (drop done row) → size ≡ min (length (drop done row)) room
    → left_of room row done ≡ record { kind = kind_of (done == 0) (size == length (drop done row)); body = take size (drop done row) } ∷ left_of room row (done + size)
left_of-more room row done size some filled is =
    let s = steps room (drop done row) size some filled is in
    let body = take size (drop done row) in
    let last = size == length (drop done row) in
    let next = then_behind room row done size (omega arith) in
    elim (cases_lt 0 done) [
      | inl lt ↦
          let test : (done == 0) ≡ false = grind (arith, nat_tests) in
          behind room row done lt ∙ s.tail ∙ ap (λ l. record { kind = kind_of false last; body = body } ∷ l) next ∙ ap (λ b. record { kind = kind_of b last; body = body } ∷ left_of room row (done + size)) (sym test)
      | inr le ↦
          let zero_is : done ≡ 0 = omega arith in
          let test : (done == 0) ≡ true = eq-eqb done 0 zero_is in
          let all : drop done row ≡ row = ap (λ n. drop n row) zero_is in
          let front : left_of room row done ≡ group_of (bodies_of room (drop done row)) = ap (λ b. cond b (group_of (bodies_of room row)) (tail_of (bodies_of room (drop done row)))) test ∙ ap (λ l. group_of (bodies_of room l)) (sym all) in
          front ∙ s.group ∙ ap (λ l. record { kind = kind_of true last; body = body } ∷ l) next ∙ ap (λ b. record { kind = kind_of b last; body = body } ∷ left_of room row (done + size)) (sym test)
    ]

-- at the end
pub left_of-nil : (room : ℕ) (row : List ℕ) (done : ℕ) → 0 < room → length (drop done row) ≡ 0 → left_of room row done ≡ []
left_of-nil room row done some none =
    let nil : drop done row ≡ [] = nil_from_length (drop done row) none in
    let tail : tail_of (bodies_of room (drop done row)) ≡ [] = ap (λ l. tail_of (bodies_of room l)) nil ∙ ap tail_of (bodies_of-nil room some) in
    elim (cases_lt 0 done) [
      | inl lt ↦ behind room row done lt ∙ tail
      | inr le ↦
          let zero_is : done ≡ 0 = omega arith in
          let all : row ≡ [] = ap (λ n. drop n row) (sym zero_is) ∙ nil in
          ap (λ b. cond b (group_of (bodies_of room row)) (tail_of (bodies_of room (drop done row)))) (eq-eqb done 0 zero_is) ∙ ap (λ l. group_of (bodies_of room l)) all ∙ ap group_of (bodies_of-nil room some)
    ]
