-- A written chunk is read back, and a chunk that is read has these bytes.
use Rattle.std.proofs.Common.{◌≡◌, ℕ, zero, suc, ◌+◌, ◌<◌, ◌≤◌, ◌^◌, List, [], ◌∷◌, ◌++◌, length, take, drop, Bool, true, false, cond, ltb, ◌==◌, eqb-true, Option, Some, None, refl, ap, sym, ◌∙◌, inl, inr, ◌⊎◌, arith, length-append, length-take, length-drop}
use Rattle.std.specs.Option.{option_and_then}
use Rattle.std.specs.Int.{w16, to_be_bytes, from_be_bytes}
use Rattle.std.proofs.lemmas.Nat.{be_bytes_2, from_be_bytes-to_be_bytes_2}
use Rattle.std.proofs.lemmas.Bool.{cases_lt, ltb-false}
use Rattle.std.proofs.lemmas.Bool.Decides.{nat_tests}
use Rattle.std.proofs.lemmas.List.{take_at, drop_at, take-append-drop, get_or-drop, get_or-take, get_or_past, drop-drop, length-take-le}
use Rattle.ic_chunk.specs.declared.chunk.ChunkKind.{ChunkKind}
use Rattle.ic_chunk.specs.declared.chunk.ChunkKind.TheVariants.{Whole, Start, Middle, End, EndOfStream, Empty}
use Rattle.ic_chunk.specs.Chunks.{Chunk, IsChunk, kind_number, allows, spelled}
use Rattle.ic_chunk.specs.Seen.{IsBytes}
use Rattle.ic_chunk.specs.Reading.{kind_at, body_at, chunk_at}

-- ---- lists of bytes

pub IsBytes-drop : (n : ℕ) (bytes : List ℕ) → IsBytes bytes → IsBytes (drop n bytes)
IsBytes-drop n bytes h i = rw get_or-drop (h (n + i))

pub IsBytes-take : (n : ℕ) (bytes : List ℕ) → IsBytes bytes → IsBytes (take n bytes)
IsBytes-take n bytes h i =
    elim (cases_lt i n) [
      | inl lt ↦ rw (get_or-take n bytes i 0 lt) (h i)
      | inr le ↦ rw (get_or_past (take n bytes) i 0 (omega (arith, length-take n bytes))) (omega arith)
    ]

pub IsBytes-append : (xs ys : List ℕ) → IsBytes xs → IsBytes ys → IsBytes (xs ++ ys)
IsBytes-append [] ys h k i = k i
IsBytes-append (x ∷ xs) ys h k zero = h 0
IsBytes-append (x ∷ xs) ys h k (suc i) = IsBytes-append xs ys (λ j. h (suc j)) k i

-- ---- tests

none_some : {A B : Type 0} (x : A) → None ≡ Some x → B
none_some x e = absurd cc

-- which way a choice went
chosen : {A : Type 0} (b : Bool) (x y z : A) → cond b x y ≡ z → ((b ≡ true) × (x ≡ z)) ⊎ ((b ≡ false) × (y ≡ z))
chosen true x y z e = inl (refl, e)
chosen false x y z e = inr (refl, e)

pub and_then_some : {A B : Type 0} (f : A → Option B) (o : Option A) (y : B) → option_and_then f o ≡ Some y → (x : A) × (o ≡ Some x) × (f x ≡ Some y)
and_then_some f None y e = absurd cc
and_then_some f (Some x) y e = (x, refl, e)

not_lt : (m n : ℕ) → n ≤ m → ltb m n ≡ false
not_lt m n le = grind (arith, nat_tests)

-- ---- kinds

kind_again : (kind : ChunkKind) → kind_at (kind_number kind) ≡ Some kind
unfolding kind_at
kind_again Whole = refl
kind_again Start = refl
kind_again Middle = refl
kind_again End = refl
kind_again EndOfStream = refl
kind_again Empty = refl

pub some_same : {A : Type 0} (x y : A) → Some x ≡ Some y → x ≡ y
some_same x y e = cc

-- one more number tried
tried : (n k : ℕ) (kind this : ChunkKind) (others : Option ChunkKind) → kind_number this ≡ k → (others ≡ Some kind → kind_number kind ≡ n) → cond (n == k) (Some this) others ≡ Some kind → kind_number kind ≡ n
tried n k kind this others is next e =
    elim (chosen (n == k) (Some this) others (Some kind) e) [
      | inl w ↦ ap kind_number (sym (some_same this kind w.1)) ∙ is ∙ sym (eqb-true n k w.0)
      | inr w ↦ next w.1
    ]

kind_number-is : (n : ℕ) (kind : ChunkKind) → kind_at n ≡ Some kind → kind_number kind ≡ n
unfolding kind_at
kind_number-is n kind e =
    tried n 0 kind Whole _ refl (tried n 1 kind Start _ refl (tried n 2 kind Middle _ refl (tried n 3 kind End _ refl (tried n 4 kind EndOfStream _ refl (tried n 5 kind Empty _ refl (λ e. absurd (none e))))))) e
  where
    none : None ≡ Some kind → ⊥
    none e = cc

kind_number-small : (kind : ChunkKind) → kind_number kind < 2 ^ 16
kind_number-small Whole = omega arith
kind_number-small Start = omega arith
kind_number-small Middle = omega arith
kind_number-small End = omega arith
kind_number-small EndOfStream = omega arith
kind_number-small Empty = omega arith

-- ---- chunks

pub length-spelled : (c : Chunk) → length (spelled c) ≡ length c.body + 4
unfolding spelled
length-spelled c = omega arith

-- a body that is there and allowed
body_again : (kind : ChunkKind) (body more : List ℕ) → allows kind (length body) ≡ true → body_at (length body) (body ++ more) kind ≡ Some (record { kind = kind; body = body }, more)
body_again kind body more allowed =
    let all : List ℕ = body ++ more in
    let there : ltb (length all) (length body) ≡ false = not_lt (length all) (length body) (omega (arith, length-append body more)) in
    ap (λ b. cond b None (cond (allows kind (length body)) (Some (record { kind = kind; body = take (length body) all }, drop (length body) all)) None)) there
    ∙ ap (λ b. cond b (Some (record { kind = kind; body = take (length body) all }, drop (length body) all)) None) allowed
    ∙ ap (λ l. Some (record { kind = kind; body = l }, drop (length body) all)) (take_at body more (length body) refl)
    ∙ ap (λ l. Some (record { kind = kind; body = body }, l)) (drop_at body more (length body) refl)

-- the tests of reading, if all are passed
passed : (bytes : List ℕ) (size number : ℕ) (kind : ChunkKind) (found : Chunk × List ℕ) → 4 ≤ length bytes → from_be_bytes w16 (take 2 bytes) ≡ size → from_be_bytes w16 (take 2 (drop 2 bytes)) ≡ number
    → kind_at number ≡ Some kind → body_at size (drop 4 bytes) kind ≡ Some found → chunk_at bytes ≡ Some found
unfolding chunk_at
passed bytes size number kind found long size_is number_is kind_is body_is =
    let f : ChunkKind → Option (Chunk × List ℕ) = body_at (from_be_bytes w16 (take 2 bytes)) (drop 4 bytes) in
    let there : ltb (length bytes) 4 ≡ false = not_lt (length bytes) 4 long in
    ap (λ b. cond b None (option_and_then f (kind_at (from_be_bytes w16 (take 2 (drop 2 bytes)))))) there
    ∙ ap (λ o. option_and_then f o) (ap kind_at number_is ∙ kind_is)
    ∙ ap (λ n. body_at n (drop 4 bytes) kind) size_is ∙ body_is

-- what was written is read back, whatever bytes follow
pub chunk_at-spelled : (c : Chunk) (more : List ℕ) → IsChunk c → chunk_at (spelled c ++ more) ≡ Some (c, more)
unfolding spelled
chunk_at-spelled c more h =
    passed (spelled c ++ more) (length c.body) (kind_number c.kind) c.kind (c, more) (omega arith)
    (from_be_bytes-to_be_bytes_2 (length c.body) h.small)
    (from_be_bytes-to_be_bytes_2 (kind_number c.kind) (kind_number-small c.kind))
    (kind_again c.kind)
    (body_again c.kind c.body more h.allowed)

-- what is read is spelled at the front of the bytes
pub record Takes (bytes : List ℕ) (c : Chunk) (more : List ℕ) : Type 0 where
  pub is_chunk : IsChunk c
  pub are : bytes ≡ spelled c ++ more

took_body : (size : ℕ) (bytes : List ℕ) (kind : ChunkKind) (c : Chunk) (more : List ℕ) → body_at size bytes kind ≡ Some (c, more)
    → (length c.body ≡ size) × (c.kind ≡ kind) × (allows kind size ≡ true) × (bytes ≡ c.body ++ more)
took_body size bytes kind c more e =
    elim (chosen (ltb (length bytes) size) None (cond (allows kind size) (Some (record { kind = kind; body = take size bytes }, drop size bytes)) None) (Some (c, more)) e) [
      | inl w ↦ none_some (c, more) w.1
      | inr w ↦
          elim (chosen (allows kind size) (Some (record { kind = kind; body = take size bytes }, drop size bytes)) None (Some (c, more)) w.1) [
            | inl v ↦
                let there : size ≤ length bytes = ltb-false (length bytes) size w.0 in
                let same : (record { kind = kind; body = take size bytes }, drop size bytes) ≡ (c, more) = some_same _ _ v.1 in
                let body : take size bytes ≡ c.body = ap (λ (f : Chunk × List ℕ). f.0.body) same in
                let rest : drop size bytes ≡ more = ap (λ (f : Chunk × List ℕ). f.1) same in
                (ap length (sym body) ∙ length-take-le size bytes there, sym (ap (λ (f : Chunk × List ℕ). f.0.kind) same), v.0, sym (take-append-drop size bytes) ∙ ap (λ l. l ++ drop size bytes) body ∙ ap (λ l. c.body ++ l) rest)
            | inr v ↦ none_some (c, more) v.1
          ]
    ]

from_two-small : (bytes : List ℕ) → IsBytes bytes → from_be_bytes w16 bytes < 2 ^ 16
from_two-small bytes fits = omega (arith, fits 0, fits 1)

-- four bytes are two and two
in_fours : (bytes : List ℕ) → bytes ≡ take 2 bytes ++ (take 2 (drop 2 bytes) ++ drop 4 bytes)
in_fours bytes = sym (take-append-drop 2 bytes) ∙ ap (λ l. take 2 bytes ++ l) (sym (take-append-drop 2 (drop 2 bytes)) ∙ ap (λ l. take 2 (drop 2 bytes) ++ l) (drop-drop 2 2 bytes))

pub chunk_at-some : (bytes : List ℕ) (c : Chunk) (more : List ℕ) → IsBytes bytes → chunk_at bytes ≡ Some (c, more) → Takes bytes c more
unfolding chunk_at spelled
chunk_at-some bytes c more fits e =
    let size = from_be_bytes w16 (take 2 bytes) in
    let number = from_be_bytes w16 (take 2 (drop 2 bytes)) in
    elim (chosen (ltb (length bytes) 4) None (option_and_then (body_at size (drop 4 bytes)) (kind_at number)) (Some (c, more)) e) [
      | inl w ↦ none_some (c, more) w.1
      | inr w ↦
          let long : 4 ≤ length bytes = ltb-false (length bytes) 4 w.0 in
          let k = and_then_some (body_at size (drop 4 bytes)) (kind_at number) (c, more) w.1 in
          let t = took_body size (drop 4 bytes) k.0 c more k.2 in
          let size_is : to_be_bytes w16 (length c.body) ≡ take 2 bytes =
          ap (to_be_bytes w16) t.0 ∙ be_bytes_2 (take 2 bytes) size (length-take-le 2 bytes (omega arith)) (IsBytes-take 2 bytes fits) refl in
          let kind_is : to_be_bytes w16 (kind_number c.kind) ≡ take 2 (drop 2 bytes) =
          ap (λ k. to_be_bytes w16 (kind_number k)) t.1 ∙ ap (to_be_bytes w16) (kind_number-is number k.0 k.1)
          ∙ be_bytes_2 (take 2 (drop 2 bytes)) number (length-take-le 2 (drop 2 bytes) (omega (arith, length-drop 2 bytes))) (IsBytes-take 2 (drop 2 bytes) (IsBytes-drop 2 bytes fits)) refl in
          record {
            is_chunk = record { small = rw t.0 (from_two-small (take 2 bytes) (IsBytes-take 2 bytes fits)); allowed = ap (λ k. allows k (length c.body)) t.1 ∙ ap (allows k.0) t.0 ∙ t.2 };
            are = in_fours bytes ∙ ap (λ l. l ++ (take 2 (drop 2 bytes) ++ drop 4 bytes)) (sym size_is) ∙ ap (λ l. to_be_bytes w16 (length c.body) ++ (l ++ drop 4 bytes)) (sym kind_is) ∙ ap (λ l. to_be_bytes w16 (length c.body) ++ (to_be_bytes w16 (kind_number c.kind) ++ l)) t.3;
          }
    ]
