-- The kinds of packets, their words and their bodies: the tests answer what the table says.
use Rattle.std.proofs.Common.{◌≡◌, ◌≢◌, ℕ, true, cond, ◌==◌, Option, Some, None, refl, sym, ap, ◌∙◌, arith, inl, inr}
use Rattle.std.proofs.lemmas.Bool.{cases_Bool, eqb-true, cond-true, cond-false}
use Rattle.std.proofs.lemmas.Bool.Decides.{nat_tests}
use Rattle.std.proofs.lemmas.Grind.{common_steps}
use Rattle.ic_header.specs.declared.flags.Flags.{Flags}
use Rattle.ic_header.specs.declared.flags.Flags.TheVariants.{Rows, LastRows, Query, Ack, Stop, Nak, Disorder, Duplicate}
use Rattle.ic_header.specs.Spelling.{AllowsBody, flags_word}
use Rattle.ic_header.specs.Reading.{allows_body, flags_of}

-- a kind's word names the kind
pub flags_of-flags_word : (kind : Flags) → flags_of (flags_word kind) ≡ Some kind
unfolding flags_of
flags_of-flags_word Rows = refl
flags_of-flags_word LastRows = refl
flags_of-flags_word Query = refl
flags_of-flags_word Ack = refl
flags_of-flags_word Stop = refl
flags_of-flags_word Nak = refl
flags_of-flags_word Disorder = refl
flags_of-flags_word Duplicate = refl

some_is : (a b : Flags) → Some a ≡ Some b → a ≡ b
some_is a b e = cc

-- one test of the eight
tested : (n m : ℕ) (kind found : Flags) (rest : Option Flags) → flags_word kind ≡ m → cond (n == m) (Some kind) rest ≡ Some found → (rest ≡ Some found → n ≡ flags_word found) → n ≡ flags_word found
tested n m kind found rest is e others =
    elim (cases_Bool (n == m)) [
      | inl same ↦ eqb-true n m same ∙ sym is ∙ ap flags_word (some_is kind found (sym (cond-true (n == m) (Some kind) rest same) ∙ e))
      | inr other ↦ others (sym (cond-false (n == m) (Some kind) rest other) ∙ e)
    ]

-- a word that names a kind is that kind's
pub flags_of-some : (n : ℕ) (kind : Flags) → flags_of n ≡ Some kind → n ≡ flags_word kind
unfolding flags_of
flags_of-some n kind e =
    tested n 0 Rows kind _ refl e (λ e1. tested n 8 LastRows kind _ refl e1 (λ e2. tested n 128 Query kind _ refl e2
    (λ e3. tested n 3 Ack kind _ refl e3 (λ e4. tested n 5 Stop kind _ refl e4 (λ e5. tested n 17 Nak kind _ refl e5
    (λ e6. tested n 33 Disorder kind _ refl e6 (λ e7. tested n 65 Duplicate kind None refl e7 (λ e8. absurd cc))))))))

-- a word that names no kind is the word of none
pub flags_of-none : (n : ℕ) → flags_of n ≡ None → (kind : Flags) → n ≢ flags_word kind
flags_of-none n e kind is =
    let both : Some kind ≡ None = sym (flags_of-flags_word kind) ∙ ap flags_of (sym is) ∙ e in absurd cc

none_among : (n : ℕ) (found : Option Flags) → flags_of n ≡ found → ((kind : Flags) → n ≢ flags_word kind) → found ≡ None
none_among n None e apart = refl
none_among n (Some kind) e apart = absurd (apart kind (flags_of-some n kind e))

-- a word that is no kind's names no kind
pub names_none : (n : ℕ) → ((kind : Flags) → n ≢ flags_word kind) → flags_of n ≡ None
names_none n apart = none_among n (flags_of n) refl apart

pub allows_body-true : (kind : Flags) (n : ℕ) → allows_body kind n ≡ true → AllowsBody kind n
allows_body-true Rows n h = grind (arith, nat_tests)
allows_body-true LastRows n h = grind (arith, nat_tests)
allows_body-true Query n h = grind (arith, nat_tests)
allows_body-true Ack n h = grind (arith, nat_tests)
allows_body-true Stop n h = grind (arith, nat_tests)
allows_body-true Nak n h = grind (arith, nat_tests)
allows_body-true Disorder n h = grind (arith, nat_tests, common_steps)
allows_body-true Duplicate n h = grind (arith, nat_tests)

pub allows_body-from : (kind : Flags) (n : ℕ) → AllowsBody kind n → allows_body kind n ≡ true
allows_body-from Rows n h = grind (arith, nat_tests)
allows_body-from LastRows n h = grind (arith, nat_tests)
allows_body-from Query n h = grind (arith, nat_tests)
allows_body-from Ack n h = grind (arith, nat_tests)
allows_body-from Stop n h = grind (arith, nat_tests)
allows_body-from Nak n h = grind (arith, nat_tests)
allows_body-from Disorder n h = grind (arith, nat_tests, common_steps)
allows_body-from Duplicate n h = grind (arith, nat_tests)
