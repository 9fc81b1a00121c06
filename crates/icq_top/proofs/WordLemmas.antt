-- Texts of digits.
use Rattle.std.proofs.Common.{◌≡◌, ℕ, ◌^◌, ◌<◌, List, length, true, Some, Result, Ok, Err, refl, ap, arith, rules}
use Rattle.std.proofs.lemmas.Bool.{and_parts, ltb-true, lt-ltb, le-ltb}
use Rattle.std.specs.Result.{OkIff, result_ok}
use Rattle.std.specs.Char.{is_ascii_digit}
use Rattle.std.specs.List.{list_all}
use Rattle.std.specs.Str.Parse.{digits_value, ParsesUnsigned}
use Rattle.std.proofs.lemmas.Str.Parse.{IsNumeralModel, numerals_by_value, parse_digits}
use Rattle.icq_top.specs.Words.{is_plain, number_of}

pub own_digits : IsNumeralModel (λ ds. list_all is_ascii_digit ds ≡ true) (digits_value 10)
own_digits = numerals_by_value _ (search rules)

-- what parse gives for plain digits
pub number_read : {E : Type 0} (text : List ℕ) (r : Result ℕ E) → is_plain text ≡ true → ParsesUnsigned 32 10 text r → result_ok r ≡ number_of text
number_read text r plain h = finish r (parse_digits own_digits 32 text r h (and_parts _ _ plain).1)
  where
    some : 0 < length text
    some = ltb-true 0 (length text) (and_parts _ _ (and_parts _ _ plain).0).0

    finish : {E : Type 0} (r : Result ℕ E) → OkIff r ((0 < length text) × (digits_value 10 text < 2 ^ 32)) (digits_value 10 text) → result_ok r ≡ number_of text
    finish (Ok n) w = rw (plain, lt-ltb (digits_value 10 text) (2 ^ 32) w.0.1) (ap Some w.1)
    finish (Err e) never =
        let short : digits_value 10 text < 2 ^ 32 → ⊥ = λ lt. never (some, lt) in
        rw (plain, le-ltb (digits_value 10 text) (2 ^ 32) (omega (arith, short))) refl
