-- The test for UTF-8 and the fact.
use Rattle.std.proofs.Common.{◌≡◌, ℕ, List, Bool, true, false, refl}
use Rattle.std.specs.Str.{IsUtf8, is_utf8}
use Rattle.std.proofs.lemmas.Str.{IsUtf8-from_is_utf8, is_utf8-from_IsUtf8}

pub not_utf8 : (bytes : List ℕ) → ¬ (IsUtf8 bytes) → is_utf8 bytes ≡ false
not_utf8 bytes wrong = by (is_utf8 bytes) (λ yes. wrong (IsUtf8-from_is_utf8 bytes yes))
  where
    by : (b : Bool) → (b ≡ true → ⊥) → b ≡ false
    by true f = absurd (f refl)
    by false f = refl

pub yes_utf8 : (bytes : List ℕ) → IsUtf8 bytes → is_utf8 bytes ≡ true
yes_utf8 = is_utf8-from_IsUtf8
