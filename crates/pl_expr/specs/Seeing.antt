-- A value as a comparison sees it, with a text in place.
use Rattle.std.specs.Prelude.{◌≡◌, ℤ, Bool, true, false, Option, Some, None}
use Rattle.std.specs.declared.cmp.Ordering.{Ordering}
use Rattle.ic_row.specs.declared.value.Value.{Value}
use Rattle.ic_row.specs.declared.value.Value.TheVariants.{Null, Int, Wide, Chars}
use Rattle.pl_expr.specs.declared.holding.Seen.{Seen}
use Rattle.pl_expr.specs.declared.holding.Seen.TheVariants.{Nothing, Number, Letters}
use Rattle.pl_expr.specs.Comparing.{order_of}

-- the number in a value
abbrev pub number_in : Value → Option ℤ
number_in (Int n) = Some n
number_in (Wide n) = Some n
number_in _ = None

abbrev pub Sees : Seen → Value → Type 0
Sees Nothing value = value ≡ Null
Sees (Number n) value = number_in value ≡ Some n
Sees (Letters text) value = value ≡ Chars text.now

-- two values that are seen so have this order
abbrev pub Orders : Seen → Seen → Option Ordering → Type 0
Orders left right order = (a b : Value) → Sees left a → Sees right b → order_of a b ≡ order

abbrev pub sees_nothing : Seen → Bool
sees_nothing Nothing = true
sees_nothing _ = false
