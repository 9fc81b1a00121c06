-- Two values of which one may be absent.
use Rattle.std.proofs.Common.{◌≡◌, Bool, true, false, if◌then◌else◌, refl}
use Rattle.std.specs.Ordering.{is_lt}
use Rattle.ic_row.specs.declared.value.Value.{Value}
use Rattle.ic_row.specs.declared.value.Value.TheVariants.{Null, Int, Wide, Chars}
use Rattle.ic_row.specs.Values.{is_null}
use Rattle.ic_row.specs.Order.{value_cmp}
use Rattle.pl_ops.specs.Groups.{absent_or, lesser, greater}
use Rattle.pl_ops.specs.Overflow.{HasRoom}

pub absent_right : (f : Value → Value → Value) (a b : Value) → is_null b ≡ true → absent_or f a b ≡ a
absent_right f Null Null h = refl
absent_right f (Int n) Null h = refl
absent_right f (Wide n) Null h = refl
absent_right f (Chars t) Null h = refl
absent_right f a (Int n) h = absurd (cc)
absent_right f a (Wide n) h = absurd (cc)
absent_right f a (Chars t) h = absurd (cc)

pub absent_left : (f : Value → Value → Value) (a b : Value) → is_null a ≡ true → absent_or f a b ≡ b
absent_left f Null b h = refl
absent_left f (Int n) b h = absurd (cc)
absent_left f (Wide n) b h = absurd (cc)
absent_left f (Chars t) b h = absurd (cc)

pub both_there : (f : Value → Value → Value) (a b : Value) → is_null a ≡ false → is_null b ≡ false → absent_or f a b ≡ f a b
both_there f Null b p q = absurd (cc)
both_there f (Int n) Null p q = absurd (cc)
both_there f (Int n) (Int m) p q = refl
both_there f (Int n) (Wide m) p q = refl
both_there f (Int n) (Chars t) p q = refl
both_there f (Wide n) Null p q = absurd (cc)
both_there f (Wide n) (Int m) p q = refl
both_there f (Wide n) (Wide m) p q = refl
both_there f (Wide n) (Chars t) p q = refl
both_there f (Chars s) Null p q = absurd (cc)
both_there f (Chars s) (Int m) p q = refl
both_there f (Chars s) (Wide m) p q = refl
both_there f (Chars s) (Chars t) p q = refl

-- ---- room

room_of : (f : Value → Value → Value) (a b : Value) → HasRoom a → HasRoom b → HasRoom (f a b) → HasRoom (absent_or f a b)
room_of f Null b p q r = q
room_of f (Int n) Null p q r = p
room_of f (Int n) (Int m) p q r = r
room_of f (Int n) (Wide m) p q r = r
room_of f (Int n) (Chars t) p q r = r
room_of f (Wide n) Null p q r = p
room_of f (Wide n) (Int m) p q r = r
room_of f (Wide n) (Wide m) p q r = r
room_of f (Wide n) (Chars t) p q r = r
room_of f (Chars s) Null p q r = p
room_of f (Chars s) (Int m) p q r = r
room_of f (Chars s) (Wide m) p q r = r
room_of f (Chars s) (Chars t) p q r = r

one_has_room : (b : Bool) (x y : Value) → HasRoom x → HasRoom y → HasRoom (if b then x else y)
one_has_room true x y p q = p
one_has_room false x y p q = q

pub lesser_has_room : (a b : Value) → HasRoom a → HasRoom b → HasRoom (absent_or lesser a b)
lesser_has_room a b p q = room_of lesser a b p q (one_has_room (is_lt (value_cmp b a)) b a q p)

pub greater_has_room : (a b : Value) → HasRoom a → HasRoom b → HasRoom (absent_or greater a b)
greater_has_room a b p q = room_of greater a b p q (one_has_room (is_lt (value_cmp a b)) b a q p)
