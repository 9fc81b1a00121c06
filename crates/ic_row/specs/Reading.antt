-- Reading a row from the front of bytes, with the place of the first fault.
use Rattle.std.specs.Prelude.{◌≡◌, ℕ, zero, suc, ◌-◌, List, [], ◌∷◌, length, take, drop, Option, Some, None, Result, Ok, Err, nat_lt, ◌==◌, if◌then◌else◌}
use Rattle.std.specs.Option.{option_map, ok_or}
use Rattle.std.specs.Int.{Width, w16, w32, w64, w128, byte_len, from_be_bytes, cast_signed}
use Rattle.std.specs.Str.{is_utf8}
use Rattle.std.specs.Borrow.{Bor}
use Rattle.ic_row.specs.declared.value.Value.{Value}
use Rattle.ic_row.specs.declared.value.Value.TheVariants.{Null, Int, Wide, Chars}
use Rattle.ic_row.specs.declared.reading.RowNo.{RowNo}
use Rattle.ic_row.specs.declared.reading.RowNo.TheVariants.{RowFault, Memory}

-- a number from the front, and the bytes after it
abbrev pub number_at : Width → List ℕ → Option (ℕ × List ℕ)
number_at w bytes = if nat_lt (length bytes) (byte_len w) then None else Some (from_be_bytes w (take (byte_len w) bytes), drop (byte_len w) bytes)

-- a number as an int or as a wide, in two's complement
abbrev pub int_from : ℕ × List ℕ → Value × List ℕ
int_from n = (Int (cast_signed w64 n.0), n.1)

abbrev pub wide_from : ℕ × List ℕ → Value × List ℕ
wide_from n = (Wide (cast_signed w128 n.0), n.1)

-- an int after its tag, and a wide after its tag
unfoldable pub int_at : List ℕ → Option (Value × List ℕ)
int_at bytes = option_map int_from (number_at w64 bytes)

unfoldable pub wide_at : List ℕ → Option (Value × List ℕ)
wide_at bytes = option_map wide_from (number_at w128 bytes)

-- as many bytes as the number says, if they are there and are UTF-8
abbrev pub text_from : Option (ℕ × List ℕ) → Option (Value × List ℕ)
text_from None = None
text_from (Some n) =
    if nat_lt (length n.1) n.0 then None else
    (if is_utf8 (take n.0 n.1) then Some (Chars (take n.0 n.1), drop n.0 n.1) else None)

-- a text after its tag
unfoldable pub text_at : List ℕ → Option (Value × List ℕ)
text_at bytes = text_from (number_at w32 bytes)

-- the value that follows a tag, by what the tag means
abbrev pub value_behind : ℕ → List ℕ → Option (Value × List ℕ)
value_behind tag bytes =
    if tag == 0 then Some (Null, bytes) else
    (if tag == 1 then int_at bytes else
    (if tag == 2 then text_at bytes else
    (if tag == 3 then wide_at bytes else None)))

-- a value from the front, and the bytes after it
unfoldable pub value_at : List ℕ → Option (Value × List ℕ)
value_at [] = None
value_at (tag ∷ bytes) = value_behind tag bytes

-- one step and then the next; if the first failed, its error
infixl 10 ◌>>=◌
abbrev pub ◌>>=◌ : {A B : Type 0} → Result A ℕ → (A → Result B ℕ) → Result B ℕ
(Ok x) >>= f = f x
(Err left) >>= f = Err left

-- values from the front and the bytes after them; or, if one can't be read, how many bytes are left from the first such
-- value
unfoldable pub values_at : ℕ → List ℕ → Result (List Value × List ℕ) ℕ
values_at zero bytes = Ok ([], bytes)
values_at (suc n) bytes = do
  first ← ok_or (value_at bytes) (length bytes)
  others ← values_at n first.1
  Ok (first.0 ∷ others.0, others.1)

-- the whole bytes: the count, as many values, and nothing after them
unfoldable pub row_at : List ℕ → Result (List Value) ℕ
row_at bytes = do
  n ← ok_or (number_at w16 bytes) (length bytes)
  vs ← values_at n.0 n.1
  if length vs.1 == 0 then Ok vs.0 else Err (length vs.1)

-- the offset of a fault from the first byte, computed from how many bytes are left
abbrev pub placed : List ℕ → Result (List Value) ℕ → Result (List Value) ℕ
placed bytes (Ok row) = Ok row
placed bytes (Err left) = Err (length bytes - left)

-- the row that the bytes spell, or the place of the first fault
abbrev pub read_row_of : List ℕ → Result (List Value) ℕ
read_row_of bytes = placed bytes (row_at bytes)

-- a value with the bytes after it, as plain lists
abbrev pub seen : Option (Value × Bor (List ℕ)) → Option (Value × List ℕ)
seen found = option_map (λ x. (x.0, x.1.now)) found

-- the answer is what reading gives, unless memory ran out
abbrev pub Answers : Result (List Value) RowNo → Result (List Value) ℕ → Type 0
Answers (Ok row) read = read ≡ Ok row
Answers (Err (RowFault place)) read = read ≡ Err place
Answers (Err Memory) read = Unit {0}
