-- The words of `sim`, and the sends that they say are lost.
use Rattle.std.specs.Prelude.{◌≡◌, ℕ, ◌^◌, List, [], ◌∷◌, length, take, drop, Bool, true, not, ◌&&◌, ◌==◌, nat_lt, nat_le, codes, slice_index, if◌then◌else◌, Option, Some, None, Result, Ok, Err}
use Rattle.std.specs.Str.{bytes_eq}
use Rattle.std.specs.Char.{is_ascii_digit}
use Rattle.std.specs.Str.Parse.{digits_value}
use Rattle.std.specs.List.{slice_split, list_all}
use Rattle.icq_top.specs.Steps.{◌>>=◌}
use Rattle.icq_top.specs.declared.words.WordsNo.{WordsNo}
use Rattle.icq_top.specs.declared.words.WordsNo.TheVariants.{Usage, Memory}

-- decimal digits, at least one, of which the first isn't 0
abbrev pub is_plain : List ℕ → Bool
is_plain text = nat_lt 0 (length text) && not (slice_index text 0 == 48) && list_all is_ascii_digit text

-- the number that a text writes, from 1 to 4294967295
abbrev pub number_of : List ℕ → Option ℕ
number_of text = if is_plain text && nat_lt (digits_value 10 text) (2 ^ 32) then Some (digits_value 10 text) else None

-- the number of each text
abbrev pub numbers_of : List (List ℕ) → Option (List ℕ)
numbers_of [] = Some []
numbers_of (text ∷ texts) = number_of text >>= λ n. numbers_of texts >>= λ ns. Some (n ∷ ns)

-- each number is less than the next
abbrev pub is_increasing : List ℕ → Bool
is_increasing [] = true
is_increasing (n ∷ []) = true
is_increasing (m ∷ n ∷ ns) = nat_lt m n && is_increasing (n ∷ ns)

-- the parts between the commas of a text
abbrev pub parts_of : List ℕ → List (List ℕ)
parts_of text = slice_split (λ byte. byte == 44) text

-- the numbers between commas, at most 64 of them
abbrev pub numbers_in : List ℕ → Option (List ℕ)
numbers_in text = if nat_le (length (parts_of text)) 64 then numbers_of (parts_of text) else None

-- the numbers of a text, if they increase
abbrev pub drops_in : List ℕ → Option (List ℕ)
drops_in text = numbers_in text >>= λ ns. if is_increasing ns then Some ns else None

-- what follows `drop=`
abbrev pub drop_text : List ℕ → Option (List ℕ)
drop_text word = if bytes_eq (take 5 word) (codes "drop=") then Some (drop 5 word) else None

-- the sends that are lost by the words after the command: none, or those of one word `drop`
abbrev pub drops_after : List (List ℕ) → Option (List ℕ)
drops_after [] = Some []
drops_after (word ∷ []) = drop_text word >>= drops_in
drops_after (word ∷ more ∷ words) = None

-- the sends that are lost by the words of `sim`, if the words are such
abbrev pub drops_of_words : List (List ℕ) → Option (List ℕ)
drops_of_words [] = None
drops_of_words (command ∷ words) = if bytes_eq command (codes "sim") then drops_after words else None

-- What a function returned, seen by view, is what the words say, unless memory ran out.
abbrev pub Gives : {X Y : Type 0} → (X → Y) → Result X WordsNo → Option Y → Type 0
Gives view (Ok x) told = told ≡ Some (view x)
Gives view (Err Usage) told = told ≡ None
Gives view (Err Memory) told = Unit {0}
