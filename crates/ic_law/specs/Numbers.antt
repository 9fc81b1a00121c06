-- Numbers of 32 bits in a body, and lists of numbers that increase.
use Rattle.std.specs.Prelude.{ℕ, zero, suc, ◌+◌, ◌/◌, ◌≤◌, List, [], ◌∷◌, length, take, drop}
use Rattle.std.specs.Int.{w32, from_be_bytes}

-- this many numbers from the front, four bytes each, most significant byte first
abbrev pub words_from : ℕ → List ℕ → List ℕ
words_from zero bytes = []
words_from (suc n) bytes = from_be_bytes w32 (take 4 bytes) ∷ words_from n (drop 4 bytes)

-- the numbers that fill a body
abbrev pub words_in : List ℕ → List ℕ
words_in body = words_from (length body / 4) body

-- each is greater than the one before it, and the first is at least this number
abbrev pub IsIncreasingFrom : ℕ → List ℕ → Type 0
IsIncreasingFrom least [] = Unit {0}
IsIncreasingFrom least (n ∷ ns) = (least ≤ n) × IsIncreasingFrom (n + 1) ns

-- the last of the numbers, or n if there is none
abbrev pub last_or : ℕ → List ℕ → ℕ
last_or n [] = n
last_or n (m ∷ ms) = last_or m ms
