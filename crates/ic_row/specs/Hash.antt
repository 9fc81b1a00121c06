-- The segment that a row's key gives.
use Rattle.std.specs.Prelude.{ℕ, ◌*◌, ◌%◌, ◌^◌, List, bit_xor}
use Rattle.std.specs.List.{fold, flat_map}
use Rattle.ic_row.specs.declared.value.Value.{Value}
use Rattle.ic_row.specs.Values.{key_of}
use Rattle.ic_row.specs.Spelling.{value_spelling}

-- FNV-1a in 64 bits: the offset basis, and the step for one byte
unfoldable pub basis : ℕ
basis = 14695981039346656037

unfoldable pub hash_step : ℕ → ℕ → ℕ
hash_step hash byte = (bit_xor hash byte * 1099511628211) % 2 ^ 64

-- the hash of bytes
abbrev pub hash_of : List ℕ → ℕ
hash_of bytes = fold hash_step basis bytes

-- the spellings of a key's values, in the key's order
abbrev pub key_bytes : List ℕ → List Value → List ℕ
key_bytes columns row = flat_map value_spelling (key_of columns row)

-- the hash of the key, modulo the number of segments
unfoldable pub segment_for : List ℕ → List Value → ℕ → ℕ
segment_for columns row segments = hash_of (key_bytes columns row) % segments
