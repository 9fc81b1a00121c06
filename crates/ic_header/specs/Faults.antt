-- The four faults of a datagram. Each condition says that no earlier fault is there.
use Rattle.std.specs.Prelude.{◌≡◌, ◌≢◌, ℕ, ◌-◌, ◌<◌, ◌≤◌, List, length}
use Rattle.ic_header.specs.declared.flags.Flags.{Flags}
use Rattle.ic_header.specs.Spelling.{AllowsBody, flags_word}
use Rattle.ic_header.specs.Reading.{word_at}

-- fewer bytes than a header has
abbrev pub IsShort : List ℕ → Type 0
IsShort bytes = length bytes < 64

-- a header's bytes are there, and the crc word isn't 0
pub record IsCrcFault (bytes : List ℕ) : Type 0 where
  pub long : 64 ≤ length bytes
  pub crc : word_at bytes 11 ≢ 0

-- the crc word is 0, and the flags word is that of no kind
pub record IsFlagsFault (bytes : List ℕ) : Type 0 where
  pub long : 64 ≤ length bytes
  pub crc : word_at bytes 11 ≡ 0
  pub flags : (kind : Flags) → word_at bytes 12 ≢ flags_word kind

-- the kind is known, but the length in the header isn't that of the bytes, or the kind allows no body of this length
pub record IsLenFault (bytes : List ℕ) : Type 0 where
  pub long : 64 ≤ length bytes
  pub crc : word_at bytes 11 ≡ 0
  pub kind : Flags
  pub flags : word_at bytes 12 ≡ flags_word kind
  pub len : word_at bytes 13 ≡ length bytes → AllowsBody kind (length bytes - 64) → ⊥
