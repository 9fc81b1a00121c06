-- What a datagram is: the sixteen words of its header, four bytes each, and then its body.
use Rattle.std.specs.Prelude.{◌≡◌, ℕ, ◌%◌, ◌<◌, ◌≤◌, ◌^◌, List, [], ◌∷◌, ◌++◌, length, FitsSigned}
use Rattle.std.specs.Int.{w32, cast_unsigned, to_be_bytes}
use Rattle.std.specs.List.{AllByRecursion, flat_map}
use Rattle.ic_header.specs.declared.header.Header.{Header}
use Rattle.ic_header.specs.declared.flags.Flags.{Flags}
use Rattle.ic_header.specs.declared.flags.Flags.TheVariants.{Rows, LastRows, Query, Ack, Stop, Nak, Disorder, Duplicate}

-- the word of each kind of packet
abbrev pub flags_word : Flags → ℕ
flags_word Rows = 0
flags_word LastRows = 8
flags_word Query = 128
flags_word Ack = 3
flags_word Stop = 5
flags_word Nak = 17
flags_word Disorder = 33
flags_word Duplicate = 65

-- the kind may have a body of n bytes
abbrev pub AllowsBody : Flags → ℕ → Type 0
AllowsBody Rows n = 4 ≤ n
AllowsBody LastRows n = 4 ≤ n
AllowsBody Query n = n ≡ 0
AllowsBody Ack n = n ≡ 0
AllowsBody Stop n = n ≡ 0
AllowsBody Nak n = n ≡ 0
AllowsBody Disorder n = (0 < n) × (n % 4 ≡ 0)
AllowsBody Duplicate n = n ≡ 0

-- the sixteen words: the content ids in two's complement, and 0 as the crc
abbrev pub words_of : Header → List ℕ
words_of h =
    h.motion ∷ h.src_pid ∷ h.src_port ∷ h.dst_pid ∷ h.dst_port ∷ h.session ∷ h.query ∷ h.recv_slice ∷ h.send_slice
    ∷ cast_unsigned w32 h.src_content ∷ cast_unsigned w32 h.dst_content ∷ 0 ∷ flags_word h.flags ∷ h.len ∷ h.seq ∷ h.extra ∷ []

-- the 64 bytes: four for each word, most significant first
unfoldable pub written : Header → List ℕ
written h = flat_map (to_be_bytes w32) (words_of h)

-- each word fits in 32 bits, and each content id in 32 signed bits
pub record IsInRange (h : Header) : Type 0 where
  pub words : AllByRecursion (λ w. w < 2 ^ 32) (words_of h)
  pub src_content : FitsSigned w32 h.src_content
  pub dst_content : FitsSigned w32 h.dst_content

-- the bytes are this header and this body, and the header has their total length
pub record Heads (header : Header) (body : List ℕ) (bytes : List ℕ) : Type 0 where
  pub spelled : bytes ≡ written header ++ body
  pub len : header.len ≡ length bytes
  pub allowed : AllowsBody header.flags (length body)
  pub in_range : IsInRange header
