-- A receive ring: what it keeps, and what its calls do to it.
use Rattle.std.specs.Prelude.{◌≡◌, ℕ, ◌+◌, ◌-◌, ◌<◌, ◌≤◌, ◌==◌, nat_lt, ◌⊎◌, List, [], ◌∷◌, ◌++◌, length, map, filter, find, drop, Bool, not, Option, Contains, All}
use Rattle.ic_recvring.specs.declared.answer.Store.{Store}
use Rattle.ic_recvring.specs.declared.answer.Store.TheVariants.{Duplicate, Beyond, Stored}
use Rattle.ic_recvring.specs.Numbers.{numbers_from, Increases}

-- a packet of rows
pub record Packet : Type 0 where
  pub seq : ℕ
  pub last : Bool
  pub payload : List ℕ

-- a ring: all packets up to the number consumed were handed over, and these are kept, by increasing number
pub record Ring : Type 0 where
  pub consumed : ℕ
  pub kept : List Packet
  pub depth : ℕ
  pub packet : ℕ

-- ---- what it keeps

abbrev pub numbers : List Packet → List ℕ
numbers packets = map (λ p. p.seq) packets

-- the numbers of all packets that were stored: those consumed, and those kept
abbrev pub stored_of : Ring → List ℕ
stored_of s = numbers_from 1 s.consumed ++ numbers s.kept

-- how many bytes of payload a packet has room for
abbrev pub room_of : ℕ → ℕ
room_of packet = packet - 64

-- what is true of each ring
pub record IsRing (s : Ring) : Type 0 where
  pub ahead : Increases s.consumed (numbers s.kept)
  pub near : All (λ p. p.seq ≤ s.consumed + s.depth) s.kept
  pub fits : All (λ p. length p.payload ≤ room_of s.packet) s.kept

-- a ring of which nothing has come
abbrev pub empty : ℕ → ℕ → Ring
empty depth packet = record { consumed = 0; kept = []; depth = depth; packet = packet }

-- ---- storing, if the run ends at r

-- a packet that had come before: its number is at most the run's end, or kept
abbrev pub IsRepeated : Ring → ℕ → ℕ → Type 0
IsRepeated s r n = (n ≤ r) ⊎ Contains (numbers s.kept) n

abbrev pub IsNew : Ring → ℕ → ℕ → Type 0
IsNew s r n = (r < n) × (Contains (numbers s.kept) n → ⊥)

-- a packet that the ring has no room for: past the number consumed and the depth, or too long
abbrev pub IsBeyond : Ring → Packet → Type 0
IsBeyond s p = (s.consumed + s.depth < p.seq) ⊎ (room_of s.packet < length p.payload)

abbrev pub HasRoom : Ring → Packet → Type 0
HasRoom s p = (p.seq ≤ s.consumed + s.depth) × (length p.payload ≤ room_of s.packet)

-- a packet among others, by its number
abbrev pub placed : Packet → List Packet → List Packet
placed p packets = filter (λ q. nat_lt q.seq p.seq) packets ++ p ∷ filter (λ q. nat_lt p.seq q.seq) packets

-- which packet is answered so, and what it leaves
abbrev pub Stores : Ring → ℕ → Packet → Store → Ring → Type 0
Stores s r p Duplicate after = IsRepeated s r p.seq × (after ≡ s)
Stores s r p Beyond after = IsNew s r p.seq × IsBeyond s p × (after ≡ s)
Stores s r p Stored after = IsNew s r p.seq × HasRoom s p × (after ≡ record s { kept = placed p s.kept })

-- ---- consuming

-- the packet after the last one consumed, if it is kept
abbrev pub front_of : Ring → Option Packet
front_of s = find (λ p. p.seq == s.consumed + 1) s.kept

-- the front, which is the first one kept, is gone
abbrev pub after_front : Ring → Ring
after_front s = record s { consumed = s.consumed + 1; kept = drop 1 s.kept }

-- ---- taking back

-- the packet of this number is gone
abbrev pub without : ℕ → Ring → Ring
without n s = record s { kept = filter (λ p. not (p.seq == n)) s.kept }
