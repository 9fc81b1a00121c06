-- A send ring: what it keeps, and what its calls do to it.
use Rattle.std.specs.Prelude.{◌≡◌, ℕ, zero, suc, ◌+◌, ◌-◌, ◌<◌, ◌≤◌, ◌^◌, ◌==◌, ◌||◌, nat_lt, List, [], ◌∷◌, ◌++◌, length, map, filter, find, Bool, false, not, Option, Result, Ok, Err, All}
use Rattle.std.specs.Option.{option_map}
use Rattle.ic_sendring.specs.declared.fault.SealNo.{SealNo}
use Rattle.ic_sendring.specs.declared.fault.SealNo.TheVariants.{Full, TooLong}

-- a packet of rows
pub record Packet : Type 0 where
  pub seq : ℕ
  pub last : Bool
  pub payload : List ℕ

-- a packet that is kept, and whether it was sent
pub record Kept : Type 0 where
  pub packet : Packet
  pub sent : Bool

-- a ring: the number of the last packet sealed, and those that are kept, from the least number on
pub record Ring : Type 0 where
  pub sealed : ℕ
  pub kept : List Kept
  pub depth : ℕ
  pub packet : ℕ

-- ---- what it keeps

-- so many numbers from n on
abbrev pub numbers_from : ℕ → ℕ → List ℕ
numbers_from n zero = []
numbers_from n (suc count) = n ∷ numbers_from (n + 1) count

abbrev pub numbers : List Kept → List ℕ
numbers kept = map (λ k. k.packet.seq) kept

-- how many bytes of payload a packet has room for
abbrev pub room_of : ℕ → ℕ
room_of packet = packet - 64

abbrev pub sent_ones : List Kept → List Kept
sent_ones kept = filter (λ k. k.sent) kept

abbrev pub unsent_ones : List Kept → List Kept
unsent_ones kept = filter (λ k. not k.sent) kept

-- what is true of each ring: the kept numbers are the last ones sealed, without a gap, and those that were sent stand
-- before those that weren't
pub record IsRing (s : Ring) : Type 0 where
  pub follow : numbers s.kept ≡ numbers_from (s.sealed + 1 - length s.kept) (length s.kept)
  pub least : length s.kept ≤ s.sealed
  pub greatest : s.sealed < 2 ^ 32
  pub order : s.kept ≡ sent_ones s.kept ++ unsent_ones s.kept
  pub within : length s.kept ≤ s.depth
  pub fits : All (λ k. length k.packet.payload ≤ room_of s.packet) s.kept

-- a ring of which nothing was sealed
abbrev pub empty : ℕ → ℕ → Ring
empty depth packet = record { sealed = 0; kept = []; depth = depth; packet = packet }

-- ---- sealing

-- a packet with the next number, not sent yet
abbrev pub next_packet : Ring → List ℕ → Bool → Kept
next_packet s payload last = record { packet = record { seq = s.sealed + 1; last = last; payload = payload }; sent = false }

-- which payload is answered so, and what it leaves
abbrev pub Seals : Ring → List ℕ → Bool → Result ℕ SealNo → Ring → Type 0
Seals s payload last (Ok seq) after =
    (length s.kept < s.depth) × (s.sealed + 1 < 2 ^ 32) × (seq ≡ s.sealed + 1) × (after ≡ record s { sealed = s.sealed + 1; kept = s.kept ++ next_packet s payload last ∷ [] })
Seals s payload last (Err Full) after = (length s.kept ≡ s.depth) × (after ≡ s)
Seals s payload last (Err TooLong) after = (length s.kept < s.depth) × (s.sealed + 1 ≡ 2 ^ 32) × (after ≡ s)

-- ---- sending and freeing

-- without whether it was sent
abbrev pub bare : Option Kept → Option Packet
bare found = option_map (λ k. k.packet) found

-- the first packet that wasn't sent
abbrev pub next_of : Ring → Option Packet
next_of s = bare (find (λ k. not k.sent) s.kept)

-- the packet of this number
abbrev pub packet_at : ℕ → Ring → Option Packet
packet_at seq s = bare (find (λ k. k.packet.seq == seq) s.kept)

-- this packet, sent now if it has this number
abbrev pub marked : ℕ → Kept → Kept
marked seq k = record k { sent = k.sent || (k.packet.seq == seq) }

-- these packets, of which the one with this number was sent now
abbrev pub with_sent : ℕ → List Kept → List Kept
with_sent seq kept = map (marked seq) kept

-- those with a greater number
abbrev pub behind : ℕ → List Kept → List Kept
behind upto kept = filter (λ k. nat_lt upto k.packet.seq) kept
