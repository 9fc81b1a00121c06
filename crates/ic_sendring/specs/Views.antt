-- Packets in memory, without their place in memory.
use Rattle.std.specs.Prelude.{ℕ, zero, suc, ◌+◌, List, [], ◌∷◌, map, Bool, true, false, Option}
use Rattle.std.specs.List.{between}
use Rattle.std.specs.Option.{option_map}
use Rattle.ic_sendring.specs.declared.sealed.Sealed.{Sealed}
use Rattle.ic_sendring.specs.declared.slot.Slot.{Slot}
use Rattle.ic_sendring.specs.Ring.{Packet, Kept, Ring}

-- a packet that the ring lends
abbrev pub lent : Option Sealed → Option Packet
lent found = option_map (λ s. record { seq = s.seq; last = s.last; payload = s.payload.now }) found

-- a packet that the ring keeps, with its payload in the block
abbrev pub packet_of : List ℕ → Slot → Packet
packet_of block s = record { seq = s.seq; last = s.last; payload = between s.at (s.at + s.len) block }

abbrev pub packets_of : List ℕ → List Slot → List Packet
packets_of block slots = map (packet_of block) slots

abbrev pub kept_of : Bool → Packet → Kept
kept_of sent p = record { packet = p; sent = sent }

-- so many of these packets were sent, the first ones
abbrev pub seen : ℕ → List Packet → List Kept
seen n [] = []
seen zero (p ∷ packets) = kept_of false p ∷ seen zero packets
seen (suc n) (p ∷ packets) = kept_of true p ∷ seen n packets

-- their numbers
abbrev pub seqs_of : List Packet → List ℕ
seqs_of packets = map (λ p. p.seq) packets

abbrev pub ring_of : ℕ → ℕ → ℕ → ℕ → List Packet → Ring
ring_of depth packet sealed sent packets = record { sealed = sealed; kept = seen sent packets; depth = depth; packet = packet }
