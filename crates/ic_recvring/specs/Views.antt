-- Packets in memory: packet n stands in slot n modulo the depth.
use Rattle.std.specs.Prelude.{ℕ, zero, suc, ◌+◌, ◌%◌, List, [], ◌∷◌, Bool, not, cond, Option, None, Some, is_some, slice_get}
use Rattle.std.specs.Option.{option_map}
use Rattle.ic_recvring.specs.declared.sealed.Sealed.{Sealed}
use Rattle.ic_recvring.specs.declared.slot.Slot.{Slot}
use Rattle.ic_recvring.specs.Ring.{Packet, Ring}

-- a packet that the ring lends
abbrev pub lent : Option Sealed → Option Packet
lent found = option_map (λ s. record { seq = s.seq; last = s.last; payload = s.payload.now }) found

-- the packet in a slot, which has this number
abbrev pub packet_in : ℕ → Slot → Option Packet
packet_in n s = cond s.kept (Some (record { seq = n; last = s.last; payload = s.payload.items })) None

-- the packet in this slot, if there is such a slot
abbrev pub looked : ℕ → Option Slot → Option Packet
looked n None = None
looked n (Some s) = packet_in n s

-- the packet with this number, in its slot
abbrev pub packet_at : List Slot → ℕ → ℕ → Option Packet
packet_at slots depth n = looked n (slice_get slots (n % depth))

-- the number has no packet in its slot
abbrev pub is_absent : List Slot → ℕ → ℕ → Bool
is_absent slots depth n = not (is_some (packet_at slots depth n))

-- a packet, if there is one, in front of others
abbrev pub joined : Option Packet → List Packet → List Packet
joined None packets = packets
joined (Some p) packets = p ∷ packets

-- those packets that are there of so many numbers from n on
abbrev pub window : (ℕ → Option Packet) → ℕ → ℕ → List Packet
window at n zero = []
window at n (suc count) = joined (at n) (window at (n + 1) count)

-- as many numbers as the ring is deep are kept, after the last one consumed
abbrev pub ring_of : ℕ → ℕ → ℕ → List Slot → Ring
ring_of depth packet consumed slots = record { consumed = consumed; kept = window (packet_at slots depth) (consumed + 1) depth; depth = depth; packet = packet }
