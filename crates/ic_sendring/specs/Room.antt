-- The room that a send ring takes when it is made, so that sealing takes none.
use Rattle.std.specs.Prelude.{◌≡◌, ℕ, ◌+◌, ◌-◌, ◌*◌, ◌%◌, ◌≤◌, List, length, All}
use Rattle.ic_sendring.specs.declared.slot.Slot.{Slot}
use Rattle.ic_sendring.specs.Ring.{IsRing, room_of}
use Rattle.ic_sendring.specs.Views.{packets_of, ring_of}

-- packet s is in slot s - 1 modulo the depth, and its payload within the slot and the block
pub record IsIn (depth room : ℕ) (block : List ℕ) (s : Slot) : Type 0 where
  pub at : s.at ≡ ((s.seq - 1) % depth) * room
  pub short : s.len ≤ room
  pub within : s.at + s.len ≤ length block

-- a ring whose first kept packets were sent, with places for as many packets as it may keep, and with a block of a
-- payload slot for each
pub record IsSound (depth packet sealed sent : ℕ) (slots : List Slot) (capacity : ℕ) (block : List ℕ) (room : ℕ) : Type 0 where
  pub ring : IsRing (ring_of depth packet sealed sent (packets_of block slots))
  pub sent_within : sent ≤ length slots
  pub places : capacity ≡ depth
  pub bytes : depth * room_of packet ≤ room
  pub in_slots : All (IsIn depth (room_of packet) block) slots
