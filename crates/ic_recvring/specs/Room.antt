-- The room that a receive ring takes when it is made, so that storing takes none.
use Rattle.std.specs.Prelude.{◌≡◌, ℕ, ◌≤◌, List, length, false, vec_capacity, All}
use Rattle.ic_recvring.specs.declared.slot.Slot.{Slot}
use Rattle.ic_recvring.specs.Numbers.{IsRunEnd, IsGreatest}
use Rattle.ic_recvring.specs.Ring.{stored_of, room_of}
use Rattle.ic_recvring.specs.Views.{ring_of}

-- a slot has room for so many bytes, and no more than so many are in it
abbrev pub HasRoom : ℕ → Slot → Type 0
HasRoom room s = (room ≤ vec_capacity s.payload) × (length s.payload.items ≤ room)

abbrev pub AreFree : List Slot → Type 0
AreFree slots = All (λ s. s.kept ≡ false) slots

-- a ring whose run ends at run and whose greatest number is top, with a slot for each packet that it may keep
pub record IsSound (depth packet consumed run top : ℕ) (slots : List Slot) : Type 0 where
  pub count : length slots ≡ depth
  pub rooms : All (HasRoom (room_of packet)) slots
  pub run_end : IsRunEnd (stored_of (ring_of depth packet consumed slots)) run
  pub greatest : IsGreatest (stored_of (ring_of depth packet consumed slots)) top
