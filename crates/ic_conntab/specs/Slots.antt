-- The ends in order, each as its position among those of its side.
use Rattle.std.specs.Prelude.{ℕ, ◌+◌, ◌<◌, Bool, true, false, if◌then◌else◌, List, [], ◌∷◌, length, slice_get, Option, None, Some}
use Rattle.ic_base.specs.declared.keys.ConnEnd.{ConnEnd}
use Rattle.ic_conntab.specs.declared.slots.Slot.{Slot}
use Rattle.ic_conntab.specs.declared.slots.Slot.TheVariants.{Sender, Receiver}
use Rattle.ic_conntab.specs.Ends.{sending_ends, receiving_ends}

-- the slot of an end after this many sending and this many receiving ends
abbrev pub slot_at : Bool → ℕ → ℕ → Slot
slot_at true senders receivers = Sender senders
slot_at false senders receivers = Receiver receivers

-- the slots of ends after this many sending and this many receiving ends
abbrev pub slots_behind : ℕ → ℕ → List ConnEnd → List Slot
slots_behind senders receivers [] = []
slots_behind senders receivers (e ∷ ends) =
    slot_at e.sending senders receivers ∷ (if e.sending then slots_behind (senders + 1) receivers ends else slots_behind senders (receivers + 1) ends)

-- the slot of each end, in the order of the ends
unfoldable pub slots_of : List ConnEnd → List Slot
slots_of ends = slots_behind 0 0 ends

-- the end in a slot
abbrev pub end_at : List ConnEnd → Slot → Option ConnEnd
end_at ends (Sender place) = slice_get (sending_ends ends) place
end_at ends (Receiver place) = slice_get (receiving_ends ends) place

-- there is an end in the slot
abbrev pub IsWithin : List ConnEnd → Slot → Type 0
IsWithin ends (Sender place) = place < length (sending_ends ends)
IsWithin ends (Receiver place) = place < length (receiving_ends ends)

-- the position, if the slot is a sending end's
abbrev pub sender_in : Slot → Option ℕ
sender_in (Sender place) = Some place
sender_in (Receiver place) = None

-- the position, if the slot is a receiving end's
abbrev pub receiver_in : Slot → Option ℕ
receiver_in (Sender place) = None
receiver_in (Receiver place) = Some place
