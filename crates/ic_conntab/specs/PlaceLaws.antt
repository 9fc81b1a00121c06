-- Laws of the positions of ends.
use Rattle.std.specs.Prelude.{◌≡◌, ◌≢◌, ◌↔◌, ℕ, ◌==◌, true, false, List, map, length, take, slice_get, Contains, Option, None, Some}
use Rattle.std.specs.List.{IsDistinct, filter_map, range_with_len}
use Rattle.std.specs.List.Sorted.{IsStrictlyIncreasing}
use Rattle.ic_base.specs.Keys.{key_eq}
use Rattle.ic_base.specs.declared.keys.ConnKey.{ConnKey}
use Rattle.ic_base.specs.declared.keys.ConnEnd.{ConnEnd}
use Rattle.ic_conntab.specs.declared.slots.Slot.{Slot}
use Rattle.ic_conntab.specs.Ends.{sending_ends, receiving_ends, keys_of, sender_at, receiver_at, motions_of, receivers_of}
use Rattle.ic_conntab.specs.Slots.{slots_of, slot_at, end_at, sender_in, receiver_in}

-- ---- by side

-- an end sends exactly if it is among the sending ends, and receives exactly if it is among the receiving ends
abbrev pub EndsHaveTheirSides : Type 0
EndsHaveTheirSides =
    (ends : List ConnEnd) (e : ConnEnd)
    → (Contains (sending_ends ends) e ↔ (Contains ends e × (e.sending ≡ true)))
    × (Contains (receiving_ends ends) e ↔ (Contains ends e × (e.sending ≡ false)))

-- ---- by key

-- a key is among the keys exactly if some end has it
abbrev pub KeysAreOfEnds : Type 0
KeysAreOfEnds = (ends : List ConnEnd) (key : ConnKey) → Contains (keys_of ends) key ↔ ((e : ConnEnd) × Contains ends e × (e.key ≡ key))

-- the keys are distinct
abbrev pub KeysDiffer : Type 0
KeysDiffer = (ends : List ConnEnd) → IsDistinct key_eq (keys_of ends)

-- If a position is found for a key, the end at it has the key. No position is found exactly if no end has the key. If
-- the keys differ, each end is found by its key.
pub record AreFound (of_side : List ConnEnd) (found : ConnKey → Option ℕ) : Type 0 where
  pub some : (key : ConnKey) (place : ℕ) → found key ≡ Some place → (e : ConnEnd) × (slice_get of_side place ≡ Some e) × (e.key ≡ key)
  pub none : (key : ConnKey) → (found key ≡ None) ↔ ((e : ConnEnd) → Contains of_side e → e.key ≢ key)
  pub each : IsDistinct key_eq (map (λ e. e.key) of_side) → (e : ConnEnd) (place : ℕ) → slice_get of_side place ≡ Some e → found e.key ≡ Some place

-- senders and receivers are found by their keys
abbrev pub SidesAreFound : Type 0
SidesAreFound = (ends : List ConnEnd) → AreFound (sending_ends ends) (sender_at ends) × AreFound (receiving_ends ends) (receiver_at ends)

-- ---- by motion

-- a motion is among the motions exactly if some receiving end has it
abbrev pub MotionsAreReceived : Type 0
MotionsAreReceived =
    (ends : List ConnEnd) (motion : ℕ) → Contains (motions_of ends) motion ↔ ((e : ConnEnd) × Contains (receiving_ends ends) e × (e.key.motion ≡ motion))

-- the motions are distinct
abbrev pub MotionsDiffer : Type 0
MotionsDiffer = (ends : List ConnEnd) → IsDistinct (λ m n. m == n) (motions_of ends)

-- a position is among a motion's receivers exactly if the receiving end at it has the motion
abbrev pub ReceiversHaveTheMotion : Type 0
ReceiversHaveTheMotion =
    (ends : List ConnEnd) (motion place : ℕ)
    → Contains (receivers_of ends motion) place ↔ ((e : ConnEnd) × (slice_get (receiving_ends ends) place ≡ Some e) × (e.key.motion ≡ motion))

-- the positions of a motion's receivers rise
abbrev pub ReceiversRise : Type 0
ReceiversRise = (ends : List ConnEnd) (motion : ℕ) → IsStrictlyIncreasing (receivers_of ends motion)

-- ---- in order

-- There is a slot for each end. It counts the ends of the same side that come before this end, and the end in the slot
-- is this end.
abbrev pub SlotsAreTheirEnds : Type 0
SlotsAreTheirEnds =
    (ends : List ConnEnd)
    → (length (slots_of ends) ≡ length ends)
    × ((e : ConnEnd) (i : ℕ) → slice_get ends i ≡ Some e
    → slice_get (slots_of ends) i ≡ Some (slot_at e.sending (length (sending_ends (take i ends))) (length (receiving_ends (take i ends)))))
    × ((slot : Slot) (i : ℕ) → slice_get (slots_of ends) i ≡ Some slot → (e : ConnEnd) × (slice_get ends i ≡ Some e) × (end_at ends slot ≡ Some e))

-- the slots name each sending end once, in order, and likewise each receiving end
abbrev pub SlotsComeOnce : Type 0
SlotsComeOnce =
    (ends : List ConnEnd)
    → (filter_map sender_in (slots_of ends) ≡ range_with_len 0 (length (sending_ends ends)))
    × (filter_map receiver_in (slots_of ends) ≡ range_with_len 0 (length (receiving_ends ends)))
