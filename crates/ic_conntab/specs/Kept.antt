-- What a Places keeps of the ends, so that each call finds it in one step.
use Rattle.std.specs.Prelude.{◌≡◌, ℕ, List, map}
use Rattle.ic_base.specs.declared.keys.ConnKey.{ConnKey}
use Rattle.ic_base.specs.declared.keys.ConnEnd.{ConnEnd}
use Rattle.ic_conntab.specs.declared.slots.Slot.{Slot}
use Rattle.ic_conntab.specs.declared.slots.Sides.{Sides}
use Rattle.ic_conntab.specs.Ends.{keys_of, sender_at, receiver_at, motions_of, receivers_of}
use Rattle.ic_conntab.specs.Slots.{slots_of}

-- the positions of a key's two ends
abbrev pub sides_at : List ConnEnd → ConnKey → Sides
sides_at ends key = record { sender = sender_at ends key; receiver = receiver_at ends key }

-- these are the keys, sides, motions, receivers and slots of the ends
pub record AreOf (ends : List ConnEnd) (keys : List ConnKey) (sides : List Sides) (motions : List ℕ) (receivers : List (List ℕ)) (order : List Slot) : Type 0 where
  pub keys_are : keys ≡ keys_of ends
  pub sides_are : sides ≡ map (sides_at ends) (keys_of ends)
  pub motions_are : motions ≡ motions_of ends
  pub receivers_are : receivers ≡ map (receivers_of ends) (motions_of ends)
  pub order_is : order ≡ slots_of ends
