-- What holds of a network after any calls.
use Rattle.std.specs.Prelude.{◌≡◌, ℕ, suc, ℤ, List, Some, slice_get, Contains}
use Rattle.ic_wire.specs.declared.fate.Fate.{Fate}
use Rattle.ic_wire.specs.declared.copies.Kept.{Kept}
use Rattle.ic_wire.specs.Copies.{IsQueue}
use Rattle.ic_wire.specs.Wires.{queue_of}
use Rattle.ic_wire.specs.Calls.{Call, wire_after, sent_of}

-- the copy is of the send that has its number, and goes to this node
pub record IsOfSend (at : ℤ) (calls : List Call) (copy : Kept) : Type 0 where
  pub place : ℕ
  pub number : copy.key.number ≡ suc place
  pub sent : slice_get (sent_of calls) place ≡ Some copy.datagram
  pub to : copy.datagram.to ≡ at

-- what is kept for a node was sent to it
abbrev pub KeepsWhatWasSent : Type 0
KeepsWhatWasSent = (fate : Fate) (nodes : List ℤ) (calls : List Call) (at : ℤ) (copy : Kept)
    → Contains (queue_of at (wire_after fate nodes calls).nodes) copy → IsOfSend at calls copy

-- what is kept for a node is in the order of the copies' keys, so a receive gives the one with the least key
abbrev pub KeepsInOrder : Type 0
KeepsInOrder = (fate : Fate) (nodes : List ℤ) (calls : List Call) (at : ℤ) → IsQueue (queue_of at (wire_after fate nodes calls).nodes)
