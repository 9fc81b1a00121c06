-- The calls of a network, and the network after them.
use Rattle.std.specs.Prelude.{ℤ, List, [], ◌∷◌}
use Rattle.std.specs.List.{flat_map}
use Rattle.ic_base.specs.declared.datagram.Datagram.{Datagram}
use Rattle.ic_wire.specs.declared.fate.Fate.{Fate}
use Rattle.ic_wire.specs.Wires.{Wire, fresh, after_send, after_receive}

-- a send that found memory, or a receive of a node
pub data Call : Type 0 where
  Sends : Datagram → Call
  Receives : ℤ → Call

abbrev pub after_call : Call → Wire → Wire
after_call (Sends d) w = after_send d w
after_call (Receives at) w = after_receive at w

-- the network after these calls, oldest first
abbrev pub after_calls : List Call → Wire → Wire
after_calls [] w = w
after_calls (call ∷ calls) w = after_calls calls (after_call call w)

-- a network with this fate between these nodes, after these calls
abbrev pub wire_after : Fate → List ℤ → List Call → Wire
wire_after fate nodes calls = after_calls calls (fresh fate nodes)

abbrev pub sent_in : Call → List Datagram
sent_in (Sends d) = d ∷ []
sent_in (Receives at) = []

-- what was sent, in order: the first has number 1
abbrev pub sent_of : List Call → List Datagram
sent_of calls = flat_map sent_in calls
