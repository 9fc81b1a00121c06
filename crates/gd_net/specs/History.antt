-- The calls of a network, one after another, and what is read from them.
use Rattle.std.specs.Prelude.{◌≡◌, ℕ, ◌+◌, ℤ, List, [], ◌∷◌, ◌++◌, if◌then◌else◌}
use Rattle.std.specs.List.{flat_map}
use Rattle.std.specs.Ordering.{int_eq}
use Rattle.ic_base.specs.declared.datagram.Datagram.{Datagram}
use Rattle.gd_net.specs.declared.network.Received.{Received}
use Rattle.gd_net.specs.declared.network.Received.TheVariants.{Came, Idle, Quiet}
use Rattle.gd_net.specs.Network.{Net, kept_of, after_send, Receives}

-- a send that was answered Ok, or a receive of a node with its answer; a send that failed isn't listed
pub data Call : Type 0 where
  sends : Datagram → Call
  receives : ℤ → Received → Call

-- what a call changes in a network
abbrev pub Does : Net → Call → Net → Type 0
Does net (sends d) new = new ≡ after_send d net
Does net (receives at got) new = Receives at net got new

-- these calls, oldest first, lead from one network to another
abbrev pub Runs : Net → List Call → Net → Type 0
Runs net [] last = last ≡ net
Runs net (call ∷ calls) last = (next : Net) × Does net call next × Runs next calls last

abbrev pub sent_in : Call → List Datagram
sent_in (sends d) = d ∷ []
sent_in (receives at got) = []

-- the datagrams sent, in order: the first has number 1
abbrev pub sent_of : List Call → List Datagram
sent_of calls = flat_map sent_in calls

abbrev pub given : Received → List Datagram
given (Came d) = d ∷ []
given Idle = []
given Quiet = []

abbrev pub came_in : ℤ → Call → List Datagram
came_in at (sends d) = []
came_in at (receives to got) = if int_eq to at then given got else []

-- the datagrams that came to a node, in order
abbrev pub came_to : ℤ → List Call → List Datagram
came_to at calls = flat_map (came_in at) calls

-- the datagrams that weren't lost, of those sent with the numbers from this one on
abbrev pub carried : List ℕ → ℕ → ℕ → List Datagram → List Datagram
carried drops nodes number [] = []
carried drops nodes number (d ∷ ds) = kept_of drops nodes number d ++ carried drops nodes (number + 1) ds
