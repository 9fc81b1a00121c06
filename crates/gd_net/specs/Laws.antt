-- Laws of every list of calls of a network.
use Rattle.std.specs.Prelude.{◌≡◌, ℕ, ◌+◌, ◌<◌, ◌≤◌, ℤ, List, ◌++◌, length, false, Contains}
use Rattle.ic_base.specs.declared.datagram.Datagram.{Datagram}
use Rattle.gd_net.specs.Network.{Net, place_of, fresh, is_dropped, those_for}
use Rattle.gd_net.specs.History.{Call, Runs, sent_of, came_to, carried}

-- The datagrams that came to a node, and then those kept for it, are the ones sent to it that weren't lost, each once
-- and in the order of the sends.
abbrev pub ComesInOrder : Type 0
ComesInOrder =
    (segments : ℕ) (drops : List ℕ) (calls : List Call) (last : Net) (at : ℤ)
    → Runs (fresh segments drops) calls last
    → came_to at calls ++ those_for at last.kept ≡ those_for at (carried drops (segments + 1) 1 (sent_of calls))

-- whatever came to a node was sent to it, and whatever is kept was sent
abbrev pub WasSent : Type 0
WasSent =
    (segments : ℕ) (drops : List ℕ) (calls : List Call) (last : Net)
    → Runs (fresh segments drops) calls last
    → ((at : ℤ) (d : Datagram) → Contains (came_to at calls) d → Contains (sent_of calls) d × (d.to ≡ at))
    × ((d : Datagram) → Contains last.kept d → Contains (sent_of calls) d)

-- if none of the sends so far was to be lost, each datagram sent to a node came or is kept
abbrev pub WithoutLoss : Type 0
WithoutLoss =
    (segments : ℕ) (drops : List ℕ) (calls : List Call) (last : Net) (at : ℤ)
    → Runs (fresh segments drops) calls last
    → ((number : ℕ) → 1 ≤ number → number ≤ length (sent_of calls) → is_dropped drops number ≡ false)
    → place_of at < segments + 1
    → came_to at calls ++ those_for at last.kept ≡ those_for at (sent_of calls)

-- the count is the number of sends, with the lost ones
abbrev pub CountsSends : Type 0
CountsSends =
    (segments : ℕ) (drops : List ℕ) (calls : List Call) (last : Net)
    → Runs (fresh segments drops) calls last
    → last.sent ≡ length (sent_of calls)
