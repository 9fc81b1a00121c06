-- The queues of a network, and the list as which they are seen.
use Rattle.std.specs.Prelude.{◌≡◌, ◌≢◌, ℕ, zero, suc, ◌<◌, ◌≤◌, ℤ, pos, negsuc, List, [], ◌∷◌, map, length, slice_index_or, Bool, true, false, nat_le, if◌then◌else◌, Option, Some, None}
use Rattle.std.specs.List.{flat_map, AllByRecursion}
use Rattle.ic_base.specs.declared.datagram.Datagram.{Datagram}
use Rattle.gd_net.specs.declared.node.Numbered.{Numbered}
use Rattle.gd_net.specs.declared.node.Node.{Node}
use Rattle.gd_net.specs.declared.network.Received.{Received}
use Rattle.gd_net.specs.declared.network.Received.TheVariants.{Came, Idle, Quiet}

-- the node at a position
abbrev pub node_at : ℕ → ℤ
node_at zero = negsuc 0
node_at (suc n) = pos n

-- the datagrams in a node's queue, with their numbers
abbrev pub queue_of : Node → List Numbered
queue_of node = node.queue.items

-- those in all queues
abbrev pub all_of : List Node → List Numbered
all_of nodes = flat_map queue_of nodes

-- one more, put before those with its number or a greater one
abbrev pub insert : Numbered → List Numbered → List Numbered
insert e [] = e ∷ []
insert e (f ∷ fs) = if nat_le e.number f.number then e ∷ f ∷ fs else f ∷ insert e fs

-- sorted by their numbers
abbrev pub in_order : List Numbered → List Numbered
in_order [] = []
in_order (e ∷ es) = insert e (in_order es)

abbrev pub datagram_of : Numbered → Datagram
datagram_of e = e.datagram

abbrev pub has_one : Node → Bool
has_one node = node.has_one

-- the kept datagrams, in the order of their numbers
abbrev pub kept_in : List Node → List Datagram
kept_in nodes = map datagram_of (in_order (all_of nodes))

-- the numbers increase, and none is below this one
abbrev pub Increase : ℕ → List Numbered → Type 0
Increase least [] = Unit {0}
Increase least (e ∷ es) = (least ≤ e.number) × Increase (suc e.number) es

-- the queue at a position: what it holds is addressed to that node, and has increasing numbers, up to this one
pub record IsQueue (place sent : ℕ) (queue : List Numbered) : Type 0 where
  pub to : AllByRecursion (λ e. e.datagram.to ≡ node_at place) queue
  pub numbers : AllByRecursion (λ e. e.number ≤ sent) queue
  pub increase : Increase 0 queue

-- from this position on, each node has such a queue
abbrev pub AreQueues : ℕ → ℕ → List Node → Type 0
AreQueues place sent [] = Unit {0}
AreQueues place sent (node ∷ nodes) = IsQueue place sent (queue_of node) × AreQueues (suc place) sent nodes

-- a node gives the first of its queue and then has it in hand, or gives none
abbrev pub GivesNext : Node → Option Datagram → Node → Type 0
GivesNext old (Some d) new = (number : ℕ) × (queue_of old ≡ record { number = number; datagram = d } ∷ queue_of new) × (new.has_one ≡ true)
GivesNext old None new = (queue_of old ≡ []) × (queue_of new ≡ []) × (new.has_one ≡ false)

-- nothing is queued, and only the node at this position may have a datagram in hand
abbrev pub AreStill : ℕ → List Node → Type 0
AreStill place nodes = (k : ℕ) (d : Node) → k < length nodes → (queue_of (slice_index_or nodes k d) ≡ []) × (k ≢ place → (slice_index_or nodes k d).has_one ≡ false)

-- nothing is given, and the answer is Quiet exactly if all nodes are still
abbrev pub GivesNone : Received → Type 0 → Type 0
GivesNone (Came d) Still = ⊥
GivesNone Idle Still = Still → ⊥
GivesNone Quiet Still = Still

-- this many nodes, with nothing queued and nothing in hand
pub record AreEmpty (count : ℕ) (nodes : List Node) : Type 0 where
  pub many : length nodes ≡ count
  pub queues : (k : ℕ) (d : Node) → k < length nodes → (queue_of (slice_index_or nodes k d) ≡ []) × ((slice_index_or nodes k d).has_one ≡ false)
