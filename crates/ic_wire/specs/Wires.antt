-- A network in memory as a function of its calls.
use Rattle.std.specs.Prelude.{ℕ, suc, ℤ, Bool, true, false, not, ◌&&◌, ◌||◌, nat_le, if◌then◌else◌, List, [], ◌∷◌, map, Option, Some, None}
use Rattle.std.specs.List.{list_all}
use Rattle.std.specs.Ordering.{int_eq}
use Rattle.ic_base.specs.declared.datagram.Datagram.{Datagram}
use Rattle.ic_wire.specs.declared.fate.Fate.{Fate}
use Rattle.ic_wire.specs.declared.copies.Kept.{Kept}
use Rattle.ic_wire.specs.declared.received.Received.{Received}
use Rattle.ic_wire.specs.declared.received.Received.TheVariants.{Came, Idle, Quiet}
use Rattle.ic_wire.specs.Copies.{with_copies}
use Rattle.ic_wire.specs.Fates.{draws_of, is_lost, copies_of, last_number}

-- a node: the copies that are kept for it, by their keys, and whether its last receive gave it a datagram
pub record Node : Type 0 where
  pub at : ℤ
  pub kept : List Kept
  pub in_hand : Bool

-- a network: its fate, the state of the generator of words, how many sends there were, and its nodes
pub record Wire : Type 0 where
  pub fate : Fate
  pub words : ℕ
  pub sent : ℕ
  pub nodes : List Node

abbrev pub idle_node : ℤ → Node
idle_node at = record { at = at; kept = []; in_hand = false }

-- a network between these nodes before the first call
abbrev pub fresh : Fate → List ℤ → Wire
fresh fate nodes = record { fate = fate; words = fate.seed; sent = 0; nodes = map idle_node nodes }

-- the nodes, with a change of the first one that has this segment
abbrev pub changed : ℤ → (Node → Node) → List Node → List Node
changed at f [] = []
changed at f (node ∷ nodes) = if int_eq node.at at then f node ∷ nodes else node ∷ changed at f nodes

-- ---- a send

abbrev pub keeping : List Kept → Node → Node
keeping copies node = record node { kept = with_copies copies node.kept }

-- what a send of this number leaves that isn't lost from the beginning: its copies, at its node if there is one
abbrev pub after_draws : ℕ → Datagram → Wire → Wire
after_draws number d w = record w {
  words = (draws_of w.words).1;
  sent = number;
  nodes = changed d.to (keeping (copies_of w.fate number d (draws_of w.words).0)) w.nodes;
}

-- the number of the next send, unless the last one was given
abbrev pub next_number : ℕ → Option ℕ
next_number sent = if nat_le last_number sent then None else Some (suc sent)

-- one that is lost from the beginning draws no word
abbrev pub sent_as : Option ℕ → Datagram → Wire → Wire
sent_as None d w = w
sent_as (Some number) d w = if is_lost w.fate number d then record w { sent = number } else after_draws number d w

-- a send has the next number
abbrev pub after_send : Datagram → Wire → Wire
after_send d w = sent_as (next_number w.sent) d w

-- ---- a receive

abbrev pub queue_of : ℤ → List Node → List Kept
queue_of at [] = []
queue_of at (node ∷ nodes) = if int_eq node.at at then node.kept else queue_of at nodes

abbrev pub is_none : List Kept → Bool
is_none [] = true
is_none (copy ∷ copies) = false

abbrev pub without_first : List Kept → List Kept
without_first [] = []
without_first (copy ∷ copies) = copies

-- a receive takes out the first copy, which the node then has in hand until its next receive
abbrev pub receiving : Node → Node
receiving node = record node { kept = without_first node.kept; in_hand = not (is_none node.kept) }

abbrev pub after_receive : ℤ → Wire → Wire
after_receive at w = record w { nodes = changed at receiving w.nodes }

-- nothing is kept for this node, and it has no datagram in hand, unless it is the one that asks
abbrev pub is_still : ℤ → Node → Bool
is_still at node = is_none node.kept && (int_eq node.at at || not node.in_hand)

-- no copy is kept for any node, and no other node has a datagram in hand
abbrev pub is_quiet : ℤ → List Node → Bool
is_quiet at nodes = list_all (is_still at) nodes

-- the answer to a receive: the first copy that is kept for the node
abbrev pub answer_of : ℤ → List Node → List Kept → Received
answer_of at nodes [] = if is_quiet at nodes then Quiet else Idle
answer_of at nodes (copy ∷ copies) = Came copy.datagram

abbrev pub received : ℤ → Wire → Received
received at w = answer_of at w.nodes (queue_of at w.nodes)
