-- A network in memory: what it keeps, and what each call does to that.
use Rattle.std.specs.Prelude.{◌≡◌, ◌≢◌, ℕ, ◌+◌, ℤ, pos, negsuc, List, [], ◌∷◌, ◌++◌, length, replicate, slice_set, slice_index_or, Bool, true, false, not, ◌||◌, ◌==◌, nat_lt, if◌then◌else◌}
use Rattle.std.specs.List.{filter, list_any}
use Rattle.std.specs.Ordering.{int_eq}
use Rattle.ic_base.specs.declared.datagram.Datagram.{Datagram}
use Rattle.gd_net.specs.declared.network.Received.{Received}
use Rattle.gd_net.specs.declared.network.Received.TheVariants.{Came, Idle, Quiet}

-- The numbers of the sends to be lost; how many sends there were; the kept datagrams, in the order of their numbers;
-- and for each node, the dispatcher first and then segment 0 and so on, whether it has a datagram in hand.
pub record Net : Type 0 where
  pub drops : List ℕ
  pub sent : ℕ
  pub kept : List Datagram
  pub in_hand : List Bool

-- the position of a node: the dispatcher's is 0
abbrev pub place_of : ℤ → ℕ
place_of (pos n) = n + 1
place_of (negsuc n) = 0

-- a network before the first send
abbrev pub fresh : ℕ → List ℕ → Net
fresh segments drops = record { drops = drops; sent = 0; kept = []; in_hand = replicate (segments + 1) false }

-- ---- a send

-- the send of this number is to be lost
abbrev pub is_dropped : List ℕ → ℕ → Bool
is_dropped drops number = list_any (λ drop. drop == number) drops

-- the send is lost: it is to be, or there is no such node among this many
abbrev pub is_lost : List ℕ → ℕ → ℕ → Datagram → Bool
is_lost drops nodes number d = not (nat_lt (place_of d.to) nodes) || is_dropped drops number

-- what is kept of the send of this number
abbrev pub kept_of : List ℕ → ℕ → ℕ → Datagram → List Datagram
kept_of drops nodes number d = if is_lost drops nodes number d then [] else d ∷ []

-- one more send: it has the next number, and is kept after the others unless it is lost
abbrev pub after_send : Datagram → Net → Net
after_send d net = record net { sent = net.sent + 1; kept = net.kept ++ kept_of net.drops (length net.in_hand) (net.sent + 1) d }

-- ---- a receive

-- whether the datagram is addressed to this node
abbrev pub is_for : ℤ → Datagram → Bool
is_for at d = int_eq d.to at

-- the datagrams addressed to this node
abbrev pub those_for : ℤ → List Datagram → List Datagram
those_for at ds = filter (is_for at) ds

-- the datagram is the first kept one for this node, and the others are left
pub record IsFirstFor (at : ℤ) (kept : List Datagram) (d : Datagram) (left : List Datagram) : Type 0 where
  pub before : List Datagram
  pub after : List Datagram
  pub all : kept ≡ before ++ d ∷ after
  pub others : left ≡ before ++ after
  pub to : d.to ≡ at
  pub first : those_for at before ≡ []

-- nothing is kept for any node, and no other node has a datagram in hand
pub record IsQuiet (at : ℤ) (net : Net) : Type 0 where
  pub none : net.kept ≡ []
  pub others : (place : ℕ) → place ≢ place_of at → slice_index_or net.in_hand place false ≡ false

-- the node has a datagram in hand, or none
abbrev pub with_hand : ℤ → Bool → Net → Net
with_hand at has net = record net { in_hand = slice_set net.in_hand (place_of at) has }

-- what a receive of this node gives, and what it leaves
abbrev pub Receives : ℤ → Net → Received → Net → Type 0
Receives at net (Came d) new = (left : List Datagram) × IsFirstFor at net.kept d left × (new ≡ record (with_hand at true net) { kept = left })
Receives at net Idle new = (those_for at net.kept ≡ []) × (IsQuiet at net → ⊥) × (new ≡ with_hand at false net)
Receives at net Quiet new = IsQuiet at net × (new ≡ with_hand at false net)
