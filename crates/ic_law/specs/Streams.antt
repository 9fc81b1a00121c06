-- The network law, and the stream law, which follows from it and from the hub laws.
use Rattle.std.specs.Prelude.{◌≡◌, ℕ, zero, suc, ◌+◌, ℤ, pos, negsuc, List, [], Bool, false, Contains, slice_index_or}
use Rattle.ic_base.specs.declared.keys.ConnKey.{ConnKey}
use Rattle.ic_base.specs.declared.settings.Settings.{Settings}
use Rattle.ic_base.specs.declared.datagram.Datagram.{Datagram}
use Rattle.ic_row.specs.declared.value.Value.{Value}
use Rattle.ic_chunk.specs.Assembly.{Assembles}
use Rattle.ic_law.specs.declared.history.Entry.{Entry}
use Rattle.ic_law.specs.History.{emitted_of, arrived_of}
use Rattle.ic_law.specs.Putting.{chunks_put_of, IsFinished}
use Rattle.ic_law.specs.Taking.{payloads_of, IsWhole}
use Rattle.ic_law.specs.Points.{place_at, IsPrefix}
use Rattle.ic_law.specs.Hub.{HubLaw}

-- the position of a segment's history among those of all nodes, which begin with the dispatcher's
abbrev pub node_of : ℤ → ℕ
node_of (pos n) = n + 1
node_of (negsuc n) = 0

-- the history of a segment; -1 is the dispatcher's, and a lesser number has no entries
abbrev pub history_of : List (List Entry) → ℤ → List Entry
history_of nodes (pos n) = slice_index_or nodes (n + 1) []
history_of nodes (negsuc zero) = slice_index_or nodes 0 []
history_of nodes (negsuc (suc n)) = []

-- each datagram that came to a segment was addressed to it, and was emitted by the segment that it is from
abbrev pub NetworkLaw : List (List Entry) → Type 0
NetworkLaw nodes = (b : ℤ) (d : Datagram) → Contains (arrived_of (history_of nodes b)) d → (d.to ≡ b) × Contains (emitted_of (history_of nodes d.from)) d

-- the rows sent: the chunks that were put assemble to them, and if the stream is finished, no unfinished row is left
pub record AreSent (c : ConnKey) (h : List Entry) (rows : List (List Value)) : Type 0 where
  pub rest : List ℕ
  pub assemble : Assembles (chunks_put_of c h) rows rest false
  pub none_left : IsFinished c h → rest ≡ []

-- the rows taken: the payloads of the parcels assemble to them
pub record AreTaken (c : ConnKey) (h : List Entry) (rows : List (List Value)) : Type 0 where
  pub rest : List ℕ
  pub ended : Bool
  pub assemble : Assembles (payloads_of c h) rows rest ended

-- the payloads taken assemble to rows; these are a prefix of the rows sent, and all of them if the end of stream was
-- taken
pub record Follows (c : ConnKey) (sender receiver : List Entry) (sent : List (List Value)) : Type 0 where
  pub rows : List (List Value)
  pub taken : AreTaken c receiver rows
  pub prefix : IsPrefix rows sent
  pub whole : IsWhole c receiver → rows ≡ sent

-- for all rows sent, those taken follow them
abbrev pub StreamLaw : ConnKey → (sender receiver : List Entry) → Type 0
StreamLaw c sender receiver = (sent : List (List Value)) → AreSent c sender sent → Follows c sender receiver sent

-- if the network delivers only what was emitted, and each hub obeys its law, then each connection of the session obeys
-- the stream law
abbrev pub StreamsFollow : Type 0
StreamsFollow =
    (nodes : List (List Entry)) (session : ℕ) (settings : Settings)
    → NetworkLaw nodes → ((segment : ℤ) → HubLaw (place_at session segment settings) (history_of nodes segment))
    → (c : ConnKey) → c.session ≡ session → StreamLaw c (history_of nodes c.from) (history_of nodes c.to)
