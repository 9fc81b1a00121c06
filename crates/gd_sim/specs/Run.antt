-- What a run is: a session of its nodes, an answer for each query that is over, and the fault that ended it, if one did.
use Rattle.std.specs.Prelude.{◌≡◌, ◌⊎◌, ℕ, ◌+◌, ◌<◌, List, [], ◌∷◌, ◌++◌, length, Option, Some, None, Err, Contains, slice_get, slice_index_or}
use Rattle.ic_base.specs.declared.keys.ConnKey.{ConnKey}
use Rattle.ic_base.specs.declared.settings.Settings.{Settings}
use Rattle.ic_row.specs.declared.value.Value.{Value}
use Rattle.ic_law.specs.declared.history.HubAsk.{HubAsk}
use Rattle.ic_law.specs.declared.history.HubAsk.TheVariants.{Put, Finish, Tick}
use Rattle.ic_law.specs.declared.history.HubReply.TheVariants.{Gave, Ticked}
use Rattle.ic_law.specs.declared.history.HubNo.TheVariants as hub
use Rattle.ic_law.specs.declared.history.TickNo.TheVariants as tick
use Rattle.ic_law.specs.declared.history.Entry.{Entry}
use Rattle.ic_law.specs.Queries.{left_of}
use Rattle.pl_ops.specs.declared.loaded.Spread.{Spread}
use Rattle.gd_law.specs.Sessions.{IsSession}
use Rattle.gd_law.specs.Answers.{IsAnswered}
use Rattle.gd_sim.specs.declared.feed.Feed.{Feed}
use Rattle.gd_sim.specs.declared.run.FirstRun.{FirstRun}
use Rattle.gd_sim.specs.declared.run.FirstNo.{FirstNo}
use Rattle.gd_sim.specs.declared.run.FirstNo.TheVariants.{Unfinished, Spent, TooLong}
use Rattle.gd_sim.specs.Feeding.{parts_of}

-- ---- faults

-- the entry is the last one of some node's history
pub record IsLast (nodes : List (List Entry)) (e : Entry) : Type 0 where
  pub at : ℕ
  pub within : at < length nodes
  pub before : List Entry
  pub history : slice_index_or nodes at [] ≡ before ++ e ∷ []

-- the ask puts a chunk on this connection, or the end of stream
abbrev pub PutsOn : ConnKey → HubAsk → Type 0
PutsOn key ask = ((chunk : List ℕ) × (ask ≡ Put key chunk)) ⊎ (ask ≡ Finish key)

-- a put on this connection was the last ask of some node, and was refused since the numbers of packets are used up
pub record IsUsedUp (nodes : List (List Entry)) (key : ConnKey) : Type 0 where
  pub entry : Entry
  pub last : IsLast nodes entry
  pub ask : PutsOn key entry.ask
  pub which : ConnKey
  pub reply : entry.reply ≡ Gave (Err (hub.TooLong which))

-- some node has not left the query
pub record IsUnleft (nodes : List (List Entry)) (query : ℕ) : Type 0 where
  pub at : ℕ
  pub within : at < length nodes
  pub stays : Contains (left_of (slice_index_or nodes at [])) query → ⊥

-- Why a query, which runs for at most so many rounds, isn't over. After all rounds some node has not left it; or the last
-- tick of some node was refused, since a packet was sent again as often as it may be; or the numbers of packets of a
-- connection are used up.
abbrev pub HasCause : (rounds query : ℕ) → List (List Entry) → FirstNo → Type 0
HasCause rounds query nodes (Unfinished n) = (n ≡ rounds) × IsUnleft nodes query
HasCause rounds query nodes (Spent key seq tries) = IsLast nodes (record { ask = Tick; reply = Ticked (Err (tick.Spent key seq tries)) })
HasCause rounds query nodes (TooLong key) = IsUsedUp nodes key

-- the fault's connection, if it names one, is of the query
abbrev pub IsOfQuery : ℕ → FirstNo → Type 0
IsOfQuery query (Unfinished n) = Unit {0}
IsOfQuery query (Spent key seq tries) = key.query ≡ query
IsOfQuery query (TooLong key) = key.query ≡ query

-- the query after those that are over has the fault; without one all are over
abbrev pub Ends : (rounds : ℕ) → List Feed → FirstRun → Option FirstNo → Type 0
Ends rounds feeds run None = length run.rows ≡ length feeds
Ends rounds feeds run (Some refusal) =
    (length run.rows < length feeds) × HasCause rounds (length run.rows + 1) run.histories refusal × IsOfQuery (length run.rows + 1) refusal

-- ---- runs

-- every node has left the query
abbrev pub AllLeft : List (List Entry) → ℕ → Type 0
AllLeft nodes query = (at : ℕ) → at < length nodes → Contains (left_of (slice_index_or nodes at [])) query

-- These rows are the answer of the query of this place, from 0, whose number is one more; and every node has left it.
pub record AnswersFeed (session : ℕ) (settings : Settings) (loaded : List Spread) (feeds : List Feed) (nodes : List (List Entry)) (place : ℕ) (rows : List (List Value)) : Type 0 where
  pub feed : Feed
  pub here : slice_get feeds place ≡ Some feed
  pub answered : IsAnswered session (place + 1) settings.packet (parts_of loaded feed) nodes rows
  pub left : AllLeft nodes (place + 1)

-- A run of queries in a session of so many segments: the histories are those of a session, each query that is over was
-- answered with its rows and left by every node, and the run ended for its cause.
pub record IsRun (session segments rounds : ℕ) (settings : Settings) (loaded : List Spread) (feeds : List Feed) (run : FirstRun) : Type 0 where
  pub session_is : IsSession session segments settings run.histories
  pub answers : (place : ℕ) (rows : List (List Value)) → slice_get run.rows place ≡ Some rows → AnswersFeed session settings loaded feeds run.histories place rows
  pub ends : Ends rounds feeds run run.fault
