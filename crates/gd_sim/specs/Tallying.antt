-- What the histories of a session tell of one connection, in numbers.
use Rattle.std.specs.Prelude.{◌≡◌, ℕ, ◌-◌, List, length, Some, slice_get}
use Rattle.ic_base.specs.declared.keys.ConnKey.{ConnKey}
use Rattle.ic_row.specs.declared.value.Value.{Value}
use Rattle.ic_law.specs.declared.history.Entry.{Entry}
use Rattle.ic_law.specs.History.{rows_emitted_of, sent_upto}
use Rattle.ic_law.specs.Taking.{whole_of}
use Rattle.ic_law.specs.Streams.{history_of, AreSent, AreTaken}
use Rattle.gd_law.specs.Answers.{gather_key}
use Rattle.gd_sim.specs.declared.tally.Tally.{Tally}

-- What the histories tell of a connection: how many rows were sent and taken, the greatest number of a packet of rows that
-- was emitted, how many emissions of such packets there were beyond that, and whether the end of stream was taken.
pub record IsTallyOf (nodes : List (List Entry)) (c : ConnKey) (t : Tally) : Type 0 where
  pub key : t.key ≡ c
  pub sent : (rows : List (List Value)) → AreSent c (history_of nodes c.from) rows → t.sent ≡ length rows
  pub taken : (rows : List (List Value)) → AreTaken c (history_of nodes c.to) rows → t.taken ≡ length rows
  pub packets : t.packets ≡ sent_upto c (history_of nodes c.from)
  pub resent : t.resent ≡ length (rows_emitted_of c (history_of nodes c.from)) - sent_upto c (history_of nodes c.from)
  pub whole : t.whole ≡ whole_of c (history_of nodes c.to)

-- one for each connection of a query's gather, by the segment that sends
pub record AreTallies (session query senders : ℕ) (nodes : List (List Entry)) (tallies : List Tally) : Type 0 where
  pub count : length tallies ≡ senders
  pub each : (segment : ℕ) (t : Tally) → slice_get tallies segment ≡ Some t → IsTallyOf nodes (gather_key session query segment) t
