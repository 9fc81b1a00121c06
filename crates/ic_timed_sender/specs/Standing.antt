-- The histories that a sending connection with its clock stands for.
use Rattle.std.specs.Prelude.{◌≡◌, ℕ, ◌+◌, ◌-◌, ◌^◌, ◌≤◌, min, List, [], ◌∷◌, ◌++◌, length, true, false, Result, Ok, Err, Contains}
use Rattle.ic_base.specs.declared.keys.ConnKey.{ConnKey}
use Rattle.ic_base.specs.declared.keys.ConnEnd.{ConnEnd}
use Rattle.ic_expire.specs.declared.item.Item.{Item}
use Rattle.ic_expire.specs.Queue.{Queue}
use Rattle.ic_law.specs.declared.history.Entry.{Entry}
use Rattle.ic_law.specs.History.{rows_emitted_of}
use Rattle.ic_law.specs.Putting.{chunks_put_of, finished_of}
use Rattle.ic_law.specs.Clock.{last_tick, clock_of, next_clock}
use Rattle.ic_law.specs.Timing.{timing_of}
use Rattle.ic_law.specs.Spending.{spent_timers, spent_query, packets_spent, query_spent}
use Rattle.ic_sender.specs.declared.send_no.SendNo.{SendNo}
use Rattle.ic_sender.specs.declared.send_no.SendNo.TheVariants.{Full, Stopped, TooLong, Spent, Stray, Memory}
use Rattle.ic_sender.specs.Sending.{Sending}
use Rattle.ic_sender.specs.Standing.{Stands as StandsFor, IsUntouched}
use Rattle.ic_chunk.specs.Counts.{HasCounted}
use Rattle.ic_timed_sender.specs.Timed.{TimedState, numbers_due}

-- beside those that were sent for the first time, so many packets of rows were emitted again, as a count of 128 bits
-- tells it
pub record HasResent (c : ConnKey) (h : List Entry) (sent resent : ℕ) : Type 0 where
  pub again : ℕ
  pub emitted : length (rows_emitted_of c h) ≡ sent + again
  pub told : resent ≡ min again (2 ^ 128 - 1)

-- It is at the tick of a history, finished if the history says so, and its connection, with what waits, stands for it.
-- Its counts are those of the history.
pub record Stands (o : TimedState) (h : List Entry) : Type 0 where
  pub clock : clock_of h ≡ o.now
  pub finished : finished_of o.sending.end.key h ≡ o.sending.finished
  pub sends : StandsFor o.sending o.held h
  pub rows : HasCounted (chunks_put_of o.sending.end.key h) o.rows
  pub resent : HasResent o.sending.end.key h o.sending.sent o.sending.resent

-- as it begins it stands for each history of so many ticks in which its end isn't there yet
abbrev pub StandsFirst : ConnEnd → ℕ → TimedState → Type 0
StandsFirst end now o = (h : List Entry) → clock_of h ≡ now → IsUntouched end h → Stands o h

-- wherever it stood, it stands with such an entry more
abbrev pub StandsNext : TimedState → TimedState → (Entry → Type 0) → Type 0
StandsNext old new Is = (h : List Entry) (e : Entry) → Is e → Stands old h → Stands new (h ++ e ∷ [])

-- ---- what is given up

-- at the next tick of a history none of its packets is given up
pub record KeepsPackets (s : Sending) (h : List Entry) : Type 0 where
  pub timers : spent_timers s.settings (next_clock h) (timing_of s.end.key s.settings h) ≡ []
  pub packets : packets_spent s.settings h s.end ≡ []

-- the first that is given up has this number
pub record GivesPacketUp (s : Sending) (seq : ℕ) (h : List Entry) : Type 0 where
  pub more : List (ConnKey × ℕ)
  pub packets : s.end.sending ≡ true → packets_spent s.settings h s.end ≡ (s.end.key, seq) ∷ more

-- at the next tick of a history its status query isn't given up
pub record KeepsQuery (s : Sending) (h : List Entry) : Type 0 where
  pub asked : spent_query s.settings (next_clock h) (timing_of s.end.key s.settings h).asked ≡ false
  pub query : query_spent s.settings h s.end ≡ []

-- it is, after the packet of this number
abbrev pub GivesQueryUp : Sending → ℕ → List Entry → Type 0
GivesQueryUp s seq h = s.end.sending ≡ true → query_spent s.settings h s.end ≡ (s.end.key, seq) ∷ []

-- What a look at the next tick tells of each history for which it stands: nothing is given up if there is an answer;
-- and if the look says what is, it is that, after all resendings.
abbrev pub Tells : {A : Type 0} → TimedState → (Sending → List Entry → Type 0) → (Sending → ℕ → List Entry → Type 0) → Result A SendNo → Type 0
Tells {A = A} o Keeps GivesUp (Ok r) = (h : List Entry) → Stands o h → Keeps o.sending h
Tells {A = A} o Keeps GivesUp (Err Full) = Unit {0}
Tells {A = A} o Keeps GivesUp (Err Stopped) = Unit {0}
Tells {A = A} o Keeps GivesUp (Err (TooLong key)) = Unit {0}
Tells {A = A} o Keeps GivesUp (Err (Spent key seq tries)) = (key ≡ o.sending.end.key) × (tries ≡ o.sending.settings.retries) × ((h : List Entry) → Stands o h → GivesUp o.sending seq h)
Tells {A = A} o Keeps GivesUp (Err Stray) = Unit {0}
Tells {A = A} o Keeps GivesUp (Err Memory) = Unit {0}

-- no packet of it is due at the next tick, so none is given up
pub record IsQuiet (o : TimedState) : Type 0 where
  pub numbers : numbers_due o ≡ []
  pub keeps : (h : List Entry) → Stands o h → KeepsPackets o.sending h

-- ---- what is always true

-- The queue is the connection's own: asked at this tick, with room for what is kept, of this connection alone, and empty
-- once the peer wants no more. There is a history for which all of it stands.
pub record IsSound (s : Sending) (q : Queue) (now rows : ℕ) : Type 0 where
  pub conn : s.conn ≡ 0
  pub asked : q.asked ≡ now
  pub last : now ≤ last_tick
  pub room : q.room ≡ s.settings.send_depth
  pub own : (y : Item) → Contains q.held y → y.conn ≡ s.conn
  pub still : s.stopped ≡ true → q.held ≡ []
  pub history : List Entry
  pub stands : Stands (record { sending = s; held = q.held; now = now; rows = rows }) history
