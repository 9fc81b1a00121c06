-- Packets that are given up, and which of them a refused tick names.
use Rattle.std.specs.Prelude.{◌≡◌, ℕ, List, [], ◌∷◌, ◌++◌, map, Bool, false, ◌&&◌, ◌==◌, if◌then◌else◌, Option, Some, None, ◌<◌, nat_le, filter}
use Rattle.std.specs.List.{flat_map}
use Rattle.ic_base.specs.declared.keys.ConnKey.{ConnKey}
use Rattle.ic_law.specs.declared.history.Entry.{Entry}
use Rattle.ic_base.specs.declared.keys.ConnEnd.{ConnEnd}
use Rattle.ic_base.specs.declared.settings.Settings.{Settings}
use Rattle.ic_law.specs.History.{sent_upto}
use Rattle.ic_law.specs.Points.{IsLive}
use Rattle.ic_law.specs.Clock.{next_clock}
use Rattle.ic_law.specs.Timers.{Timer, Asked, Timing, is_due}
use Rattle.ic_law.specs.Timing.{timing_of}

-- ---- packets that are given up

-- a packet that is due and has no resending left
abbrev pub has_no_try : Settings → ℕ → Timer → Bool
has_no_try settings clock x = is_due clock x && (x.tries == settings.retries)

abbrev pub spent_timers : Settings → ℕ → Timing → List Timer
spent_timers settings clock t = filter (has_no_try settings clock) t.timers

abbrev pub spent_query : Settings → ℕ → Option Asked → Bool
spent_query settings clock None = false
spent_query settings clock (Some a) = nat_le a.due clock && (a.tries == settings.retries)

-- nothing is given up at the next tick
pub record NoneSpent (settings : Settings) (c : ConnKey) (before : List Entry) : Type 0 where
  pub packets : spent_timers settings (next_clock before) (timing_of c settings before) ≡ []
  pub query : spent_query settings (next_clock before) (timing_of c settings before).asked ≡ false

-- ---- which of them a refused tick names

-- the packets of an end that are given up at the next tick, each by its connection and number; and then the status
-- query
abbrev pub packets_spent : Settings → List Entry → ConnEnd → List (ConnKey × ℕ)
packets_spent settings before end =
    if end.sending then map (λ x. (end.key, x.seq)) (spent_timers settings (next_clock before) (timing_of end.key settings before)) else []

abbrev pub query_spent : Settings → List Entry → ConnEnd → List (ConnKey × ℕ)
query_spent settings before end =
    if end.sending && spent_query settings (next_clock before) (timing_of end.key settings before).asked then (end.key, sent_upto end.key before) ∷ [] else []

-- all that is given up of a query: first the packets of each connection, in order and by number; then the status
-- queries. All that is due at one tick has the same due, so a tick serves them in this order.
abbrev pub spent_of : Settings → List Entry → List ConnEnd → List (ConnKey × ℕ)
spent_of settings before ends = flat_map (packets_spent settings before) ends ++ flat_map (query_spent settings before) ends

-- the first that is given up at the next tick, by increasing number of the live queries
pub record IsFirstSpent (settings : Settings) (before : List Entry) (key : ConnKey) (seq : ℕ) : Type 0 where
  pub query : ℕ
  pub ends : List ConnEnd
  pub live : IsLive query ends before
  pub more : List (ConnKey × ℕ)
  pub first : spent_of settings before ends ≡ (key, seq) ∷ more
  pub least : (other : ℕ) (others : List ConnEnd) → IsLive other others before → other < query → spent_of settings before others ≡ []
