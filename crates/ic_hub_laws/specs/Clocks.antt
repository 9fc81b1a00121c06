-- The clock after one more entry, and what the next tick would give up.
use Rattle.std.specs.Prelude.{◌≡◌, ℕ, List, [], ◌∷◌, ◌++◌, Contains}
use Rattle.ic_base.specs.declared.keys.ConnKey.{ConnKey}
use Rattle.ic_base.specs.declared.keys.ConnEnd.{ConnEnd}
use Rattle.ic_base.specs.declared.settings.Settings.{Settings}
use Rattle.ic_law.specs.declared.history.Entry.{Entry}
use Rattle.ic_law.specs.Clock.{ticks_by, clock_of, next_clock}
use Rattle.ic_law.specs.Spending.{packets_spent, query_spent, spent_of}

-- ---- the clock

-- an entry that isn't a tick leaves the clock; a tick moves it on
pub record MovesClock (h : List Entry) (e : Entry) : Type 0 where
  pub still : ticks_by e.reply ≡ 0 → clock_of (h ++ e ∷ []) ≡ clock_of h
  pub ticks : ticks_by e.reply ≡ 1 → clock_of (h ++ e ∷ []) ≡ next_clock h

abbrev pub ClockMoves : Type 0
ClockMoves = (h : List Entry) (e : Entry) → MovesClock h e

-- ---- what is given up first

-- no packet of these ends is given up at the next tick
abbrev pub NoPacketSpent : Settings → List Entry → List ConnEnd → Type 0
NoPacketSpent settings h ends = (end : ConnEnd) → Contains ends end → packets_spent settings h end ≡ []

-- nor is a status query of them
abbrev pub NoQuerySpent : Settings → List Entry → List ConnEnd → Type 0
NoQuerySpent settings h ends = (end : ConnEnd) → Contains ends end → query_spent settings h end ≡ []

-- if neither is, nothing is given up
abbrev pub NothingSpent : Type 0
NothingSpent = (settings : Settings) (h : List Entry) (ends : List ConnEnd) → NoPacketSpent settings h ends → NoQuerySpent settings h ends → spent_of settings h ends ≡ []

-- this is what a query gives up first
pub record SpendsFirst (settings : Settings) (h : List Entry) (ends : List ConnEnd) (first : ConnKey × ℕ) : Type 0 where
  pub more : List (ConnKey × ℕ)
  pub all : spent_of settings h ends ≡ first ∷ more

-- the first packet of the first end with one
abbrev pub PacketSpentFirst : Type 0
PacketSpentFirst = (settings : Settings) (h : List Entry) (front : List ConnEnd) (end : ConnEnd) (back : List ConnEnd) (first : ConnKey × ℕ) (more : List (ConnKey × ℕ))
    → NoPacketSpent settings h front → packets_spent settings h end ≡ first ∷ more → SpendsFirst settings h (front ++ end ∷ back) first

-- if no end has one, the status query of the first end with one
abbrev pub QuerySpentFirst : Type 0
QuerySpentFirst = (settings : Settings) (h : List Entry) (front : List ConnEnd) (end : ConnEnd) (back : List ConnEnd) (first : ConnKey × ℕ) (more : List (ConnKey × ℕ))
    → NoPacketSpent settings h (front ++ end ∷ back) → NoQuerySpent settings h front → query_spent settings h end ≡ first ∷ more → SpendsFirst settings h (front ++ end ∷ back) first
