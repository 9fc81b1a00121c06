-- What a pull does next, by what is held.
use Rattle.std.specs.Prelude.{ℕ, zero, suc, ◌<◌, Bool, true, false, if◌then◌else◌, List, [], ◌∷◌, Option, Some, None}
use Rattle.ic_row.specs.declared.order.Key.{Key}
use Rattle.pl_ops.specs.Rows.{Line}
use Rattle.pl_ops.specs.Streams.{Stream}
use Rattle.pl_ops.specs.Merging.{sorts_before}
use Rattle.ic_motion.specs.declared.answers.Got.{Got}
use Rattle.ic_motion.specs.declared.answers.Got.TheVariants as got
use Rattle.ic_motion.specs.declared.picking.Pick.{Pick}
use Rattle.ic_motion.specs.declared.picking.Pick.TheVariants.{Row, Any, One, Nothing}
use Rattle.ic_motion.specs.Hearing.{Lane, streams_of}

-- ---- rows at places

abbrev pub first_in : List Line → Option Line
first_in [] = None
first_in (row ∷ rows) = Some row

abbrev pub without_first : List Line → List Line
without_first [] = []
without_first (row ∷ rows) = rows

-- the first row of the stream at this place
abbrev pub first_at : ℕ → List Stream → Option Line
first_at k [] = None
first_at zero (s ∷ streams) = first_in s.rows
first_at (suc k) (s ∷ streams) = first_at k streams

-- ---- the pick

-- the same one place on
abbrev pub later : Pick → Pick
later (Row k) = Row (suc k)
later (One k) = One (suc k)
later Any = Any
later Nothing = Nothing

-- Without an order: the first row that is held, or a take from any sender; nothing if no sender has more.
abbrev pub any_beside : List Line → Bool → Pick → Pick
any_beside (row ∷ rows) ended pick = Row 0
any_beside [] ended (Row k) = Row (suc k)
any_beside [] ended Any = Any
any_beside [] ended (One k) = Any
any_beside [] ended Nothing = if ended then Nothing else Any

abbrev pub pick_any : List Stream → Pick
pick_any [] = Nothing
pick_any (s ∷ streams) = any_beside s.rows s.ended (pick_any streams)

-- a row beside the one that is picked of the streams after it: it gives way only to a row that sorts before it
abbrev pub goes_before : (Line → Line → Bool) → Option Line → Line → Bool
goes_before before None row = false
goes_before before (Some other) row = before other row

abbrev pub row_beside : (Line → Line → Bool) → Line → List Stream → Pick → Pick
row_beside before row streams (Row k) = if goes_before before (first_at k streams) row then Row (suc k) else Row 0
row_beside before row streams Any = Any
row_beside before row streams (One k) = One (suc k)
row_beside before row streams Nothing = Row 0

abbrev pub least_beside : (Line → Line → Bool) → List Line → Bool → List Stream → Pick → Pick
least_beside before (row ∷ rows) ended streams pick = row_beside before row streams pick
least_beside before [] true streams pick = later pick
least_beside before [] false streams pick = One 0

-- With an order: a take from the first unended sender whose next row isn't known; else the least row, and of equal rows that
-- of the first sender.
abbrev pub pick_least : (Line → Line → Bool) → List Stream → Pick
pick_least before [] = Nothing
pick_least before (s ∷ streams) = least_beside before s.rows s.ended streams (pick_least before streams)

abbrev pub pick_of : Option (List Key) → List Stream → Pick
pick_of None streams = pick_any streams
pick_of (Some keys) streams = pick_least (sorts_before keys) streams

-- a place in a pick is below this number
abbrev pub IsBelow : Pick → ℕ → Type 0
IsBelow (Row k) n = k < n
IsBelow (One k) n = k < n
IsBelow Any n = Unit {0}
IsBelow Nothing n = Unit {0}

-- ---- what it does

-- the first row of the lane at this place is gone
abbrev pub pop_at : ℕ → List Lane → List Lane
pop_at k [] = []
pop_at zero (l ∷ lanes) = record l { rows = without_first l.rows } ∷ lanes
pop_at (suc k) (l ∷ lanes) = l ∷ pop_at k lanes

abbrev pub row_or_more : Option Line → Got
row_or_more None = got.More
row_or_more (Some row) = got.Row row

-- what is answered without a call, and what is held then
abbrev pub answer_of : Pick → List Lane → Got
answer_of (Row k) lanes = row_or_more (first_at k (streams_of lanes))
answer_of Any lanes = got.More
answer_of (One k) lanes = got.More
answer_of Nothing lanes = got.End

abbrev pub kept_by : Pick → List Lane → List Lane
kept_by (Row k) lanes = pop_at k lanes
kept_by Any lanes = lanes
kept_by (One k) lanes = lanes
kept_by Nothing lanes = lanes
