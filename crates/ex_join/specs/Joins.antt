-- What a join has answered, of what it was given.
use Rattle.std.specs.Prelude.{◌≡◌, ◌<◌, ◌≤◌, ℕ, ◌+◌, Bool, true, false, List, [], ◌∷◌, ◌++◌, length, map, drop, filter, Option, Some, None}
use Rattle.pl_tree.specs.declared.node.Pair.{Pair}
use Rattle.pl_ops.specs.declared.words.Side.{Side}
use Rattle.pl_ops.specs.declared.words.Side.TheVariants.{Left, Right}
use Rattle.pl_ops.specs.declared.words.Next.{Next}
use Rattle.pl_ops.specs.declared.words.Next.TheVariants.{Row, Wants, End}
use Rattle.pl_ops.specs.Rows.{Line, join_rows}
use Rattle.pl_ops.specs.Groups.{in_group}
use Rattle.pl_ops.specs.Streams.{Stream, join_stream}
use Rattle.pl_ops.specs.Giving.{with_row, at_its_end, IsAll, IsOver, open_count}
use Rattle.ex_join.specs.Tables.{Buckets, bucket, rows_at, total}
use Rattle.ex_join.specs.Matches.{beside, has_null}

-- ---- what a join is seen as

pub record Joining : Type 0 where
  -- the columns of each side's key
  pub left_columns : List ℕ
  pub right_columns : List ℕ
  -- the right rows, by their keys; one whose key has a null may be missing
  pub table : Buckets
  -- the output rows of the left row at hand that were not answered yet
  pub pending : List Line
  pub left_ended : Bool
  pub right_ended : Bool
  -- whether a call was refused memory
  pub failed : Bool

-- the output rows of the left row at hand, from a match on; its matches are at a place of the table
abbrev pub pending_of : Option Line → Buckets → ℕ → ℕ → List Line
pending_of None table at next = []
pending_of (Some left) table at next = beside left (drop next (rows_at table at))

-- ---- what it has answered

-- of these inputs, a left and a right one, a join by these pairs has answered these rows
pub record Gives (on : List Pair) (j : Joining) (l r : Stream) (answered : List Line) : Type 0 where
  pub left_columns : j.left_columns ≡ map (λ p. p.left) on
  pub right_columns : j.right_columns ≡ map (λ p. p.right) on
  -- it knows which side has ended
  pub left_told : j.left_ended ≡ l.ended
  pub right_told : j.right_ended ≡ r.ended
  -- no left row comes before the right side has ended
  pub none_before : r.ended ≡ false → l.rows ≡ []
  pub table : (key : Line) → has_null key ≡ false → bucket key j.table ≡ filter (in_group j.right_columns key) r.rows
  pub rows : answered ++ j.pending ≡ join_rows on r.rows l.rows

-- ---- an answer of `next`

-- Between the states before and after the answer. A row is the next one of the output. If it wants a row, all of the output
-- so far was answered, and the output goes on: a right row as long as the right side hasn't ended, and then a left one. At
-- the end both sides have ended, and all of the output was answered.
abbrev pub Answers : List Pair → Joining → Joining → Next → Type 0
Answers on old new (Row row) = (l r : Stream) (a : List Line) → Gives on old l r a → Gives on new l r (a ++ row ∷ [])
Answers on old new (Wants Right) = (l r : Stream) (a : List Line) → Gives on old l r a
    → (r.ended ≡ false) × IsAll (join_stream on r l) a × Gives on new l r a
Answers on old new (Wants Left) = (l r : Stream) (a : List Line) → Gives on old l r a
    → (r.ended ≡ true) × IsAll (join_stream on r l) a × Gives on new l r a
Answers on old new End = (l r : Stream) (a : List Line) → Gives on old l r a
    → (r.ended ≡ true) × (l.ended ≡ true) × IsOver (join_stream on r l) a × Gives on new l r a

-- ---- an input that goes on

-- it can take a row of this side: a right one as long as that side hasn't ended, and then a left one
abbrev pub IsWanting : Side → Joining → Type 0
IsWanting Right j = (j.right_ended ≡ false) × (j.pending ≡ [])
IsWanting Left j = (j.right_ended ≡ true) × (j.left_ended ≡ false) × (j.pending ≡ [])

-- a row was given on this side
abbrev pub Given : Side → List Pair → Joining → Joining → Line → Type 0
Given Right on old new row = (l r : Stream) (a : List Line) → r.ended ≡ false → Gives on old l r a → Gives on new l (with_row r row) a
Given Left on old new row = (l r : Stream) (a : List Line) → l.ended ≡ false → Gives on old l r a → Gives on new (with_row l row) r a

-- this side has ended
abbrev pub Ended : Side → List Pair → Joining → Joining → Type 0
Ended Right on old new = (l r : Stream) (a : List Line) → r.ended ≡ false → Gives on old l r a → Gives on new l (at_its_end r) a
Ended Left on old new = (l r : Stream) (a : List Line) → l.ended ≡ false → Gives on old l r a → Gives on new (at_its_end l) r a

-- ---- how many more steps it can make

-- a row that waits counts as one, and so does a side that goes on
abbrev pub work : Joining → ℕ
work j = length j.pending + open_count j.left_ended + open_count j.right_ended

-- a left row adds no more steps than there are right rows, and a right row adds none
abbrev pub GivenWork : Side → Joining → Joining → Type 0
GivenWork Left old new = (work new ≤ work old + total old.table) × (new.table ≡ old.table)
GivenWork Right old new = (work new ≤ work old) × (total new.table ≤ total old.table + 1)
