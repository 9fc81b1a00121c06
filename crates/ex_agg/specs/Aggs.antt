-- What an aggregate has answered, of what it was given.
use Rattle.std.specs.Prelude.{◌≡◌, ℕ, ◌+◌, Bool, true, false, if◌then◌else◌, List, [], ◌∷◌, ◌++◌, length, map, Option}
use Rattle.pl_tree.specs.declared.node.Call.{Call}
use Rattle.pl_ops.specs.declared.words.Side.{Side}
use Rattle.pl_ops.specs.declared.words.Side.TheVariants.{Left, Right}
use Rattle.pl_ops.specs.declared.words.Next.{Next}
use Rattle.pl_ops.specs.declared.words.Next.TheVariants.{Row, Wants, End}
use Rattle.pl_ops.specs.declared.words.OpNo.{OpNo}
use Rattle.pl_ops.specs.Rows.{Line}
use Rattle.pl_ops.specs.Groups.{aggregate_rows, final_rows}
use Rattle.pl_ops.specs.Streams.{Stream, aggregate_stream, final_stream}
use Rattle.pl_ops.specs.Overflow.{StaysWithin, Overflows}
use Rattle.pl_ops.specs.Giving.{with_row, at_its_end, IsAll, IsOver, open_count}
use Rattle.ex_agg.specs.Grouped.{Grouped, whole, groups_of, key_columns}

-- ---- what an aggregate is seen as

pub record Grouping : Type 0 where
  -- whether the rows given are those of a partial
  pub final : Bool
  -- the columns of the key in the rows given
  pub columns : List ℕ
  -- the column of the first result in the rows of a partial
  pub first : ℕ
  pub calls : List Call
  pub groups : Grouped
  -- the output rows that weren't answered yet
  pub pending : List Line
  pub ended : Bool
  -- why a call was refused, if one was
  pub refused : Option OpNo

-- ---- what it has answered

-- the output rows of these input rows
abbrev pub rows_of : Bool → List ℕ → List Call → List Line → List Line
rows_of final group calls rows = if final then final_rows group calls rows else aggregate_rows group calls rows

-- the output so far, of the input so far
abbrev pub out : Bool → List ℕ → List Call → Stream → Stream
out final group calls s = if final then final_stream group calls s else aggregate_stream group calls s

-- of this input an aggregate with this group and these calls has answered these rows
pub record Gives (final : Bool) (group : List ℕ) (calls : List Call) (g : Grouping) (s : Stream) (answered : List Line) : Type 0 where
  pub final_is : g.final ≡ final
  pub columns : g.columns ≡ key_columns final group
  pub first : g.first ≡ length group
  pub calls_are : g.calls ≡ calls
  -- it knows whether the input has ended, and answers no row before
  pub told : g.ended ≡ s.ended
  pub none_before : s.ended ≡ false → answered ≡ []
  pub groups : g.groups ≡ groups_of final (length group) (key_columns final group) calls s.rows
  pub rows : answered ++ g.pending ≡ map whole g.groups
  -- after none of the rows was a count or a sum too great
  pub within : StaysWithin (rows_of final group calls) s.rows

-- ---- an answer of `next`

-- Between the states before and after the answer. A row is the next one of the output. If it wants a row, all of the output
-- so far was answered, and the output goes on. At the end all of the output was answered.
abbrev pub Answers : Grouping → Grouping → Next → Type 0
Answers old new (Row row) = (final : Bool) (group : List ℕ) (calls : List Call) (s : Stream) (a : List Line)
    → Gives final group calls old s a → Gives final group calls new s (a ++ row ∷ [])
Answers old new (Wants side) = (final : Bool) (group : List ℕ) (calls : List Call) (s : Stream) (a : List Line)
    → Gives final group calls old s a → (s.ended ≡ false) × IsAll (out final group calls s) a × Gives final group calls new s a
Answers old new End = (final : Bool) (group : List ℕ) (calls : List Call) (s : Stream) (a : List Line)
    → Gives final group calls old s a → IsOver (out final group calls s) a × Gives final group calls new s a

-- ---- an input that goes on

-- it can take a row of this side: of its one input, as long as that hasn't ended
abbrev pub IsWanting : Side → Grouping → Type 0
IsWanting Left g = g.ended ≡ false
IsWanting Right g = ⊥

-- a row was given
abbrev pub Given : Grouping → Grouping → Line → Type 0
Given old new row = (final : Bool) (group : List ℕ) (calls : List Call) (s : Stream) (a : List Line) → s.ended ≡ false
    → Gives final group calls old s a → Gives final group calls new (with_row s row) a

-- a row was given after which a count or a sum is too great
abbrev pub IsTooMuch : Grouping → Line → Type 0
IsTooMuch old row = (final : Bool) (group : List ℕ) (calls : List Call) (s : Stream) (a : List Line)
    → Gives final group calls old s a → Overflows (rows_of final group calls) (s.rows ++ row ∷ [])

-- the input has ended
abbrev pub Ended : Grouping → Grouping → Type 0
Ended old new = (final : Bool) (group : List ℕ) (calls : List Call) (s : Stream) (a : List Line) → s.ended ≡ false
    → Gives final group calls old s a → Gives final group calls new (at_its_end s) a

-- ---- how many more steps it can make

-- a row that waits counts as one, and so does an input that goes on
abbrev pub work : Grouping → ℕ
work g = length g.pending + open_count g.ended
