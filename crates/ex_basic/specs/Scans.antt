-- What a scan has answered of its rows.
use Rattle.std.specs.Prelude.{◌≡◌, true, ℕ, Bool, List, [], ◌∷◌, ◌++◌, length}
use Rattle.pl_ops.specs.declared.words.Next.{Next}
use Rattle.pl_ops.specs.declared.words.Next.TheVariants.{Row, Wants, End}
use Rattle.pl_ops.specs.Rows.{Line}
use Rattle.pl_ops.specs.Streams.{Stream}
use Rattle.pl_ops.specs.Giving.{IsOver}

-- what contracts see of a scan
pub record Scanning : Type 0 where
  -- the rows that it still has to answer
  pub pending : List Line
  -- whether it was refused memory
  pub failed : Bool

-- of these rows it has answered these
abbrev pub Gives : List Line → Scanning → List Line → Type 0
Gives rows scan a = a ++ scan.pending ≡ rows

-- all of the rows, and no more come
abbrev pub scan_stream : List Line → Stream
scan_stream rows = record { rows = rows; ended = true }

-- The answer to `next`, by the states before and after it: the next row, or the end once each was answered. A scan wants
-- no rows.
abbrev pub Answers : Scanning → Scanning → Next → Type 0
Answers old new (Row row) = (rows a : List Line) → Gives rows old a → Gives rows new (a ++ row ∷ [])
Answers old new (Wants side) = ⊥
Answers old new End = (rows a : List Line) → Gives rows old a → IsOver (scan_stream rows) a × Gives rows new a

-- how many more rows it can answer
abbrev pub work : Scanning → ℕ
work scan = length scan.pending
