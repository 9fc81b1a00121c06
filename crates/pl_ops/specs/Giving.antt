-- What an operator has answered, of what it was given: words that all operators share.
use Rattle.std.specs.Prelude.{◌≡◌, ◌<◌, ◌≤◌, ℕ, Bool, true, false, List, [], ◌∷◌, ◌++◌}
use Rattle.pl_ops.specs.declared.words.Next.{Next}
use Rattle.pl_ops.specs.declared.words.Next.TheVariants.{Row, Wants, End}
use Rattle.pl_ops.specs.Rows.{Line}
use Rattle.pl_ops.specs.Streams.{Stream}

-- ---- an input

abbrev pub with_row : Stream → Line → Stream
with_row s row = record { rows = s.rows ++ row ∷ []; ended = s.ended }

abbrev pub at_its_end : Stream → Stream
at_its_end s = record { rows = s.rows; ended = true }

-- ---- an output

-- all of the output so far was answered, and the output goes on
pub record IsAll (s : Stream) (answered : List Line) : Type 0 where
  pub goes_on : s.ended ≡ false
  pub rows : answered ≡ s.rows

-- all of the output was answered, and the output has ended
pub record IsOver (s : Stream) (answered : List Line) : Type 0 where
  pub ended : s.ended ≡ true
  pub rows : answered ≡ s.rows

-- ---- how many more steps an operator can make

-- an input that goes on counts as one
abbrev pub open_count : Bool → ℕ
open_count true = 0
open_count false = 1

-- of the steps left before and after an answer of `next`: a row takes one away, and nothing adds any
abbrev pub NextFalls : Next → ℕ → ℕ → Type 0
NextFalls (Row row) old new = new < old
NextFalls (Wants side) old new = new ≤ old
NextFalls End old new = new ≤ old
