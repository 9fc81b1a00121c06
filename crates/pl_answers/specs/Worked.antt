-- Two rules on which answers rest, on a small plan over two segments. Each has a definition of its own, so that a wrong rule is
-- refused by a value.
use Rattle.std.specs.Prelude.{ℕ, pos, List, [], ◌∷◌, ◌++◌, take, Some}
use Rattle.pl_ops.specs.Rows.{Line}
use Rattle.pl_ops.specs.Streams.{Stream}
use Rattle.pl_mean.specs.Outputs.{Input, received}
use Rattle.pl_mean.specs.Answers.{IsLawful}
use Rattle.pl_mean.specs.Worked.{int, letter, by_first, merging, topmost, schemas, wholes, came, nobody, in_order}

-- the rule of an ordered gather from two segments: no row before each head is known
abbrev pub gathered : Input → Stream
gathered input = received (Some by_first) (pos 0 ∷ pos 1 ∷ []) input

-- a row of segment 0 was taken, and no head of segment 1 is known; the row isn't the least one
abbrev pub one_came : Input
one_came = record { took = came 0 (int 2) (letter 120) ∷ []; whole = nobody }

-- what is gathered of it is the front of a lawful answer
abbrev pub GathersWait : Type 0
GathersWait = IsLawful schemas wholes merging ((gathered one_came).rows ++ in_order)

-- the rule of a limit: the first rows of those that the gather gives
abbrev pub kept : ℕ → List Line → List Line
kept n rows = take n rows

-- they are a lawful answer: no row was left out that sorts before one of them
abbrev pub LimitsKeepTheLeast : Type 0
LimitsKeepTheLeast = IsLawful schemas wholes (topmost 2) (kept 2 in_order)
