-- The lines of a run's answers, and what was written when they broke off between two.
use Rattle.std.specs.Prelude.{ℕ, ◌≤◌, List, [], ◌∷◌, ◌++◌, length, take, map}
use Rattle.std.specs.List.{concat}
use Rattle.std.specs.declared.option.Option.{Option}
use Rattle.std.specs.Io.KnownBytes.{Appends}
use Rattle.ic_row.specs.declared.value.Value.{Value}
use Rattle.gd_sim.specs.declared.tally.Tally.{Tally}
use Rattle.icq_top.specs.declared.print.Answer.{Answer}
use Rattle.icq_top.specs.Text.{row_text, tally_text}

-- some of the lines were written, whole and from the first on
abbrev pub WroteLines : Option (List ℕ) → Option (List ℕ) → List (List ℕ) → Type 0
WroteLines old new lines = (n : ℕ) × (n ≤ length lines) × Appends old new (concat (take n lines))

-- a line for each row of a query, and then one for each of its tallies
abbrev pub query_lines : List (List Value) → List Tally → List (List ℕ)
query_lines rows tallies = map row_text rows ++ map tally_text tallies

-- the lines of all queries that are over, one query after the other
abbrev pub lines_of : List (List (List Value)) → List (List Tally) → List (List ℕ)
lines_of [] tallies = []
lines_of (rows ∷ more) [] = []
lines_of (rows ∷ more) (tallies ∷ others) = query_lines rows tallies ++ lines_of more others

abbrev pub text_of : List (List (List Value)) → List (List Tally) → List ℕ
text_of rows tallies = concat (lines_of rows tallies)

-- ---- the program's answers

abbrev pub answer_lines : Answer → List (List ℕ)
answer_lines a = query_lines a.rows.now a.tallies

abbrev pub rows_in : Answer → List (List Value)
rows_in a = a.rows.now

abbrev pub tallies_in : Answer → List Tally
tallies_in a = a.tallies
