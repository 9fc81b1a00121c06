-- What follows of the runs of all slices: the rows that the root gives are a lawful answer.
use Rattle.std.specs.Prelude.{◌≡◌, negsuc, true, List, [], ◌++◌}
use Rattle.pl_tree.specs.Trees.{Tree}
use Rattle.pl_plan.specs.Rules.{Given}
use Rattle.pl_plan.specs.Soundness.{IsSound}
use Rattle.pl_ops.specs.declared.loaded.Spread.{Spread}
use Rattle.pl_ops.specs.Rows.{Line}
use Rattle.pl_ops.specs.Streams.{Stream}
use Rattle.pl_mean.specs.Outputs.{out}
use Rattle.pl_mean.specs.Answers.{IsLawful}
use Rattle.pl_parts.specs.Law.{AreLoaded, site_of}
use Rattle.pl_answers.specs.Runs.{Taken, by_worker, IsRun}

-- what the root gave at the dispatcher so far; slice 0 is the root's, and the first motion has the number 1
abbrev pub root_output : Given → List Spread → Tree → Taken → Stream
root_output g tables tree taken = out (site_of g tables) (by_worker taken 0 (negsuc 0)) 1 tree (negsuc 0)

-- with more rows after them these rows are a lawful answer, and without any if the stream has ended
pub record GoesOnTo (g : Given) (wholes : List (List Line)) (tree : Tree) (output : Stream) : Type 0 where
  pub rest : List Line
  pub lawful : IsLawful g.schemas wholes tree (output.rows ++ rest)
  pub over : output.ended ≡ true → rest ≡ []

-- of a sound plan over loaded tables what the root gave so far is the front of a lawful answer
abbrev pub RootsGoOn : Type 0
RootsGoOn =
    (g : Given) (wholes : List (List Line)) (tables : List Spread) (tree : Tree) (taken : Taken) → AreLoaded g wholes tables → IsSound g tree
    → IsRun (site_of g tables) taken 0 1 tree (negsuc 0) → GoesOnTo g wholes tree (root_output g tables tree taken)

-- and if its output has ended, the rows are a lawful answer
abbrev pub AnswersAreLawful : Type 0
AnswersAreLawful =
    (g : Given) (wholes : List (List Line)) (tables : List Spread) (tree : Tree) (taken : Taken) → AreLoaded g wholes tables → IsSound g tree
    → IsRun (site_of g tables) taken 0 1 tree (negsuc 0) → (root_output g tables tree taken).ended ≡ true
    → IsLawful g.schemas wholes tree (root_output g tables tree taken).rows
