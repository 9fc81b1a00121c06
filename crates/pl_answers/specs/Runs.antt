-- The runs of all slices of a plan and the streams between them, without histories.
use Rattle.std.specs.Prelude.{◌≡◌, ℕ, ◌+◌, ℤ, Bool, true, List, [], ◌++◌, ⊤}
use Rattle.std.specs.List.{AllByRecursion}
use Rattle.pl_tree.specs.Trees.{Tree, Scan, Filter, Project, Limit, Sort, Join, Single, Partial, Final, Gather, Redistribute, Broadcast, motions_in}
use Rattle.pl_tree.specs.Loci.{locus_of}
use Rattle.pl_plan.specs.Motions.{gang_at}
use Rattle.pl_ops.specs.Rows.{Line}
use Rattle.pl_ops.specs.Routing.{Route, ToAll, ToHashed}
use Rattle.pl_ops.specs.Streams.{Stream}
use Rattle.pl_mean.specs.Parts.{Site, routed_to}
use Rattle.pl_mean.specs.Outputs.{Input, Inputs, came_from, out}
use Rattle.pl_answers.specs.Growing.{AreFrom}

-- what each worker took, by the worker's slice and segment, and by motion
abbrev pub Taken : Type 0
Taken = ℕ → ℤ → ℕ → Input

-- what one worker took; at its segment alone
abbrev pub by_worker : Taken → ℕ → ℤ → Inputs
by_worker taken slice at motion receiver = taken slice at motion

-- One connection, on which a sender with this output has these rows to send. The sender put the first of them, in order, and
-- finished only once its output had ended and all were put. The receiver took the first rows that were put; and if it took the
-- end of the stream, that had been put, and it took all rows.
pub record Carries (output : Stream) (rows : List Line) (input : Input) (from : ℤ) : Type 0 where
  pub put : List Line
  pub finished : Bool
  pub unput : List Line
  pub puts : put ++ unput ≡ rows
  pub ends : finished ≡ true → (output.ended ≡ true) × (unput ≡ [])
  pub untaken : List Line
  pub takes : came_from from input.took ++ untaken ≡ put
  pub whole : input.whole from ≡ true → (finished ≡ true) × (untaken ≡ [])

-- each connection from a sender to a receiver carries what the sender's slice gave and is routed there
abbrev pub Serves : Site → Taken → Route → ℕ → ℕ → Tree → ℤ → ℤ → Type 0
Serves s taken route slice n child at from =
    Carries (out s (by_worker taken n from) (n + 1) child from) (routed_to s route at (out s (by_worker taken n from) (n + 1) child from).rows) (taken slice at n) from

-- The run of a node of this slice at a segment, and of the slices below it at their senders' segments; the node's first motion
-- in preorder has the number n. Each row that was taken of a motion came from one of its senders.
abbrev pub IsRun : Site → Taken → ℕ → ℕ → Tree → ℤ → Type 0
IsRun s taken slice n (Scan t) at = ⊤
IsRun s taken slice n (Filter e c) at = IsRun s taken slice n c at
IsRun s taken slice n (Project cols c) at = IsRun s taken slice n c at
IsRun s taken slice n (Limit k c) at = IsRun s taken slice n c at
IsRun s taken slice n (Sort ks c) at = IsRun s taken slice n c at
IsRun s taken slice n (Join on l r) at = IsRun s taken slice n l at × IsRun s taken slice (n + motions_in l) r at
IsRun s taken slice n (Single g cs c) at = IsRun s taken slice n c at
IsRun s taken slice n (Partial g cs c) at = IsRun s taken slice n c at
IsRun s taken slice n (Final c) at = IsRun s taken slice n c at
IsRun s taken slice n (Gather o c) at =
    AreFrom (gang_at s.segments (locus_of s.schemas c)) (taken slice at n).took
    × AllByRecursion (λ from. Serves s taken ToAll slice n c at from × IsRun s taken n (n + 1) c from) (gang_at s.segments (locus_of s.schemas c))
IsRun s taken slice n (Redistribute ks c) at =
    AreFrom (gang_at s.segments (locus_of s.schemas c)) (taken slice at n).took
    × AllByRecursion (λ from. Serves s taken (ToHashed ks) slice n c at from × IsRun s taken n (n + 1) c from) (gang_at s.segments (locus_of s.schemas c))
IsRun s taken slice n (Broadcast c) at =
    AreFrom (gang_at s.segments (locus_of s.schemas c)) (taken slice at n).took
    × AllByRecursion (λ from. Serves s taken ToAll slice n c at from × IsRun s taken n (n + 1) c from) (gang_at s.segments (locus_of s.schemas c))
