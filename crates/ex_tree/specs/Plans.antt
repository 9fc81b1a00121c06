-- The part that a slice's worker runs, of a plan, and what holds of it.
use Rattle.std.specs.Prelude.{◌≡◌, ℕ, suc, ◌+◌, ℤ, true, false, List, [], ◌∷◌, ◌++◌, Option, Some, None}
use Rattle.ic_row.specs.declared.order.Key.{Key}
use Rattle.pl_tree.specs.Trees.{Tree, Scan, Filter, Project, Limit, Sort, Join, Single, Partial, Final, Gather, Redistribute, Broadcast, motions_in, nodes_in}
use Rattle.pl_tree.specs.Columns.{kinds_of}
use Rattle.pl_tree.specs.Loci.{locus_of}
use Rattle.pl_tree.specs.Partials.{Groups, partial_under}
use Rattle.pl_plan.specs.Motions.{gang_at}
use Rattle.pl_mean.specs.Parts.{Site, scanned}
use Rattle.pl_mean.specs.Outputs as outputs
use Rattle.pl_runs.specs.Steps.{Step, inputs_of, takes_of, halts_from}
use Rattle.pl_ops.specs.Rows.{Line}
use Rattle.ex_tree.specs.Running.{State, Runs}
use Rattle.pl_runs.specs.Wanting as wanting
use Rattle.ic_motion.specs.declared.answers.MotionEnd.{MotionEnd}
use Rattle.ex_tree.specs.Parts as parts

-- the session and the query whose worker runs it
pub record Place : Type 0 where
  pub session : ℕ
  pub query : ℕ
  pub at : ℤ

abbrev pub source_at : Site → Place → ℕ → Option (List Key) → Tree → parts.Source
source_at s p n order c =
    record { end = record { session = p.session; query = p.query; motion = n; at = p.at }; order = order; kinds = kinds_of s.schemas c; senders = gang_at s.segments (locus_of s.schemas c) }

-- a final, by its node's number; over no partial, which no sound plan has, it gives nothing
abbrev pub final_at : ℕ → Option Groups → parts.Single
final_at i None = parts.Blank
final_at i (Some g) = parts.Groups i true g.group g.calls

-- of a node with this number in preorder, whose first motion has the second number
abbrev pub part_of : Site → Place → ℕ → ℕ → Tree → parts.Part
part_of s p i n (Scan t) = parts.Rows (scanned s t p.at)
part_of s p i n (Filter e c) = parts.Over (parts.Filters e) (part_of s p (suc i) n c)
part_of s p i n (Project cols c) = parts.Over (parts.Projects cols) (part_of s p (suc i) n c)
part_of s p i n (Limit k c) = parts.Over (parts.Limits k) (part_of s p (suc i) n c)
part_of s p i n (Sort ks c) = parts.Over (parts.Sorts ks) (part_of s p (suc i) n c)
part_of s p i n (Join on l r) = parts.Joins on (part_of s p (suc i) n l) (part_of s p (suc (i + nodes_in l)) (n + motions_in l) r)
part_of s p i n (Single g cs c) = parts.Over (parts.Groups i false g cs) (part_of s p (suc i) n c)
part_of s p i n (Partial g cs c) = parts.Over (parts.Groups i false g cs) (part_of s p (suc i) n c)
part_of s p i n (Final c) = parts.Over (final_at i (partial_under c)) (part_of s p (suc i) n c)
part_of s p i n (Gather o c) = parts.Hears (source_at s p n o c)
part_of s p i n (Redistribute ks c) = parts.Hears (source_at s p n None c)
part_of s p i n (Broadcast c) = parts.Hears (source_at s p n None c)

-- it gives what the node gives, wants what the node wants, and has a limit that is satisfied exactly if the node has
pub record IsOfPlan (s : Site) (p : Place) (i n : ℕ) (t : Tree) (steps : List Step) : Type 0 where
  pub gives : parts.out (part_of s p i n t) steps ≡ outputs.out s (inputs_of steps) n t p.at
  pub wants : parts.wants (part_of s p i n t) steps ≡ wanting.wanted s (inputs_of steps) n t p.at
  pub satisfied : parts.is_satisfied (part_of s p i n t) steps ≡ wanting.is_satisfied s (inputs_of steps) n t p.at

-- the step is of none of the part's motions: it takes from none, and halts no sender of one
abbrev pub IsElsewhere : parts.Part → Step → Type 0
IsElsewhere part s = (source : parts.Source) → parts.Has part source → (takes_of source.end.motion s.entry.ask ≡ false) × ((sender : ℤ) → halts_from source.end.motion sender s.entry.ask ≡ false)

-- what a tree gave is the front of what its part gives, and a step elsewhere leaves both as they are
pub record StandsBy (part : parts.Part) (st : State) (steps : List Step) (given : List Line) : Type 0 where
  pub rest : List Line
  pub front : (parts.out part steps).rows ≡ given ++ rest
  pub passes : (s : Step) → IsElsewhere part s → Runs part st (steps ++ s ∷ []) given × (parts.out part (steps ++ s ∷ []) ≡ parts.out part steps)
