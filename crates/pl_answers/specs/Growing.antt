-- A worker that took more gives more.
use Rattle.std.specs.Prelude.{◌≡◌, ℕ, ◌+◌, ℤ, true, List, [], ◌++◌, Contains, ⊤}
use Rattle.std.specs.List.{AllByRecursion}
use Rattle.pl_tree.specs.Trees.{Tree, Scan, Filter, Project, Limit, Sort, Join, Single, Partial, Final, Gather, Redistribute, Broadcast, motions_in}
use Rattle.pl_tree.specs.Loci.{locus_of}
use Rattle.pl_plan.specs.Motions.{gang_at}
use Rattle.pl_ops.specs.Rows.{Line}
use Rattle.pl_ops.specs.Streams.{Stream}
use Rattle.pl_mean.specs.Parts.{Site}
use Rattle.pl_mean.specs.Outputs.{Came, Input, Inputs, came_from, out}

-- each row came from one of these senders
abbrev pub AreFrom : List ℤ → List Came → Type 0
AreFrom senders came = AllByRecursion (λ (c : Came). Contains senders c.from) came

-- more was taken of a motion with these senders, after what was taken; and nothing more of a sender that was whole
pub record TookMore (senders : List ℤ) (old new : Input) : Type 0 where
  pub more : List Came
  pub took : new.took ≡ old.took ++ more
  pub from : AreFrom senders more
  pub stays : AllByRecursion (λ sender. old.whole sender ≡ true → (new.whole sender ≡ true) × (came_from sender more ≡ [])) senders

-- so it is of each motion of a node's slice that is at the node or below it
abbrev pub AreMore : Site → (old new : Inputs) → ℕ → Tree → ℤ → Type 0
AreMore s old new n (Scan t) at = ⊤
AreMore s old new n (Filter e c) at = AreMore s old new n c at
AreMore s old new n (Project cols c) at = AreMore s old new n c at
AreMore s old new n (Limit k c) at = AreMore s old new n c at
AreMore s old new n (Sort ks c) at = AreMore s old new n c at
AreMore s old new n (Join on l r) at = AreMore s old new n l at × AreMore s old new (n + motions_in l) r at
AreMore s old new n (Single g cs c) at = AreMore s old new n c at
AreMore s old new n (Partial g cs c) at = AreMore s old new n c at
AreMore s old new n (Final c) at = AreMore s old new n c at
AreMore s old new n (Gather o c) at = TookMore (gang_at s.segments (locus_of s.schemas c)) (old n at) (new n at)
AreMore s old new n (Redistribute ks c) at = TookMore (gang_at s.segments (locus_of s.schemas c)) (old n at) (new n at)
AreMore s old new n (Broadcast c) at = TookMore (gang_at s.segments (locus_of s.schemas c)) (old n at) (new n at)

-- what was given is the front of what is given now, and all of it if it had ended
pub record IsFront (old new : Stream) : Type 0 where
  pub rest : List Line
  pub longer : new.rows ≡ old.rows ++ rest
  pub ended : old.ended ≡ true → (new.ended ≡ true) × (rest ≡ [])

-- what a node gave is the front of what it gives once more was taken
abbrev pub OutputsGrow : Type 0
OutputsGrow = (s : Site) (old new : Inputs) (n : ℕ) (tree : Tree) (at : ℤ) → AreMore s old new n tree at → IsFront (out s old n tree at) (out s new n tree at)
