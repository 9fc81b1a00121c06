-- What a tree is made of, and what can be relied on. Only the crate's own functions cite these.
use Rattle.std.specs.Prelude.{◌≡◌, ℕ, ◌<◌, ⊤, IsSome}
use Rattle.std.specs.List.{AllByRecursion}
use Rattle.pl_tree.specs.Trees.{Tree, Scan, Filter, Project, Limit, Sort, Join, Single, Partial, Final, Gather, Redistribute, Broadcast, tree_in, tree_of}
use Rattle.pl_tree.specs.Partials.{partial_under}
use Rattle.pl_plan.specs.declared.sound.Judged.{Judged}
use Rattle.pl_plan.specs.Motions.{Motion, motions_of, slices_in}
use Rattle.ex_plan.specs.declared.finding.Found.{Found}
use Rattle.ex_plan.specs.Spots.{Spot}
use Rattle.ex_plan.specs.Workers.{gang_in}

-- a motion that was found
abbrev pub spot_of : Found → Spot
spot_of found = record { node = tree_of found.node.now; number = found.number; above = found.above }

-- each final stands over its partial
abbrev pub HavePartials : Tree → Type 0
HavePartials (Scan t) = ⊤
HavePartials (Filter e c) = HavePartials c
HavePartials (Project cols c) = HavePartials c
HavePartials (Limit n c) = HavePartials c
HavePartials (Sort ks c) = HavePartials c
HavePartials (Join on l r) = HavePartials l × HavePartials r
HavePartials (Single g cs c) = HavePartials c
HavePartials (Partial g cs c) = HavePartials c
HavePartials (Final c) = IsSome (partial_under c) × HavePartials c
HavePartials (Gather o c) = HavePartials c
HavePartials (Redistribute ks c) = HavePartials c
HavePartials (Broadcast c) = HavePartials c

-- the plan has the motion's slice, on which the motion's senders work
pub record IsKnown (j : Judged) (m : Motion) : Type 0 where
  pub slice : m.number < slices_in (tree_in j.plan)
  pub gang : gang_in j m.number ≡ m.senders

-- the motions of a node of this slice, whose first has the number n
abbrev pub AreKnown : Judged → ℕ → ℕ → Tree → Type 0
AreKnown j slice n tree = AllByRecursion (IsKnown j) (motions_of j.schemas j.segments slice (gang_in j slice) n tree)
