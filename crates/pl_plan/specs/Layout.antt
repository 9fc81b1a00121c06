-- Slices and motions, noted down in one walk from the root.
use Rattle.std.specs.Prelude.{ℕ, ℤ, ◌+◌, List, [], ◌∷◌, ◌++◌, length, slice_get, Option, Some, None}
use Rattle.pl_tree.specs.declared.schema.Locus.{Locus}
use Rattle.pl_tree.specs.declared.schema.Locus.TheVariants.{Entry, Hashed, Replicated, Strewn}
use Rattle.pl_tree.specs.Trees.{Tree, Scan, Filter, Project, Limit, Sort, Join, Single, Partial, Final, Gather, Redistribute, Broadcast}
use Rattle.pl_plan.specs.declared.layout.Gang.{Gang}
use Rattle.pl_plan.specs.declared.layout.Gang.TheVariants.{Dispatcher, First, All}
use Rattle.pl_plan.specs.declared.layout.MotionRow.{MotionRow}
use Rattle.pl_plan.specs.declared.layout.Layout.{Layout}
use Rattle.pl_plan.specs.Motions.{Motion, dispatcher, segments_from}

-- the segments of a gang
abbrev pub members : ℕ → Gang → List ℤ
members segments Dispatcher = dispatcher
members segments First = segments_from 0 1
members segments All = segments_from 0 segments

abbrev pub gang_over : Locus → Gang
gang_over Entry = All
gang_over (Hashed a) = All
gang_over Replicated = First
gang_over Strewn = All

-- the gang of a slice whose top has this locus
abbrev pub gang_for : Option Locus → Gang
gang_for None = All
gang_for (Some locus) = gang_over locus

-- the motion that a row stands for
abbrev pub motion_in : ℕ → MotionRow → Motion
motion_in segments row = record { number = row.number; above = row.above; senders = members segments row.senders; receivers = members segments row.receivers }

abbrev pub with_node : ℕ → Layout → Layout
with_node slice a = record { slices = a.slices ++ slice ∷ []; motions = a.motions }

abbrev pub next_motion : Layout → ℕ
next_motion a = length a.motions + 1

abbrev pub with_motion : ℕ → Gang → Gang → Layout → Layout
with_motion slice receivers senders a = record { slices = a.slices; motions = a.motions ++ record { number = next_motion a; above = slice; senders = senders; receivers = receivers } ∷ [] }

-- the gang of the slice whose top is the next node
abbrev pub next_gang : List Locus → Layout → Gang
next_gang loci a = gang_for (slice_get loci (length a.slices))

-- a node that stands in this slice with this gang, after what was noted down; loci are those of all nodes in preorder
abbrev pub laid : List Locus → ℕ → Gang → Tree → Layout → Layout
laid loci slice gang (Scan t) a = with_node slice a
laid loci slice gang (Filter e c) a = laid loci slice gang c (with_node slice a)
laid loci slice gang (Project cols c) a = laid loci slice gang c (with_node slice a)
laid loci slice gang (Limit k c) a = laid loci slice gang c (with_node slice a)
laid loci slice gang (Sort ks c) a = laid loci slice gang c (with_node slice a)
laid loci slice gang (Join on l r) a = laid loci slice gang r (laid loci slice gang l (with_node slice a))
laid loci slice gang (Single g cs c) a = laid loci slice gang c (with_node slice a)
laid loci slice gang (Partial g cs c) a = laid loci slice gang c (with_node slice a)
laid loci slice gang (Final c) a = laid loci slice gang c (with_node slice a)
laid loci slice gang (Gather o c) a = laid loci (next_motion a) (next_gang loci (with_node slice a)) c (with_motion slice gang (next_gang loci (with_node slice a)) (with_node slice a))
laid loci slice gang (Redistribute ks c) a = laid loci (next_motion a) (next_gang loci (with_node slice a)) c (with_motion slice gang (next_gang loci (with_node slice a)) (with_node slice a))
laid loci slice gang (Broadcast c) a = laid loci (next_motion a) (next_gang loci (with_node slice a)) c (with_motion slice gang (next_gang loci (with_node slice a)) (with_node slice a))

abbrev pub nothing_laid : Layout
nothing_laid = record { slices = []; motions = [] }
