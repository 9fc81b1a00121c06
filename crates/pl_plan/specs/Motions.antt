-- Slices, gangs and motions: who works on what, and which connections there are.
use Rattle.std.specs.Prelude.{ℕ, zero, suc, ℤ, pos, negsuc, ◌+◌, ◌*◌, List, [], ◌∷◌, ◌++◌, map, length, get_or, flat_map}
use Rattle.ic_base.specs.declared.settings.Settings.{Settings}
use Rattle.pl_tree.specs.declared.schema.Schema.{Schema}
use Rattle.pl_tree.specs.declared.schema.Locus.{Locus}
use Rattle.pl_tree.specs.declared.schema.Locus.TheVariants.{Entry, Hashed, Replicated, Strewn}
use Rattle.pl_tree.specs.Trees.{Tree, Scan, Filter, Project, Limit, Sort, Join, Single, Partial, Final, Gather, Redistribute, Broadcast, motions_in}
use Rattle.pl_tree.specs.Loci.{locus_of}

-- ---- gangs

-- so many segments, the first with this number
abbrev pub segments_from : ℕ → ℕ → List ℤ
segments_from first zero = []
segments_from first (suc n) = pos first ∷ segments_from (suc first) n

-- the dispatcher works on slice 0 alone
abbrev pub dispatcher : List ℤ
dispatcher = negsuc 0 ∷ []

-- of a slice whose top has this locus: of rows that stand everywhere segment 0 sends its own, of others each segment
abbrev pub gang_at : ℕ → Locus → List ℤ
gang_at segments Replicated = segments_from 0 1
gang_at segments _ = segments_from 0 segments

-- ---- motions

-- a motion with its number from 1, which is the slice that sends, the slice that receives, and both gangs
pub record Motion : Type 0 where
  pub number : ℕ
  pub above : ℕ
  pub senders : List ℤ
  pub receivers : List ℤ

-- the motions of a node that stands in a slice with this gang, in preorder; the first has this number. A motion's node
-- belongs to the slice above it, and its child is the top of the slice that has its number
abbrev pub motions_of : List Schema → ℕ → ℕ → List ℤ → ℕ → Tree → List Motion
motions_of s segments slice gang n (Scan t) = []
motions_of s segments slice gang n (Filter e c) = motions_of s segments slice gang n c
motions_of s segments slice gang n (Project cols c) = motions_of s segments slice gang n c
motions_of s segments slice gang n (Limit k c) = motions_of s segments slice gang n c
motions_of s segments slice gang n (Sort ks c) = motions_of s segments slice gang n c
motions_of s segments slice gang n (Join on l r) = motions_of s segments slice gang n l ++ motions_of s segments slice gang (n + motions_in l) r
motions_of s segments slice gang n (Single g cs c) = motions_of s segments slice gang n c
motions_of s segments slice gang n (Partial g cs c) = motions_of s segments slice gang n c
motions_of s segments slice gang n (Final c) = motions_of s segments slice gang n c
motions_of s segments slice gang n (Gather o c) = record { number = n; above = slice; senders = gang_at segments (locus_of s c); receivers = gang } ∷ motions_of s segments n (gang_at segments (locus_of s c)) (n + 1) c
motions_of s segments slice gang n (Redistribute ks c) = record { number = n; above = slice; senders = gang_at segments (locus_of s c); receivers = gang } ∷ motions_of s segments n (gang_at segments (locus_of s c)) (n + 1) c
motions_of s segments slice gang n (Broadcast c) = record { number = n; above = slice; senders = gang_at segments (locus_of s c); receivers = gang } ∷ motions_of s segments n (gang_at segments (locus_of s c)) (n + 1) c

-- the motions of a plan, by number
abbrev pub motions_in_plan : List Schema → ℕ → Tree → List Motion
motions_in_plan s segments tree = motions_of s segments 0 dispatcher 1 tree

-- ---- slices

-- how many slices a plan has
abbrev pub slices_in : Tree → ℕ
slices_in tree = suc (motions_in tree)

-- the gangs of all slices, by number from 0
abbrev pub gangs_in : List Schema → ℕ → Tree → List (List ℤ)
gangs_in s segments tree = dispatcher ∷ map (λ (m : Motion). m.senders) (motions_in_plan s segments tree)

abbrev pub gang_of : List Schema → ℕ → Tree → ℕ → List ℤ
gang_of s segments tree slice = get_or (gangs_in s segments tree) slice []

-- the slices of a node and those below it, in preorder; the first motion among them has the second number
abbrev pub slices_from : ℕ → ℕ → Tree → List ℕ
slices_from slice n (Scan t) = slice ∷ []
slices_from slice n (Filter e c) = slice ∷ slices_from slice n c
slices_from slice n (Project cols c) = slice ∷ slices_from slice n c
slices_from slice n (Limit k c) = slice ∷ slices_from slice n c
slices_from slice n (Sort ks c) = slice ∷ slices_from slice n c
slices_from slice n (Join on l r) = slice ∷ (slices_from slice n l ++ slices_from slice (n + motions_in l) r)
slices_from slice n (Single g cs c) = slice ∷ slices_from slice n c
slices_from slice n (Partial g cs c) = slice ∷ slices_from slice n c
slices_from slice n (Final c) = slice ∷ slices_from slice n c
slices_from slice n (Gather o c) = slice ∷ slices_from n (n + 1) c
slices_from slice n (Redistribute ks c) = slice ∷ slices_from n (n + 1) c
slices_from slice n (Broadcast c) = slice ∷ slices_from n (n + 1) c

-- the slice of each node of a plan, by the node's number
abbrev pub slices_of : Tree → List ℕ
slices_of tree = slices_from 0 1 tree

-- ---- connections and room

-- a connection: the sending segment of a motion with a receiving one
pub record Link : Type 0 where
  pub motion : ℕ
  pub above : ℕ
  pub from : ℤ
  pub to : ℤ

abbrev pub link_of : Motion → ℤ → ℤ → Link
link_of m from to = record { motion = m.number; above = m.above; from = from; to = to }

-- each sender with each receiver, by sender and then by receiver
abbrev pub links_of : Motion → List Link
links_of m = flat_map (λ from. map (link_of m from) m.receivers) m.senders

-- all connections of a plan, by motion, sender and receiver
abbrev pub links_in : List Schema → ℕ → Tree → List Link
links_in s segments tree = flat_map links_of (motions_in_plan s segments tree)

-- the bytes that the rings of all connections may hold
abbrev pub ring_room : List Schema → ℕ → Settings → Tree → ℕ
ring_room s segments settings tree = length (links_in s segments tree) * (settings.receive_depth + settings.send_depth + 1) * settings.packet

-- how many members some gangs have together
abbrev pub members_in : List (List ℤ) → ℕ
members_in [] = 0
members_in (gang ∷ gangs) = length gang + members_in gangs

-- the gang members of all slices, a receiving worker of each segment, and the dispatcher's
abbrev pub workers : List Schema → ℕ → Tree → ℕ
workers s segments tree = members_in (gangs_in s segments tree) + segments + 1
