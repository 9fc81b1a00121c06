-- The slices of a plan, and their workers with the connections of each.
use Rattle.std.specs.Prelude.{ℕ, zero, suc, ℤ, Bool, true, false, ◌&&◌, ◌==◌, List, [], map, filter, Option, Some, None, slice_get}
use Rattle.std.specs.List.{flat_map}
use Rattle.std.specs.Ordering.{int_eq}
use Rattle.ic_row.specs.Spelling.{spelling_of}
use Rattle.ic_chunk.specs.Chunks.{spelled}
use Rattle.ic_chunk.specs.Cutting.{chunks_of}
use Rattle.pl_tree.specs.Trees.{Tree, Scan, Gather, Redistribute, Broadcast, preorder}
use Rattle.pl_plan.specs.Motions.{Link, links_in}
use Rattle.pl_ops.specs.Rows.{Line}
use Rattle.pl_ops.specs.Routing.{Route, ToAll, route_of}
use Rattle.pl_ops.specs.Streams.{Stream}
use Rattle.pl_mean.specs.Parts.{Site, routed_to}
use Rattle.pl_mean.specs.Outputs.{out}
use Rattle.pl_runs.specs.Steps.{Step, inputs_of}

-- ---- slices

abbrev pub is_motion : Tree → Bool
is_motion (Gather o c) = true
is_motion (Redistribute ks c) = true
is_motion (Broadcast c) = true
is_motion _ = false

-- the node of a motion, by the motion's number from 1
abbrev pub motion_node : Tree → ℕ → Option Tree
motion_node tree zero = None
motion_node tree (suc m) = slice_get (filter is_motion (preorder tree)) m

-- a plan of no rows, if there is no such motion
abbrev pub below_motion : Option Tree → Tree
below_motion (Some (Gather o c)) = c
below_motion (Some (Redistribute ks c)) = c
below_motion (Some (Broadcast c)) = c
below_motion _ = Scan []

-- the top node of a slice: the root, or the child of the motion that has the slice's number
abbrev pub top_of : Tree → ℕ → Tree
top_of tree zero = tree
top_of tree (suc m) = below_motion (motion_node tree (suc m))

abbrev pub route_at : Option Tree → Route
route_at None = ToAll
route_at (Some node) = route_of node

-- how a slice's output is routed
abbrev pub route_in : Tree → ℕ → Route
route_in tree slice = route_at (motion_node tree slice)

-- ---- workers

-- a slice's worker at a segment: the tables, the plan, and the size of packets
pub record Worker : Type 0 where
  pub site : Site
  pub tree : Tree
  pub packet : ℕ
  pub slice : ℕ
  pub at : ℤ

-- slice 0 sends nothing
abbrev pub is_sent_by : Worker → Link → Bool
is_sent_by w link = (link.motion == w.slice) && int_eq link.from w.at

abbrev pub is_heard_by : Worker → Link → Bool
is_heard_by w link = (link.above == w.slice) && int_eq link.to w.at

abbrev pub links_of : Worker → List Link
links_of w = links_in w.site.schemas w.site.segments w.tree

-- its sending connections, and its receiving ones
abbrev pub sending : Worker → List Link
sending w = filter (is_sent_by w) (links_of w)

abbrev pub receiving : Worker → List Link
receiving w = filter (is_heard_by w) (links_of w)

-- ---- its output

-- what the slice gave, of what was taken; the first motion of slice m has the number m + 1
abbrev pub output_of : Worker → List Step → Stream
output_of w steps = out w.site (inputs_of steps) (suc w.slice) (top_of w.tree w.slice) w.at

-- the bytes of each chunk of a row, in packets of this size
abbrev pub row_chunks : ℕ → Line → List (List ℕ)
row_chunks packet row = map spelled (chunks_of packet (spelling_of row))

-- the chunks into which rows are cut, in order
abbrev pub cut : ℕ → List Line → List (List ℕ)
cut packet rows = flat_map (row_chunks packet) rows

-- the chunks of the output so far that are for a receiver
abbrev pub chunks_for : Worker → List Step → ℤ → List (List ℕ)
chunks_for w steps to = cut w.packet (routed_to w.site (route_in w.tree w.slice) to (output_of w steps).rows)
