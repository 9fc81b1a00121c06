-- What a node of a slice gave at a segment so far: a function of the rows that are stored there and of what its worker took.
use Rattle.std.specs.Prelude.{ℕ, suc, ◌+◌, ℤ, Bool, true, if◌then◌else◌, List, [], ◌∷◌, map, length, Option, Some, None}
use Rattle.std.specs.List.{list_all}
use Rattle.std.specs.Ordering.{int_eq}
use Rattle.ic_row.specs.declared.order.Key.{Key}
use Rattle.pl_tree.specs.Trees.{Tree, Scan, Filter, Project, Limit, Sort, Join, Single, Partial, Final, Gather, Redistribute, Broadcast, motions_in}
use Rattle.pl_tree.specs.Loci.{locus_of}
use Rattle.pl_tree.specs.Partials.{partial_under}
use Rattle.pl_plan.specs.Motions.{gang_at}
use Rattle.pl_ops.specs.Rows.{Line}
use Rattle.pl_ops.specs.Streams.{Stream, at_end, filter_stream, project_stream, sort_stream, limit_stream, join_stream, aggregate_stream}
use Rattle.pl_ops.specs.Merging.{sorts_before, merge_stream}
use Rattle.pl_mean.specs.Parts.{Site, scanned, final_of}

-- ---- what was taken

-- a row that was taken, and the segment that sent it
pub record Came : Type 0 where
  pub from : ℤ
  pub row : Line

-- what a worker took of one motion: the rows in the order of its takes, and which senders are whole, which is to say
-- that the end of their streams was taken
pub record Input : Type 0 where
  pub took : List Came
  pub whole : ℤ → Bool

abbrev pub rows_in : List Came → List Line
rows_in came = map (λ (c : Came). c.row) came

-- the rows of one sender
abbrev pub came_from : ℤ → List Came → List Line
came_from sender [] = []
came_from sender (c ∷ came) = if int_eq c.from sender then c.row ∷ came_from sender came else came_from sender came

abbrev pub stream_from : Input → ℤ → Stream
stream_from input sender = record { rows = came_from sender input.took; ended = input.whole sender }

-- ---- what a motion gives

-- as many steps as a merge of these rows has: one for each, and one to see that there are no more
abbrev pub steps_in : Input → ℕ
steps_in input = suc (length input.took)

-- Without an order each row as it was taken. With one the least head, and none before the head of each sender that isn't
-- whole is known. Nothing more comes once each sender is whole; a sender that was only halted isn't.
abbrev pub received : Option (List Key) → List ℤ → Input → Stream
received None senders input = record { rows = rows_in input.took; ended = list_all input.whole senders }
received (Some keys) senders input = merge_stream (sorts_before keys) (steps_in input) (map (stream_from input) senders)

-- ---- what a node gives

-- the inputs of all motions, by motion and receiver
abbrev pub Inputs : Type 0
Inputs = ℕ → ℤ → Input

-- of a node whose first motion in preorder has the number n
abbrev pub out : Site → Inputs → ℕ → Tree → ℤ → Stream
out s inputs n (Scan t) at = record { rows = scanned s t at; ended = true }
out s inputs n (Filter e c) at = filter_stream e (out s inputs n c at)
out s inputs n (Project cols c) at = project_stream cols (out s inputs n c at)
out s inputs n (Limit k c) at = limit_stream k (out s inputs n c at)
out s inputs n (Sort ks c) at = sort_stream ks (out s inputs n c at)
out s inputs n (Join on l r) at = join_stream on (out s inputs (n + motions_in l) r at) (out s inputs n l at)
out s inputs n (Single g cs c) at = aggregate_stream g cs (out s inputs n c at)
out s inputs n (Partial g cs c) at = aggregate_stream g cs (out s inputs n c at)
out s inputs n (Final c) at = at_end (final_of (partial_under c)) (out s inputs n c at)
out s inputs n (Gather o c) at = received o (gang_at s.segments (locus_of s.schemas c)) (inputs n at)
out s inputs n (Redistribute ks c) at = received None (gang_at s.segments (locus_of s.schemas c)) (inputs n at)
out s inputs n (Broadcast c) at = received None (gang_at s.segments (locus_of s.schemas c)) (inputs n at)
