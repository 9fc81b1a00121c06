-- What the sending end of a slice is told.
use Rattle.std.specs.Prelude.{◌≡◌, ℕ, ℤ, List, [], length, map, Contains, Option, Some, None, slice_get}
use Rattle.pl_tree.specs.Trees.{Tree, Gather, Redistribute, tree_in}
use Rattle.pl_plan.specs.declared.sound.Judged.{Judged}
use Rattle.pl_plan.specs.Motions.{Link}
use Rattle.pl_ops.specs.declared.loaded.Spread.{Spread}
use Rattle.pl_ops.specs.Rows.{Line}
use Rattle.pl_ops.specs.Routing.{routed}
use Rattle.pl_mean.specs.Parts.{routed_to}
use Rattle.pl_runs.specs.Slices.{Worker, sending, route_in}
use Rattle.pl_runs.specs.Logs.{ends_of}
use Rattle.ic_motion.specs.declared.answers.MotionKind.{MotionKind}
use Rattle.ic_motion.specs.declared.answers.MotionKind.TheVariants as kinds
use Rattle.ic_motion.specs.Sending.{route_by, SendsToEach}
use Rattle.ex_plan.specs.Workers.{site_of, worker_of, gang_in}

-- how a motion of this node routes; a node that is no motion counts as a broadcast
abbrev pub kind_of : Tree → MotionKind
kind_of (Gather o c) = kinds.Gather
kind_of (Redistribute ks c) = kinds.Redistribute ks
kind_of _ = kinds.Broadcast

abbrev pub kind_at : Option Tree → MotionKind
kind_at None = kinds.Broadcast
kind_at (Some node) = kind_of node

abbrev pub to_of : Link → ℤ
to_of link = link.to

-- the connection is of the slice's motion, and to the receiver at some place
pub record IsFacing (slice : ℕ) (receivers : List ℤ) (link : Link) : Type 0 where
  pub motion : link.motion ≡ slice
  pub place : ℕ
  pub at : slice_get receivers place ≡ Some link.to

-- How the slice's rows go to these receivers, whatever is stored at the segments. For each worker of the slice: its connections that
-- send are to them, in their order; it has an end of a connection to each; and what the plan routes to a receiver is what a sending
-- end of this kind routes to the receiver's place among them.
pub record AreReceivers (j : Judged) (slice : ℕ) (kind : MotionKind) (receivers : List ℤ) : Type 0 where
  pub links : (tables : List Spread) (at : ℤ) → Contains (gang_in j slice) at → map to_of (sending (worker_of j tables slice at)) ≡ receivers
  pub facing : (tables : List Spread) (at : ℤ) → Contains (gang_in j slice) at
      → (link : Link) → Contains (sending (worker_of j tables slice at)) link → IsFacing slice receivers link
  pub ends : (tables : List Spread) (at : ℤ) (session query : ℕ) → Contains (gang_in j slice) at
      → SendsToEach (ends_of (worker_of j tables slice at) session query) slice receivers
  pub routes : (tables : List Spread) (place : ℕ) (to : ℤ) (rows : List Line) → slice_get receivers place ≡ Some to
      → routed_to (site_of j tables) (route_in (tree_in j.plan) slice) to rows ≡ routed (route_by kind) (length receivers) place rows

-- slice 0 sends nothing
abbrev pub RootSendsNothing : Type 0
RootSendsNothing = (w : Worker) → w.slice ≡ 0 → sending w ≡ []
