-- What the sending end of a slice's motion has to do with the worker of the plan.
use Rattle.std.specs.Prelude.{◌≡◌, ℕ, true, false, List, [], length, Contains, slice_get, Some}
use Rattle.pl_ops.specs.Rows.{Line}
use Rattle.pl_ops.specs.Routing.{routed}
use Rattle.pl_mean.specs.Parts.{routed_to}
use Rattle.pl_plan.specs.Motions.{Link}
use Rattle.pl_runs.specs.Slices.{Worker, sending, route_in}
use Rattle.pl_runs.specs.Runs.{is_root}
use Rattle.ic_motion.specs.Sending.{Sender, route_by, receivers_of}
use Rattle.ex_tree.specs.Parts.{out}
use Rattle.ex_slice.specs.declared.way.Way.{Way}
use Rattle.ex_slice.specs.declared.way.Way.TheVariants as ways

-- on each sending connection of the worker goes what the sending end routes to the receiver at some place
pub record IsFaced (w : Worker) (m : Sender) (l : Link) : Type 0 where
  pub motion : l.motion ≡ m.motion
  pub place : ℕ
  pub at : slice_get (receivers_of m.targets) place ≡ Some l.to
  pub routes : (rows : List Line) → routed_to w.site (route_in w.tree w.slice) l.to rows ≡ routed (route_by m.kind) (length m.targets) place rows

-- the sending end serves the connections of a worker that isn't slice 0's
pub record FacesOut (w : Worker) (m : Sender) : Type 0 where
  pub not_root : is_root w ≡ false
  pub packet : m.packet ≡ w.packet
  pub links : (l : Link) → Contains (sending w) l → IsFaced w m l

-- slice 0 sends nothing
pub record LetsAllOut (w : Worker) : Type 0 where
  pub root : is_root w ≡ true
  pub none : sending w ≡ []

-- where the slice's rows go is where the plan's worker has them go
abbrev pub Faces : Worker → Way → Type 0
Faces w (ways.Lets rows) = LetsAllOut w
Faces w (ways.Passes out hand) = FacesOut w out
