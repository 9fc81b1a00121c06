-- What the steps of each worker show besides being a run of its slice: whose parcels it took, and which rows it put.
use Rattle.std.specs.Prelude.{ℕ, suc, ◌<◌, ℤ, List, length, take, Contains}
use Rattle.std.specs.List.{AllByRecursion}
use Rattle.ic_base.specs.declared.datagram.Parcel.{Parcel}
use Rattle.ic_row.specs.Spelling.{IsRow}
use Rattle.pl_plan.specs.Motions.{Link, gang_of}
use Rattle.pl_ops.specs.Rows.{Line}
use Rattle.pl_mean.specs.Parts.{routed_to}
use Rattle.pl_runs.specs.Steps.{Step, put_on, parcels_of}
use Rattle.pl_runs.specs.Slices.{Worker, sending, route_in, output_of, cut}
use Rattle.pl_runs.specs.Distributed.{Query, Courses, worker_at}

-- each parcel that was taken of a motion is from one of the motion's senders, the gang of the slice of its number
abbrev pub TakesFromSenders : Worker → List Step → Type 0
TakesFromSenders w steps = (motion : ℕ) → AllByRecursion (λ (p : Parcel). Contains (gang_of w.site.schemas w.site.segments w.tree motion) p.from) (parcels_of motion steps)

-- the rows of the output so far that are for a receiver
abbrev pub rows_for : Worker → List Step → ℤ → List Line
rows_for w steps to = routed_to w.site (route_in w.tree w.slice) to (output_of w steps).rows

-- Each row of which a chunk was put can be spelled and read back: if more chunks were put than the first n rows have, then the
-- first n + 1 rows can.
abbrev pub PutsRows : Worker → List Step → Link → Type 0
PutsRows w steps l = (n : ℕ) → length (cut w.packet (take n (rows_for w steps l.to))) < length (put_on l.motion l.to steps) → AllByRecursion IsRow (take (suc n) (rows_for w steps l.to))

pub record IsClean (w : Worker) (steps : List Step) : Type 0 where
  pub from : TakesFromSenders w steps
  pub rows : AllByRecursion (PutsRows w steps) (sending w)

-- the steps of each worker are
abbrev pub AreClean : Query → Courses → Type 0
AreClean q courses = (slice : ℕ) (at : ℤ) → Contains (gang_of q.site.schemas q.site.segments q.tree slice) at → IsClean (worker_at q slice at) (courses slice at).steps
