-- What follows of every world.
use Rattle.std.specs.Prelude.{◌≡◌, ℕ, ℤ, List, Some, slice_get}
use Rattle.ic_base.specs.declared.settings.Settings.{Settings}
use Rattle.ic_law.specs.Points.{place_at}
use Rattle.ic_law.specs.Asking.{AreEnds}
use Rattle.pl_tree.specs.declared.schema.Schema.{Schema}
use Rattle.pl_tree.specs.Trees.{Tree}
use Rattle.pl_plan.specs.Ends.{ends_in as plan_ends}
use Rattle.pl_ops.specs.Rows.{Line}
use Rattle.pl_runs.specs.Distributed.{Query, dispatcher}
use Rattle.gd_law.specs.Sessions.{IsSession}
use Rattle.gd_answer.specs.Laws.{IsRunCleanly}
use Rattle.ex_slice.specs.declared.slice.Slice.{Slice}
use Rattle.ex_slice.specs.declared.stage.SliceNo.{SliceNo}
use Rattle.ex_slice.specs.declared.stage.Stage.TheVariants.{Refused}
use Rattle.ex_slice.specs.Slicing.{working}
use Rattle.ex_slice.specs.Working.{let_out_by}
use Rattle.gd_world.specs.declared.world.World.{World}
use Rattle.gd_world.specs.Events.{Event}
use Rattle.gd_world.specs.Sessions.{Sessional, Recalls, IsSessionOf, AreLawful, histories_of}
use Rattle.gd_world.specs.Workers.{IsLost}
use Rattle.gd_world.specs.Worlds.{Account, Stands}

-- ---- plans

-- the ends that a segment has of a plan are those of a query that may begin there
abbrev pub PlansHaveEnds : Type 0
PlansHaveEnds = (s : List Schema) (segments : ℕ) (tree : Tree) (session query : ℕ) (at : ℤ) (settings : Settings) → AreEnds (place_at session at settings) query (plan_ends s segments tree session query at)

-- ---- sessions

-- if hubs are lawful, a past of steps is that of a session: what came was sent, hubs keep their laws, connections the stream law
abbrev pub SessionsGoOn : Type 0
SessionsGoOn =
    (session segments : ℕ) (settings : Settings) (es : List Event) (s : Sessional) → IsSessionOf session segments settings s → Recalls es s → AreLawful s.nodes
    → IsSession session segments settings (histories_of s)

-- ---- queries

-- each worker has read what it took: none was refused for want of memory, or by what it took
abbrev pub AllHaveRead : World → Type 0
AllHaveRead w = (k : ℕ) (slice : Slice) → slice_get w.slices.items k ≡ Some slice → IsLost (working slice).stage → ⊥

-- these are the rows that slice 0 has let out
abbrev pub AreRows : World → List Line → Type 0
AreRows w rows = (k : ℕ) (slice : Slice) → slice_get w.seats.items k ≡ Some (record { slice = 0; at = dispatcher }) → slice_get w.slices.items k ≡ Some slice → rows ≡ let_out_by (working slice).way

-- slice 0 was not refused
abbrev pub RootGoes : World → Type 0
RootGoes w = (k : ℕ) (slice : Slice) → slice_get w.seats.items k ≡ Some (record { slice = 0; at = dispatcher }) → slice_get w.slices.items k ≡ Some slice → (refusal : SliceNo) → (working slice).stage ≡ Refused refusal → ⊥

-- whatever steps were made, the workers run their slices, by the histories of all nodes
abbrev pub WorldsRunCleanly : Type 0
WorldsRunCleanly =
    (q : Query) (x : Account) (w : World) → Stands q x w → AreLawful w.session.nodes → AllHaveRead w → IsRunCleanly q (histories_of w.session) x.courses (x.courses 0 dispatcher).let_out

-- and while slice 0 isn't refused, the rows of this run are those that it has let out
abbrev pub RowsAreLetOut : Type 0
RowsAreLetOut = (q : Query) (x : Account) (w : World) (rows : List Line) → Stands q x w → RootGoes w → AreRows w rows → rows ≡ (x.courses 0 dispatcher).let_out
