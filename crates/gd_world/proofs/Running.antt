-- The workers of a world run their slices.
use Rattle.std.proofs.Common.{◌≡◌, ℕ, ℤ, List, [], Some, refl, ap, sym, ◌∙◌, inl, inr, arith, slice_get}
use Rattle.std.specs.List.{Contains}
use Rattle.std.proofs.lemmas.Option.{slice_get_cases, slice_get_within}
use Rattle.ic_law.specs.Streams.{node_of, history_of}
use Rattle.ic_law.proofs.Lists.{Contains-head}
use Rattle.pl_ops.specs.Rows.{Line}
use Rattle.pl_plan.specs.Motions.{gang_of}
use Rattle.pl_runs.specs.Steps.{Step as Call, calls_of}
use Rattle.pl_runs.specs.Slices.{Worker}
use Rattle.pl_runs.specs.Runs.{Course}
use Rattle.pl_runs.specs.Distributed.{Query, IsWorked, dispatcher, worker_at}
use Rattle.gd_answer.specs.Laws.{IsRunCleanly}
use Rattle.ex_tree.specs.Parts.{Part}
use Rattle.ex_tree.specs.Running.{State}
use Rattle.ex_slice.specs.declared.slice.Slice.{Slice}
use Rattle.ex_slice.specs.declared.stage.Stage.{Stage}
use Rattle.ex_slice.specs.declared.stage.Stage.TheVariants as stages
use Rattle.ex_slice.specs.declared.stage.SliceNo.{SliceNo}
use Rattle.ex_slice.specs.declared.way.Way.{Way}
use Rattle.ex_slice.specs.declared.way.Way.TheVariants as ways
use Rattle.ex_slice.specs.Working.{Working, Works, HoldsAt, Handles, let_out_by}
use Rattle.ex_slice.specs.Slicing.{working}
use Rattle.gd_world.specs.declared.seat.Seat.{Seat}
use Rattle.gd_world.specs.declared.world.World.{World}
use Rattle.gd_world.specs.Events.{history_in}
use Rattle.gd_world.specs.Sessions.{AreLawful, histories_of}
use Rattle.gd_world.specs.Turns.{turns_of, logged_by}
use Rattle.gd_world.specs.Workers.{IsLost, Keeps, keeps, lost, ends_in}
use Rattle.gd_world.specs.Worlds.{Account, all_events, Stands}
use Rattle.gd_world.specs.Laws.{AllHaveRead, WorldsRunCleanly, RowsAreLetOut}
use Rattle.gd_world.proofs.Networks.{network_is, hubs_are, history_there}

-- ---- the rows of a slice

handled : (way : Way) (steps : List Call) (given let_out : List Line) → Handles way steps given let_out → let_out_by way ≡ let_out
handled (ways.Lets rows) steps given let_out h = h.0 ∙ sym h.1
handled (ways.Passes m hand) steps given let_out h = sym h.0

lets_out : (w : Worker) (part : Part) (stage : Stage) (tree : State) (way : Way) (c : Course) → ((refusal : SliceNo) → stage ≡ stages.Refused refusal → ⊥) → HoldsAt w part stage tree way c → let_out_by way ≡ c.let_out
lets_out w part stages.Giving tree way c goes h = handled way c.steps h.0 c.let_out h.1.handles
lets_out w part stages.Ending tree way c goes h = handled way c.steps h.0 c.let_out h.1.handles
lets_out w part stages.Halting tree way c goes h = handled way c.steps h.0 c.let_out h.1.handles
lets_out w part stages.Done tree way c goes h = h.1
lets_out w part (stages.Refused refusal) tree way c goes h = absurd (goes refusal refl)

-- ---- the workers

-- the worker of a seat, with its slice that was not lost
record Runs (q : Query) (x : Account) (w : World) (slice : ℕ) (at : ℤ) : Type 0 where
  pub k : ℕ
  pub sits : slice_get w.seats.items k ≡ Some (record { slice = slice; at = at })
  pub found : Slice
  pub has : slice_get w.slices.items k ≡ Some found
  pub part : Part
  pub works : Works (worker_at q slice at) part (working found) (x.courses slice at)
  pub calls : calls_of (x.courses slice at).steps ≡ logged_by (ends_in q (record { slice = slice; at = at })) (turns_of slice at x.events)

module _ (q : Query) (x : Account) (w : World) (stands : Stands q x w) (lawful : AreLawful w.session.nodes) (read : AllHaveRead w) where
  runs : (slice : ℕ) (at : ℤ) → Contains (gang_of q.site.schemas q.site.segments q.tree slice) at → Runs q x w slice at
  runs slice at works_there =
      let seat : Seat = record { slice = slice; at = at } in
      let sits = stands.seats.all slice at works_there in
      elim (slice_get_cases w.slices.items sits.0).1 [
        | inl found ↦ by sits.0 sits.1 found.0 found.2 (stands.workers sits.0 seat found.0 sits.1 found.2).does
        | inr none ↦ absurd (omega (arith, none.0, stands.count, slice_get_within w.seats.items sits.0 seat sits.1))
      ]
    where
      by : (k : ℕ) → slice_get w.seats.items k ≡ Some (record { slice = slice; at = at }) → (found : Slice) → slice_get w.slices.items k ≡ Some found
          → Keeps (worker_at q slice at) (ends_in q (record { slice = slice; at = at })) (working found) (logged_by (ends_in q (record { slice = slice; at = at })) (turns_of slice at x.events)) (x.courses slice at) → Runs q x w slice at
      by k sits found has (keeps part works calls listens) = record { k = k; sits = sits; found = found; has = has; part = part; works = works; calls = calls }
      by k sits found has (lost is) = absurd (read k found has is)

  worked : (slice : ℕ) (at : ℤ) → Contains (gang_of q.site.schemas q.site.segments q.tree slice) at → IsWorked q (histories_of w.session) slice at (x.courses slice at)
  worked slice at works_there =
      let seat : Seat = record { slice = slice; at = at } in
      let r = runs slice at works_there in
      let within = stands.seats.within r.k seat r.sits in
      elim (slice_get_cases w.session.nodes (node_of at)).1 [
        | inl n ↦
            let history : history_of (histories_of w.session) at ≡ history_in (node_of at) (all_events x) =
            ap (history_of (histories_of w.session)) (stands.seats.at r.k seat r.sits) ∙ history_there w.session.nodes (node_of at) n.0 n.2 ∙ stands.recalls.histories (node_of at) n.0 n.2 in
            record {
              log = r.calls ∙ sym (stands.logs r.k seat r.sits) ∙ ap (Rattle.pl_runs.specs.Logs.log_of (ends_in q seat)) (sym history);
              read = r.works.read;
              run = r.works.run;
            }
        | inr none ↦ absurd (omega (arith, none.0, within, stands.session.count))
      ]

  root : Contains (gang_of q.site.schemas q.site.segments q.tree 0) dispatcher
  root = Contains-head dispatcher []

  cleanly : IsRunCleanly q (histories_of w.session) x.courses (x.courses 0 dispatcher).let_out
  cleanly = record {
    run = record {
      network = network_is q.session q.site.segments q.settings (all_events x) w.session stands.session stands.recalls lawful;
      hubs = hubs_are q.session q.site.segments q.settings (all_events x) w.session stands.session stands.recalls lawful;
      workers = worked;
      rows_are = refl;
    };
    clean = λ slice at works_there. (runs slice at works_there).works.clean;
  }

pub worlds_run_cleanly : WorldsRunCleanly
worlds_run_cleanly q x w stands lawful read = cleanly q x w stands lawful read

-- ---- the rows that slice 0 let out

lost_is_refused : (s : Stage) → IsLost s → ((refusal : SliceNo) → s ≡ stages.Refused refusal → ⊥) → ⊥
lost_is_refused stages.Giving is goes = is
lost_is_refused stages.Ending is goes = is
lost_is_refused stages.Halting is goes = is
lost_is_refused stages.Done is goes = is
lost_is_refused (stages.Refused refusal) is goes = goes refusal refl

pub rows_are_let_out : RowsAreLetOut
rows_are_let_out q x w rows stands goes are =
    let sits = stands.seats.all 0 dispatcher (Contains-head dispatcher []) in
    elim (slice_get_cases w.slices.items sits.0).1 [
      | inl found ↦
          are sits.0 found.0 sits.1 found.2
          ∙ by (working found.0) (goes sits.0 found.0 sits.1 found.2) (stands.workers sits.0 (record { slice = 0; at = dispatcher }) found.0 sits.1 found.2).does
      | inr none ↦ absurd (omega (arith, none.0, stands.count, slice_get_within w.seats.items sits.0 (record { slice = 0; at = dispatcher }) sits.1))
    ]
  where
    by : (y : Working) → ((refusal : SliceNo) → y.stage ≡ stages.Refused refusal → ⊥)
        → Keeps (worker_at q 0 dispatcher) (ends_in q (record { slice = 0; at = dispatcher })) y (logged_by (ends_in q (record { slice = 0; at = dispatcher })) (turns_of 0 dispatcher x.events)) (x.courses 0 dispatcher)
        → let_out_by y.way ≡ (x.courses 0 dispatcher).let_out
    by y refused (keeps part works calls listens) = lets_out (worker_at q 0 dispatcher) part y.stage y.tree y.way (x.courses 0 dispatcher) refused works.holds
    by y refused (lost is) = absurd (lost_is_refused y.stage is refused)
