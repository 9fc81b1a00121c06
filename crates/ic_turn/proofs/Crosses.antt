-- Passes and turns may go to other threads, and a turn may be shared, if the machine may go to another thread.
use denote.RattleType.{RattleType}
use denote.Param.Send.{part_keyless, IsSend, IsSync, sendable, plain_send, plain_sync, struct_send, struct_sync, recorded_send, recorded_sync, view_send, view_sync}
use denote.Struct.Declared.{shape}
use Rattle.std.specs.contracts.snapshot.Snapshot as snapshot
use Rattle.std.proofs.Crossing.{frees}
use Rattle.std.proofs.option.Option.TheSendSync as option
use Rattle.std.proofs.alloc.Global.TheSendSync as heap
use Rattle.atomic_table.proofs.shared.Seat.TheSendSync as seat
use Rattle.atomic_table.proofs.owned.Table.TheSendSync as table
use Rattle.ic_turn.specs.declared.machine.Machine.{Ghosts}
use Rattle.ic_turn.specs.contracts.pass.Pass as pass
use Rattle.ic_turn.specs.contracts.pass.Pass.TheInside as inside_pass
use Rattle.ic_turn.specs.contracts.turn.Turn as turn
use Rattle.ic_turn.specs.contracts.turn.Turn.TheInside as inside_turn
use Rattle.ic_turn.specs.contracts.view.Bench as bench
use Rattle.ic_turn.specs.contracts.view.View as view
use Rattle.ic_turn.specs.contracts.view.About as about
use Rattle.ic_turn.specs.contracts.plays.Law as law
use Rattle.ic_turn.specs.contracts.plays.LawTableRuleSlotKnowsAbout.TheImpl as rule

bench_send : (M A R : RattleType) → IsSend M → IsSend (bench.the_row M A R)
bench_send M A R s =
    let T = bench.the_type M A R in
    recorded_send (bench.the_field M A R).row _ _ T.to_one (struct_send (shape T) (s, (search (sendable) depth 30, tt)))

about_send : (M : RattleType) → IsSend (about.the_field M).row
about_send M = struct_send (shape (about.the_type M)) (search (sendable) depth 30, (plain_send _ _ _ _ _, tt))

snapshot_send : (M : RattleType) → IsSend (snapshot.the_field M).row
snapshot_send M = search (sendable) depth 30

snapshot_sync : (M : RattleType) → IsSync (snapshot.the_field M).row
snapshot_sync M = record { shared = λ d b o κ q. part_keyless (snapshot.the_field M).row (snapshot_send M) q d b o }

about_sync : (M : RattleType) → IsSync (about.the_field M).row
about_sync M = struct_sync (shape (about.the_type M)) (snapshot_sync M, (plain_sync _ _ _ _ _, tt))

module _ (M A R K S : RattleType) (g : Ghosts M.Denot A.Denot R.Denot K.Denot S.Denot) (s : IsSend M) where
  pub pass_send : IsSend (pass.the_row M A R K S g)
  pass_send =
      let T = inside_pass.the_type M A R K S g in
      view_send _ _ _ _ _ (recorded_send (inside_pass.the_field M A R K S g).row _ _ T.to_one
      (struct_send (shape T) (plain_send _ _ _ _ _, (plain_send _ _ _ _ _, (search (sendable) depth 30, (seat.the_send _ _ (option.the_send _ (bench_send M A R s)), tt))))))

  pub turn_sync : IsSync (turn.the_row M A R K S g)
  turn_sync =
      let T = inside_turn.the_type M A R K S g in
      view_sync _ _ _ _ _ (recorded_sync (inside_turn.the_field M A R K S g).row _ _ T.to_one
      (struct_sync (shape T) (
        table.the_field_sync _ (view.the_row A R K S) (about.the_row M) (law.the_row M) _ (rule.ghosts M A R K S g rule.no_dict) _ (option.the_send _ (bench_send M A R s)) heap.the_send heap.the_sync frees,
        (heap.the_field_sync, (about_sync M, tt)),
      )))

  pub turn_send : IsSend (turn.the_row M A R K S g)
  turn_send =
      let T = inside_turn.the_type M A R K S g in
      view_send _ _ _ _ _ (recorded_send (inside_turn.the_field M A R K S g).row _ _ T.to_one
      (struct_send (shape T) (
        table.the_field_send _ (view.the_row A R K S) (about.the_row M) (law.the_row M) _ (rule.ghosts M A R K S g rule.no_dict) _ (option.the_send _ (bench_send M A R s)) heap.the_send frees,
        (heap.the_field_send, (about_send M, tt)),
      )))
