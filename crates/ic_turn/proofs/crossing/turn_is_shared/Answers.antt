use denote.Param.Send.{param_sync, arg_sync}
use denote.Exit.{no}
use denote.Param.{param}
use Rattle.ic_turn.proofs.Crosses.{turn_sync}
use Rattle.ic_turn.proofs.crossing.turn_is_shared.Goals as goal

pub shared-requires-sync-T : goal.shared-requires-sync-T
shared-requires-sync-T g c κs within = param_sync _ _ (arg_sync _ no _ (turn_sync (param 0 g.row.M) (param 1 g.row.M-Ask) (param 2 g.row.M-Reply) (param 3 g.row.M-Kept) (param 4 g.row.M-State) g.M.Machine c.type_bounds.send-M))
