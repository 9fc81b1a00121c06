use denote.Param.Send.{param_send, arg_send}
use denote.Exit.{no}
use denote.Param.{param}
use Rattle.ic_turn.proofs.Crosses.{pass_send}
use Rattle.ic_turn.proofs.crossing.pass_crosses.Goals as goal

pub sent-requires-send-T : goal.sent-requires-send-T
sent-requires-send-T g c κs within = param_send _ _ (arg_send _ no _ (pass_send (param 0 g.row.M) (param 1 g.row.M-Ask) (param 2 g.row.M-Reply) (param 3 g.row.M-Kept) (param 4 g.row.M-State) g.M.Machine c.type_bounds.send-M))
