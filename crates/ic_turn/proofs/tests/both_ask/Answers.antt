use denote.Exit.{no}
use denote.Param.Send.{param_send, arg_send, sendable}
use Rattle.ic_turn.proofs.CounterCrosses.{counter_pass_send, counter_turn_sync}
use Rattle.ic_turn.proofs.tests.both_ask.Goals as goal

pub join-a-requires-send-F : goal.join-a-requires-send-F
join-a-requires-send-F g c κs within = let r = c.type_bounds.sync-R in search (sendable, counter_pass_send, counter_turn_sync) depth 40

pub join-a-requires-send-A : goal.join-a-requires-send-A
join-a-requires-send-A g c κs within = param_send _ _ (arg_send _ no _ counter_pass_send)
