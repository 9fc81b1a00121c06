-- Passes and turns over a counter may cross threads.
use denote.Builtin.{u64}
use denote.Param.Send.{IsSend, IsSync}
use Rattle.ic_turn.proofs.counter.Counter.TheSendSync as counter
use Rattle.ic_turn.specs.contracts.counter.Counter as count
use Rattle.ic_turn.specs.contracts.counter.Counted as counted
use Rattle.ic_turn.specs.contracts.counter.CounterMachine.TheImpl as machine
use Rattle.ic_turn.specs.contracts.pass.Pass as pass
use Rattle.ic_turn.specs.contracts.turn.Turn as turn
use Rattle.ic_turn.proofs.Crosses.{pass_send, turn_sync}

pub counter_pass_send : IsSend (pass.the_row count.the_row u64 counted.the_row u64 u64 machine.ghosts)
counter_pass_send = pass_send count.the_row u64 counted.the_row u64 u64 machine.ghosts counter.the_send

pub counter_turn_sync : IsSync (turn.the_row count.the_row u64 counted.the_row u64 u64 machine.ghosts)
counter_turn_sync = turn_sync count.the_row u64 counted.the_row u64 u64 machine.ghosts counter.the_send
