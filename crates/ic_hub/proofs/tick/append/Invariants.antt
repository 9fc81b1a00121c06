use Rattle.std.proofs.Common.{◌≡◌, ◌++◌}
use Rattle.ic_hub.proofs.tick.append.Given as goal

abbrev pub invariant-loop-datagram : goal.invariant-loop-datagram
invariant-loop-datagram l = l.datagrams ≡ l.fn.datagrams ++ l.yielded
