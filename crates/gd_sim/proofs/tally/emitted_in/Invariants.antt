use Rattle.std.proofs.Common.{◌≡◌, ◌≤◌, length, map, flat_map, take}
use Rattle.ic_law.specs.History.{rows_in, number_of, greatest}
use Rattle.gd_sim.proofs.tally.emitted_in.Given as goal

abbrev pub invariant-loop-datagram : goal.invariant-loop-datagram
invariant-loop-datagram l =
    record {
      counted : l.count ≡ length (flat_map (rows_in l.key) (take l.datagram-index l.datagrams));
      reached : l.upto ≡ greatest (map number_of (flat_map (rows_in l.key) (take l.datagram-index l.datagrams)));
      small : l.count ≤ l.datagram-index;
    }
