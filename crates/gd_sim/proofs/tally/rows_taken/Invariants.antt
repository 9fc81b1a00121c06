use Rattle.std.proofs.Common.{◌≡◌, ◌≤◌, ◌*◌, take}
use Rattle.ic_law.specs.Taking.{payloads_of, whole_of}
use Rattle.ic_chunk.specs.Counts.{HaveEnded}
use Rattle.gd_sim.proofs.tally.rows_taken.Given as goal

abbrev pub invariant-loop-entry : goal.invariant-loop-entry
invariant-loop-entry l =
    record {
      counted : HaveEnded (payloads_of l.key (take l.entry-index l.history)) l.count;
      small : l.count ≤ l.entry-index * 18446744073709551615;
      ended : l.whole ≡ whole_of l.key (take l.entry-index l.history);
    }
