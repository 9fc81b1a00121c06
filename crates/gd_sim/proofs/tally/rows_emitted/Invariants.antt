use Rattle.std.proofs.Common.{◌≡◌, ◌≤◌, ◌*◌, length, take}
use Rattle.ic_law.specs.History.{rows_emitted_of, sent_upto}
use Rattle.gd_sim.proofs.tally.rows_emitted.Given as goal

abbrev pub invariant-loop-entry : goal.invariant-loop-entry
invariant-loop-entry l =
    record {
      counted : l.count ≡ length (rows_emitted_of l.key (take l.entry-index l.history));
      reached : l.upto ≡ sent_upto l.key (take l.entry-index l.history);
      small : l.count ≤ l.entry-index * 18446744073709551615;
    }
