use Rattle.std.proofs.Common.{◌≤◌, ◌-◌, length, take}
use Rattle.std.specs.Io.KnownBytes.{Appends}
use Rattle.ic_edge.proofs.written.write_all.Given as goal

abbrev pub invariant-loop-at : goal.invariant-loop-at
invariant-loop-at g l =
    record {
      within : l.at ≤ length l.piece;
      taken : Appends (g.K.Sink.wrote l.fn.sink) (g.K.Sink.wrote l.sink) (take l.at l.piece);
      later : g.K.Sink.count l.fn.sink ≤ g.K.Sink.count l.sink;
    }

abbrev pub decreases-loop-at : goal.decreases-loop-at
decreases-loop-at g l = length l.piece - l.at
