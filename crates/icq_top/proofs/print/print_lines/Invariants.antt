use Rattle.std.proofs.Common.{◌≤◌, take, map}
use Rattle.std.specs.List.{concat}
use Rattle.std.specs.Io.KnownBytes.{Appends}
use Rattle.icq_top.proofs.print.print_lines.Given as goal

abbrev pub invariant-loop-item : goal.invariant-loop-item
invariant-loop-item g l =
    record {
      written : Appends (g.K.Sink.wrote l.fn.sink) (g.K.Sink.wrote l.sink) (concat (take l.item-index (map g.L.Line.text l.lines)));
      later : g.K.Sink.count l.fn.sink ≤ g.K.Sink.count l.sink;
    }
