use Rattle.std.proofs.Common.{◌≤◌, take}
use Rattle.std.specs.List.{concat, flat_map}
use Rattle.std.specs.Io.KnownBytes.{Appends}
use Rattle.icq_top.specs.Print.{answer_lines}
use Rattle.icq_top.proofs.print.print_answers.Given as goal

abbrev pub invariant-loop-answer : goal.invariant-loop-answer
invariant-loop-answer g l =
    record {
      written : Appends (g.K.Sink.wrote l.fn.sink) (g.K.Sink.wrote l.sink) (concat (flat_map answer_lines (take l.answer-index l.answers)));
      later : g.K.Sink.count l.fn.sink ≤ g.K.Sink.count l.sink;
    }
