use Rattle.std.proofs.Common.{subst, map, OnOk}
use Rattle.std.specs.List.{concat}
use Rattle.std.specs.Io.KnownBytes.{Appends}
use Rattle.ic_edge.specs.Causes.{TakesAFront}
use Rattle.icq_top.specs.Text.{row_text, tally_text}
use Rattle.icq_top.specs.Print.{WroteLines}
use Rattle.icq_top.proofs.Fronts.{front_of_first, front_of_second, lines_of_second, both_texts, OnOk-then}
use Rattle.icq_top.proofs.print.print_answer.Goals as goal

pub returns-in-Ok-clause-ok : goal.returns-in-Ok-clause-ok
returns-in-Ok-clause-ok g c =
    let a = g.K.Sink.wrote c.args.sink.now in
    let b = g.K.Sink.wrote c.print_lines.new.sink in
    let d = g.K.Sink.wrote c.print_lines-in-Ok.new.sink in
    let tallies = subst (λ l. OnOk c.print_lines-in-Ok.result (Appends b d (concat (map tally_text l)))) c.as_slice.ensures c.print_lines-in-Ok.ensures.ok in
    OnOk-then c.print_lines-in-Ok.result (both_texts a b d (map row_text c.args.answer.now.rows.now) (map tally_text c.args.answer.now.tallies) c.in-Ok.ensures.ok) tallies

pub returns-in-Ok-clause-failed : goal.returns-in-Ok-clause-failed
returns-in-Ok-clause-failed g c = λ is.
    let a = g.K.Sink.wrote c.args.sink.now in
    let b = g.K.Sink.wrote c.print_lines.new.sink in
    let d = g.K.Sink.wrote c.print_lines-in-Ok.new.sink in
    front_of_second a b d (map row_text c.args.answer.now.rows.now) (map tally_text c.args.answer.now.tallies) c.in-Ok.ensures.ok
    (subst (λ l. TakesAFront b d (concat (map tally_text l))) c.as_slice.ensures (c.print_lines-in-Ok.ensures.failed is))

pub returns-in-Ok-clause-memory : goal.returns-in-Ok-clause-memory
returns-in-Ok-clause-memory g c = λ is.
    let a = g.K.Sink.wrote c.args.sink.now in
    let b = g.K.Sink.wrote c.print_lines.new.sink in
    let d = g.K.Sink.wrote c.print_lines-in-Ok.new.sink in
    lines_of_second a b d (map row_text c.args.answer.now.rows.now) (map tally_text c.args.answer.now.tallies) c.in-Ok.ensures.ok
    (subst (λ l. WroteLines b d (map tally_text l)) c.as_slice.ensures (c.print_lines-in-Ok.ensures.memory is))

pub returns-in-Err-clause-failed : goal.returns-in-Err-clause-failed
returns-in-Err-clause-failed g c = λ is.
    front_of_first (g.K.Sink.wrote c.args.sink.now) (g.K.Sink.wrote c.print_lines.new.sink) (map row_text c.args.answer.now.rows.now) (map tally_text c.args.answer.now.tallies) (c.in-Err.ensures.failed is)
