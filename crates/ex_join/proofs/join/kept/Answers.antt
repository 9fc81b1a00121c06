use Rattle.std.proofs.Common.{sym, ap, ◌∙◌}
use Rattle.ex_join.specs.Matches.{has_null}
use Rattle.ex_join.proofs.Steps.{row_dropped, all_kept}
use Rattle.ex_join.proofs.join.kept.Goals as goal

pub returns-then-has_null : goal.returns-then-has_null
returns-then-has_null c = row_dropped c.args.columns.now c.args.table.now c.args.row (ap has_null (sym c.in_ok-key.ensures.value) ∙ sym c.has_null.ensures ∙ c.if-has_null.true)

pub returns : goal.returns
returns c = all_kept c.args.columns.now c.args.table.now c.put.new.self c.in_ok-key.key c.args.row c.put.result c.in_ok-key.ensures.value c.put.ensures.puts
