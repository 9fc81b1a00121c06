use Rattle.std.proofs.Common.{◌≡◌, sym, subst, map, ◌∙◌}
use Rattle.std.specs.Prelude.{OnOk}
use Rattle.indexmap.specs.IndexMap.{insert_entry}
use Rattle.pl_ops.specs.Groups.{same_line, value_of_none}
use Rattle.pl_ops.specs.Rows.{Line}
use Rattle.ex_agg.specs.Calls.{renewed}
use Rattle.ex_agg.specs.Grouped.{results_of_key}
use Rattle.ex_agg.proofs.Grouping.{found_add}
use Rattle.ex_agg.proofs.groups.Groups.add.Goals as goal

pub returns-in-Some-clause-ok : goal.returns-in-Some-clause-ok
returns-in-Some-clause-ok c =
    let F : Line → Line = λ values. renewed c.args.is_final c.args.first c.args.calls.now values c.args.row.now in
    subst (λ t. OnOk c.renew_group.result (c.renew_group.new.groups.entries ≡ insert_entry same_line t c.args.key (F (results_of_key c.args.calls.now t c.args.key)))) c.self.view_is
    (found_add c.self.inside.of c.renew_group.new.groups.entries c.args.key c.in-Some.at F (map value_of_none c.args.calls.now) c.renew_group.result
    (sym c.get_index_of.ensures.index ∙ c.in-Some.is) c.in-Some.ensures.value c.in-Some.ensures.found c.renew_group.ensures.ok)
