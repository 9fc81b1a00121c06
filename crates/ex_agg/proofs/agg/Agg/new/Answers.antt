use Rattle.std.proofs.Common.{refl, ap, length, [], ◌∙◌}
use Rattle.ex_agg.specs.Parts.{is_final}
use Rattle.ex_agg.specs.Grouped.{key_columns, groups_of}
use Rattle.ex_agg.proofs.Running.{within_nothing}
use Rattle.ex_agg.proofs.agg.Agg.new.Goals as goal

pub returns-clause-gives : goal.returns-clause-gives
returns-clause-gives c =
    let final = is_final c.args.part in
    let group = c.args.group in
    record {
      final_is = c.final_part-is_final.ensures;
      columns = c.in_ok-columns.ensures ∙ ap (λ b. key_columns b group) c.final_part-is_final.ensures;
      first = c.len-first.ensures;
      calls_are = refl;
      told = refl;
      none_before = λ e. refl;
      groups = c.in_ok-groups.ensures final (length group) ∙ ap (λ l. groups_of final (length group) (key_columns final group) l []) c.as_slice.ensures;
      rows = refl;
      within = within_nothing final group c.args.calls;
    }
