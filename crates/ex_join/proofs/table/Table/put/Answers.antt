use Rattle.std.proofs.Common.{ap, sym, subst, ◌∙◌, cond, Some, []}
use Rattle.indexmap.specs.IndexMap.{get, insert_entry}
use Rattle.pl_ops.specs.Groups.{same_line}
use Rattle.std.specs.Prelude.{OnOk}
use Rattle.std.specs.Option.{unwrap_or}
use Rattle.ex_join.specs.Tables.{Puts}
use Rattle.ex_join.proofs.Buckets.{new_puts, put_so}
use Rattle.ex_join.proofs.table.Table.put.Goals as goal

pub returns-in-Some : goal.returns-in-Some
returns-in-Some c = record {
  puts = subst (λ t. OnOk c.push_at.result (Puts t c.push_at.new.rows.entries c.args.key c.args.row)) c.self.view_is
      (put_so c.self.inside.rows.entries c.push_at.new.rows.entries c.args.key c.args.row c.in-Some.at c.push_at.result
      (sym c.get_index_of.ensures.index ∙ c.in-Some.is) (ap (λ o. unwrap_or o []) c.in-Some.ensures.value) c.push_at.ensures);
}

pub returns-in_ok-insert-in-None : goal.returns-in_ok-insert-in-None
returns-in_ok-insert-in-None c =
    let rows = c.in_ok-only-in-None.field-0 in
    record {
      puts = subst (λ t. Puts t c.insert.new.self.entries c.args.key c.args.row) c.self.view_is
          (new_puts c.self.inside.rows c.insert.new.self c.args.key c.args.row rows c.in_ok-only-in-None.ensures
          c.in-None.ensures.found (c.in_ok-insert-in-None.ensures.entries ∙ ap (λ k. insert_entry same_line c.self.inside.rows.entries k rows) c.key.view_is)
          (λ q. c.in_ok-insert-in-None.ensures.updates.0 q ∙ ap (λ k. cond (same_line k q) (Some rows) (get same_line c.self.inside.rows q)) c.key.view_is));
    }
