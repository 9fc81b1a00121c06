use Rattle.std.proofs.Common.{Some, sym, ap, ◌∙◌, subst}
use Rattle.ic_row.specs.Values.{key_of}
use Rattle.ex_basic.specs.contracts.project.Project.{the_view}
use Rattle.ex_basic.specs.Single.{Given}
use Rattle.ex_basic.specs.Projects.{Gives, IsWanting}
use Rattle.ex_basic.proofs.Projecting.{row_given}
use Rattle.ex_basic.proofs.project.Project.give.Goals as goal

pub returns-in-Ok-clause-gives : goal.returns-in-Ok-clause-gives
returns-in-Ok-clause-gives c columns =
    let i = c.self.inside in
    subst (λ p. Given (Gives columns) p (the_view (record i { row = Some c.in-Ok.row })) c.args.row) c.self.view_is
    (row_given columns (the_view i) c.args.side c.args.row c.in-Ok.row (subst (IsWanting c.args.side) (sym c.self.view_is) c.requires)
    (c.in-Ok.ensures ∙ ap (λ l. key_of l c.args.row) c.as_slice.ensures))
