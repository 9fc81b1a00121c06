use Rattle.std.proofs.Common.{option_to_list, sym, subst}
use Rattle.ex_basic.specs.contracts.filter.Filter.{the_view}
use Rattle.ex_basic.specs.Single.{Given}
use Rattle.ex_basic.specs.Filters.{Gives, IsWanting}
use Rattle.ex_basic.proofs.Filtering.{row_given}
use Rattle.ex_basic.proofs.filter.Filter.give.Goals as goal

pub returns-clause-gives : goal.returns-clause-gives
returns-clause-gives c test =
    let i = c.self.inside in
    subst (λ f. Given (Gives test) f (the_view (record i { row = c.kept.result })) c.args.row) c.self.view_is
    (row_given test (the_view i) c.args.side c.args.row (option_to_list c.kept.result) (subst (IsWanting c.args.side) (sym c.self.view_is) c.requires) c.kept.ensures)
