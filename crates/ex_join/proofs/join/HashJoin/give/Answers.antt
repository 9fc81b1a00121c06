use Rattle.std.proofs.Common.{◌≡◌, sym, ap, subst, []}
use Rattle.ex_join.specs.contracts.join.HashJoin.{the_view}
use Rattle.ex_join.specs.Joins.{IsWanting}
use Rattle.ex_join.specs.Matches.{Looks, Keeps, met, beside}
use Rattle.ex_join.specs.Tables.{rows_at}
use Rattle.ex_join.proofs.Steps.{given_from, left_is_given, right_is_given, left_work, work_from}
use Rattle.ex_join.proofs.join.HashJoin.give.Goals as goal

pub returns-in-Ok-Some-clause-gives : goal.returns-in-Ok-Some-clause-gives
returns-in-Ok-Some-clause-gives c =
    let i = c.self.inside in
    let found : met i.left_columns i.table c.args.row ≡ rows_at i.table c.in-Ok-Some.at
    = subst (λ o. Looks i.left_columns i.table c.args.row o) c.in-Ok-Some.field-0-is
    (subst (λ columns. Looks columns i.table c.args.row c.in-Ok-Some.field-0) c.as_slice.ensures c.in-Ok-Some.ensures) in
    given_from c.args.side (the_view i) c.args.self.now _ c.args.row c.self.view_is
    (left_is_given c.args.side (the_view i) c.args.row _ c.in-Left.is (subst (IsWanting c.args.side) (sym c.self.view_is) c.requires)
    (sym (ap (beside c.args.row) found)))

pub returns-in-Ok-Some-clause-work : goal.returns-in-Ok-Some-clause-work
returns-in-Ok-Some-clause-work c =
    work_from c.args.side (the_view c.self.inside) c.args.self.now _ c.self.view_is
    (left_work c.args.side (the_view c.self.inside) c.args.row c.in-Ok-Some.at c.in-Left.is (subst (IsWanting c.args.side) (sym c.self.view_is) c.requires))

pub returns-in-Ok-None-clause-gives : goal.returns-in-Ok-None-clause-gives
returns-in-Ok-None-clause-gives c =
    let i = c.self.inside in
    let found : met i.left_columns i.table c.args.row ≡ []
    = subst (λ o. Looks i.left_columns i.table c.args.row o) c.in-Ok-None.field-0-is
    (subst (λ columns. Looks columns i.table c.args.row c.in-Ok-None.field-0) c.as_slice.ensures c.in-Ok-None.ensures) in
    given_from c.args.side (the_view i) c.args.self.now _ c.args.row c.self.view_is
    (left_is_given c.args.side (the_view i) c.args.row [] c.in-Left.is (subst (IsWanting c.args.side) (sym c.self.view_is) c.requires)
    (sym (ap (beside c.args.row) found)))

pub returns-in-Ok-clause-gives : goal.returns-in-Ok-clause-gives
returns-in-Ok-clause-gives c =
    let i = c.self.inside in
    given_from c.args.side (the_view i) c.args.self.now _ c.args.row c.self.view_is
    (right_is_given c.args.side (the_view i) c.args.row c.kept.new.table c.in-Right.is
    (subst (λ columns. Keeps columns i.table c.kept.new.table c.args.row) c.as_slice-in-Right.ensures c.in-Ok.ensures))
