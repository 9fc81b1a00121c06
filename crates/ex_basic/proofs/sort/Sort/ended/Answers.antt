use Rattle.std.proofs.Common.{◌<◌, true, sym, subst}
use Rattle.ex_basic.specs.contracts.sort.Sort.{the_view}
use Rattle.ex_basic.specs.Sorts.{IsWanting, work}
use Rattle.ex_basic.proofs.Turning.{wanting, end_falls}
use Rattle.ex_basic.proofs.sort.Sort.ended.Goals as goal

pub returns-clause-work : goal.returns-clause-work
returns-clause-work c =
    let i = c.self.inside in
    subst (λ o. work (the_view (record i { ended = true })) < work o) c.self.view_is
    (end_falls i.sorted i.keys i.ended i.rows.items (wanting c.args.side (the_view i) (subst (IsWanting c.args.side) (sym c.self.view_is) c.requires)) c.self.invariant)
