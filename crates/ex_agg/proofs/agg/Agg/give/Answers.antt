use Rattle.std.proofs.Common.{◌≡◌, ◌≤◌, ◌+◌, arith, sym, ap, subst, ◌∙◌}
use Rattle.ex_agg.specs.contracts.agg.Agg.{the_view}
use Rattle.std.specs.List.{AllByRecursion}
use Rattle.ic_row.specs.Values.{key_of}
use Rattle.pl_ops.specs.Overflow.{HasRoom}
use Rattle.ex_agg.specs.Calls.{HaveRoom}
use Rattle.ex_agg.specs.Aggs.{Gives, IsWanting, work}
use Rattle.ex_agg.proofs.Running.{next_groups, next_results, row_taken, row_refused, one_more_left, wanting_open}
use Rattle.ex_agg.proofs.agg.Agg.give.Goals as goal

pub returns-in-Ok-clause-gives : goal.returns-in-Ok-clause-gives
returns-in-Ok-clause-gives c final group calls s a e h =
    let i = c.self.inside in
    let h' : Gives final group calls (the_view i) s a = subst (λ g. Gives final group calls g s a) (sym c.self.view_is) h in
    let columns = c.as_slice.ensures in
    let all = c.as_slice-2.ensures in
    row_taken final group calls (the_view i) s a h' c.args.row c.added.new.groups i.next (c.self.invariant.start (h'.told ∙ e)) e
    (c.in-Ok.ensures.ok ∙ (λ k. next_groups i.is_final i.first (columns k) (all k) i.groups c.args.row))
    (subst (λ l. AllByRecursion HasRoom (key_of l c.args.row)) columns c.in-Ok.ensures.key)
    (subst (λ l. HaveRoom l (next_results i.is_final i.first i.columns l i.groups c.args.row)) all
    (subst (λ l. HaveRoom c.as_slice-2.result.now (next_results i.is_final i.first l c.as_slice-2.result.now i.groups c.args.row)) columns c.in-Ok.ensures.room))

pub returns-clause-over : goal.returns-clause-over
returns-clause-over c is none final group calls s a h =
    let i = c.self.inside in
    let h' : Gives final group calls (the_view i) s a = subst (λ g. Gives final group calls g s a) (sym c.self.view_is) h in
    let columns = c.as_slice.ensures in
    let all = c.as_slice-2.ensures in
    row_refused final group calls (the_view i) s a h' c.args.row
    (λ room. c.in-Err.ensures.over is
    (subst (λ l. HaveRoom c.as_slice-2.result.now (next_results i.is_final i.first l c.as_slice-2.result.now i.groups c.args.row)) (sym columns)
    (subst (λ l. HaveRoom l (next_results i.is_final i.first i.columns l i.groups c.args.row)) (sym all) room)))

pub returns-in-Ok-clause-work : goal.returns-in-Ok-clause-work
returns-in-Ok-clause-work c =
    let i = c.self.inside in
    let wants : IsWanting c.args.side (the_view i) = subst (IsWanting c.args.side) (sym c.self.view_is) c.requires in
    subst (λ g. work (the_view (record i { groups = c.added.new.groups })) ≤ work g + 1) c.self.view_is
    (omega (arith, one_more_left i.groups c.added.new.groups _ _ i.next (c.self.invariant.start (wanting_open c.args.side (the_view i) wants)) c.in-Ok.ensures.ok))
