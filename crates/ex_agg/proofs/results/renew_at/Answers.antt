use Rattle.std.proofs.Common.{◌≡◌, Some, slice_get, sym, ap, subst, ◌∙◌}
use Rattle.std.specs.Option.{unwrap_or}
use Rattle.pl_ops.specs.Groups.{joined_value}
use Rattle.pl_ops.specs.Overflow.{HasRoom}
use Rattle.ex_agg.specs.Calls.{brought_at}
use Rattle.ex_agg.proofs.Renewing.{set_past, not_past, set_same, get_there}
use Rattle.ex_agg.proofs.results.renew_at.Goals as goal

pub returns-in_default-clause-ok : goal.returns-in_default-clause-ok
returns-in_default-clause-ok c =
    let values = c.args.values.now in
    let b = brought_at c.args.is_final c.args.place c.args.call c.args.row.now in
    let there : Some c.in-Some.a.now ≡ slice_get values c.args.i = c.in-Some.ensures.value in
    let is = get_there values c.args.i c.in-Some.a.now there in
    let stays : c.in-Some.a.now ≡ joined_value c.args.call c.in-Some.a.now b
    = ap (λ o. unwrap_or o c.in-Some.a.now) (sym c.in_default.is) ∙ c.in_ok-value-in-Some.ensures.ok in (
      set_same values c.args.i _ c.in-Some.a.now there (stays ∙ ap (λ v. joined_value c.args.call v b) (sym is)),
      λ l. subst (λ v. HasRoom (joined_value c.args.call v b)) (sym is) c.in_ok-value-in-Some.ensures.room,
    )

pub returns-in-None-clause-ok : goal.returns-in-None-clause-ok
returns-in-None-clause-ok c = (set_past c.args.values.now c.args.i _ c.in-None.ensures.value, λ l. absurd (not_past c.args.values.now c.args.i c.in-None.ensures.value l))
