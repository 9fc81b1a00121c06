use Rattle.std.proofs.Common.{rules, ap, ◌∙◌, sym, arith, reverse, ◌<◌, ◌≤◌}
use Rattle.ic_turn.specs.Passes.{giver}
use Rattle.ic_turn.proofs.Manies.{cuts_push, cuts_end}
use Rattle.ic_turn.proofs.many.cut_all.Goals as goal

pub loop-preserved : goal.loop-preserved
loop-preserved g c =
    let i = c.loop.invariant in
    let e = c.cut-giver.ensures in
    let p = c.args.pass in
    let q = c.loop.pass in
    let some_spare : 0 < q.spare = search rules in
    let less = ap (λ z. z.spare) e.0 in (
      omega (arith, i.0, less, some_spare),
      e.0 ∙ ap giver i.1 ∙ (λ j. record p { spare = sym less j }),
      cuts_push p q c.cut-giver.result.0 c.cut-giver.result.1 c.loop.counter c.loop.passes.items _ some_spare i.1 e.0 e.1 i.2 c.push_reserved.ensures.items,
      search rules,
      search rules,
    )

pub returns : goal.returns
returns g c =
    let i = c.loop.invariant in
    let far : c.args.pass.spare ≤ c.loop.counter = search rules in
    cuts_end c.args.pass c.loop.pass c.loop.counter c.loop.passes.items _ i.0 far i.1 i.2 (c.reverse.ensures.items ∙ ap reverse c.push_reserved-2.ensures.items)
