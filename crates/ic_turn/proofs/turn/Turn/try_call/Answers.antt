use Rattle.std.proofs.Common.{◌≡◌, ◌≤◌, ◌-◌, ◌^◌, IfErr, List, ℕ, ap, ◌∙◌, subst}
use Rattle.ic_turn.specs.declared.view.Part.{Part}
use Rattle.ic_turn.specs.Parts.{HasAll, total}
use Rattle.ic_turn.proofs.PassLemmas.{same_held}
use Rattle.ic_turn.proofs.turn.Turn.try_call.Goals as goal

pub returns-clause-alone : goal.returns-clause-alone
returns-clause-alone g c =
    let p = c.pass.inside in
    let same = same_held p.turn.value p.seat.me.0 c.args.pass.now c.pass.view_is c.pass.invariant.4 c.pass.invariant.5.2 in
    let many : p.seat.me.0.passes ≡ c.args.pass.now.turn.passes = c.pass.invariant.4 ∙ ap (λ q. q.turn.passes) c.pass.view_is in
    subst (λ (x : ℕ × List (Part g.row.M-Ask.Denot g.row.M-Reply.Denot)). IfErr c.try_serve.result (λ b. HasAll x.0 x.1 → 2 ^ 64 - 1 ≤ total x.1)) (λ j. (many j, same j)) c.try_serve.ensures.alone
