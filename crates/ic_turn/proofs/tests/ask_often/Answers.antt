use Rattle.std.proofs.Common.{rules, ap, ◌∙◌, ◌≡◌}
use Rattle.ic_turn.proofs.Trying.{grows_none, grows_more}
use Rattle.ic_turn.proofs.tests.ask_often.Goals as goal

pub loop-init : goal.loop-init
loop-init g c = (c.requires, grows_none c.args.pass)

pub loop-preserved : goal.loop-preserved
loop-preserved g c =
    let i = c.loop.invariant in
    let e = c.call.ensures.entry in
    (ap (λ p. p.turn) e.2 ∙ i.0, grows_more c.loop.counter c.args.pass c.loop.pass c.call.new.pass 1 c.call.result i.1 e)

pub returns : goal.returns
returns g c =
    let i = c.loop.invariant.1 in
    let k : c.loop.counter ≡ c.args.often = search rules in
    (i.0, i.1 ∙ k, i.2)
