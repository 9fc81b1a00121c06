use Rattle.std.proofs.Common.{◌+◌, ◌∙◌}
use Rattle.ic_turn.proofs.PassLemmas.{met_more}
use Rattle.ic_turn.proofs.turn.Turn.call.Goals as goal

pub loop-preserved : goal.loop-preserved
loop-preserved g c =
    let i = c.loop.invariant in
    let e = c.in-Err.ensures.busy in
    (tt, tt, e.0 ∙ i.2, i.3 + 1, met_more c.args.pass.now c.loop.pass c.try_call.new.pass i.3 i.4 e.1)
