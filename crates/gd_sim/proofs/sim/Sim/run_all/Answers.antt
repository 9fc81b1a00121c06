use Rattle.std.proofs.Common.{arith, sym, ◌∙◌}
use Rattle.gd_sim.proofs.Running.{end_with}
use Rattle.gd_sim.proofs.sim.Sim.run_all.Goals as goal

pub returns-then-is_some : goal.returns-then-is_some
returns-then-is_some c =
    end_with c.args.common.now.session c.args.common.now.segments c.args.common.now.rounds c.args.common.now.settings c.args.loaded.now c.args.feeds.now c.run_next.new.self
    c.loop-place.lists.items c.run_next.new.lists.items c.in_ok-fault.fault c.in_ok-fault.ensures (sym c.is_some.ensures ∙ c.if-is_some.true) (omega (arith, c.loop-place.invariant.next, c.loop-place-test.true))
