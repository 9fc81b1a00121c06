use Rattle.std.proofs.Common.{subst, sym, ◌∙◌}
use Rattle.ex_tree.specs.Running.{Ears}
use Rattle.ex_tree.specs.Halting.{HaltsAny}
use Rattle.ex_tree.proofs.Halts.{ear_done, ear_halts}
use Rattle.ex_tree.proofs.tree.halt_motion.Goals as goal

pub returns-then-is_heard-clause-halts : goal.returns-then-is_heard-clause-halts
returns-then-is_heard-clause-halts g c = ear_done c.args.motion.now (g.P.Port.log c.args.port.now) (sym c.is_heard.ensures ∙ c.if-is_heard.true)

pub returns-clause-halts : goal.returns-clause-halts
returns-clause-halts g c =
    subst (HaltsAny (Ears c.args.motion.now) (Ears c.halt_all.new.self) (g.P.Port.log c.args.port.now) (g.P.Port.log c.halt_all.new.port)) (sym c.halt_result.ensures)
    (ear_halts c.args.motion.now c.halt_all.new.self (g.P.Port.log c.args.port.now) (g.P.Port.log c.halt_all.new.port) c.halt_all.result (sym c.is_heard.ensures ∙ c.if-is_heard.false) c.halt_all.ensures.same c.halt_all.ensures.senders c.halt_all.ensures.refused c.halt_all.ensures.halts)
