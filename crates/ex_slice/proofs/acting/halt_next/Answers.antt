use Rattle.std.proofs.Common.{subst, sym, Err}
use Rattle.ex_tree.specs.Running.{state_of}
use Rattle.ex_slice.specs.Acting.{Halts}
use Rattle.ex_slice.proofs.Haltings.{halts_so_any, halts_no}
use Rattle.ex_slice.proofs.acting.halt_next.Goals as goal

pub returns-in-Ok-clause-halts : goal.returns-in-Ok-clause-halts
returns-in-Ok-clause-halts g c = halts_so_any (state_of c.args.tree.now) (state_of c.halt.new.self) (g.P.Port.log c.args.port.now) (g.P.Port.log c.halt.new.port) c.in-Ok.sent c.in-Ok.ensures.halts

pub returns-in-Err-clause-halts : goal.returns-in-Err-clause-halts
returns-in-Err-clause-halts g c =
    subst (λ r. Halts (state_of c.args.tree.now) (state_of c.halt.new.self) (g.P.Port.log c.args.port.now) (g.P.Port.log c.halt.new.port) (Err r)) (sym c.no_of_tree.ensures)
    (halts_no (state_of c.args.tree.now) (state_of c.halt.new.self) (g.P.Port.log c.args.port.now) (g.P.Port.log c.halt.new.port) c.in-Err.no c.in-Err.ensures.halts)
