use Rattle.std.proofs.Common.{refl, sym}
use Rattle.ic_hub.specs.Coming.{NoneWithout, Turned}
use Rattle.ic_hub.proofs.ComingSteps.{err_of}
use Rattle.ic_hub.proofs.arrive.turn_back.Goals as goal

pub returns-in_err-turned : goal.returns-in_err-turned
returns-in_err-turned c = let w = err_of c.from_residual.result c.from_residual.ensures.0 in NoneWithout w.0 w.1

pub returns-in_ok-turned : goal.returns-in_ok-turned
returns-in_ok-turned c = Turned (sym c.if-goes_forth.ensures) c.in_ok-turned.field-0 c.in_ok-turned.ensures refl
