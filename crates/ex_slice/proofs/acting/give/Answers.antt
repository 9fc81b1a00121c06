use Rattle.std.proofs.Common.{subst, sym}
use Rattle.ex_slice.specs.declared.way.Way.TheVariants as ways
use Rattle.ex_slice.specs.Working.{SameWay}
use Rattle.ex_slice.proofs.acting.give.Goals as goal

pub returns-in-Lets-clause-same : goal.returns-in-Lets-clause-same
returns-in-Lets-clause-same g c = subst (λ z. SameWay z (ways.Lets c.let_next_out.new.rows)) (sym c.in-Lets.is) tt

pub returns-in-Passes-clause-same : goal.returns-in-Passes-clause-same
returns-in-Passes-clause-same g c = subst (λ z. SameWay z (ways.Passes c.send_next.new.out c.send_next.new.hand)) (sym c.in-Passes.is) c.send_next.ensures.same
