use Rattle.std.proofs.Common.{subst, sym, Ok, Err}
use Rattle.ic_motion.specs.declared.answers.Sent.TheVariants as sents
use Rattle.ex_slice.specs.declared.way.Way.TheVariants as ways
use Rattle.ex_slice.specs.Acting.{Ends, no_of_motion}
use Rattle.ex_slice.proofs.Endings.{ends_root, ends_so, ends_no}
use Rattle.ex_slice.proofs.acting.end_next.Goals as goal

pub returns-in-Lets-clause-ends : goal.returns-in-Lets-clause-ends
returns-in-Lets-clause-ends g c = subst (λ z. Ends z z (g.P.Port.log c.args.port.now) (g.P.Port.log c.args.port.now) (Ok sents.Done)) (sym c.in-Lets.is) (ends_root c.in-Lets.field-0 (g.P.Port.log c.args.port.now))

pub returns-in-Ok-clause-ends : goal.returns-in-Ok-clause-ends
returns-in-Ok-clause-ends g c =
    subst (λ z. Ends z (ways.Passes c.end.new.self c.in-Passes.field-1) (g.P.Port.log c.args.port.now) (g.P.Port.log c.end.new.port) (Ok c.in-Ok.sent)) (sym c.in-Passes.is)
    (ends_so c.in-Passes.out c.end.new.self c.in-Passes.field-1 (g.P.Port.log c.args.port.now) (g.P.Port.log c.end.new.port) c.end.ensures.same c.end.ensures.idle c.in-Ok.sent c.in-Ok.ensures.ends c.in-Ok.ensures.refused)

pub returns-in-Err-clause-ends : goal.returns-in-Err-clause-ends
returns-in-Err-clause-ends g c =
    subst (λ r. Ends c.args.way.now (ways.Passes c.end.new.self c.in-Passes.field-1) (g.P.Port.log c.args.port.now) (g.P.Port.log c.end.new.port) (Err r)) (sym c.no_of_motion.ensures)
    (subst (λ z. Ends z (ways.Passes c.end.new.self c.in-Passes.field-1) (g.P.Port.log c.args.port.now) (g.P.Port.log c.end.new.port) (Err (no_of_motion c.in-Err.no))) (sym c.in-Passes.is)
    (ends_no c.in-Passes.out c.end.new.self c.in-Passes.field-1 (g.P.Port.log c.args.port.now) (g.P.Port.log c.end.new.port) c.end.ensures.same c.end.ensures.idle c.in-Err.no c.in-Err.ensures.ends))
