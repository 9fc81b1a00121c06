use Rattle.std.proofs.Common.{subst, sym, Ok, Err}
use Rattle.ex_slice.specs.declared.way.Way.TheVariants as ways
use Rattle.ex_slice.specs.Acting.{Gives}
use Rattle.ex_slice.proofs.Puttings.{SendsHand, hand_done, hand_stopped, hand_more, hand_wait, hand_no}
use Rattle.ex_slice.proofs.acting.put_row.Goals as goal

pub returns-in-Ok-Done-clause-gives : goal.returns-in-Ok-Done-clause-gives
returns-in-Ok-Done-clause-gives g c tree = hand_done tree c.args.out.now c.try_send.new.out (g.P.Port.log c.args.port.now) (g.P.Port.log c.try_send.new.port) c.try_send.ensures.same c.try_send.ensures.open_ c.args.hand.now c.requires.some_ (subst (λ r. SendsHand tree c.args.out.now c.try_send.new.out (g.P.Port.log c.args.port.now) (g.P.Port.log c.try_send.new.port) c.try_send.ensures.same c.try_send.ensures.open_ c.args.hand.now (Ok r)) c.in-Ok-Done.field-0-is c.in-Ok-Done.ensures.sends) c.in-Ok-Done.ensures.refused

pub returns-in-Ok-AllStopped-clause-gives : goal.returns-in-Ok-AllStopped-clause-gives
returns-in-Ok-AllStopped-clause-gives g c tree = hand_stopped tree c.args.out.now c.try_send.new.out (g.P.Port.log c.args.port.now) (g.P.Port.log c.try_send.new.port) c.try_send.ensures.same c.try_send.ensures.open_ c.args.hand.now c.requires.some_ (subst (λ r. SendsHand tree c.args.out.now c.try_send.new.out (g.P.Port.log c.args.port.now) (g.P.Port.log c.try_send.new.port) c.try_send.ensures.same c.try_send.ensures.open_ c.args.hand.now (Ok r)) c.in-Ok-AllStopped.field-0-is c.in-Ok-AllStopped.ensures.sends) c.in-Ok-AllStopped.ensures.refused

pub returns-in-Ok-More-clause-gives : goal.returns-in-Ok-More-clause-gives
returns-in-Ok-More-clause-gives g c tree = hand_more tree c.args.out.now c.try_send.new.out (g.P.Port.log c.args.port.now) (g.P.Port.log c.try_send.new.port) c.try_send.ensures.same c.try_send.ensures.open_ c.args.hand.now c.requires.some_ (subst (λ r. SendsHand tree c.args.out.now c.try_send.new.out (g.P.Port.log c.args.port.now) (g.P.Port.log c.try_send.new.port) c.try_send.ensures.same c.try_send.ensures.open_ c.args.hand.now (Ok r)) c.in-Ok-More.field-0-is c.in-Ok-More.ensures.sends) c.in-Ok-More.ensures.refused

pub returns-in-Ok-Wait-clause-gives : goal.returns-in-Ok-Wait-clause-gives
returns-in-Ok-Wait-clause-gives g c tree = hand_wait tree c.args.out.now c.try_send.new.out (g.P.Port.log c.args.port.now) (g.P.Port.log c.try_send.new.port) c.try_send.ensures.same c.try_send.ensures.open_ c.args.hand.now c.in-Ok-Wait.no c.requires.some_ (subst (λ r. SendsHand tree c.args.out.now c.try_send.new.out (g.P.Port.log c.args.port.now) (g.P.Port.log c.try_send.new.port) c.try_send.ensures.same c.try_send.ensures.open_ c.args.hand.now (Ok r)) c.in-Ok-Wait.field-0-is c.in-Ok-Wait.ensures.sends) c.in-Ok-Wait.ensures.refused

pub returns-in-Err-clause-gives : goal.returns-in-Err-clause-gives
returns-in-Err-clause-gives g c tree =
    subst (λ r. Gives tree tree (ways.Passes c.args.out.now c.args.hand.now) (ways.Passes c.try_send.new.out c.args.hand.now) (g.P.Port.log c.args.port.now) (g.P.Port.log c.try_send.new.port) (Err r)) (sym c.no_of_motion.ensures)
    (hand_no tree c.args.out.now c.try_send.new.out (g.P.Port.log c.args.port.now) (g.P.Port.log c.try_send.new.port) c.try_send.ensures.same c.try_send.ensures.open_ c.args.hand.now c.in-Err.no c.requires.some_ c.in-Err.ensures.sends c.in-Err.ensures.refused)
