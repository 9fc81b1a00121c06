use Rattle.std.proofs.Common.{◌≡◌, [], ◌∷◌, ◌++◌, sym, subst}
use Rattle.ic_receiver.specs.Receiving.{Receiving}
use Rattle.ic_receiver.specs.Standing.{Stands}
use Rattle.ic_receiver.proofs.Made.{if_ok, on_err}
use Rattle.ic_receiver.proofs.Taken.{stands_took, takes_now, stands_empty, empty_there, stands_over, ended_there}
use Rattle.ic_receiver.proofs.receiver.Receiver.take.Goals as goal

pub returns-clause-stands : goal.returns-clause-stands
returns-clause-stands c = if_ok c.hand_over.result _ _ (λ r hands settings h e is stands. stands_took settings c.args.self.now c.hand_over.new.self r.0 r.1 h e hands is stands) c.hand_over.ensures.hands

pub returns-clause-takes : goal.returns-clause-takes
returns-clause-takes c = if_ok c.hand_over.result _ _ (λ r hands settings h stands. takes_now settings c.args.self.now c.hand_over.new.self r.0 r.1 h hands stands) c.hand_over.ensures.hands

pub returns-clause-stands_empty : goal.returns-clause-stands_empty
returns-clause-stands_empty c = λ is settings h e refusing stands.
    let same : c.hand_over.new.self ≡ c.args.self.now = on_err c.hand_over.result _ is c.hand_over.ensures.err in
    subst (λ (s : Receiving). Stands settings s (h ++ e ∷ [])) (sym same) (stands_empty settings c.args.self.now h e (c.hand_over.ensures.empty.0 is) refusing stands)

pub returns-clause-waits : goal.returns-clause-waits
returns-clause-waits c = λ is settings h stands. empty_there settings c.args.self.now h (c.hand_over.ensures.empty.0 is) stands

pub returns-clause-stands_ended : goal.returns-clause-stands_ended
returns-clause-stands_ended c = λ is settings h e refusing stands.
    let same : c.hand_over.new.self ≡ c.args.self.now = on_err c.hand_over.result _ is c.hand_over.ensures.err in
    subst (λ (s : Receiving). Stands settings s (h ++ e ∷ [])) (sym same) (stands_over settings c.args.self.now h e (c.hand_over.ensures.ended.0 is) refusing stands)

pub returns-clause-over : goal.returns-clause-over
returns-clause-over c = λ is settings h stands. ended_there settings c.args.self.now h (c.hand_over.ensures.ended.0 is) stands
