use Rattle.std.proofs.Common.{subst, sym, ap, ◌∙◌, Ok, Err}
use Rattle.ic_motion.specs.Sending.{SendsToEach, receivers_of}
use Rattle.ex_tree.specs.Running.{state_of}
use Rattle.ex_tree.specs.Working.{work, Falls}
use Rattle.ex_tree.specs.Pulling.{PullsAny, Touches}
use Rattle.ex_slice.specs.declared.way.Way.TheVariants as ways
use Rattle.ex_slice.specs.Acting.{Gives}
use Rattle.ex_slice.proofs.Pullings.{gives_more, gives_wait, gives_end, gives_no}
use Rattle.ex_slice.proofs.Rowed.{gives_on, none_is}
use Rattle.ex_slice.proofs.Ready.{lengths_so}
use Rattle.ex_slice.proofs.acting.send_next.Goals as goal

pub put_row-requires-in-Ok-Row-clause-sends : goal.put_row-requires-in-Ok-Row-clause-sends
put_row-requires-in-Ok-Row-clause-sends g c = subst (λ k. SendsToEach k c.args.out.now.motion (receivers_of c.args.out.now.targets)) (sym c.in-Ok-Row.ensures.keys) c.requires.sends

pub put_row-requires-in-Ok-Row-clause-lengths : goal.put_row-requires-in-Ok-Row-clause-lengths
put_row-requires-in-Ok-Row-clause-lengths g c = (lengths_so c.in-Ok-Row.row (c.is_spellable.ensures c.if-not-is_spellable.false), tt)

pub returns-else-not-is_spellable-clause-gives : goal.returns-else-not-is_spellable-clause-gives
returns-else-not-is_spellable-clause-gives g c =
    let x = state_of c.args.tree.now in
    let y = state_of c.fetch.new.tree in
    let was = g.P.Port.log c.args.port.now in
    let mid = g.P.Port.log c.fetch.new.port in
    subst (λ h. Gives x y (ways.Passes c.args.out.now h) (ways.Passes c.put_row-in-Ok-Row.new.out c.put_row-in-Ok-Row.new.hand) was (g.P.Port.log c.put_row-in-Ok-Row.new.port) c.put_row-in-Ok-Row.result) (sym (none_is c.args.hand.now (sym c.is_some.ensures ∙ c.if-is_some.false)))
    (gives_on x y c.args.out.now was mid c.in-Ok-Row.row (c.is_spellable.ensures c.if-not-is_spellable.false) (subst (λ r. Falls r (work x) (work y)) c.in-Ok-Row.field-0-is c.in-Ok-Row.ensures.falls)
    (ways.Passes c.put_row-in-Ok-Row.new.out c.put_row-in-Ok-Row.new.hand) (g.P.Port.log c.put_row-in-Ok-Row.new.port) c.put_row-in-Ok-Row.result
    (ap g.P.Port.log (sym (subst (λ r. Touches g.P.Port.steps c.args.port.now c.fetch.new.port (Ok r)) c.in-Ok-Row.field-0-is c.in-Ok-Row.ensures.touches)))
    (subst (λ r. PullsAny x y was mid (Ok r)) c.in-Ok-Row.field-0-is c.in-Ok-Row.ensures.pulls) (c.put_row-in-Ok-Row.ensures.gives y))

pub returns-in-Ok-More-clause-gives : goal.returns-in-Ok-More-clause-gives
returns-in-Ok-More-clause-gives g c =
    gives_more (state_of c.args.tree.now) (state_of c.fetch.new.tree) (ways.Passes c.args.out.now c.args.hand.now) (g.P.Port.log c.args.port.now) (g.P.Port.log c.fetch.new.port) (none_is c.args.hand.now (sym c.is_some.ensures ∙ c.if-is_some.false))
    (subst (λ r. PullsAny (state_of c.args.tree.now) (state_of c.fetch.new.tree) (g.P.Port.log c.args.port.now) (g.P.Port.log c.fetch.new.port) (Ok r)) c.in-Ok-More.field-0-is c.in-Ok-More.ensures.pulls)

pub returns-in-Ok-Wait-clause-gives : goal.returns-in-Ok-Wait-clause-gives
returns-in-Ok-Wait-clause-gives g c =
    gives_wait (state_of c.args.tree.now) (state_of c.fetch.new.tree) (ways.Passes c.args.out.now c.args.hand.now) (g.P.Port.log c.args.port.now) (g.P.Port.log c.fetch.new.port) (none_is c.args.hand.now (sym c.is_some.ensures ∙ c.if-is_some.false)) c.in-Ok-Wait.no
    (subst (λ r. PullsAny (state_of c.args.tree.now) (state_of c.fetch.new.tree) (g.P.Port.log c.args.port.now) (g.P.Port.log c.fetch.new.port) (Ok r)) c.in-Ok-Wait.field-0-is c.in-Ok-Wait.ensures.pulls)

pub returns-in-Ok-End-clause-gives : goal.returns-in-Ok-End-clause-gives
returns-in-Ok-End-clause-gives g c =
    gives_end (state_of c.args.tree.now) (state_of c.fetch.new.tree) (ways.Passes c.args.out.now c.args.hand.now) (g.P.Port.log c.args.port.now) (g.P.Port.log c.fetch.new.port) (none_is c.args.hand.now (sym c.is_some.ensures ∙ c.if-is_some.false))
    (subst (λ r. Falls r (work (state_of c.args.tree.now)) (work (state_of c.fetch.new.tree))) c.in-Ok-End.field-0-is c.in-Ok-End.ensures.falls)
    (subst (λ r. PullsAny (state_of c.args.tree.now) (state_of c.fetch.new.tree) (g.P.Port.log c.args.port.now) (g.P.Port.log c.fetch.new.port) (Ok r)) c.in-Ok-End.field-0-is c.in-Ok-End.ensures.pulls)

pub returns-in-Err-clause-gives : goal.returns-in-Err-clause-gives
returns-in-Err-clause-gives g c =
    subst (λ r. Gives (state_of c.args.tree.now) (state_of c.fetch.new.tree) (ways.Passes c.args.out.now c.args.hand.now) (ways.Passes c.args.out.now c.args.hand.now) (g.P.Port.log c.args.port.now) (g.P.Port.log c.fetch.new.port) (Err r)) (sym c.no_of_tree.ensures)
    (gives_no (state_of c.args.tree.now) (state_of c.fetch.new.tree) (ways.Passes c.args.out.now c.args.hand.now) (g.P.Port.log c.args.port.now) (g.P.Port.log c.fetch.new.port) (none_is c.args.hand.now (sym c.is_some.ensures ∙ c.if-is_some.false)) c.in-Err.no c.in-Err.ensures.pulls)
