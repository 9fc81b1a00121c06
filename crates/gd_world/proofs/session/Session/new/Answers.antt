use Rattle.std.proofs.Common.{◌≡◌, ap, ◌∙◌, arith, subst}
use Rattle.ic_port.specs.Noding.{fresh}
use Rattle.gd_world.proofs.Made.{AreNew, first_new, next_new, new_session, new_recalls, new_fresh}
use Rattle.gd_world.proofs.session.Session.new.Goals as goal

pub loop-number-init : goal.loop-number-init
loop-number-init c = first_new c.args.session c.args.settings c.in_ok-nodes.nodes.items c.push.new.self.items c.in_ok-new.field-0 c.in_ok-push.ensures.items c.in_ok-nodes.ensures.items c.in_ok-new.ensures

pub loop-number-preserved : goal.loop-number-preserved
loop-number-preserved c =
    next_new c.args.session c.args.settings c.loop-number.number c.loop-number.nodes.items c.push-in-loop-number.new.self.items c.in_ok-new-2.field-0 c.loop-number.invariant c.in_ok-push-2.ensures.items
    (c.in_ok-new-2.ensures ∙ ap (λ a. fresh c.args.session a c.args.settings) c.segment.ensures)

pub returns-clause-session : goal.returns-clause-session
returns-clause-session c =
    let all : c.loop-number.number ≡ c.args.segments = omega (arith, c.loop-number.auto.number-end, c.loop-number-test.false) in
    new_session c.args.session c.args.segments c.args.settings _ (subst (λ n. AreNew c.args.session c.args.settings n c.loop-number.nodes.items) all c.loop-number.invariant)

pub returns-clause-recalls : goal.returns-clause-recalls
returns-clause-recalls c =
    let all : c.loop-number.number ≡ c.args.segments = omega (arith, c.loop-number.auto.number-end, c.loop-number-test.false) in
    new_recalls c.args.session c.args.segments c.args.settings _ (subst (λ n. AreNew c.args.session c.args.settings n c.loop-number.nodes.items) all c.loop-number.invariant) c.new-2.ensures.items

pub returns-clause-fresh : goal.returns-clause-fresh
returns-clause-fresh c =
    let all : c.loop-number.number ≡ c.args.segments = omega (arith, c.loop-number.auto.number-end, c.loop-number-test.false) in
    new_fresh c.args.session c.args.segments c.args.settings _ (subst (λ n. AreNew c.args.session c.args.settings n c.loop-number.nodes.items) all c.loop-number.invariant)
