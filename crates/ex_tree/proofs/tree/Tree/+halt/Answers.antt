use Rattle.std.proofs.Common.{◌≡◌, refl, sym, ap, ◌∙◌, subst, List, Ok, Err}
use Rattle.std.specs.Box.{with_value}
use Rattle.ic_base.specs.declared.keys.ConnEnd.{ConnEnd}
use Rattle.ic_motion.specs.declared.answers.Sent.TheVariants as sents
use Rattle.ex_tree.specs.Running.{state_of, Ears, One, Two, AreHeard}
use Rattle.ex_tree.specs.Halting.{HaltsAny}
use Rattle.ex_tree.proofs.Halts.{one_halts, left_halts}
use Rattle.ex_tree.proofs.Trees.{state_ear, state_one, state_two, is_ear, is_one, is_two, again_two, heard_as, halts_as, both_halt, both_heard}
use Rattle.ex_tree.proofs.tree.Tree.+halt.Goals as goal

pub returns-in-Hears-clause-heard : goal.returns-in-Hears-clause-heard
returns-in-Hears-clause-heard g t c =
    heard_as (state_of c.args.self.now) _ (Ears c.in-Hears.motion) (Ears c.halt_motion.new.motion) (is_ear c.args.self.now c.in-Hears.motion c.in-Hears.is) (state_ear c.halt_motion.new.motion) c.halt_motion.ensures.heard

pub returns-in-One-clause-heard : goal.returns-in-One-clause-heard
returns-in-One-clause-heard g t c = heard_as (state_of c.args.self.now) _ (One c.in-One.field-0 (state_of c.deref_mut.result.now)) (One c.in-One.field-0 (state_of c.halt.new.self)) (is_one c.args.self.now c.in-One.field-0 c.in-One.child c.in-One.is ∙ ap (λ v. One c.in-One.field-0 (state_of v)) (sym c.deref_mut.ensures.value)) (state_one c.in-One.field-0 (with_value c.in-One.child c.halt.new.self)) c.halt.ensures.heard

pub returns-in-One-clause-halts : goal.returns-in-One-clause-halts
returns-in-One-clause-halts g t c =
    halts_as (state_of c.args.self.now) _ (One c.in-One.field-0 (state_of c.deref_mut.result.now)) (One c.in-One.field-0 (state_of c.halt.new.self)) (g.P.Port.log c.args.port.now) (g.P.Port.log c.halt.new.port) c.halt.result (is_one c.args.self.now c.in-One.field-0 c.in-One.child c.in-One.is ∙ ap (λ v. One c.in-One.field-0 (state_of v)) (sym c.deref_mut.ensures.value)) (state_one c.in-One.field-0 (with_value c.in-One.child c.halt.new.self))
    (one_halts c.in-One.field-0 (state_of c.deref_mut.result.now) (state_of c.halt.new.self) (g.P.Port.log c.args.port.now) (g.P.Port.log c.halt.new.port) c.halt.result c.halt.ensures.halts)

pub returns-in-Two-self-clause-heard : goal.returns-in-Two-self-clause-heard
returns-in-Two-self-clause-heard g t c = both_heard (state_of c.args.self.now) _ c.in-Two.field-0 c.in-Two-self.field-0 (state_of c.deref_mut-in-Two.result.now) (state_of c.in-Two.field-2.value) (state_of c.halt-in-Two.new.self) (state_of c.in-Two-self.field-1.value) (state_of c.deref_mut-in-Ok-Done.result.now) (state_of c.halt-in-Ok-Done.new.self)
    (is_two c.args.self.now c.in-Two.field-0 c.in-Two.left c.in-Two.field-2 c.in-Two.is ∙ ap (λ v. Two c.in-Two.field-0 (state_of v) (state_of c.in-Two.field-2.value)) (sym c.deref_mut-in-Two.ensures.value))
    (again_two c.in-Two.field-0 c.in-Two-self.field-0 (with_value c.in-Two.left c.halt-in-Two.new.self) c.in-Two.field-2 c.in-Two-self.field-1 c.in-Two-self.right c.in-Two-self.is ∙ ap (λ v. Two c.in-Two-self.field-0 (state_of c.in-Two-self.field-1.value) (state_of v)) (sym c.deref_mut-in-Ok-Done.ensures.value))
    (state_two c.in-Two-self.field-0 c.in-Two-self.field-1 (with_value c.in-Two-self.right c.halt-in-Ok-Done.new.self)) c.halt-in-Two.ensures.heard c.halt-in-Ok-Done.ensures.heard

pub returns-in-Two-self-clause-halts : goal.returns-in-Two-self-clause-halts
returns-in-Two-self-clause-halts g t c =
    both_halt (state_of c.args.self.now) _ c.in-Two.field-0 c.in-Two-self.field-0 (state_of c.deref_mut-in-Two.result.now) (state_of c.in-Two.field-2.value) (state_of c.halt-in-Two.new.self) (state_of c.in-Two-self.field-1.value) (state_of c.deref_mut-in-Ok-Done.result.now) (state_of c.halt-in-Ok-Done.new.self)
    (is_two c.args.self.now c.in-Two.field-0 c.in-Two.left c.in-Two.field-2 c.in-Two.is ∙ ap (λ v. Two c.in-Two.field-0 (state_of v) (state_of c.in-Two.field-2.value)) (sym c.deref_mut-in-Two.ensures.value))
    (again_two c.in-Two.field-0 c.in-Two-self.field-0 (with_value c.in-Two.left c.halt-in-Two.new.self) c.in-Two.field-2 c.in-Two-self.field-1 c.in-Two-self.right c.in-Two-self.is ∙ ap (λ v. Two c.in-Two-self.field-0 (state_of c.in-Two-self.field-1.value) (state_of v)) (sym c.deref_mut-in-Ok-Done.ensures.value))
    (state_two c.in-Two-self.field-0 c.in-Two-self.field-1 (with_value c.in-Two-self.right c.halt-in-Ok-Done.new.self))
    (g.P.Port.log c.args.port.now) (g.P.Port.log c.halt-in-Two.new.port) (g.P.Port.log c.halt-in-Ok-Done.new.port) c.halt-in-Ok-Done.result (subst (λ r. HaltsAny (state_of c.deref_mut-in-Two.result.now) (state_of c.halt-in-Two.new.self) (g.P.Port.log c.args.port.now) (g.P.Port.log c.halt-in-Two.new.port) (Ok r)) c.in-Ok-Done.field-0-is c.in-Ok-Done.ensures.halts) c.halt-in-Ok-Done.ensures.halts

pub returns-in-Ok-More-clause-heard : goal.returns-in-Ok-More-clause-heard
returns-in-Ok-More-clause-heard g t c =
    heard_as (state_of c.args.self.now) _ (Two c.in-Two.field-0 (state_of c.deref_mut-in-Two.result.now) (state_of c.in-Two.field-2.value)) (Two c.in-Two.field-0 (state_of c.halt-in-Two.new.self) (state_of c.in-Two.field-2.value)) (is_two c.args.self.now c.in-Two.field-0 c.in-Two.left c.in-Two.field-2 c.in-Two.is ∙ ap (λ v. Two c.in-Two.field-0 (state_of v) (state_of c.in-Two.field-2.value)) (sym c.deref_mut-in-Two.ensures.value)) (state_two c.in-Two.field-0 (with_value c.in-Two.left c.halt-in-Two.new.self) c.in-Two.field-2) (λ keys a. (c.halt-in-Two.ensures.heard keys a.0, a.1))

pub returns-in-Ok-Wait-clause-heard : goal.returns-in-Ok-Wait-clause-heard
returns-in-Ok-Wait-clause-heard g t c =
    heard_as (state_of c.args.self.now) _ (Two c.in-Two.field-0 (state_of c.deref_mut-in-Two.result.now) (state_of c.in-Two.field-2.value)) (Two c.in-Two.field-0 (state_of c.halt-in-Two.new.self) (state_of c.in-Two.field-2.value)) (is_two c.args.self.now c.in-Two.field-0 c.in-Two.left c.in-Two.field-2 c.in-Two.is ∙ ap (λ v. Two c.in-Two.field-0 (state_of v) (state_of c.in-Two.field-2.value)) (sym c.deref_mut-in-Two.ensures.value)) (state_two c.in-Two.field-0 (with_value c.in-Two.left c.halt-in-Two.new.self) c.in-Two.field-2) (λ keys a. (c.halt-in-Two.ensures.heard keys a.0, a.1))

pub returns-in-Ok-AllStopped-clause-heard : goal.returns-in-Ok-AllStopped-clause-heard
returns-in-Ok-AllStopped-clause-heard g t c =
    heard_as (state_of c.args.self.now) _ (Two c.in-Two.field-0 (state_of c.deref_mut-in-Two.result.now) (state_of c.in-Two.field-2.value)) (Two c.in-Two.field-0 (state_of c.halt-in-Two.new.self) (state_of c.in-Two.field-2.value)) (is_two c.args.self.now c.in-Two.field-0 c.in-Two.left c.in-Two.field-2 c.in-Two.is ∙ ap (λ v. Two c.in-Two.field-0 (state_of v) (state_of c.in-Two.field-2.value)) (sym c.deref_mut-in-Two.ensures.value)) (state_two c.in-Two.field-0 (with_value c.in-Two.left c.halt-in-Two.new.self) c.in-Two.field-2) (λ keys a. (c.halt-in-Two.ensures.heard keys a.0, a.1))

pub returns-in-Err-clause-heard : goal.returns-in-Err-clause-heard
returns-in-Err-clause-heard g t c =
    heard_as (state_of c.args.self.now) _ (Two c.in-Two.field-0 (state_of c.deref_mut-in-Two.result.now) (state_of c.in-Two.field-2.value)) (Two c.in-Two.field-0 (state_of c.halt-in-Two.new.self) (state_of c.in-Two.field-2.value)) (is_two c.args.self.now c.in-Two.field-0 c.in-Two.left c.in-Two.field-2 c.in-Two.is ∙ ap (λ v. Two c.in-Two.field-0 (state_of v) (state_of c.in-Two.field-2.value)) (sym c.deref_mut-in-Two.ensures.value)) (state_two c.in-Two.field-0 (with_value c.in-Two.left c.halt-in-Two.new.self) c.in-Two.field-2) (λ keys a. (c.halt-in-Two.ensures.heard keys a.0, a.1))

pub returns-in-Ok-More-clause-halts : goal.returns-in-Ok-More-clause-halts
returns-in-Ok-More-clause-halts g t c =
    halts_as (state_of c.args.self.now) _ (Two c.in-Two.field-0 (state_of c.deref_mut-in-Two.result.now) (state_of c.in-Two.field-2.value)) (Two c.in-Two.field-0 (state_of c.halt-in-Two.new.self) (state_of c.in-Two.field-2.value)) (g.P.Port.log c.args.port.now) (g.P.Port.log c.halt-in-Two.new.port) (Ok sents.More) (is_two c.args.self.now c.in-Two.field-0 c.in-Two.left c.in-Two.field-2 c.in-Two.is ∙ ap (λ v. Two c.in-Two.field-0 (state_of v) (state_of c.in-Two.field-2.value)) (sym c.deref_mut-in-Two.ensures.value)) (state_two c.in-Two.field-0 (with_value c.in-Two.left c.halt-in-Two.new.self) c.in-Two.field-2)
    (left_halts c.in-Two.field-0 (state_of c.deref_mut-in-Two.result.now) (state_of c.in-Two.field-2.value) (state_of c.halt-in-Two.new.self) (g.P.Port.log c.args.port.now) (g.P.Port.log c.halt-in-Two.new.port) (Ok sents.More) (λ e. cc) (subst (λ r. HaltsAny (state_of c.deref_mut-in-Two.result.now) (state_of c.halt-in-Two.new.self) (g.P.Port.log c.args.port.now) (g.P.Port.log c.halt-in-Two.new.port) (Ok r)) c.in-Ok-More.field-0-is c.in-Ok-More.ensures.halts))

pub returns-in-Ok-Wait-clause-halts : goal.returns-in-Ok-Wait-clause-halts
returns-in-Ok-Wait-clause-halts g t c =
    halts_as (state_of c.args.self.now) _ (Two c.in-Two.field-0 (state_of c.deref_mut-in-Two.result.now) (state_of c.in-Two.field-2.value)) (Two c.in-Two.field-0 (state_of c.halt-in-Two.new.self) (state_of c.in-Two.field-2.value)) (g.P.Port.log c.args.port.now) (g.P.Port.log c.halt-in-Two.new.port) (Ok (sents.Wait c.in-Ok-Wait.no)) (is_two c.args.self.now c.in-Two.field-0 c.in-Two.left c.in-Two.field-2 c.in-Two.is ∙ ap (λ v. Two c.in-Two.field-0 (state_of v) (state_of c.in-Two.field-2.value)) (sym c.deref_mut-in-Two.ensures.value)) (state_two c.in-Two.field-0 (with_value c.in-Two.left c.halt-in-Two.new.self) c.in-Two.field-2)
    (left_halts c.in-Two.field-0 (state_of c.deref_mut-in-Two.result.now) (state_of c.in-Two.field-2.value) (state_of c.halt-in-Two.new.self) (g.P.Port.log c.args.port.now) (g.P.Port.log c.halt-in-Two.new.port) (Ok (sents.Wait c.in-Ok-Wait.no)) (λ e. cc) (subst (λ r. HaltsAny (state_of c.deref_mut-in-Two.result.now) (state_of c.halt-in-Two.new.self) (g.P.Port.log c.args.port.now) (g.P.Port.log c.halt-in-Two.new.port) (Ok r)) c.in-Ok-Wait.field-0-is c.in-Ok-Wait.ensures.halts))
