use Rattle.std.proofs.Common.{◌≡◌, refl, sym, ap, ◌∙◌, subst, List, Ok}
use Rattle.std.specs.Box.{with_value}
use Rattle.ic_base.specs.declared.keys.ConnEnd.{ConnEnd}
use Rattle.pl_tree.specs.declared.node.Pair.{Pair}
use Rattle.pl_ops.specs.declared.words.Side.TheVariants.{Left, Right}
use Rattle.ex_join.specs.Joins as joins
use Rattle.ex_tree.specs.Running.{state_of, Ears, One, Two, AreHeard}
use Rattle.ex_tree.specs.Pulling.{PullsAny}
use Rattle.ex_tree.specs.Nodes.{Turns, Turns2, Wanted2, AskingFalls}
use Rattle.ex_tree.proofs.Trees.{state_ear, state_one, state_two, is_ear, is_one, is_two, again_one, again_two, heard_as, on_so, on_map, one_pulled, one_heard, left_pulled, right_pulled, left_failed, right_failed, left_heard, right_heard}
use Rattle.ex_tree.proofs.Works.{left_fell, right_fell}
use Rattle.ex_tree.proofs.tree.Tree.+pull.Goals as goal

pub returns-in-Hears-clause-heard : goal.returns-in-Hears-clause-heard
returns-in-Hears-clause-heard g t c =
    on_map c.pull_motion.result ((keys : List ConnEnd) → AreHeard keys (Ears c.in-Hears.motion) → AreHeard keys (Ears c.pull_motion.new.motion)) _
    (heard_as (state_of c.args.self.now) _ (Ears c.in-Hears.motion) (Ears c.pull_motion.new.motion) (is_ear c.args.self.now c.in-Hears.motion c.in-Hears.is) (state_ear c.pull_motion.new.motion)) c.pull_motion.ensures.heard

pub returns-in-One-self-2-clause-heard : goal.returns-in-One-self-2-clause-heard
returns-in-One-self-2-clause-heard g t c = on_so c.passed.result _ (one_heard (state_of c.args.self.now) _ c.in-One.op c.asked.new.op c.in-One-self.field-0 c.in-One-self-2.op c.passed.new.op (state_of c.in-One.field-1.value) (state_of c.deref_mut.result.now) (state_of c.pull.new.self) (state_of c.in-One-self-2.field-1.value)
    (is_one c.args.self.now c.in-One.op c.in-One.field-1 c.in-One.is) (again_one c.asked.new.op c.in-One-self.field-0 c.in-One.field-1 c.in-One-self.child c.in-One-self.is ∙ ap (λ v. One c.in-One-self.field-0 (state_of v)) (sym c.deref_mut.ensures.value))
    (again_one c.in-One-self.field-0 c.in-One-self-2.op (with_value c.in-One-self.child c.pull.new.self) c.in-One-self-2.field-1 c.in-One-self-2.is) (state_one c.passed.new.op c.in-One-self-2.field-1) c.in-Ok.ensures.heard)

pub returns-in-One-self-2-clause-pulls : goal.returns-in-One-self-2-clause-pulls
returns-in-One-self-2-clause-pulls g t c =
    one_pulled (state_of c.args.self.now) _ c.in-One.op c.asked.new.op c.in-One-self.field-0 c.in-One-self-2.op c.passed.new.op (state_of c.in-One.field-1.value) (state_of c.deref_mut.result.now) (state_of c.pull.new.self) (state_of c.in-One-self-2.field-1.value)
    (is_one c.args.self.now c.in-One.op c.in-One.field-1 c.in-One.is) (again_one c.asked.new.op c.in-One-self.field-0 c.in-One.field-1 c.in-One-self.child c.in-One-self.is ∙ ap (λ v. One c.in-One-self.field-0 (state_of v)) (sym c.deref_mut.ensures.value))
    (again_one c.in-One-self.field-0 c.in-One-self-2.op (with_value c.in-One-self.child c.pull.new.self) c.in-One-self-2.field-1 c.in-One-self-2.is) (state_one c.passed.new.op c.in-One-self-2.field-1)
    (g.P.Port.log c.args.port.now) (g.P.Port.log c.pull.new.port) c.in-Ok.got c.passed.result (subst (Turns c.in-One.op c.asked.new.op) c.in-Ok-Needs.field-0-is c.in-Ok-Needs.ensures.turns).1 c.passed.ensures.passed
    c.in-Ok.ensures.pulls

pub returns-in-Two-self-2-clause-heard : goal.returns-in-Two-self-2-clause-heard
returns-in-Two-self-2-clause-heard g t c = on_so c.passed_join.result _ (left_heard (state_of c.args.self.now) _ c.in-Two.join c.asked_join.new.join c.in-Two-self.field-0 c.in-Two-self-2.join c.passed_join.new.join (state_of c.in-Two.field-1.value) (state_of c.in-Two.field-2.value) (state_of c.deref_mut-in-Ok-Needs-Left.result.now) (state_of c.in-Two-self.field-2.value) (state_of c.pull-in-Ok-Needs-Left.new.self) (state_of c.in-Two-self-2.field-1.value) (state_of c.in-Two-self-2.field-2.value)
    (is_two c.args.self.now c.in-Two.join c.in-Two.field-1 c.in-Two.field-2 c.in-Two.is) (again_two c.asked_join.new.join c.in-Two-self.field-0 c.in-Two.field-1 c.in-Two.field-2 c.in-Two-self.left c.in-Two-self.field-2 c.in-Two-self.is ∙ ap (λ v. Two c.in-Two-self.field-0 (state_of v) (state_of c.in-Two-self.field-2.value)) (sym c.deref_mut-in-Ok-Needs-Left.ensures.value)) (state_two c.passed_join.new.join c.in-Two-self-2.field-1 c.in-Two-self-2.field-2) (again_two c.in-Two-self.field-0 c.in-Two-self-2.join (with_value c.in-Two-self.left c.pull-in-Ok-Needs-Left.new.self) c.in-Two-self.field-2 c.in-Two-self-2.field-1 c.in-Two-self-2.field-2 c.in-Two-self-2.is) c.in-Ok-pull.ensures.heard)

pub returns-in-Two-self-2-clause-pulls : goal.returns-in-Two-self-2-clause-pulls
returns-in-Two-self-2-clause-pulls g t c =
    left_pulled (state_of c.args.self.now) _ c.in-Two.join c.asked_join.new.join c.in-Two-self.field-0 c.in-Two-self-2.join c.passed_join.new.join (state_of c.in-Two.field-1.value) (state_of c.in-Two.field-2.value) (state_of c.deref_mut-in-Ok-Needs-Left.result.now) (state_of c.in-Two-self.field-2.value) (state_of c.pull-in-Ok-Needs-Left.new.self) (state_of c.in-Two-self-2.field-1.value) (state_of c.in-Two-self-2.field-2.value)
    (is_two c.args.self.now c.in-Two.join c.in-Two.field-1 c.in-Two.field-2 c.in-Two.is) (again_two c.asked_join.new.join c.in-Two-self.field-0 c.in-Two.field-1 c.in-Two.field-2 c.in-Two-self.left c.in-Two-self.field-2 c.in-Two-self.is ∙ ap (λ v. Two c.in-Two-self.field-0 (state_of v) (state_of c.in-Two-self.field-2.value)) (sym c.deref_mut-in-Ok-Needs-Left.ensures.value)) (state_two c.passed_join.new.join c.in-Two-self-2.field-1 c.in-Two-self-2.field-2) (again_two c.in-Two-self.field-0 c.in-Two-self-2.join (with_value c.in-Two-self.left c.pull-in-Ok-Needs-Left.new.self) c.in-Two-self.field-2 c.in-Two-self-2.field-1 c.in-Two-self-2.field-2 c.in-Two-self-2.is)
    (g.P.Port.log c.args.port.now) (g.P.Port.log c.pull-in-Ok-Needs-Left.new.port) c.in-Ok-pull.got c.passed_join.result (subst (λ k. (on : List Pair) → Wanted2 k on c.in-Two.join c.asked_join.new.join) c.in-Ok-Needs-Left.field-0-0-is (subst (Turns2 c.in-Two.join c.asked_join.new.join) c.in-Ok-Needs-Left.field-0-is c.in-Ok-Needs-Left.ensures.turns).1) c.passed_join.ensures.passed c.in-Ok-pull.ensures.pulls

pub returns-in-Two-self-2-clause-falls : goal.returns-in-Two-self-2-clause-falls
returns-in-Two-self-2-clause-falls g t c =
    left_fell (state_of c.args.self.now) _ c.in-Two.join c.asked_join.new.join c.in-Two-self.field-0 c.in-Two-self-2.join c.passed_join.new.join (state_of c.in-Two.field-1.value) (state_of c.in-Two.field-2.value) (state_of c.deref_mut-in-Ok-Needs-Left.result.now) (state_of c.in-Two-self.field-2.value) (state_of c.pull-in-Ok-Needs-Left.new.self) (state_of c.in-Two-self-2.field-1.value) (state_of c.in-Two-self-2.field-2.value)
    (is_two c.args.self.now c.in-Two.join c.in-Two.field-1 c.in-Two.field-2 c.in-Two.is) (again_two c.asked_join.new.join c.in-Two-self.field-0 c.in-Two.field-1 c.in-Two.field-2 c.in-Two-self.left c.in-Two-self.field-2 c.in-Two-self.is ∙ ap (λ v. Two c.in-Two-self.field-0 (state_of v) (state_of c.in-Two-self.field-2.value)) (sym c.deref_mut-in-Ok-Needs-Left.ensures.value)) (state_two c.passed_join.new.join c.in-Two-self-2.field-1 c.in-Two-self-2.field-2)
    c.in-Ok-pull.got (subst (AskingFalls (joins.work c.in-Two.join) (joins.work c.asked_join.new.join)) c.in-Ok-Needs-Left.field-0-is c.in-Ok-Needs-Left.ensures.falls) c.asked_join.ensures.table (again_two c.in-Two-self.field-0 c.in-Two-self-2.join (with_value c.in-Two-self.left c.pull-in-Ok-Needs-Left.new.self) c.in-Two-self.field-2 c.in-Two-self-2.field-1 c.in-Two-self-2.field-2 c.in-Two-self-2.is) c.passed_join.result c.in-Ok-pull.ensures.falls c.passed_join.ensures.work c.passed_join.ensures.becomes

pub returns-in-Err-pull-2-clause-pulls : goal.returns-in-Err-pull-2-clause-pulls
returns-in-Err-pull-2-clause-pulls g t c =
    left_failed (state_of c.args.self.now) _ c.in-Two.join c.asked_join.new.join c.in-Two-self.field-0 (state_of c.in-Two.field-1.value) (state_of c.in-Two.field-2.value) (state_of c.deref_mut-in-Ok-Needs-Left.result.now) (state_of c.in-Two-self.field-2.value) (state_of c.pull-in-Ok-Needs-Left.new.self) (g.P.Port.log c.args.port.now) (g.P.Port.log c.pull-in-Ok-Needs-Left.new.port) c.in-Err-pull-2.no
    (is_two c.args.self.now c.in-Two.join c.in-Two.field-1 c.in-Two.field-2 c.in-Two.is) (again_two c.asked_join.new.join c.in-Two-self.field-0 c.in-Two.field-1 c.in-Two.field-2 c.in-Two-self.left c.in-Two-self.field-2 c.in-Two-self.is ∙ ap (λ v. Two c.in-Two-self.field-0 (state_of v) (state_of c.in-Two-self.field-2.value)) (sym c.deref_mut-in-Ok-Needs-Left.ensures.value)) (state_two c.in-Two-self.field-0 (with_value c.in-Two-self.left c.pull-in-Ok-Needs-Left.new.self) c.in-Two-self.field-2) (subst (λ k. (on : List Pair) → Wanted2 k on c.in-Two.join c.asked_join.new.join) c.in-Ok-Needs-Left.field-0-0-is (subst (Turns2 c.in-Two.join c.asked_join.new.join) c.in-Ok-Needs-Left.field-0-is c.in-Ok-Needs-Left.ensures.turns).1) c.in-Err-pull-2.ensures.pulls

pub returns-in-Two-self-4-clause-heard : goal.returns-in-Two-self-4-clause-heard
returns-in-Two-self-4-clause-heard g t c = on_so c.passed_join-in-Ok-pull-2.result _ (right_heard (state_of c.args.self.now) _ c.in-Two.join c.asked_join.new.join c.in-Two-self-3.field-0 c.in-Two-self-4.join c.passed_join-in-Ok-pull-2.new.join (state_of c.in-Two.field-1.value) (state_of c.in-Two.field-2.value) (state_of c.in-Two-self-3.field-1.value) (state_of c.deref_mut-in-Ok-Needs-Right.result.now) (state_of c.pull-in-Ok-Needs-Right.new.self) (state_of c.in-Two-self-4.field-1.value) (state_of c.in-Two-self-4.field-2.value)
    (is_two c.args.self.now c.in-Two.join c.in-Two.field-1 c.in-Two.field-2 c.in-Two.is) (again_two c.asked_join.new.join c.in-Two-self-3.field-0 c.in-Two.field-1 c.in-Two.field-2 c.in-Two-self-3.field-1 c.in-Two-self-3.right c.in-Two-self-3.is ∙ ap (λ v. Two c.in-Two-self-3.field-0 (state_of c.in-Two-self-3.field-1.value) (state_of v)) (sym c.deref_mut-in-Ok-Needs-Right.ensures.value)) (state_two c.passed_join-in-Ok-pull-2.new.join c.in-Two-self-4.field-1 c.in-Two-self-4.field-2) (again_two c.in-Two-self-3.field-0 c.in-Two-self-4.join c.in-Two-self-3.field-1 (with_value c.in-Two-self-3.right c.pull-in-Ok-Needs-Right.new.self) c.in-Two-self-4.field-1 c.in-Two-self-4.field-2 c.in-Two-self-4.is) c.in-Ok-pull-2.ensures.heard)

pub returns-in-Two-self-4-clause-pulls : goal.returns-in-Two-self-4-clause-pulls
returns-in-Two-self-4-clause-pulls g t c =
    right_pulled (state_of c.args.self.now) _ c.in-Two.join c.asked_join.new.join c.in-Two-self-3.field-0 c.in-Two-self-4.join c.passed_join-in-Ok-pull-2.new.join (state_of c.in-Two.field-1.value) (state_of c.in-Two.field-2.value) (state_of c.in-Two-self-3.field-1.value) (state_of c.deref_mut-in-Ok-Needs-Right.result.now) (state_of c.pull-in-Ok-Needs-Right.new.self) (state_of c.in-Two-self-4.field-1.value) (state_of c.in-Two-self-4.field-2.value)
    (is_two c.args.self.now c.in-Two.join c.in-Two.field-1 c.in-Two.field-2 c.in-Two.is) (again_two c.asked_join.new.join c.in-Two-self-3.field-0 c.in-Two.field-1 c.in-Two.field-2 c.in-Two-self-3.field-1 c.in-Two-self-3.right c.in-Two-self-3.is ∙ ap (λ v. Two c.in-Two-self-3.field-0 (state_of c.in-Two-self-3.field-1.value) (state_of v)) (sym c.deref_mut-in-Ok-Needs-Right.ensures.value)) (state_two c.passed_join-in-Ok-pull-2.new.join c.in-Two-self-4.field-1 c.in-Two-self-4.field-2) (again_two c.in-Two-self-3.field-0 c.in-Two-self-4.join c.in-Two-self-3.field-1 (with_value c.in-Two-self-3.right c.pull-in-Ok-Needs-Right.new.self) c.in-Two-self-4.field-1 c.in-Two-self-4.field-2 c.in-Two-self-4.is)
    (g.P.Port.log c.args.port.now) (g.P.Port.log c.pull-in-Ok-Needs-Right.new.port) c.in-Ok-pull-2.got c.passed_join-in-Ok-pull-2.result (subst (λ k. (on : List Pair) → Wanted2 k on c.in-Two.join c.asked_join.new.join) c.in-Ok-Needs-Right.field-0-0-is (subst (Turns2 c.in-Two.join c.asked_join.new.join) c.in-Ok-Needs-Right.field-0-is c.in-Ok-Needs-Right.ensures.turns).1) c.passed_join-in-Ok-pull-2.ensures.passed c.in-Ok-pull-2.ensures.pulls

pub returns-in-Two-self-4-clause-falls : goal.returns-in-Two-self-4-clause-falls
returns-in-Two-self-4-clause-falls g t c =
    right_fell (state_of c.args.self.now) _ c.in-Two.join c.asked_join.new.join c.in-Two-self-3.field-0 c.in-Two-self-4.join c.passed_join-in-Ok-pull-2.new.join (state_of c.in-Two.field-1.value) (state_of c.in-Two.field-2.value) (state_of c.in-Two-self-3.field-1.value) (state_of c.deref_mut-in-Ok-Needs-Right.result.now) (state_of c.pull-in-Ok-Needs-Right.new.self) (state_of c.in-Two-self-4.field-1.value) (state_of c.in-Two-self-4.field-2.value)
    (is_two c.args.self.now c.in-Two.join c.in-Two.field-1 c.in-Two.field-2 c.in-Two.is) (again_two c.asked_join.new.join c.in-Two-self-3.field-0 c.in-Two.field-1 c.in-Two.field-2 c.in-Two-self-3.field-1 c.in-Two-self-3.right c.in-Two-self-3.is ∙ ap (λ v. Two c.in-Two-self-3.field-0 (state_of c.in-Two-self-3.field-1.value) (state_of v)) (sym c.deref_mut-in-Ok-Needs-Right.ensures.value)) (state_two c.passed_join-in-Ok-pull-2.new.join c.in-Two-self-4.field-1 c.in-Two-self-4.field-2)
    c.in-Ok-pull-2.got (subst (AskingFalls (joins.work c.in-Two.join) (joins.work c.asked_join.new.join)) c.in-Ok-Needs-Right.field-0-is c.in-Ok-Needs-Right.ensures.falls) c.asked_join.ensures.table (again_two c.in-Two-self-3.field-0 c.in-Two-self-4.join c.in-Two-self-3.field-1 (with_value c.in-Two-self-3.right c.pull-in-Ok-Needs-Right.new.self) c.in-Two-self-4.field-1 c.in-Two-self-4.field-2 c.in-Two-self-4.is) c.passed_join-in-Ok-pull-2.result c.in-Ok-pull-2.ensures.falls c.passed_join-in-Ok-pull-2.ensures.work c.passed_join-in-Ok-pull-2.ensures.becomes

pub returns-in-Err-pull-3-clause-pulls : goal.returns-in-Err-pull-3-clause-pulls
returns-in-Err-pull-3-clause-pulls g t c =
    right_failed (state_of c.args.self.now) _ c.in-Two.join c.asked_join.new.join c.in-Two-self-3.field-0 (state_of c.in-Two.field-1.value) (state_of c.in-Two.field-2.value) (state_of c.in-Two-self-3.field-1.value) (state_of c.deref_mut-in-Ok-Needs-Right.result.now) (state_of c.pull-in-Ok-Needs-Right.new.self) (g.P.Port.log c.args.port.now) (g.P.Port.log c.pull-in-Ok-Needs-Right.new.port) c.in-Err-pull-3.no
    (is_two c.args.self.now c.in-Two.join c.in-Two.field-1 c.in-Two.field-2 c.in-Two.is) (again_two c.asked_join.new.join c.in-Two-self-3.field-0 c.in-Two.field-1 c.in-Two.field-2 c.in-Two-self-3.field-1 c.in-Two-self-3.right c.in-Two-self-3.is ∙ ap (λ v. Two c.in-Two-self-3.field-0 (state_of c.in-Two-self-3.field-1.value) (state_of v)) (sym c.deref_mut-in-Ok-Needs-Right.ensures.value)) (state_two c.in-Two-self-3.field-0 c.in-Two-self-3.field-1 (with_value c.in-Two-self-3.right c.pull-in-Ok-Needs-Right.new.self)) (subst (λ k. (on : List Pair) → Wanted2 k on c.in-Two.join c.asked_join.new.join) c.in-Ok-Needs-Right.field-0-0-is (subst (Turns2 c.in-Two.join c.asked_join.new.join) c.in-Ok-Needs-Right.field-0-is c.in-Ok-Needs-Right.ensures.turns).1) c.in-Err-pull-3.ensures.pulls
