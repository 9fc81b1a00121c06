use Rattle.std.proofs.Common.{◌≡◌, ◌+◌, ◌++◌, ◌∷◌, [], List, length, map, Some, ap, sym, ◌∙◌, subst, arith, refl, append-nil}
use Rattle.std.specs.List.{AllByRecursion}
use Rattle.pl_tree.specs.declared.node.Plan.{Plan}
use Rattle.pl_tree.specs.Trees.{tree_in}
use Rattle.pl_tree.specs.Sizes.{IsPlan}
use Rattle.pl_plan.specs.declared.rule.PlanFault.{PlanFault}
use Rattle.pl_plan.specs.declared.sound.Judged.{Judged}
use Rattle.pl_plan.specs.Kept.{given_with, Refuses}
use Rattle.icq_top.specs.declared.stop.Stop.TheVariants.{Unsound}
use Rattle.icq_top.specs.Judging.{refusal_from, judged_by}
use Rattle.icq_top.proofs.FirstFaults.{one_judged, one_refused}
use Rattle.tb_load.proofs.Taking.{head_and_rest, moved_one}
use Rattle.icq_top.proofs.judging.judged.Goals as goal

pub checked-requires-clause-plan : goal.checked-requires-clause-plan
checked-requires-clause-plan c =
    let g = given_with c.args.schemas.now c.args.segments c.args.settings.now in
    let plan = c.remove-plan.result in
    let rest = c.remove-plan.new.self in
    let split : c.loop-alloc.left ≡ plan ∷ rest = head_and_rest c.loop-alloc.left rest plan c.remove-plan.ensures.item c.remove-plan.ensures.rest in
    (subst (AllByRecursion (λ p. IsPlan (tree_in p))) split c.loop-alloc.invariant.each).0

pub loop-alloc-preserved : goal.loop-alloc-preserved
loop-alloc-preserved c =
    let g = given_with c.args.schemas.now c.args.segments c.args.settings.now in
    let plan = c.remove-plan.result in
    let rest = c.remove-plan.new.self in
    let split : c.loop-alloc.left ≡ plan ∷ rest = head_and_rest c.loop-alloc.left rest plan c.remove-plan.ensures.item c.remove-plan.ensures.rest in
    record {
      together =
          ap (λ (l : List Judged). l ++ map (judged_by g) rest) c.in_ok-push-in-Ok.ensures.ok
          ∙ ap (λ (j : Judged). (c.loop-alloc.plans ++ j ∷ []) ++ map (judged_by g) rest) c.in-Ok.ensures.ok
          ∙ moved_one (judged_by g) c.loop-alloc.plans plan rest c.args.queries (ap (λ (l : List Plan). c.loop-alloc.plans ++ map (judged_by g) l) (sym split) ∙ c.loop-alloc.invariant.together);
      refusals =
          one_judged g c.args.queries (c.loop-alloc.query + 1) plan rest (c.loop-alloc.invariant.refusals ∙ ap (refusal_from g (c.loop-alloc.query + 1)) split) c.in-Ok.ensures.sound;
      each = (subst (AllByRecursion (λ p. IsPlan (tree_in p))) split c.loop-alloc.invariant.each).1;
      count = omega (arith, c.loop-alloc.invariant.count, ap length split);
    }

pub returns-in-Err-Fault : goal.returns-in-Err-Fault
returns-in-Err-Fault c =
    let g = given_with c.args.schemas.now c.args.segments c.args.settings.now in
    let plan = c.remove-plan.result in
    let rest = c.remove-plan.new.self in
    let split : c.loop-alloc.left ≡ plan ∷ rest = head_and_rest c.loop-alloc.left rest plan c.remove-plan.ensures.item c.remove-plan.ensures.rest in
    one_refused g c.args.queries (c.loop-alloc.query + 1) plan rest c.in-Err-Fault.fault (c.loop-alloc.invariant.refusals ∙ ap (refusal_from g (c.loop-alloc.query + 1)) split)
    (subst (Refuses g (tree_in plan)) c.in-Err-Fault.field-0-is c.in-Err-Fault.ensures.fault)
    ∙ ap (λ (f : PlanFault). Some (Unsound (c.loop-alloc.query + 1) f)) (sym c.in-Err-Fault.fault-is)

pub returns : goal.returns
returns c =
    let g = given_with c.args.schemas.now c.args.segments c.args.settings.now in
    let nil : c.loop-alloc.left ≡ [] = c.loop-alloc-test.ensures.0 refl in (
      sym (append-nil c.loop-alloc.plans) ∙ ap (λ (l : List Plan). c.loop-alloc.plans ++ map (judged_by g) l) (sym nil) ∙ c.loop-alloc.invariant.together,
      c.loop-alloc.invariant.refusals ∙ ap (refusal_from g (c.loop-alloc.query + 1)) nil,
    )
