use Rattle.std.proofs.Common.{rules, ◌≡◌, ap, subst, ◌∙◌}
use Rattle.pl_plan.specs.Walking as spec
use Rattle.pl_plan.proofs.grouping.aggregate.Goals as goal

pub returns : goal.returns
returns c =
    let f = c.in_ok-aggregate_facts.field-0 in
    let e : f ≡ spec.aggregate_facts c.args.group.now c.args.calls.now c.args.child = search rules in
    let r : c.aggregate_rule-rule.result ≡ spec.aggregate_rule c.args.rule c.args.child.kinds c.args.group.now c.args.calls.now = c.aggregate_rule-rule.ensures ∙ ap (λ k. spec.aggregate_rule c.args.rule k c.args.group.now c.args.calls.now) c.as_slice.ensures in
    subst (λ x. spec.Gives c.settle.result (spec.settled (spec.aggregate_rule c.args.rule c.args.child.kinds c.args.group.now c.args.calls.now) c.args.up c.args.number x)) e (subst (λ o. spec.Gives c.settle.result (spec.settled o c.args.up c.args.number f)) r c.settle.ensures)
