use Rattle.std.proofs.Common.{◌-◌, ◌∙◌, sym, ap, subst, arith}
use Rattle.std.specs.Prelude.{Some, None}
use Rattle.pl_runs.specs.Slices.{route_at}
use Rattle.ic_motion.specs.Hearing.{Ascends}
use Rattle.ic_motion.specs.Sending.{route_by}
use Rattle.ex_plan.specs.Sending.{kind_of, kind_at, AreReceivers}
use Rattle.ex_plan.specs.Fitting.{spot_of}
use Rattle.ex_plan.proofs.Tops.{in_plan, found_there, plan_spot, few_motions, above_low, receivers_up, are_receivers, route_is}
use Rattle.ex_plan.proofs.sends.sends_of.Goals as goal

pub find-requires-clause-motions : goal.find-requires-clause-motions
find-requires-clause-motions c = omega (arith, few_motions c.args.plan.now c.plan.result.now c.is_judged.ensures c.plan.ensures)

pub unreachable-requires : goal.unreachable-requires
unreachable-requires c =
    let j = c.args.plan.now in
    found_there j c.is_judged.ensures c.args.slice c.requires.least c.requires.slice (plan_spot c.plan.result.now j.plan (c.args.slice - 1) None c.plan.ensures c.in-None.ensures)

pub gang-requires : goal.gang-requires
gang-requires c =
    let j = c.args.plan.now in
    let spot = spot_of c.in-Some.found in
    let e = plan_spot c.plan.result.now j.plan (c.args.slice - 1) (Some spot) c.plan.ensures c.in-Some.ensures in
    above_low j c.is_judged.ensures c.args.slice spot c.requires.least c.requires.slice e

pub returns-clause-kind : goal.returns-clause-kind
returns-clause-kind c =
    let j = c.args.plan.now in
    let spot = spot_of c.in-Some.found in
    let e = plan_spot c.plan.result.now j.plan (c.args.slice - 1) (Some spot) c.plan.ensures c.in-Some.ensures in
    let h = in_plan j c.is_judged.ensures c.args.slice spot c.requires.least e in
    c.in_ok-kind_of-in-Some.ensures ∙ ap kind_at (sym h.node_is)

pub returns-clause-route : goal.returns-clause-route
returns-clause-route c =
    let j = c.args.plan.now in
    let spot = spot_of c.in-Some.found in
    let e = plan_spot c.plan.result.now j.plan (c.args.slice - 1) (Some spot) c.plan.ensures c.in-Some.ensures in
    let h = in_plan j c.is_judged.ensures c.args.slice spot c.requires.least e in
    ap route_by c.in_ok-kind_of-in-Some.ensures ∙ route_is spot.node ∙ ap route_at (sym h.node_is)

pub returns-clause-ascend : goal.returns-clause-ascend
returns-clause-ascend c =
    let j = c.args.plan.now in
    let spot = spot_of c.in-Some.found in
    let e = plan_spot c.plan.result.now j.plan (c.args.slice - 1) (Some spot) c.plan.ensures c.in-Some.ensures in
    subst Ascends (sym c.in_ok-gang-in-Some.ensures) (receivers_up j c.is_judged.ensures c.args.slice spot c.requires.least c.requires.slice e)

pub returns-clause-receivers : goal.returns-clause-receivers
returns-clause-receivers c =
    let j = c.args.plan.now in
    let spot = spot_of c.in-Some.found in
    let e = plan_spot c.plan.result.now j.plan (c.args.slice - 1) (Some spot) c.plan.ensures c.in-Some.ensures in
    subst (λ k. AreReceivers j c.args.slice k c.in_ok-gang-in-Some.field-0) (sym c.in_ok-kind_of-in-Some.ensures)
    (subst (AreReceivers j c.args.slice (kind_of spot.node)) (sym c.in_ok-gang-in-Some.ensures) (are_receivers j c.is_judged.ensures c.args.slice spot c.requires.least e))
