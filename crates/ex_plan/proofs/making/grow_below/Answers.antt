use Rattle.std.proofs.Common.{◌+◌, ◌-◌, ◌≤◌, sym, subst, arith}
use Rattle.std.specs.Prelude.{Some, None}
use Rattle.pl_tree.specs.Trees.{tree_of, nodes_in, motions_in}
use Rattle.pl_tree.specs.Sizes.{HasSizes}
use Rattle.pl_tree.specs.Loci.{locus_of}
use Rattle.pl_plan.specs.Motions.{gang_at}
use Rattle.pl_runs.specs.Slices.{below_motion}
use Rattle.ex_tree.specs.Running.{state_of}
use Rattle.ex_tree.specs.Plans.{part_of}
use Rattle.ex_plan.specs.Workers.{site_of, place_of, part_for, Starts}
use Rattle.ex_plan.specs.Fitting.{HavePartials, AreKnown, spot_of}
use Rattle.ex_plan.proofs.Known.{are_known}
use Rattle.ex_plan.proofs.Starting.{if_ok}
use Rattle.ex_plan.proofs.Tops.{in_plan, found_there, part_below, plan_spot, few_motions}
use Rattle.ex_plan.proofs.making.grow_below.Goals as goal

pub find-requires-clause-motions : goal.find-requires-clause-motions
find-requires-clause-motions c = omega (arith, few_motions c.args.plan.now c.plan.result.now c.is_judged.ensures c.plan.ensures)

pub below-top-requires : goal.below-top-requires
below-top-requires c =
    let j = c.args.plan.now in
    let spot = spot_of c.in-Some.found in
    let e = plan_spot c.plan.result.now j.plan (c.args.id.now.slice - 1) (Some spot) c.plan.ensures c.in-Some.ensures in
    let h = in_plan j c.is_judged.ensures c.args.id.now.slice spot c.requires.least e in
    h.is_motion

pub overflow_add-number : goal.overflow_add-number
overflow_add-number c =
    let j = c.args.plan.now in
    let spot = spot_of c.in-Some.found in
    let e = plan_spot c.plan.result.now j.plan (c.args.id.now.slice - 1) (Some spot) c.plan.ensures c.in-Some.ensures in
    let h = in_plan j c.is_judged.ensures c.args.id.now.slice spot c.requires.least e in
    let k = h.nodes in omega (arith, k)

pub overflow_add-id : goal.overflow_add-id
overflow_add-id c =
    let j = c.args.plan.now in
    let spot = spot_of c.in-Some.found in
    let e = plan_spot c.plan.result.now j.plan (c.args.id.now.slice - 1) (Some spot) c.plan.ensures c.in-Some.ensures in
    let h = in_plan j c.is_judged.ensures c.args.id.now.slice spot c.requires.least e in
    let k = h.motions in omega (arith, k)

pub grow-requires-clause-sizes : goal.grow-requires-clause-sizes
grow-requires-clause-sizes c =
    let j = c.args.plan.now in
    let spot = spot_of c.in-Some.found in
    let e = plan_spot c.plan.result.now j.plan (c.args.id.now.slice - 1) (Some spot) c.plan.ensures c.in-Some.ensures in
    let h = in_plan j c.is_judged.ensures c.args.id.now.slice spot c.requires.least e in
    subst HasSizes (sym c.below-top.ensures) h.sizes

pub grow-requires-clause-partials : goal.grow-requires-clause-partials
grow-requires-clause-partials c =
    let j = c.args.plan.now in
    let spot = spot_of c.in-Some.found in
    let e = plan_spot c.plan.result.now j.plan (c.args.id.now.slice - 1) (Some spot) c.plan.ensures c.in-Some.ensures in
    let h = in_plan j c.is_judged.ensures c.args.id.now.slice spot c.requires.least e in
    subst HavePartials (sym c.below-top.ensures) h.partials

pub grow-requires-clause-numbers : goal.grow-requires-clause-numbers
grow-requires-clause-numbers c =
    let j = c.args.plan.now in
    let spot = spot_of c.in-Some.found in
    let e = plan_spot c.plan.result.now j.plan (c.args.id.now.slice - 1) (Some spot) c.plan.ensures c.in-Some.ensures in
    let h = in_plan j c.is_judged.ensures c.args.id.now.slice spot c.requires.least e in
    subst (λ t. c.in-Some.found.number + 1 + nodes_in t ≤ 64) (sym c.below-top.ensures) h.nodes

pub grow-requires-clause-motions : goal.grow-requires-clause-motions
grow-requires-clause-motions c =
    let j = c.args.plan.now in
    let spot = spot_of c.in-Some.found in
    let e = plan_spot c.plan.result.now j.plan (c.args.id.now.slice - 1) (Some spot) c.plan.ensures c.in-Some.ensures in
    let h = in_plan j c.is_judged.ensures c.args.id.now.slice spot c.requires.least e in
    subst (λ t. c.args.id.now.slice + 1 + motions_in t ≤ 65) (sym c.below-top.ensures) h.motions

pub grow-requires-clause-known : goal.grow-requires-clause-known
grow-requires-clause-known c =
    let j = c.args.plan.now in
    let spot = spot_of c.in-Some.found in
    let e = plan_spot c.plan.result.now j.plan (c.args.id.now.slice - 1) (Some spot) c.plan.ensures c.in-Some.ensures in
    let h = in_plan j c.is_judged.ensures c.args.id.now.slice spot c.requires.least e in
    subst (AreKnown j c.args.id.now.slice (c.args.id.now.slice + 1)) (sym c.below-top.ensures)
    (are_known j c.args.id.now.slice (c.args.id.now.slice + 1) (gang_at j.segments (locus_of j.schemas (below_motion (Some spot.node)))) (below_motion (Some spot.node)) h.stands)

pub unreachable-requires : goal.unreachable-requires
unreachable-requires c =
    let j = c.args.plan.now in
    found_there j c.is_judged.ensures c.args.id.now.slice c.requires.least c.requires.slice (plan_spot c.plan.result.now j.plan (c.args.id.now.slice - 1) None c.plan.ensures c.in-None.ensures)

pub returns : goal.returns
returns c =
    let j = c.args.plan.now in
    let spot = spot_of c.in-Some.found in
    let e = plan_spot c.plan.result.now j.plan (c.args.id.now.slice - 1) (Some spot) c.plan.ensures c.in-Some.ensures in
    let top = tree_of c.below-top.result.now in
    let part = part_of (site_of j c.args.rows.now) (place_of c.args.id.now) (c.in-Some.found.number + 1) (c.args.id.now.slice + 1) top in
    if_ok c.grow.result (λ t. Starts part (state_of t)) (λ t. Starts (part_for j c.args.rows.now c.args.id.now) (state_of t)) c.grow.ensures
    (λ t f. subst (λ w. Starts w (state_of t)) (part_below j c.is_judged.ensures c.args.rows.now c.args.id.now spot top c.requires.least e c.below-top.ensures) f)
