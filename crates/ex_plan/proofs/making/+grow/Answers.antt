use Rattle.std.proofs.Common.{◌≡◌, ◌+◌, ℕ, false, refl, ap, sym, subst, ◌∙◌, arith}
use Rattle.std.specs.Prelude.{None, Ok}
use Rattle.std.specs.declared.alloc.AllocError.{AllocError}
use Rattle.pl_tree.specs.Trees.{Single, Partial, Final, staged, tree_of, nodes_in, motions_in}
use Rattle.pl_tree.specs.Sizes.{HasSizes}
use Rattle.pl_tree.specs.Partials.{partial_under}
use Rattle.pl_plan.specs.Motions.{motions_of}
use Rattle.ex_tree.specs.Parts.{Filters, Projects, Limits, Sorts, Groups}
use Rattle.ex_tree.specs.Running.{state_of}
use Rattle.ex_tree.specs.Plans.{part_of, final_at}
use Rattle.ex_plan.specs.Workers.{site_of, place_of, gang_in, Starts}
use Rattle.ex_plan.specs.Fitting.{HavePartials, IsKnown, AreKnown}
use Rattle.ex_plan.proofs.Nodes.{at_filter, at_project, at_limit, at_sort, at_join, at_gather, at_redistribute, at_broadcast}
use Rattle.ex_plan.proofs.Sources.{sides_apart}
use Rattle.ex_plan.proofs.Starting.{grown, grown_join, grown_motion, all_split, joined_starts}
use Rattle.ex_plan.proofs.making.+grow.Goals as goal

pub grow-returns-in-Filter : goal.grow-returns-in-Filter
grow-returns-in-Filter t c =
    let s = site_of c.args.plan.now c.args.rows.now in
    let p = place_of c.args.id.now in
    let is = at_filter c.args.node.now c.in-Filter.child c.get.result.now c.get.ensures c.in-Filter.test c.in-Filter.test c.in-Filter.is refl in
    grown c.grow_over.result c.filter_op-op.result state_of s p c.args.number c.args.motion (Filters c.in-Filter.test) (tree_of c.args.node.now) (tree_of c.get.result.now) (ap (part_of s p c.args.number c.args.motion) is) c.filter_op-op.ensures c.grow_over.ensures

pub grow-returns-in-Project : goal.grow-returns-in-Project
grow-returns-in-Project t c =
    let s = site_of c.args.plan.now c.args.rows.now in
    let p = place_of c.args.id.now in
    let is = at_project c.args.node.now c.in-Project.child c.get-in-Project.result.now c.get-in-Project.ensures c.in-Project.columns c.as_slice.result.now c.in-Project.is c.as_slice.ensures in
    grown c.grow_over-in-Project.result c.project_op-op.result state_of s p c.args.number c.args.motion (Projects c.as_slice.result.now) (tree_of c.args.node.now) (tree_of c.get-in-Project.result.now) (ap (part_of s p c.args.number c.args.motion) is) c.project_op-op.ensures c.grow_over-in-Project.ensures

pub grow-returns-in-Limit : goal.grow-returns-in-Limit
grow-returns-in-Limit t c =
    let s = site_of c.args.plan.now c.args.rows.now in
    let p = place_of c.args.id.now in
    let is = at_limit c.args.node.now c.in-Limit.child c.get-in-Limit.result.now c.get-in-Limit.ensures c.in-Limit.count c.in-Limit.count c.in-Limit.is refl in
    grown {F = AllocError} c.grow_over-in-Limit.result (Ok c.limit_op.result) state_of s p c.args.number c.args.motion (Limits c.in-Limit.count) (tree_of c.args.node.now) (tree_of c.get-in-Limit.result.now) (ap (part_of s p c.args.number c.args.motion) is) c.limit_op.ensures c.grow_over-in-Limit.ensures

pub grow-returns-in-Sort : goal.grow-returns-in-Sort
grow-returns-in-Sort t c =
    let s = site_of c.args.plan.now c.args.rows.now in
    let p = place_of c.args.id.now in
    let is = at_sort c.args.node.now c.in-Sort.child c.get-in-Sort.result.now c.get-in-Sort.ensures c.in-Sort.keys c.as_slice-in-Sort.result.now c.in-Sort.is c.as_slice-in-Sort.ensures in
    grown c.grow_over-in-Sort.result c.sort_op-op.result state_of s p c.args.number c.args.motion (Sorts c.as_slice-in-Sort.result.now) (tree_of c.args.node.now) (tree_of c.get-in-Sort.result.now) (ap (part_of s p c.args.number c.args.motion) is) c.sort_op-op.ensures c.grow_over-in-Sort.ensures

pub grow-grow_join-requires : goal.grow-grow_join-requires
grow-grow_join-requires t c =
    let l = tree_of c.get-left.result.now in
    let r = tree_of c.get-right.result.now in
    let is = at_join c.args.node.now c.in-Join.left c.in-Join.right c.get-left.result.now c.get-right.result.now c.in-Join.pairs c.in-Join.pairs c.get-left.ensures c.get-right.ensures c.in-Join.is refl in
    let sizes = subst HasSizes is c.requires.sizes in
    let partials = subst HavePartials is c.requires.partials in
    let nodes = ap nodes_in is in
    let motions = ap motions_in is in
    let j = c.args.plan.now in
    let slice : ℕ = c.args.id.now.slice in
    let known = all_split (IsKnown j) (motions_of j.schemas j.segments slice (gang_in j slice) c.args.motion l) (motions_of j.schemas j.segments slice (gang_in j slice) (c.args.motion + motions_in l) r) (subst (AreKnown j slice c.args.motion) is c.requires.known) in
    (omega (arith, nodes, c.decreases), (sizes.0, (sizes.1, (partials.0, (partials.1, (omega (arith, nodes, c.requires.numbers), (omega (arith, motions, c.requires.motions), (known.0, known.1))))))))

pub grow-returns-in-Join : goal.grow-returns-in-Join
grow-returns-in-Join t c =
    let s = site_of c.args.plan.now c.args.rows.now in
    let p = place_of c.args.id.now in
    let l = tree_of c.get-left.result.now in
    let r = tree_of c.get-right.result.now in
    let is = at_join c.args.node.now c.in-Join.left c.in-Join.right c.get-left.result.now c.get-right.result.now c.in-Join.pairs c.as_slice-pairs.result.now c.get-left.ensures c.get-right.ensures c.in-Join.is c.as_slice-pairs.ensures in
    grown_join c.grow_join.result state_of s p c.args.number c.args.motion c.as_slice-pairs.result.now (tree_of c.args.node.now) l r is c.grow_join.ensures

pub grow-returns-in-Gather : goal.grow-returns-in-Gather
grow-returns-in-Gather t c =
    let p = place_of c.args.id.now in
    let is = at_gather c.args.node.now c.in-Gather.child c.get-in-Gather.result.now c.get-in-Gather.ensures c.in-Gather.order c.in-Gather.order c.in-Gather.is refl in
    grown_motion c.hear_in_order.result state_of (site_of c.args.plan.now) c.args.rows.now p c.args.number c.args.motion c.in-Gather.order (tree_of c.args.node.now) (tree_of c.get-in-Gather.result.now) (ap (part_of (site_of c.args.plan.now c.args.rows.now) p c.args.number c.args.motion) is) c.hear_in_order.ensures

pub grow-returns-in-Redistribute : goal.grow-returns-in-Redistribute
grow-returns-in-Redistribute t c =
    let p = place_of c.args.id.now in
    let is = at_redistribute c.args.node.now c.in-Redistribute.child c.get-in-Redistribute.result.now c.get-in-Redistribute.ensures c.in-Redistribute.keys c.in-Redistribute.keys c.in-Redistribute.is refl in
    grown_motion c.hear.result state_of (site_of c.args.plan.now) c.args.rows.now p c.args.number c.args.motion None (tree_of c.args.node.now) (tree_of c.get-in-Redistribute.result.now) (ap (part_of (site_of c.args.plan.now c.args.rows.now) p c.args.number c.args.motion) is) c.hear.ensures

pub grow-returns-in-Broadcast : goal.grow-returns-in-Broadcast
grow-returns-in-Broadcast t c =
    let p = place_of c.args.id.now in
    let is = at_broadcast c.args.node.now c.in-Broadcast.child c.get-in-Broadcast.result.now c.get-in-Broadcast.ensures c.in-Broadcast.is in
    grown_motion c.hear-in-Broadcast.result state_of (site_of c.args.plan.now) c.args.rows.now p c.args.number c.args.motion None (tree_of c.args.node.now) (tree_of c.get-in-Broadcast.result.now) (ap (part_of (site_of c.args.plan.now c.args.rows.now) p c.args.number c.args.motion) is) c.hear-in-Broadcast.ensures

pub grow_join-returns : goal.grow_join-returns
grow_join-returns t c =
    let s = site_of c.args.plan.now c.args.rows.now in
    let p = place_of c.args.id.now in
    let l = tree_of c.args.left.now in
    let r = tree_of c.args.right.now in
    let next = c.args.motion + motions_in l in
    let behind = c.args.number + nodes_in l in
    joined_starts c.joined.result state_of c.in_ok-join.join (state_of c.in_ok-first.first) (state_of c.in_ok-second.second) c.args.pairs.now (part_of s p c.args.number c.args.motion l) (part_of s p behind next r)
    (sides_apart s p c.args.number behind c.args.motion l r) c.in_ok-join.ensures c.in_ok-first.ensures
    (subst (λ k. Starts (part_of s p (c.args.number + nodes_in l) k r) (state_of c.in_ok-second.second)) (ap (λ k. c.args.motion + k) c.motions.ensures)
    (subst (λ k. Starts (part_of s p k (c.args.motion + c.motions.result) r) (state_of c.in_ok-second.second)) (ap (λ k. c.args.number + k) c.nodes.ensures) c.in_ok-second.ensures)) c.joined.ensures

pub grow_stage-returns-in-Single : goal.grow_stage-returns-in-Single
grow_stage-returns-in-Single t c =
    let s = site_of c.args.plan.now c.args.rows.now in
    let p = place_of c.args.id.now in
    let child = tree_of c.args.child.now in
    let is : staged c.args.stage.now child ≡ Single c.as_slice-group.result.now c.as_slice-calls.result.now child = ap (λ x. staged x child) c.in-Single.is ∙ ap (λ x. Single x c.in-Single.calls child) (sym c.as_slice-group.ensures) ∙ ap (λ x. Single c.as_slice-group.result.now x child) (sym c.as_slice-calls.ensures) in
    grown c.grow_over.result c.agg_op-op.result state_of s p c.args.number c.args.motion (Groups c.args.number false c.as_slice-group.result.now c.as_slice-calls.result.now) (staged c.args.stage.now child) child (ap (part_of s p c.args.number c.args.motion) is) c.agg_op-op.ensures c.grow_over.ensures

pub grow_stage-returns-in-Partial : goal.grow_stage-returns-in-Partial
grow_stage-returns-in-Partial t c =
    let s = site_of c.args.plan.now c.args.rows.now in
    let p = place_of c.args.id.now in
    let child = tree_of c.args.child.now in
    let is : staged c.args.stage.now child ≡ Partial c.as_slice-group-in-Partial.result.now c.as_slice-calls-in-Partial.result.now child = ap (λ x. staged x child) c.in-Partial.is ∙ ap (λ x. Partial x c.in-Partial.calls child) (sym c.as_slice-group-in-Partial.ensures) ∙ ap (λ x. Partial c.as_slice-group-in-Partial.result.now x child) (sym c.as_slice-calls-in-Partial.ensures) in
    grown c.grow_over-in-Partial.result c.agg_op-op-in-Partial.result state_of s p c.args.number c.args.motion (Groups c.args.number false c.as_slice-group-in-Partial.result.now c.as_slice-calls-in-Partial.result.now) (staged c.args.stage.now child) child (ap (part_of s p c.args.number c.args.motion) is) c.agg_op-op-in-Partial.ensures c.grow_over-in-Partial.ensures

pub grow_stage-returns-in-Final : goal.grow_stage-returns-in-Final
grow_stage-returns-in-Final t c =
    let s = site_of c.args.plan.now c.args.rows.now in
    let p = place_of c.args.id.now in
    let child = tree_of c.args.child.now in
    let is : staged c.args.stage.now child ≡ Final child = ap (λ x. staged x child) c.in-Final.is in
    grown c.grow_over-in-Final.result c.final_op-op.result state_of s p c.args.number c.args.motion (final_at c.args.number (partial_under child)) (staged c.args.stage.now child) child (ap (part_of s p c.args.number c.args.motion) is) c.final_op-op.ensures c.grow_over-in-Final.ensures
