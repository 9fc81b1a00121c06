use Rattle.std.proofs.Common.{◌+◌, ◌-◌, ◌∙◌, refl, ap, arith}
use Rattle.std.specs.Prelude.{slice_get}
use Rattle.std.specs.Option.{option_map}
use Rattle.pl_tree.specs.Trees.{tree_of, Gather, Redistribute, Broadcast, nodes_in, motions_in}
use Rattle.ex_plan.specs.Spots.{Spot, spots}
use Rattle.ex_plan.specs.Fitting.{spot_of}
use Rattle.ex_plan.proofs.Nodes.{at_join, at_gather, at_redistribute, at_broadcast}
use Rattle.ex_plan.proofs.Spotted.{found_left, found_right, found_below}
use Rattle.ex_plan.proofs.finding.+find.Goals as goal

pub returns-then-skip-passed : goal.returns-then-skip-passed
returns-then-skip-passed t c =
    let l = tree_of c.in-Join.left in
    let is = at_join c.args.node.now c.in-Join.left c.in-Join.right c.in-Join.left c.in-Join.right c.in-Join.pairs c.in-Join.pairs refl refl c.in-Join.is refl in
    let passed = c.motions-passed.ensures ∙ ap (λ x. motions_in (tree_of x)) c.get-in-Join.ensures in
    found_left (option_map spot_of c.find-then-skip-passed.result) c.args.slice c.args.number c.args.next c.args.skip c.in-Join.pairs l (tree_of c.in-Join.right) (tree_of c.args.node.now) is (omega (arith, passed, c.if-skip-passed.true))
    (c.find-then-skip-passed.ensures ∙ ap (λ x. slice_get (spots c.args.slice (c.args.number + 1) c.args.next (tree_of x)) c.args.skip) c.get-then-skip-passed.ensures)

pub returns-else-skip-passed : goal.returns-else-skip-passed
returns-else-skip-passed t c =
    let is = at_join c.args.node.now c.in-Join.left c.in-Join.right c.in-Join.left c.in-Join.right c.in-Join.pairs c.in-Join.pairs refl refl c.in-Join.is refl in
    let passed = c.motions-passed.ensures ∙ ap (λ x. motions_in (tree_of x)) c.get-in-Join.ensures in
    let behind = c.nodes.ensures ∙ ap (λ x. nodes_in (tree_of x)) c.get-else-skip-passed.ensures in
    found_right (option_map spot_of c.find-else-skip-passed.result) c.args.slice c.args.number c.args.next c.args.skip c.nodes.result c.motions-passed.result c.in-Join.pairs (tree_of c.in-Join.left) (tree_of c.in-Join.right) (tree_of c.args.node.now) is behind passed c.if-skip-passed.false
    (c.find-else-skip-passed.ensures ∙ ap (λ x. slice_get (spots c.args.slice (c.args.number + 1 + c.nodes.result) (c.args.next + c.motions-passed.result) (tree_of x)) (c.args.skip - c.motions-passed.result)) c.get-else-skip-passed-2.ensures)

pub returns-else-skip-eq0 : goal.returns-else-skip-eq0
returns-else-skip-eq0 t c =
    let child = tree_of c.in-Gather.child in
    let is = at_gather c.args.node.now c.in-Gather.child c.in-Gather.child refl c.in-Gather.order c.in-Gather.order c.in-Gather.is refl in
    let first : Spot = record { node = Gather c.in-Gather.order child; number = c.args.number; above = c.args.slice } in
    found_below (option_map spot_of c.find-in-Gather.result) c.args.slice c.args.number c.args.next c.args.skip first (tree_of c.args.node.now) child (ap (spots c.args.slice c.args.number c.args.next) is) c.if-skip-eq0.false
    (c.find-in-Gather.ensures ∙ ap (λ x. slice_get (spots c.args.next (c.args.number + 1) (c.args.next + 1) (tree_of x)) (c.args.skip - 1)) c.get-in-Gather.ensures)

pub returns-else-skip-eq0-2 : goal.returns-else-skip-eq0-2
returns-else-skip-eq0-2 t c =
    let child = tree_of c.in-Redistribute.child in
    let is = at_redistribute c.args.node.now c.in-Redistribute.child c.in-Redistribute.child refl c.in-Redistribute.keys c.in-Redistribute.keys c.in-Redistribute.is refl in
    let first : Spot = record { node = Redistribute c.in-Redistribute.keys child; number = c.args.number; above = c.args.slice } in
    found_below (option_map spot_of c.find-in-Redistribute.result) c.args.slice c.args.number c.args.next c.args.skip first (tree_of c.args.node.now) child (ap (spots c.args.slice c.args.number c.args.next) is) c.if-skip-eq0-2.false
    (c.find-in-Redistribute.ensures ∙ ap (λ x. slice_get (spots c.args.next (c.args.number + 1) (c.args.next + 1) (tree_of x)) (c.args.skip - 1)) c.get-in-Redistribute.ensures)

pub returns-else-skip-eq0-3 : goal.returns-else-skip-eq0-3
returns-else-skip-eq0-3 t c =
    let child = tree_of c.in-Broadcast.child in
    let is = at_broadcast c.args.node.now c.in-Broadcast.child c.in-Broadcast.child refl c.in-Broadcast.is in
    let first : Spot = record { node = Broadcast child; number = c.args.number; above = c.args.slice } in
    found_below (option_map spot_of c.find-in-Broadcast.result) c.args.slice c.args.number c.args.next c.args.skip first (tree_of c.args.node.now) child (ap (spots c.args.slice c.args.number c.args.next) is) c.if-skip-eq0-3.false
    (c.find-in-Broadcast.ensures ∙ ap (λ x. slice_get (spots c.args.next (c.args.number + 1) (c.args.next + 1) (tree_of x)) (c.args.skip - 1)) c.get-in-Broadcast.ensures)
