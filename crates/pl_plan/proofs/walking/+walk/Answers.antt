use Rattle.std.proofs.Common.{rules, ◌≡◌, ◌+◌, ◌≤◌, sym, ◌∙◌, arith}
use Rattle.std.specs.Prelude.{Ok}
use Rattle.pl_tree.specs.Trees.{tree_of, nodes_in}
use Rattle.pl_plan.specs.Above.{other}
use Rattle.pl_plan.specs.Walking.{walked}
use Rattle.pl_plan.proofs.Bounds.{left_next, left_wide, right_low}
use Rattle.pl_plan.proofs.walking.+walk.Goals as goal

pub walk_join-walk-requires-2 : goal.walk_join-walk-requires-2
walk_join-walk-requires-2 t c =
    let e : walked c.args.schemas.now other (c.args.number + 1) (tree_of c.args.left.now) ≡ Ok c.in_ok-left.left = search rules in
    (search rules, (c.requires.tables, (c.requires.right_sizes, omega (arith, left_next c.args.schemas.now (tree_of c.args.left.now) (c.args.number + 1) c.in_ok-left.left e, c.requires.nodes))))

pub walk_join-join-requires-clause-width : goal.walk_join-join-requires-clause-width
walk_join-join-requires-clause-width t c =
    let e : walked c.args.schemas.now other (c.args.number + 1) (tree_of c.args.left.now) ≡ Ok c.in_ok-left.left = search rules in
    omega (arith, left_wide c.args.schemas.now (tree_of c.args.left.now) (c.args.number + 1) c.in_ok-left.left c.requires.tables c.requires.left_sizes (omega (arith, c.requires.nodes)) e)

pub walk_join-join-requires-clause-within : goal.walk_join-join-requires-clause-within
walk_join-join-requires-clause-within t c =
    let e : walked c.args.schemas.now other (c.args.number + 1) (tree_of c.args.left.now) ≡ Ok c.in_ok-left.left = search rules in
    let f : walked c.args.schemas.now other c.in_ok-left.left.next (tree_of c.args.right.now) ≡ Ok c.in_ok-right.right = search rules in
    right_low c.args.schemas.now (tree_of c.args.right.now) c.in_ok-left.left.next _ c.in_ok-right.right c.requires.tables c.requires.right_sizes (omega (arith, c.requires.nodes)) (left_wide c.args.schemas.now (tree_of c.args.left.now) (c.args.number + 1) c.in_ok-left.left c.requires.tables c.requires.left_sizes (omega (arith, c.requires.nodes)) e) f
