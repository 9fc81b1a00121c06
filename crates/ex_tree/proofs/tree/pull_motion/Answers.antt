use Rattle.std.proofs.Common.{subst, sym}
use Rattle.ex_tree.specs.Running.{Ears}
use Rattle.ex_tree.specs.Pulling.{PullsAny}
use Rattle.ex_tree.proofs.Leaves.{leaf_pulls}
use Rattle.ex_tree.proofs.tree.pull_motion.Goals as goal

pub returns-clause-pulls : goal.returns-clause-pulls
returns-clause-pulls g c =
    subst (PullsAny (Ears c.args.motion.now) (Ears c.pull.new.self) (g.P.Port.log c.args.port.now) (g.P.Port.log c.pull.new.port)) (sym c.tree_result.ensures)
    (leaf_pulls c.args.motion.now c.pull.new.self (g.P.Port.log c.args.port.now) (g.P.Port.log c.pull.new.port) c.pull.result c.pull.ensures.same c.pull.ensures.senders c.pull.ensures.refused c.pull.ensures.pulls)
