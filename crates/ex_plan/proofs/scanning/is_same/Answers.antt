use Rattle.std.proofs.Common.{rules}
use Rattle.pl_tree.proofs.TextLemmas.{decides}
use Rattle.ex_plan.proofs.scanning.is_same.Goals as goal

pub returns : goal.returns
returns c = decides c.args.a.now c.args.b.now c.eq.result (search rules)
