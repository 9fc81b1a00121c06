use Rattle.std.proofs.Common.{subst, Ok}
use Rattle.ex_tree.specs.Pulling.{PullsAny}
use Rattle.ex_tree.proofs.Nodes.{refuse_row}
use Rattle.ex_tree.proofs.tree.passed.Goals as goal

pub returns-in-Err-clause-passed : goal.returns-in-Err-clause-passed
returns-in-Err-clause-passed c x y log now was w v =
    refuse_row c.args.op.now c.give.new.self x y log now was w c.in-Row.row c.in-Err.no c.in-Err.ensures.refuses (subst (λ g. PullsAny x y log now (Ok g)) c.in-Row.is v)
