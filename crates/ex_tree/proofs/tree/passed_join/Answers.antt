use Rattle.ex_tree.proofs.Joints.{side_row, side_step, side_more, side_wait, side_end}
use Rattle.ex_tree.proofs.tree.passed_join.Goals as goal

pub returns-in-Ok-clause-passed : goal.returns-in-Ok-clause-passed
returns-in-Ok-clause-passed c = side_row c.args.side c.args.join.now c.give.new.self c.in-Row.row c.args.got c.in-Row.is c.in-Ok.ensures.gives

pub returns-in-Step-clause-passed : goal.returns-in-Step-clause-passed
returns-in-Step-clause-passed c = side_step c.args.side c.args.join.now c.args.got c.in-Step.is

pub returns-in-More-clause-passed : goal.returns-in-More-clause-passed
returns-in-More-clause-passed c = side_more c.args.side c.args.join.now c.args.got c.in-More.is

pub returns-in-Wait-clause-passed : goal.returns-in-Wait-clause-passed
returns-in-Wait-clause-passed c = side_wait c.args.side c.args.join.now c.in-Wait.no c.args.got c.in-Wait.is

pub returns-in-End-clause-passed : goal.returns-in-End-clause-passed
returns-in-End-clause-passed c = side_end c.args.side c.args.join.now c.ended.new.self c.args.got c.in-End.is c.ended.ensures.gives
