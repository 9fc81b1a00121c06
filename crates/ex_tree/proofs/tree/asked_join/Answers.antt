use Rattle.std.proofs.Common.{refl, subst}
use Rattle.ex_join.specs.Joins as joins
use Rattle.ex_tree.proofs.Joints.{two_row, two_end}
use Rattle.ex_tree.proofs.tree.asked_join.Goals as goal

pub returns-in-Ok-Row-clause-turns : goal.returns-in-Ok-Row-clause-turns
returns-in-Ok-Row-clause-turns c = (two_row c.args.join.now c.next.new.self c.in-Ok-Row.row (λ on. subst (joins.Answers on c.args.join.now c.next.new.self) c.in-Ok-Row.field-0-is (c.in-Ok-Row.ensures.answers on)), refl)

pub returns-in-Ok-End-clause-turns : goal.returns-in-Ok-End-clause-turns
returns-in-Ok-End-clause-turns c = (two_end c.args.join.now c.next.new.self (λ on. subst (joins.Answers on c.args.join.now c.next.new.self) c.in-Ok-End.field-0-is (c.in-Ok-End.ensures.answers on)), refl)

pub returns-in-Ok-Wants-clause-turns : goal.returns-in-Ok-Wants-clause-turns
returns-in-Ok-Wants-clause-turns c = (c.in-Ok-Wants.ensures.wants c.in-Ok-Wants.side c.in-Ok-Wants.field-0-is, λ on. subst (joins.Answers on c.args.join.now c.next.new.self) c.in-Ok-Wants.field-0-is (c.in-Ok-Wants.ensures.answers on))
