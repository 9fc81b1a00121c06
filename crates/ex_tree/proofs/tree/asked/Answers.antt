use Rattle.std.proofs.Common.{refl, subst}
use Rattle.ex_basic.specs.Single.{Answers}
use Rattle.ex_tree.specs.Parts.{one_stream}
use Rattle.ex_tree.specs.Operators.{Gives}
use Rattle.ex_tree.proofs.Nodes.{one_row, one_end, wanted_left}
use Rattle.ex_tree.proofs.tree.asked.Goals as goal

pub returns-in-Ok-Row-clause-turns : goal.returns-in-Ok-Row-clause-turns
returns-in-Ok-Row-clause-turns c = (one_row c.args.op.now c.next.new.self c.in-Ok-Row.row (λ p. subst (Answers (Gives p) (one_stream p) c.args.op.now c.next.new.self) c.in-Ok-Row.field-0-is (c.in-Ok-Row.ensures.answers p)), refl)

pub returns-in-Ok-End-clause-turns : goal.returns-in-Ok-End-clause-turns
returns-in-Ok-End-clause-turns c = (one_end c.args.op.now c.next.new.self (λ p. subst (Answers (Gives p) (one_stream p) c.args.op.now c.next.new.self) c.in-Ok-End.field-0-is (c.in-Ok-End.ensures.answers p)), refl)

pub returns-in-Ok-Wants-clause-turns : goal.returns-in-Ok-Wants-clause-turns
returns-in-Ok-Wants-clause-turns c = (
  c.in-Ok-Wants.ensures.wants c.in-Ok-Wants.side c.in-Ok-Wants.field-0-is,
  wanted_left c.args.op.now c.next.new.self c.in-Ok-Wants.side (λ p. subst (Answers (Gives p) (one_stream p) c.args.op.now c.next.new.self) c.in-Ok-Wants.field-0-is (c.in-Ok-Wants.ensures.answers p)),
)
