use Rattle.std.proofs.Common.{arith}
use Rattle.icq_top.proofs.Printing.{answers_more, answers_front, answers_lines}
use Rattle.icq_top.proofs.print.print_answers.Goals as goal

pub returns-in-Err-clause-failed : goal.returns-in-Err-clause-failed
returns-in-Err-clause-failed g c = λ is.
    answers_front _ _ _ c.args.answers.now c.loop-answer.answer-index c.answer-item.result c.loop-answer-test.true c.answer-item.is c.loop-answer.invariant.written (c.in-Err.ensures.failed is)

pub returns-in-Err-clause-memory : goal.returns-in-Err-clause-memory
returns-in-Err-clause-memory g c = λ is.
    answers_lines _ _ _ c.args.answers.now c.loop-answer.answer-index c.answer-item.result c.loop-answer-test.true c.answer-item.is c.loop-answer.invariant.written (c.in-Err.ensures.memory is)

pub loop-answer-preserved : goal.loop-answer-preserved
loop-answer-preserved g c =
    record {
      written =
          answers_more _ _ _ c.args.answers.now c.loop-answer.answer-index c.answer-item.result c.loop-answer-test.true c.answer-item.is c.loop-answer.invariant.written c.in-Ok.ensures.ok;
      later = omega (arith, c.loop-answer.invariant.later, c.print_answer.ensures.later);
    }
