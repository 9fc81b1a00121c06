use Rattle.pl_answers.proofs.Answered.{goes_on, lawful}
use Rattle.pl_answers.proofs.laws.answers_are_lawful.Goals as goal

pub returns-clause-goes_on : goal.returns-clause-goes_on
returns-clause-goes_on c = λ g wholes tables tree taken a s r. goes_on c.the_root_part_is_the_meaning.ensures g wholes tables tree taken a s r

pub returns-clause-over : goal.returns-clause-over
returns-clause-over c = λ g wholes tables tree taken a s r e. lawful c.the_root_part_is_the_meaning.ensures g wholes tables tree taken a s r e
