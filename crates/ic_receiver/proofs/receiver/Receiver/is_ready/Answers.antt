use Rattle.std.proofs.Common.{inl, inr}
use Rattle.ic_receiver.proofs.Taken.{empty_there, ended_there}
use Rattle.ic_receiver.proofs.receiver.Receiver.is_ready.Goals as goal

pub returns-clause-none : goal.returns-clause-none
returns-clause-none c = λ no settings h stands goes_on p next. elim (c.looks_ready.ensures.waits no) [
  | inl empty ↦ (empty_there settings c.args.self.now h empty stands).1 p next
  | inr over ↦ goes_on (ended_there settings c.args.self.now h over stands)
]
