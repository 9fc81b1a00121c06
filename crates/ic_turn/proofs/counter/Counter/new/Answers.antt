use Rattle.ic_turn.proofs.Sums.{stands_at_none}
use Rattle.ic_turn.proofs.counter.Counter.new.Goals as goal

pub returns-clause-stands : goal.returns-clause-stands
returns-clause-stands c = stands_at_none c.args.limit
