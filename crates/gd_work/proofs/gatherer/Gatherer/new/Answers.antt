use Rattle.gd_work.proofs.Taken.{fresh_lets}
use Rattle.gd_work.proofs.gatherer.Gatherer.new.Goals as goal

pub returns-clause-gathers : goal.returns-clause-gathers
returns-clause-gathers c = λ log off. fresh_lets c.args.motion c.in_ok-joiners.field-0.items c.new.result log c.in_ok-joiners.ensures c.new.ensures off
