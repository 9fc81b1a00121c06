use Rattle.ex_slice.proofs.Passing.{same_way}
use Rattle.ex_slice.proofs.slice.Slice.halt.Goals as goal

pub returns-clause-same : goal.returns-clause-same
returns-clause-same g c = same_way c.args.self.now.way
