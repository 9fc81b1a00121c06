use Rattle.ic_hub.specs.Leaving.{AreClearUpto}
use Rattle.ic_hub.proofs.query.Query.first_unclear.Given as goal

abbrev pub invariant-loop-place : goal.invariant-loop-place
invariant-loop-place l = AreClearUpto l.fn.self l.place
