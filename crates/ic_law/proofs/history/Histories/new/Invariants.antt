use Rattle.std.proofs.Common.{◌≡◌, replicate, []}
use Rattle.ic_law.proofs.history.Histories.new.Given as goal

abbrev pub invariant-loop : goal.invariant-loop
invariant-loop l = l.histories-inside.nodes.items ≡ replicate l.counter []
