use Rattle.std.proofs.Common.{◌≡◌, drop, fold}
use Rattle.ex_key.specs.Hashing.{line_writes}
use Rattle.ex_key.proofs.key.RowKeyHash.hash.Given as goal

abbrev pub invariant-loop-value : goal.invariant-loop-value
invariant-loop-value g l = fold g.H.Hasher.write l.state (line_writes (drop l.value-index l.value-items)) ≡ fold g.H.Hasher.write l.fn.state (line_writes l.self)
