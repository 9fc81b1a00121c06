use Rattle.std.proofs.Common.{◌≡◌, ◌==◌, [], map, drop}
use Rattle.indexmap.specs.IndexSet.{insert_all}
use Rattle.ic_conntab.proofs.finding.motions_in.Given as goal

-- the motions so far and those of the keys that are left are those of all
abbrev pub invariant-loop-key : goal.invariant-loop-key
invariant-loop-key l = insert_all (λ m n. m == n) l.motions.keys (map (λ k. k.motion) (drop l.key-index l.keys)) ≡ insert_all (λ m n. m == n) [] (map (λ k. k.motion) l.keys)
