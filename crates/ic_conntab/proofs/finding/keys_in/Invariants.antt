use Rattle.std.proofs.Common.{◌≡◌, [], map, drop}
use Rattle.indexmap.specs.IndexSet.{insert_all}
use Rattle.ic_base.specs.Keys.{key_eq}
use Rattle.ic_conntab.proofs.finding.keys_in.Given as goal

-- the keys so far and those of the ends that are left are those of all
abbrev pub invariant-loop-end : goal.invariant-loop-end
invariant-loop-end l = insert_all key_eq l.keys.keys (map (λ e. e.key) (drop l.end-index l.ends)) ≡ insert_all key_eq [] (map (λ e. e.key) l.ends)
