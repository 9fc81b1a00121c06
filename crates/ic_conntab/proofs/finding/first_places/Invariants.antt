use Rattle.std.proofs.Common.{◌≡◌, position, take}
use Rattle.std.specs.HashMap.{get}
use Rattle.ic_base.specs.Keys.{key_eq}
use Rattle.ic_base.specs.declared.keys.ConnKey.{ConnKey}
use Rattle.ic_conntab.proofs.finding.first_places.Given as goal

-- each key has its first place so far
abbrev pub invariant-loop-place : goal.invariant-loop-place
invariant-loop-place l = (key : ConnKey) → get key_eq l.places key ≡ position (key_eq key) (take l.place l.keys)
