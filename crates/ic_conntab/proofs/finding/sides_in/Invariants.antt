use Rattle.std.proofs.Common.{◌≡◌, map, take}
use Rattle.std.specs.HashMap.{get}
use Rattle.ic_base.specs.Keys.{key_eq}
use Rattle.ic_conntab.proofs.finding.sides_in.Given as goal

abbrev pub invariant-loop-key : goal.invariant-loop-key
invariant-loop-key l = l.sides.items ≡ map (λ k. record { sender = get key_eq l.senders k; receiver = get key_eq l.receivers k }) (take l.key-index l.keys)
