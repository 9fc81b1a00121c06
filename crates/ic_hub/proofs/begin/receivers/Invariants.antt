use Rattle.std.proofs.Common.{◌≡◌, take}
use Rattle.std.specs.List.{AllByRecursion, flat_map}
use Rattle.ic_hub.specs.Beginning.{ReceivesFirst, receiver_begun}
use Rattle.ic_hub.proofs.begin.receivers.Given as goal

abbrev pub invariant-loop-end : goal.invariant-loop-end
invariant-loop-end l = record {
  begun : l.receivers.items ≡ flat_map (receiver_begun l.settings) (take l.end-index l.ends);
  receives : AllByRecursion (ReceivesFirst l.settings) (take l.end-index l.ends);
}
