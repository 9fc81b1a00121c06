use Rattle.std.proofs.Common.{◌≡◌, take}
use Rattle.std.specs.List.{AllByRecursion, flat_map}
use Rattle.ic_hub.specs.Beginning.{IsBetween, SendsFirst, sender_begun}
use Rattle.ic_hub.proofs.begin.senders.Given as goal

abbrev pub invariant-loop-end : goal.invariant-loop-end
invariant-loop-end l = record {
  begun : l.senders.items ≡ flat_map (sender_begun l.settings l.tick) (take l.end-index l.ends);
  sends : AllByRecursion (SendsFirst l.settings l.tick) (take l.end-index l.ends);
  between : AllByRecursion IsBetween (take l.end-index l.ends);
}
