use Rattle.std.proofs.Common.{◌≡◌, ◌+◌, ◌++◌, drop}
use Rattle.ic_conntab.specs.Slots.{slots_behind}
use Rattle.ic_conntab.proofs.finding.slots_in.Given as goal

-- the places so far and those of the ends that are left are those of all
abbrev pub invariant-loop-end : goal.invariant-loop-end
invariant-loop-end l = record {
  told : l.slots.items ++ slots_behind l.senders l.receivers (drop l.end-index l.ends) ≡ slots_behind 0 0 l.ends;
  count : l.senders + l.receivers ≡ l.end-index;
}
