use Rattle.std.proofs.Common.{◌≡◌, length}
use Rattle.std.specs.List.{All}
use Rattle.ic_recvring.specs.Room.{HasRoom, AreFree}
use Rattle.ic_recvring.proofs.slot.free_slots.Given as goal

abbrev pub invariant-loop : goal.invariant-loop
invariant-loop l = (length l.slots.items ≡ l.counter) × All (HasRoom l.room) l.slots.items × AreFree l.slots.items
