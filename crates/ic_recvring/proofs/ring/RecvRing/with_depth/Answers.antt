use Rattle.std.proofs.Common.{subst}
use Rattle.std.specs.List.{All}
use Rattle.ic_recvring.specs.Room.{HasRoom}
use Rattle.ic_recvring.proofs.Sound.{sound_empty, ring_empty}
use Rattle.ic_recvring.proofs.ring.RecvRing.with_depth.Goals as goal

pub invariant_of-result : goal.invariant_of-result
invariant_of-result c =
    let slots = c.in_ok-slots.slots.items in
    sound_empty c.args.depth c.args.packet slots c.in_ok-slots.ensures.count (subst (λ room. All (HasRoom room) slots) c.saturating_sub-room.ensures c.in_ok-slots.ensures.rooms) c.in_ok-slots.ensures.free

pub returns : goal.returns
returns c = ring_empty c.args.depth c.args.packet c.in_ok-slots.slots.items c.in_ok-slots.ensures.free
