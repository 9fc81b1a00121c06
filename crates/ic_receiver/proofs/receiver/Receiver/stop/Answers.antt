use Rattle.std.proofs.Common.{refl, Some, None, subst}
use Rattle.ic_receiver.specs.Receiving.{Receiving, Halts, HaltsNow}
use Rattle.ic_receiver.proofs.Made.{some_ring}
use Rattle.ic_receiver.proofs.receiver.Receiver.stop.Goals as goal

pub returns-clause-halts : goal.returns-clause-halts
returns-clause-halts c =
    let now : Receiving = record { end = c.self.inside.end; ring = None; whole = c.self.inside.whole; rows = c.self.inside.rows } in
    let w = some_ring c.self.inside.ring c.is_none.result c.is_none.ensures c.if-is_none.false in
    subst (λ (s : Receiving). Halts s (Some c.in_ok-told.told) now) c.self.view_is (HaltsNow c.in_ok-told.told w.0 c.if-self.false w.1 c.in_ok-told.ensures refl refl)
