use Rattle.std.proofs.Common.{◌≡◌, false, Some, ap, sym, subst, arith}
use Rattle.ic_receiver.specs.Receiving.{Receiving, begun}
use Rattle.ic_receiver.specs.Standing.{Stands}
use Rattle.ic_receiver.proofs.Others.{stands_untouched}
use Rattle.ic_receiver.proofs.receiver.Receiver.new.Goals as goal

pub returns-clause-stands : goal.returns-clause-stands
returns-clause-stands c = λ h untouched.
    let made : record { end = c.args.end; ring = Some c.in_ok-ring.ring; whole = false; rows = 0 } ≡ begun c.args.end c.args.settings.now = ap (λ r. record { end = c.args.end; ring = Some r; whole = false; rows = 0 }) c.in_ok-ring.ensures in
    subst (λ (s : Receiving). Stands c.args.settings.now s h) (sym made) (stands_untouched c.args.settings.now c.args.end h (omega (arith, c.requires.checked.least_packet)) untouched)
