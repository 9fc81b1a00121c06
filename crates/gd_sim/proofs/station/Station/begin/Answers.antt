use Rattle.std.proofs.Common.{sym, subst}
use Rattle.ic_law.specs.Asking.{AreEnds}
use Rattle.ic_port.specs.Noding.{place_of}
use Rattle.gd_sim.proofs.Starting.{are_ends}
use Rattle.gd_sim.proofs.station.Station.begin.Goals as goal

pub begin-requires-clause-ends : goal.begin-requires-clause-ends
begin-requires-clause-ends c =
    let b = c.args.beginning.now in
    let place = place_of c.args.self.now.node in
    subst (AreEnds place b.query) (sym c.in_ok-ends.ensures.ends)
    (are_ends place b.session b.query b.senders c.at-at.result c.requires.can.session (sym c.at-at.ensures) c.in_ok-ends.ensures.least)
