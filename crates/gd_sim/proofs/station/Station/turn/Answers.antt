use Rattle.std.proofs.Common.{sym, subst}
use Rattle.gd_sim.specs.Playing.{WorkStands}
use Rattle.gd_sim.specs.Stations.{TurnKeeps}
use Rattle.gd_sim.specs.declared.station.Worker.TheVariants.{Sends, Takes}
use Rattle.gd_sim.proofs.Keeping.{station}
use Rattle.gd_sim.proofs.Turning.{sends_here, hears_here, sent_keeps, taken_keeps}
use Rattle.gd_sim.proofs.station.Station.turn.Goals as goal

pub send_on-requires-clause-sends : goal.send_on-requires-clause-sends
send_on-requires-clause-sends c =
    let n = c.args.self.now.node in
    let g = c.requires.gather in
    let plays = c.requires.plays in
    sends_here g c.requires.segment c.in-Sends.scanner n.entries n.ends (plays.ends c.if-self.false) (subst (λ w. WorkStands g c.requires.segment w n.entries) c.in-Sends.is plays.work)

pub take_on-requires : goal.take_on-requires
take_on-requires c =
    let n = c.args.self.now.node in
    let g = c.requires.gather in
    let plays = c.requires.plays in
    hears_here g c.requires.segment c.in-Takes.gatherer n.entries n.ends (plays.ends c.if-self.false) plays.one_sends (subst (λ w. WorkStands g c.requires.segment w n.entries) c.in-Takes.is plays.work)

pub returns-in-Sends-clause-keeps : goal.returns-in-Sends-clause-keeps
returns-in-Sends-clause-keeps c =
    let s = c.args.self.now in
    let b = c.send_on.new.node in
    subst (λ w. TurnKeeps c.args.rows.now (station s.node w s.quiet s.left) (station b (Sends c.send_on.new.scanner) s.quiet s.left)) (sym c.in-Sends.is)
    (sent_keeps c.args.rows.now s.node b c.in-Sends.scanner c.send_on.new.scanner s.quiet s.left c.if-self.false c.send_on.ensures.works c.send_on.ensures.sends)

pub returns-in-Takes-clause-keeps : goal.returns-in-Takes-clause-keeps
returns-in-Takes-clause-keeps c =
    let s = c.args.self.now in
    let b = c.take_on.new.node in
    subst (λ w. TurnKeeps c.args.rows.now (station s.node w s.quiet s.left) (station b (Takes c.take_on.new.gatherer) s.quiet s.left)) (sym c.in-Takes.is)
    (taken_keeps c.args.rows.now s.node b c.in-Takes.gatherer c.take_on.new.gatherer s.quiet s.left c.if-self.false c.take_on.ensures.works c.take_on.ensures.takes)
