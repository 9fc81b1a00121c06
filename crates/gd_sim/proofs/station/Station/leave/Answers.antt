use Rattle.std.proofs.Common.{refl}
use Rattle.gd_sim.proofs.Keeping.{left_keeps}
use Rattle.gd_sim.proofs.station.Station.leave.Goals as goal

pub returns-in_ok-self-clause-keeps : goal.returns-in_ok-self-clause-keeps
returns-in_ok-self-clause-keeps c =
    let s = c.args.self.now in left_keeps c.in_ok-self.field-0 s.node c.leave.new.self s.worker s.quiet s.left c.if-not-self.true (c.if-is_done.ensures.0 refl) c.in_ok-self.ensures.ok
