use Rattle.std.proofs.Common.{refl}
use Rattle.gd_sim.proofs.Keeping.{plays_on_one, refused_keeps, refused_acts}
use Rattle.gd_sim.proofs.station.Station.tick.Goals as goal

pub returns-in-Ok-clause-keeps : goal.returns-in-Ok-clause-keeps
returns-in-Ok-clause-keeps c =
    let s = c.args.self.now in
    λ g segment plays. plays_on_one g segment s.node c.tick.new.self s.worker s.quiet s.left _ c.in-Ok.ensures.ok.adds tt refl refl plays

pub returns-in-Err-clause-keeps : goal.returns-in-Err-clause-keeps
returns-in-Err-clause-keeps c =
    let s = c.args.self.now in refused_keeps c.in-Err.no s.node c.tick.new.self s.worker s.quiet s.left c.in-Err.ensures.err

pub returns-in-Err-clause-acts : goal.returns-in-Err-clause-acts
returns-in-Err-clause-acts c = refused_acts c.in-Err.no c.args.self.now.node c.tick.new.self c.in-Err.ensures.err
