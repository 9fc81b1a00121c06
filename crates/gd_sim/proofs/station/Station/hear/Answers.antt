use Rattle.gd_sim.proofs.Keeping.{heard_keeps, heard_hears}
use Rattle.gd_sim.proofs.station.Station.hear.Goals as goal

pub returns-clause-keeps : goal.returns-clause-keeps
returns-clause-keeps c =
    let s = c.args.self.now in heard_keeps c.args.datagram s.node c.arrive.new.self s.worker s.quiet s.left c.arrive.result c.arrive.ensures.ok c.arrive.ensures.err

pub returns-clause-hears : goal.returns-clause-hears
returns-clause-hears c =
    let s = c.args.self.now in heard_hears c.args.datagram s.node c.arrive.new.self s.worker s.quiet s.left c.arrive.result c.arrive.ensures.ok
