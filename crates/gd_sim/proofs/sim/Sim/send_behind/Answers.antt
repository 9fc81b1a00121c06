use Rattle.std.proofs.Common.{drop, sym, subst}
use Rattle.gd_sim.specs.Stations.{KeepsOrEmitted}
use Rattle.gd_sim.proofs.Sending.{keeps_behind}
use Rattle.gd_sim.proofs.Growing.{station_at, node-at}
use Rattle.gd_sim.proofs.sim.Sim.send_behind.Goals as goal

pub returns-clause-kept : goal.returns-clause-kept
returns-clause-kept c =
    let stations = c.args.self.now.stations.items in
    let station = c.index.result.now in
    let here = node-at stations c.args.place station (station_at c.args.place station stations c.requires.here c.index.ensures) in
    subst (λ l. KeepsOrEmitted (drop c.args.seen l) c.args.self.now.network c.send.new.network) (sym here)
    (keeps_behind station.node.entries c.args.seen c.args.self.now.network c.send.new.network c.emitted.result.now c.emitted.ensures c.send.ensures)
