use Rattle.std.proofs.Common.{Vec, Global, length, ap, refl}
use Rattle.gd_sim.specs.declared.station.Station.{Station}
use Rattle.gd_sim.proofs.Growing.{changes_at, new_here, sent, quiet_goes, tick_goes, tick_fault}
use Rattle.gd_sim.proofs.sim.Sim.tick.Goals as goal

pub returns-then-not-station-clause-goes : goal.returns-then-not-station-clause-goes
returns-then-not-station-clause-goes c =
    let old = c.index_mut-station.result.now in
    quiet_goes c.args.place old old.quiet c.args.self.now _ (changes_at c.args.place old old c.args.self.now.stations.items _ c.requires.here c.index_mut-station.ensures.value refl) (λ d kept. kept)

pub returns-in_err-send_behind-clause-goes : goal.returns-in_err-send_behind-clause-goes
returns-in_err-send_behind-clause-goes c =
    let a = c.args.self.now in
    let b = c.send_behind.new.self in
    let old = c.index_mut-station.result.now in
    let new = c.tick-ticked.new.self in
    let seen = length c.entries-seen.result.now in
    tick_goes c.args.place seen old new a b
    (sent c.args.place seen old new a.stations.items b.stations.items a.network b.network c.requires.here c.index_mut-station.ensures.value (ap length c.entries-seen.ensures)
    (ap (λ (v : Vec Station Global). v.items) c.send_behind.ensures.stations) c.send_behind.ensures.lawful c.send_behind.ensures.kept)
    c.tick-ticked.ensures.keeps c.tick-ticked.ensures.acts

pub returns-clause-goes : goal.returns-clause-goes
returns-clause-goes c =
    let a = c.args.self.now in
    let b = c.send_behind.new.self in
    let old = c.index_mut-station.result.now in
    let new = c.tick-ticked.new.self in
    let seen = length c.entries-seen.result.now in
    tick_goes c.args.place seen old new a b
    (sent c.args.place seen old new a.stations.items b.stations.items a.network b.network c.requires.here c.index_mut-station.ensures.value (ap length c.entries-seen.ensures)
    (ap (λ (v : Vec Station Global). v.items) c.send_behind.ensures.stations) c.send_behind.ensures.lawful c.send_behind.ensures.kept)
    c.tick-ticked.ensures.keeps c.tick-ticked.ensures.acts

pub returns-clause-cause : goal.returns-clause-cause
returns-clause-cause c =
    let a = c.args.self.now in
    let b = c.send_behind.new.self in
    let old = c.index_mut-station.result.now in
    let new = c.tick-ticked.new.self in
    tick_fault b.stations.items c.args.place new c.tick-ticked.result
    (new_here c.args.place old new a.stations.items b.stations.items
    (changes_at c.args.place old new a.stations.items b.stations.items c.requires.here c.index_mut-station.ensures.value (ap (λ (v : Vec Station Global). v.items) c.send_behind.ensures.stations)))
    c.tick-ticked.ensures.cause
