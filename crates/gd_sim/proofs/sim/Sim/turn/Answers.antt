use Rattle.std.proofs.Common.{Vec, Global, length, ap, ◌∙◌}
use Rattle.pl_ops.specs.Placed.{rows_at}
use Rattle.gd_sim.specs.declared.station.Station.{Station}
use Rattle.gd_sim.proofs.Growing.{changes_at, station_at, new_here, sent, can_turn, turn_goes, turn_fault}
use Rattle.gd_sim.proofs.sim.Sim.turn.Goals as goal

pub turn-turned-requires : goal.turn-turned-requires
turn-turned-requires c =
    let a = c.args.self.now in
    let old = c.index_mut-station.result.now in
    let part = rows_at c.args.loaded.now c.args.table in
    can_turn c.args.place old a c.rows.result.now part (station_at c.args.place old a.stations.items c.requires.here c.index_mut-station.ensures.value) (c.rows.ensures ∙ ap part c.at-at.ensures) c.requires.plays

pub returns-in_err-send_behind-clause-goes : goal.returns-in_err-send_behind-clause-goes
returns-in_err-send_behind-clause-goes c =
    let a = c.args.self.now in
    let b = c.send_behind.new.self in
    let old = c.index_mut-station.result.now in
    let new = c.turn-turned.new.self in
    let seen = length c.entries-seen.result.now in
    let part = rows_at c.args.loaded.now c.args.table in
    turn_goes c.rows.result.now part c.args.place seen old new a b
    (sent c.args.place seen old new a.stations.items b.stations.items a.network b.network c.requires.here c.index_mut-station.ensures.value (ap length c.entries-seen.ensures)
    (ap (λ (v : Vec Station Global). v.items) c.send_behind.ensures.stations) c.send_behind.ensures.lawful c.send_behind.ensures.kept)
    (c.rows.ensures ∙ ap part c.at-at.ensures) c.turn-turned.ensures.keeps c.turn-turned.ensures.acts

pub returns-clause-goes : goal.returns-clause-goes
returns-clause-goes c =
    let a = c.args.self.now in
    let b = c.send_behind.new.self in
    let old = c.index_mut-station.result.now in
    let new = c.turn-turned.new.self in
    let seen = length c.entries-seen.result.now in
    let part = rows_at c.args.loaded.now c.args.table in
    turn_goes c.rows.result.now part c.args.place seen old new a b
    (sent c.args.place seen old new a.stations.items b.stations.items a.network b.network c.requires.here c.index_mut-station.ensures.value (ap length c.entries-seen.ensures)
    (ap (λ (v : Vec Station Global). v.items) c.send_behind.ensures.stations) c.send_behind.ensures.lawful c.send_behind.ensures.kept)
    (c.rows.ensures ∙ ap part c.at-at.ensures) c.turn-turned.ensures.keeps c.turn-turned.ensures.acts

pub returns-clause-cause : goal.returns-clause-cause
returns-clause-cause c =
    let a = c.args.self.now in
    let b = c.send_behind.new.self in
    let old = c.index_mut-station.result.now in
    let new = c.turn-turned.new.self in
    turn_fault b.stations.items c.args.place new c.moved.result c.turn-turned.result
    (new_here c.args.place old new a.stations.items b.stations.items
    (changes_at c.args.place old new a.stations.items b.stations.items c.requires.here c.index_mut-station.ensures.value (ap (λ (v : Vec Station Global). v.items) c.send_behind.ensures.stations)))
    c.moved.ensures c.turn-turned.ensures.cause
