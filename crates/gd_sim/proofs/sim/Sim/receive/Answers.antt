use Rattle.std.proofs.Common.{Vec, Global, true, false, length, ap, refl}
use Rattle.gd_sim.specs.declared.station.Station.{Station}
use Rattle.gd_sim.proofs.Growing.{changes_at, sent, came_part, idle_part, quiet_goes, leave_goes, receive_goes}
use Rattle.gd_sim.proofs.sim.Sim.receive.Goals as goal

pub returns-in_err-hear-in-Came-clause-goes : goal.returns-in_err-hear-in-Came-clause-goes
returns-in_err-hear-in-Came-clause-goes c =
    let a = c.args.self.now in
    let old = c.index_mut-station.result.now in
    let new = c.hear.new.self in
    leave_goes c.args.place old new a _ (changes_at c.args.place old new a.stations.items _ c.requires.here c.index_mut-station.ensures.value refl)
    c.hear.ensures.keeps c.in_err-hear-in-Came.ensures.acts (came_part c.at.result a.network c.receive.new.self c.in-Came.datagram c.in-Came.ensures)

pub returns-in_err-send_behind-in-Came-clause-goes : goal.returns-in_err-send_behind-in-Came-clause-goes
returns-in_err-send_behind-in-Came-clause-goes c =
    let a = c.args.self.now in
    let b = c.send_behind.new.self in
    let old = c.index_mut-station.result.now in
    let new = c.hear.new.self in
    let mid = c.receive.new.self in
    let seen = length c.entries-seen.result.now in
    receive_goes c.args.place seen c.at.result c.in-Came.datagram old new a b mid
    (sent c.args.place seen old new a.stations.items b.stations.items mid b.network c.requires.here c.index_mut-station.ensures.value (ap length c.entries-seen.ensures)
    (ap (λ (v : Vec Station Global). v.items) c.send_behind.ensures.stations) c.send_behind.ensures.lawful c.send_behind.ensures.kept)
    c.hear.ensures.keeps c.in_ok-hear-in-Came.ensures.hears c.at.ensures c.in-Came.ensures

pub returns-in_ok-send_behind-in-Came-clause-goes : goal.returns-in_ok-send_behind-in-Came-clause-goes
returns-in_ok-send_behind-in-Came-clause-goes c =
    let a = c.args.self.now in
    let b = c.send_behind.new.self in
    let old = c.index_mut-station.result.now in
    let new = c.hear.new.self in
    let mid = c.receive.new.self in
    let seen = length c.entries-seen.result.now in
    receive_goes c.args.place seen c.at.result c.in-Came.datagram old new a b mid
    (sent c.args.place seen old new a.stations.items b.stations.items mid b.network c.requires.here c.index_mut-station.ensures.value (ap length c.entries-seen.ensures)
    (ap (λ (v : Vec Station Global). v.items) c.send_behind.ensures.stations) c.send_behind.ensures.lawful c.send_behind.ensures.kept)
    c.hear.ensures.keeps c.in_ok-hear-in-Came.ensures.hears c.at.ensures c.in-Came.ensures

pub returns-in-Idle-clause-goes : goal.returns-in-Idle-clause-goes
returns-in-Idle-clause-goes c =
    let a = c.args.self.now in
    let old = c.index_mut-station.result.now in
    quiet_goes c.args.place old false a _ (changes_at c.args.place old _ a.stations.items _ c.requires.here c.index_mut-station.ensures.value refl)
    (idle_part c.at.result false a.network c.receive.new.self c.in-Idle.ensures.2)

pub returns-in-Quiet-clause-goes : goal.returns-in-Quiet-clause-goes
returns-in-Quiet-clause-goes c =
    let a = c.args.self.now in
    let old = c.index_mut-station.result.now in
    quiet_goes c.args.place old true a _ (changes_at c.args.place old _ a.stations.items _ c.requires.here c.index_mut-station.ensures.value refl)
    (idle_part c.at.result false a.network c.receive.new.self c.in-Quiet.ensures.1)
