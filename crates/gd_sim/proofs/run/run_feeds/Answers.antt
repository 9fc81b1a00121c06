use Rattle.std.proofs.Common.{subst, sym}
use Rattle.gd_sim.specs.Run.{IsRun}
use Rattle.gd_sim.specs.Playing.{nodes_of}
use Rattle.gd_sim.proofs.Running.{first_stands, is_run}
use Rattle.gd_sim.proofs.run.run_feeds.Goals as goal

pub run_all-requires-clause-stands : goal.run_all-requires-clause-stands
run_all-requires-clause-stands c = first_stands c.args.session c.args.segments c.args.settings c.args.loaded.now c.args.feeds.now _ c.in_ok-sim.sim c.in_ok-sim.ensures

pub returns : goal.returns
returns c =
    let run = is_run c.args.session c.args.segments c.args.rounds c.args.settings c.args.loaded.now c.args.feeds.now c.run_all.new.self c.run_all.new.lists.items c.in_ok-fault.fault
    c.requires.checked c.lawful.ensures c.in_ok-fault.ensures in
    subst (λ h. IsRun c.args.session c.args.segments c.args.rounds c.args.settings c.args.loaded.now c.args.feeds.now (record { rows = c.from_vec.result; histories = h; fault = c.in_ok-fault.fault })) (sym c.in_ok-histories.ensures)
    (subst (λ r. IsRun c.args.session c.args.segments c.args.rounds c.args.settings c.args.loaded.now c.args.feeds.now (record { rows = r; histories = nodes_of c.run_all.new.self.stations.items; fault = c.in_ok-fault.fault })) (sym c.from_vec.ensures) run)
