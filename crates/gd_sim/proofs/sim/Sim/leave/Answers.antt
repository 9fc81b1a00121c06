use Rattle.std.proofs.Common.{refl}
use Rattle.gd_sim.proofs.Growing.{changes_at, leave_goes}
use Rattle.gd_sim.proofs.sim.Sim.leave.Goals as goal

pub returns-clause-goes : goal.returns-clause-goes
returns-clause-goes c =
    let old = c.index_mut.result.now in
    leave_goes c.args.place old c.leave.new.self c.args.self.now _ (changes_at c.args.place old c.leave.new.self c.args.self.now.stations.items _ c.requires.here c.index_mut.ensures.value refl)
    c.leave.ensures.keeps c.leave.ensures.acts (λ d kept. kept)
