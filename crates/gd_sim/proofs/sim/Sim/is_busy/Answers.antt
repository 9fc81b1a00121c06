use Rattle.std.proofs.Common.{false, refl}
use Rattle.gd_sim.proofs.Growing.{changes_at, quiet_goes}
use Rattle.gd_sim.proofs.sim.Sim.is_busy.Goals as goal

pub returns-clause-goes : goal.returns-clause-goes
returns-clause-goes c =
    let old = c.index_mut.result.now in
    quiet_goes c.args.place old false c.args.self.now _ (changes_at c.args.place old _ c.args.self.now.stations.items _ c.requires.here c.index_mut.ensures.value refl) (λ d kept. kept)
