use Rattle.std.proofs.Common.{refl, ap, ◌∙◌, true, slice_get}
use Rattle.gd_world.specs.declared.step.Step.TheVariants as step
use Rattle.gd_world.specs.Worlds.{all_events}
use Rattle.gd_world.proofs.Sending.{sent_is}
use Rattle.gd_world.proofs.Adding.{deliver_adds}
use Rattle.gd_world.proofs.Played.{world_on}
use Rattle.gd_world.proofs.world.World.deliver_sent.Goals as goal

pub returns-clause-ok : goal.returns-clause-ok
returns-clause-ok c =
    let w = c.requires.sent in
    deliver_adds c.args.datagram.to c.args.number c.args.datagram c.args.self.now _ (record { plan = refl; query = refl; seats = refl }) refl refl
    (ap (λ l. slice_get l c.args.number) (sent_is (all_events w.1) c.args.self.now.session w.2.recalls) ∙ w.3) refl c.in_ok-deliver.ensures.ok

pub returns-clause-world : goal.returns-clause-world
returns-clause-world c = world_on (step.Deliver c.args.number c.args.datagram.to) true c.args.self.now _ c.requires.world (returns-clause-ok c)
