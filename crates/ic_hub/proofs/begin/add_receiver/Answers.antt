use Rattle.std.proofs.Common.{subst}
use Rattle.ic_receiver.specs.Receiving.{Receiving}
use Rattle.ic_receiver.specs.Standing.{Stands}
use Rattle.ic_hub.proofs.begin.add_receiver.Goals as goal

pub returns-clause-receives : goal.returns-clause-receives
returns-clause-receives c receives h untouched =
    subst (λ (r : Receiving). Stands c.args.settings.now r h) c.in_ok-receiver.ensures.begun (c.in_ok-receiver.ensures.stands h untouched)
