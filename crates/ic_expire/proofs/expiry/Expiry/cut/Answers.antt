use Rattle.std.proofs.Common.{sym, subst, arith}
use Rattle.ic_expire.specs.Items.{is_upto}
use Rattle.ic_expire.specs.Queue.{IsQueue}
use Rattle.ic_expire.proofs.Keeping.{queue_without}
use Rattle.ic_expire.proofs.expiry.Expiry.cut.Goals as goal

pub returns-clause-stands : goal.returns-clause-stands
returns-clause-stands c =
    let s = c.self.inside in
    subst (λ held. IsQueue (record { held = held; asked = s.asked; room = s.room })) (sym c.remove_upto.ensures.items) (queue_without s.items.items s.asked s.room (is_upto c.args.conn c.args.upto) c.self.invariant.0)

pub invariant_of-self : goal.invariant_of-self
invariant_of-self c = (returns-clause-stands c, omega (arith, c.remove_upto.ensures.capacity, c.self.invariant.1))
