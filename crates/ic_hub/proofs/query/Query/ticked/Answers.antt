use Rattle.std.proofs.Common.{List, ◌∙◌, sym, subst, map, ap}
use Rattle.std.specs.List.{AllByRecursion}
use Rattle.ic_timed_sender.specs.Timed.{TimedState, ticking}
use Rattle.ic_hub.specs.Hubbing.{Living, IsLiving}
use Rattle.ic_hub.specs.Ticking.{Passes}
use Rattle.ic_hub.proofs.Ticking.{lent, living_ticked}
use Rattle.ic_hub.proofs.query.Query.ticked.Goals as goal

pub invariant_of-self : goal.invariant_of-self
invariant_of-self c =
    let old : Living = record { number = c.self.inside.number; ends = c.self.inside.places; senders = c.self.inside.senders.items; receivers = c.self.inside.receivers.items; served = c.self.inside.served.items } in
    let passes = subst (AllByRecursion Passes) c.as_mut_slice.ensures.value c.pass.ensures.stands in
    let back = lent c.self.inside.senders.len c.pass.new.senders c.self.inside.senders.items (sym (c.pass.auto.senders ∙ c.as_mut_slice.ensures.len)) in
    let senders = back ∙ c.pass.ensures.ok ∙ ap (map ticking) c.as_mut_slice.ensures.value in
    subst (λ (xs : List TimedState). IsLiving (record old { senders = xs })) (sym senders) (living_ticked old c.self.invariant passes)
