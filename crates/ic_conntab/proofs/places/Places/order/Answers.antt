use Rattle.std.proofs.Common.{All, sym, subst, ◌∙◌}
use Rattle.ic_conntab.specs.Slots.{IsWithin}
use Rattle.ic_conntab.proofs.Counted.{slots_within}
use Rattle.ic_conntab.proofs.places.Places.order.Goals as goal

pub returns-clause-within : goal.returns-clause-within
returns-clause-within c =
    subst (λ ends. All (IsWithin ends) c.as_slice.result.now) c.self.view_is
    (subst (All (IsWithin c.self.inside.ends.items)) (sym (c.as_slice.ensures.value ∙ c.self.invariant.order_is)) (slots_within c.self.inside.ends.items))
