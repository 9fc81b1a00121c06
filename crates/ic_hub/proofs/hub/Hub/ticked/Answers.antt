use Rattle.std.proofs.Common.{◌∙◌, sym, subst, map, ap}
use Rattle.std.specs.List.{AllByRecursion}
use Rattle.ic_hub.specs.Hubbing.{Hubbing, Living}
use Rattle.ic_hub.specs.Ticking.{Passes, ticked_query}
use Rattle.ic_hub.proofs.Ticking.{lent, hub_then}
use Rattle.ic_hub.proofs.hub.Hub.ticked.Goals as goal

pub invariant_of-self : goal.invariant_of-self
invariant_of-self c =
    let old : Hubbing = record { session = c.self.inside.session; at = c.self.inside.at; settings = c.self.inside.settings; tick = c.self.inside.tick; dropped = c.self.inside.dropped; top = c.self.inside.table.top; live = c.self.inside.live.items } in
    let passes = subst (AllByRecursion (λ (l : Living). AllByRecursion Passes l.senders)) c.as_mut_slice.ensures.value c.pass_all.ensures.stands in
    let back = lent c.self.inside.live.len c.pass_all.new.live c.self.inside.live.items (sym (c.pass_all.auto.live ∙ c.as_mut_slice.ensures.len)) in
    let live = back ∙ c.pass_all.ensures.ok ∙ ap (map ticked_query) c.as_mut_slice.ensures.value in
    hub_then old c.self.inside.table _ _ c.tick_behind-self-inside.ensures live c.self.invariant passes
