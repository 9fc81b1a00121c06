use Rattle.std.proofs.Common.{◌≡◌, refl, subst}
use Rattle.ic_law.specs.declared.history.HubAsk.{HubAsk}
use Rattle.ic_law.specs.declared.history.HubAsk.TheVariants.{Put, Clear}
use Rattle.ic_hub.specs.Hubbing.{Hubbing, IsHub}
use Rattle.ic_hub.proofs.Shape.{shape_of}
use Rattle.ic_hub.proofs.Moving.{memory_stands}
use Rattle.ic_hub.proofs.hub.Hub.put.Goals as goal

pub returns-then-not-is_puttable-clause-stands : goal.returns-then-not-is_puttable-clause-stands
returns-then-not-is_puttable-clause-stands c h stands =
    let is = subst (λ (s : Hubbing). IsHub s c.self.inside.table) c.self.view_is c.self.invariant in
    memory_stands c.args.self.now h (Put c.args.key.now c.args.chunk.now) (shape_of c.args.self.now c.self.inside.table is) stands (λ query asked. let bad : Put c.args.key.now c.args.chunk.now ≡ Clear query = asked in cc) refl
