use Rattle.std.proofs.Common.{[], ◌∷◌, ◌++◌, ◌∙◌}
use Rattle.std.specs.HashMap.{get}
use Rattle.ic_base.specs.Keys.{key_eq}
use Rattle.ic_conntab.specs.declared.slots.Sides.{Sides}
use Rattle.ic_conntab.proofs.Distinct.{mapped_more}
use Rattle.ic_conntab.proofs.finding.sides_in.Goals as goal

pub loop-key-preserved : goal.loop-key-preserved
unfolding key_eq
loop-key-preserved c =
    c.in_ok-push.ensures.items
    ∙ (λ i. let one : Sides = record { sender = (c.copied.ensures ∙ c.get.ensures.value) i; receiver = (c.copied-in-loop-key.ensures ∙ c.get-in-loop-key.ensures.value) i } in c.loop-key.sides.items ++ one ∷ [])
    ∙ mapped_more (λ k. record { sender = get key_eq c.args.senders.now k; receiver = get key_eq c.args.receivers.now k })
    c.args.keys.now c.loop-key.key-index c.key-item.result c.loop-key.sides.items c.loop-key-test.true c.key-item.is c.loop-key.invariant
