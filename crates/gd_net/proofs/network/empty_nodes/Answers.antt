use Rattle.std.proofs.Common.{◌≡◌, ◌+◌, ◌∷◌, [], length, false, ap, sym, ◌∙◌, subst, refl, length-append}
use Rattle.std.proofs.lemmas.List.Elements.{All-push}
use Rattle.std.specs.List.{All}
use Rattle.gd_net.specs.declared.node.Node.{Node}
use Rattle.gd_net.specs.Inside.{queue_of}
use Rattle.gd_net.proofs.network.empty_nodes.Goals as goal

IsEmpty : Node → Type 0
IsEmpty node = (queue_of node ≡ []) × (node.has_one ≡ false)

pub loop-preserved : goal.loop-preserved
unfolding IsEmpty
loop-preserved c =
    let new : Node = record { queue = c.new.result; has_one = false } in
    record {
      many = ap length c.in_ok-push.ensures.items ∙ length-append c.loop.nodes.items (new ∷ []) ∙ ap (λ n. n + 1) c.loop.invariant.many;
      queues = subst (All IsEmpty) (sym c.in_ok-push.ensures.items) (All-push IsEmpty c.loop.nodes.items new c.loop.invariant.queues (c.new.ensures.items, refl));
    }
