use Rattle.std.proofs.Common.{None, replicate, ap, ◌∙◌}
use Rattle.ic_hub.proofs.Beginning.{begun_living}
use Rattle.ic_hub.proofs.query.Query.begin.Goals as goal

pub invariant_of-result : goal.invariant_of-result
invariant_of-result c =
    begun_living c.args.settings.now c.args.tick c.args.number c.args.ends.now _ c.in_ok-places.ensures c.in_ok-senders.ensures.begun c.in_ok-receivers.ensures.begun (c.in_ok-served.ensures ∙ ap (λ n. replicate n None) c.motions.ensures)
