use Rattle.std.proofs.Common.{◌==◌, map, position, ap, ◌∙◌}
use Rattle.std.specs.HashMap.{get}
use Rattle.ic_base.specs.Keys.{key_eq}
use Rattle.ic_conntab.specs.Ends.{distinct, places_where}
use Rattle.ic_conntab.proofs.Found.{all_found}
use Rattle.ic_conntab.proofs.places.Places.new.Goals as goal

pub invariant_of-result : goal.invariant_of-result
invariant_of-result c =
    all_found c.args.ends.now c.in_ok-from_slice.field-0.items c.in_ok-sending.sending.items c.in_ok-receiving.receiving.items c.in_ok-keys.keys.keys
    (get key_eq c.in_ok-senders.senders) (get key_eq c.in_ok-receivers.receivers) c.in_ok-sides.sides.items c.in_ok-motions.motions.keys c.in_ok-rows.rows.items c.in_ok-order.order.items
    c.in_ok-from_slice.ensures.items c.in_ok-sending.ensures c.in_ok-receiving.ensures
    (λ k. c.in_ok-senders.ensures k ∙ ap (position (key_eq k)) c.deref.ensures.value)
    (λ k. c.in_ok-receivers.ensures k ∙ ap (position (key_eq k)) c.deref-2.ensures.value)
    c.in_ok-keys.ensures
    (c.in_ok-sides.ensures ∙ ap (map (λ k. record { sender = get key_eq c.in_ok-senders.senders k; receiver = get key_eq c.in_ok-receivers.receivers k })) c.as_slice.ensures.keys)
    (c.in_ok-motions.ensures ∙ ap (λ l. distinct (λ m n. m == n) (map (λ k. k.motion) l)) c.deref-3.ensures.value)
    (c.in_ok-rows.ensures ∙ (λ i. map (λ m. places_where (λ k. k.motion == m) (c.deref-4.ensures.value i)) (c.as_slice-2.ensures.keys i)))
    c.in_ok-order.ensures
