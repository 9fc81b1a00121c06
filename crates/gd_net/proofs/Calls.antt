-- As what a network is seen after each of its calls.
use Rattle.std.proofs.Common.{◌≡◌, ◌≢◌, ℕ, zero, suc, ◌+◌, ◌<◌, ◌≤◌, ℤ, List, [], ◌∷◌, ◌++◌, length, map, set, get_or, replicate, Bool, true, false, not, nat_lt, ◌||◌, cond, Option, Some, None, refl, ap, sym, ◌∙◌, subst, arith, inl, inr, ◌⊎◌, append-nil}
use Rattle.std.proofs.lemmas.Bool.{le-ltb, lt-ltb, or_right, cond-true, cond-false}
use Rattle.std.proofs.lemmas.List.{map-append, length-map, set_past, get_or-set_other, map-set}
use Rattle.std.proofs.lemmas.Bool.Decides.{eqb_tells}
use Rattle.ic_base.specs.declared.datagram.Datagram.{Datagram}
use Rattle.gd_net.specs.declared.node.Numbered.{Numbered}
use Rattle.gd_net.specs.declared.node.Node.{Node}
use Rattle.gd_net.specs.declared.network.Received.{Received}
use Rattle.gd_net.specs.declared.network.Received.TheVariants.{Came, Idle, Quiet}
use Rattle.gd_net.specs.Network.{Net, place_of, fresh, is_dropped, is_lost, kept_of, after_send, those_for, IsFirstFor, IsQuiet, with_hand, Receives}
use Rattle.gd_net.specs.Inside.{node_at, queue_of, has_one, all_of, in_order, kept_in, datagram_of, IsQueue, AreQueues, GivesNext, AreStill, GivesNone, AreEmpty}
use Rattle.gd_net.proofs.Order.{in_order_none}
use Rattle.gd_net.proofs.Queues.{Stands, queue_here, queues_written, queues_later, queue_longer, queue_shorter, kept_longer, kept_shorter, kept_same, none_here, none_past}

abbrev pub net : List ℕ → ℕ → List Datagram → List Bool → Net
net drops sent kept in_hand = record { drops = drops; sent = sent; kept = kept; in_hand = in_hand }

abbrev pub seen : List ℕ → ℕ → List Node → Net
seen drops sent nodes = net drops sent (kept_in nodes) (map has_one nodes)

hands_written : (nodes : List Node) (k : ℕ) (node new : Node) → Stands nodes k node → new.has_one ≡ node.has_one → map has_one (set nodes k new) ≡ map has_one nodes
hands_written nodes k node new w is =
    ap (map has_one) (w.written new) ∙ map-append has_one w.front (new ∷ w.back) ∙ ap (λ b. map has_one w.front ++ b ∷ map has_one w.back) is
    ∙ sym (map-append has_one w.front (node ∷ w.back)) ∙ ap (map has_one) (sym w.are)

-- ---- a send

pub sent_lost : (drops : List ℕ) (sent number place : ℕ) (nodes : List Node) (d : Datagram) → number ≡ sent + 1 → place ≡ place_of d.to
    → (length nodes ≤ place) ⊎ (is_dropped drops number ≡ true) → seen drops number nodes ≡ after_send d (seen drops sent nodes)
sent_lost drops sent number place nodes d is at why =
    let hand = map has_one nodes in
    let lost : is_lost drops (length hand) (sent + 1) d ≡ true = elim why [
      | inl past ↦ ap (λ b. not b || is_dropped drops (sent + 1)) (le-ltb (place_of d.to) (length hand) (omega (arith, past, at, length-map nodes has_one)))
      | inr dropped ↦ or_right (not (nat_lt (place_of d.to) (length hand))) (is_dropped drops (sent + 1)) (subst (λ n. is_dropped drops n ≡ true) is dropped)
    ] in
    ap (λ n. net drops n (kept_in nodes) hand) is
    ∙ ap (λ l. net drops (sent + 1) l hand) (sym (append-nil (kept_in nodes)) ∙ ap (λ l. kept_in nodes ++ l) (sym (cond-true (is_lost drops (length hand) (sent + 1) d) [] (d ∷ []) lost)))

pub sent_kept : (drops : List ℕ) (sent number place : ℕ) (nodes : List Node) (node new : Node) (d : Datagram) → AreQueues 0 sent nodes → Stands nodes place node
    → number ≡ sent + 1 → place ≡ place_of d.to → place < length nodes → is_dropped drops number ≡ false
    → queue_of new ≡ queue_of node ++ record { number = number; datagram = d } ∷ [] → new.has_one ≡ node.has_one
    → seen drops number (set nodes place new) ≡ after_send d (seen drops sent nodes)
sent_kept drops sent number place nodes node new d q w is at lt kept longer same =
    let hand = map has_one nodes in
    let here : nat_lt (place_of d.to) (length hand) ≡ true = lt-ltb (place_of d.to) (length hand) (omega (arith, lt, at, length-map nodes has_one)) in
    let not_lost : is_lost drops (length hand) (sent + 1) d ≡ false = ap (λ b. not b || is_dropped drops (sent + 1)) here ∙ subst (λ n. is_dropped drops n ≡ false) is kept in
    ap (λ n. net drops n (kept_in (set nodes place new)) (map has_one (set nodes place new))) is
    ∙ ap (λ l. net drops (sent + 1) (kept_in (set nodes place new)) l) (hands_written nodes place node new w same)
    ∙ ap (λ l. net drops (sent + 1) l hand) (kept_longer sent place nodes node new (record { number = number; datagram = d }) q w longer is
    ∙ ap (λ l. kept_in nodes ++ l) (sym (cond-false (is_lost drops (length hand) (sent + 1) d) [] (d ∷ []) not_lost)))

pub queues_kept : (sent number place : ℕ) (nodes : List Node) (node new : Node) (d : Datagram) → AreQueues 0 sent nodes → Stands nodes place node
    → number ≡ sent + 1 → d.to ≡ node_at place → queue_of new ≡ queue_of node ++ record { number = number; datagram = d } ∷ [] → AreQueues 0 number (set nodes place new)
queues_kept sent number place nodes node new d q w is to longer =
    subst (λ n. AreQueues 0 n (set nodes place new)) (sym is)
    (queues_written (sent + 1) place nodes node new (queues_later 0 sent (sent + 1) nodes (omega arith) q) w
    (subst (IsQueue place (sent + 1)) (sym longer) (queue_longer place sent (queue_of node) (record { number = number; datagram = d }) (queue_here sent place nodes node q w) is to)))

pub queues_same : (sent place : ℕ) (nodes : List Node) (node new : Node) → AreQueues 0 sent nodes → Stands nodes place node → queue_of new ≡ queue_of node → AreQueues 0 sent (set nodes place new)
queues_same sent place nodes node new q w same = queues_written sent place nodes node new q w (subst (IsQueue place sent) (sym same) (queue_here sent place nodes node q w))

pub seen_same : (drops : List ℕ) (sent place : ℕ) (nodes : List Node) (node new : Node) → Stands nodes place node → queue_of new ≡ queue_of node → new.has_one ≡ node.has_one
    → seen drops sent (set nodes place new) ≡ seen drops sent nodes
seen_same drops sent place nodes node new w queue hand =
    ap (λ l. net drops sent l (map has_one (set nodes place new))) (kept_same place nodes node new w queue) ∙ ap (net drops sent (kept_in nodes)) (hands_written nodes place node new w hand)

-- ---- a receive

pub queues_next : (sent place : ℕ) (nodes : List Node) (node new : Node) (got : Option Datagram) → AreQueues 0 sent nodes → Stands nodes place node → GivesNext node got new → AreQueues 0 sent (set nodes place new)
queues_next sent place nodes node new None q w h = queues_same sent place nodes node new q w (h.1 ∙ sym h.0)
queues_next sent place nodes node new (Some d) q w h =
    queues_written sent place nodes node new q w (queue_shorter place sent (queue_of node) (queue_of new) (record { number = h.0; datagram = d }) (queue_here sent place nodes node q w) h.1)

pub gives_first : (at : ℤ) (drops : List ℕ) (sent place : ℕ) (nodes : List Node) (node new : Node) (d : Datagram) → place ≡ place_of at → at ≡ node_at place → AreQueues 0 sent nodes → Stands nodes place node
    → GivesNext node (Some d) new → Receives at (seen drops sent nodes) (Came d) (seen drops sent (set nodes place new))
gives_first at drops sent place nodes node new d is to q w h = (
  kept_in (set nodes place new),
  subst (λ a. IsFirstFor a (kept_in nodes) d (kept_in (set nodes place new))) (sym to) (kept_shorter sent place nodes node new (record { number = h.0; datagram = d }) q w h.1),
  ap (net drops sent (kept_in (set nodes place new))) (map-set has_one nodes place new ∙ ap (set (map has_one nodes) place) h.2 ∙ ap (λ p. set (map has_one nodes) p true) is),
)

-- nothing is queued if nothing is kept
no_queue : (nodes : List Node) → all_of nodes ≡ [] → (k : ℕ) (d : Node) → k < length nodes → queue_of (get_or nodes k d) ≡ []
no_queue [] none k d lt = absurd (omega (arith, lt))
no_queue (n ∷ ns) none zero d lt = first (queue_of n) (all_of ns) none
  where
    first : (xs ys : List Numbered) → xs ++ ys ≡ [] → xs ≡ []
    first [] ys h = refl
    first (x ∷ xs) ys h = cc
no_queue (n ∷ ns) none (suc k) d lt = no_queue ns (second (queue_of n) (all_of ns) none) k d (omega (arith, lt))
  where
    second : (xs ys : List Numbered) → xs ++ ys ≡ [] → ys ≡ []
    second [] ys h = h
    second (x ∷ xs) ys h = cc

no_queues : (nodes : List Node) → ((k : ℕ) (d : Node) → k < length nodes → queue_of (get_or nodes k d) ≡ []) → all_of nodes ≡ []
no_queues [] h = refl
no_queues (n ∷ ns) h = ap (λ l. l ++ all_of ns) (h 0 n (omega arith)) ∙ no_queues ns (λ k d lt. h (suc k) d (omega (arith, lt)))

map_none : (es : List Numbered) → map datagram_of es ≡ [] → es ≡ []
map_none [] h = refl
map_none (e ∷ es) h = cc

hand_at : (nodes : List Node) (k : ℕ) → ((d : Node) → k < length nodes → (get_or nodes k d).has_one ≡ false) → get_or (map has_one nodes) k false ≡ false
hand_at [] k h = past k
  where
    past : (k : ℕ) → get_or [] k false ≡ false
    past zero = refl
    past (suc k) = refl
hand_at (n ∷ ns) zero h = h n (omega arith)
hand_at (n ∷ ns) (suc k) h = hand_at ns k (λ d lt. h d (omega (arith, lt)))

hand_of : (nodes : List Node) (k : ℕ) (d : Node) → k < length nodes → get_or (map has_one nodes) k false ≡ false → (get_or nodes k d).has_one ≡ false
hand_of [] k d lt h = absurd (omega (arith, lt))
hand_of (n ∷ ns) zero d lt h = h
hand_of (n ∷ ns) (suc k) d lt h = hand_of ns k d (omega (arith, lt)) h

-- all nodes are still exactly if the network is quiet
still-quiet : (at : ℤ) (drops : List ℕ) (sent place : ℕ) (nodes : List Node) → place ≡ place_of at → AreStill place nodes → IsQuiet at (seen drops sent nodes)
still-quiet at drops sent place nodes is still = record {
  none = ap (λ l. map datagram_of (in_order l)) (no_queues nodes (λ k d lt. (still k d lt).0));
  others = λ k ne. hand_at nodes k (λ d lt. (still k d lt).1 (λ same. ne (same ∙ is)));
}

quiet-still : (at : ℤ) (drops : List ℕ) (sent place : ℕ) (nodes : List Node) → place ≡ place_of at → IsQuiet at (seen drops sent nodes) → AreStill place nodes
quiet-still at drops sent place nodes is quiet k d lt =
    (no_queue nodes (in_order_none (all_of nodes) (map_none (in_order (all_of nodes)) quiet.none)) k d lt, λ ne. hand_of nodes k d lt (quiet.others k (λ same. ne (same ∙ sym is))))

gives_none : (at : ℤ) (before after : Net) (Still : Type 0) (got : Received) → those_for at before.kept ≡ [] → after ≡ with_hand at false before → (Still → IsQuiet at before) → (IsQuiet at before → Still)
    → GivesNone got Still → Receives at before got after
gives_none at before after Still (Came d) none is quiet still h = absurd h
gives_none at before after Still Idle none is quiet still h = (none, λ q. h (still q), is)
gives_none at before after Still Quiet none is quiet still h = (quiet h, is)

pub gives_none_past : (at : ℤ) (drops : List ℕ) (sent place : ℕ) (nodes : List Node) (got : Received) → place ≡ place_of at → at ≡ node_at place → AreQueues 0 sent nodes → length nodes ≤ place
    → GivesNone got (AreStill place nodes) → Receives at (seen drops sent nodes) got (seen drops sent nodes)
gives_none_past at drops sent place nodes got is to q past h =
    gives_none at (seen drops sent nodes) (seen drops sent nodes) (AreStill place nodes) got
    (subst (λ a. those_for a (kept_in nodes) ≡ []) (sym to) (none_past sent place nodes q past))
    (ap (net drops sent (kept_in nodes)) (sym (set_past (map has_one nodes) (place_of at) false (omega (arith, past, is, length-map nodes has_one)))))
    (still-quiet at drops sent place nodes is) (quiet-still at drops sent place nodes is) h

pub gives_none_here : (at : ℤ) (drops : List ℕ) (sent place : ℕ) (nodes : List Node) (node new : Node) (got : Received) → place ≡ place_of at → at ≡ node_at place → AreQueues 0 sent nodes → Stands nodes place node
    → GivesNext node None new → GivesNone got (AreStill place (set nodes place new)) → Receives at (seen drops sent nodes) got (seen drops sent (set nodes place new))
gives_none_here at drops sent place nodes node new got is to q w next h =
    let same : kept_in (set nodes place new) ≡ kept_in nodes = kept_same place nodes node new w (next.1 ∙ sym next.0) in
    let hands : map has_one (set nodes place new) ≡ set (map has_one nodes) (place_of at) false =
    map-set has_one nodes place new ∙ ap (set (map has_one nodes) place) next.2 ∙ ap (λ p. set (map has_one nodes) p false) is in
    let after : seen drops sent (set nodes place new) ≡ with_hand at false (seen drops sent nodes) =
    ap (λ l. net drops sent l (map has_one (set nodes place new))) same ∙ ap (net drops sent (kept_in nodes)) hands in
    let elsewhere : (k : ℕ) → k ≢ place_of at → get_or (map has_one (set nodes place new)) k false ≡ get_or (map has_one nodes) k false =
    λ k ne. ap (λ l. get_or l k false) hands ∙ get_or-set_other (map has_one nodes) (place_of at) k false false ne in
    gives_none at (seen drops sent nodes) (seen drops sent (set nodes place new)) (AreStill place (set nodes place new)) got
    (subst (λ a. those_for a (kept_in nodes) ≡ []) (sym to) (none_here sent place nodes node q w next.0))
    after
    (λ still. let quiet = still-quiet at drops sent place (set nodes place new) is still in
    record { none = sym same ∙ quiet.none; others = λ k ne. sym (elsewhere k ne) ∙ quiet.others k ne })
    (λ quiet. quiet-still at drops sent place (set nodes place new) is (record { none = same ∙ quiet.none; others = λ k ne. elsewhere k ne ∙ quiet.others k ne }))
    h

-- ---- at first

empty_nodes : (place sent : ℕ) (nodes : List Node) → ((k : ℕ) (d : Node) → k < length nodes → (queue_of (get_or nodes k d) ≡ []) × ((get_or nodes k d).has_one ≡ false))
    → AreQueues place sent nodes × (map has_one nodes ≡ replicate (length nodes) false)
empty_nodes place sent [] h = (tt, refl)
empty_nodes place sent (n ∷ ns) h =
    let rest = empty_nodes (suc place) sent ns (λ k d lt. h (suc k) d (omega (arith, lt))) in
    let here = h 0 n (omega arith) in
    ((subst (IsQueue place sent) (sym here.0) (record { to = tt; numbers = tt; increase = tt }), rest.0), ap (λ b. b ∷ map has_one ns) here.1 ∙ ap (λ l. false ∷ l) rest.1)

pub empty_queues : (count : ℕ) (nodes : List Node) → AreEmpty count nodes → AreQueues 0 0 nodes
empty_queues count nodes h = (empty_nodes 0 0 nodes h.queues).0

pub seen_fresh : (drops : List ℕ) (segments : ℕ) (nodes : List Node) → AreEmpty (segments + 1) nodes → seen drops 0 nodes ≡ fresh segments drops
seen_fresh drops segments nodes h =
    ap (λ l. net drops 0 (map datagram_of (in_order l)) (map has_one nodes)) (no_queues nodes (λ k d lt. (h.queues k d lt).0))
    ∙ ap (net drops 0 []) ((empty_nodes 0 0 nodes h.queues).1 ∙ ap (λ n. replicate n false) h.many)

-- under other names
pub receives_as : (at : ℤ) (before named after : Net) (got told : Received) → before ≡ named → told ≡ got → Receives at before got after → Receives at named told after
receives_as at before named after got told is same h = subst (λ n. Receives at n told after) is (subst (λ r. Receives at before r after) (sym same) h)
