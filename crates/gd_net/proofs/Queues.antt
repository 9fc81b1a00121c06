-- The queues of nodes: one of them, and what changing it changes in all.
use Rattle.std.proofs.Common.{◌≡◌, ◌≢◌, ℕ, zero, suc, ◌+◌, ◌<◌, ◌≤◌, ℤ, pos, negsuc, List, [], ◌∷◌, ◌++◌, length, map, set, get_or, Bool, true, false, cond, refl, ap, sym, ◌∙◌, subst, arith, inl, inr, ◌⊎◌, append_assoc}
use Rattle.std.proofs.lemmas.List.{map-append}
use Rattle.std.proofs.lemmas.List.Concat.{flat_map-append}
use Rattle.std.proofs.lemmas.Bool.Decides.{Decides-int_eq, Decides-eqb}
use Rattle.std.specs.List.{AllByRecursion}
use Rattle.std.specs.Ordering.{int_eq}
use Rattle.ic_base.specs.declared.datagram.Datagram.{Datagram}
use Rattle.gd_net.specs.declared.node.Numbered.{Numbered}
use Rattle.gd_net.specs.declared.node.Node.{Node}
use Rattle.gd_net.specs.Network.{place_of, is_for, those_for, IsFirstFor}
use Rattle.gd_net.specs.Inside.{node_at, queue_of, all_of, in_order, datagram_of, kept_in, Increase, IsQueue, AreQueues}
use Rattle.gd_net.proofs.Order.{all-append, all-weaken, all_in_order, in_order_more, in_order_leaves, Leaves}

-- ---- one node among all

-- the nodes before it and after it
pub record Stands (nodes : List Node) (k : ℕ) (node : Node) : Type 0 where
  pub front : List Node
  pub back : List Node
  pub are : nodes ≡ front ++ node ∷ back
  pub place : length front ≡ k
  pub written : (new : Node) → set nodes k new ≡ front ++ new ∷ back

pub stands : (nodes : List Node) (k : ℕ) (node : Node) → k < length nodes → node ≡ get_or nodes k node → Stands nodes k node
stands [] k node lt is = absurd (omega (arith, lt))
stands (n ∷ ns) zero node lt is = record { front = []; back = ns; are = ap (λ x. x ∷ ns) (sym is); place = refl; written = λ new. refl }
stands (n ∷ ns) (suc k) node lt is =
    let w = stands ns k node (omega (arith, lt)) is in
    record { front = n ∷ w.front; back = w.back; are = ap (λ l. n ∷ l) w.are; place = ap suc w.place; written = λ new. ap (λ l. n ∷ l) (w.written new) }

all_of-between : (front back : List Node) (node : Node) → all_of (front ++ node ∷ back) ≡ all_of front ++ (queue_of node ++ all_of back)
all_of-between front back node = flat_map-append queue_of front (node ∷ back)

-- ---- places

node_at-other : (j k : ℕ) → j ≢ k → node_at j ≡ node_at k → ⊥
node_at-other zero zero ne is = ne refl
node_at-other zero (suc k) ne is = cc
node_at-other (suc j) zero ne is = cc
node_at-other (suc j) (suc k) ne is = let same : j ≡ k = cc in ne (ap suc same)

pub place_of-node_at : (k : ℕ) → place_of (node_at k) ≡ k
place_of-node_at zero = refl
place_of-node_at (suc k) = omega arith

pub for-same : (at : ℤ) (d : Datagram) → d.to ≡ at → is_for at d ≡ true
for-same at d is = (Decides-int_eq d.to at).1 is

for-other : (j k : ℕ) (d : Datagram) → j ≢ k → d.to ≡ node_at j → is_for (node_at k) d ≡ false
for-other j k d ne is = not_true (is_for (node_at k) d) (λ yes. node_at-other j k ne (sym is ∙ (Decides-int_eq d.to (node_at k)).0 yes))
  where
    not_true : (b : Bool) → (b ≡ true → ⊥) → b ≡ false
    not_true true h = absurd (h refl)
    not_true false h = refl

-- it is addressed to another node than the one at this position
abbrev pub IsElsewhere : ℕ → Numbered → Type 0
IsElsewhere k e = is_for (node_at k) e.datagram ≡ false

elsewhere_queue : (j k sent : ℕ) (queue : List Numbered) → j ≢ k → IsQueue j sent queue → AllByRecursion (IsElsewhere k) queue
elsewhere_queue j k sent queue ne q = all-weaken (λ e. e.datagram.to ≡ node_at j) (IsElsewhere k) queue (λ e to. for-other j k e.datagram ne to) q.to

elsewhere_below : (from k sent : ℕ) (nodes : List Node) → AreQueues from sent nodes → from + length nodes ≤ k → AllByRecursion (IsElsewhere k) (all_of nodes)
elsewhere_below from k sent [] q le = tt
elsewhere_below from k sent (n ∷ ns) q le =
    all-append (IsElsewhere k) (queue_of n) (all_of ns) (elsewhere_queue from k sent (queue_of n) (λ is. omega (arith, le, is)) q.0) (elsewhere_below (suc from) k sent ns q.1 (omega (arith, le)))

elsewhere_above : (from k sent : ℕ) (nodes : List Node) → AreQueues from sent nodes → k < from → AllByRecursion (IsElsewhere k) (all_of nodes)
elsewhere_above from k sent [] q lt = tt
elsewhere_above from k sent (n ∷ ns) q lt =
    all-append (IsElsewhere k) (queue_of n) (all_of ns) (elsewhere_queue from k sent (queue_of n) (λ is. omega (arith, lt, is)) q.0) (elsewhere_above (suc from) k sent ns q.1 (omega (arith, lt)))

none_those : (k : ℕ) (es : List Numbered) → AllByRecursion (IsElsewhere k) es → those_for (node_at k) (map datagram_of es) ≡ []
none_those k [] h = refl
none_those k (e ∷ es) h = ap (λ b. cond b (e.datagram ∷ those_for (node_at k) (map datagram_of es)) (those_for (node_at k) (map datagram_of es))) h.0 ∙ none_those k es h.1

-- ---- the queues of all nodes

queues_front : (from sent : ℕ) (front rest : List Node) → AreQueues from sent (front ++ rest) → AreQueues from sent front
queues_front from sent [] rest q = tt
queues_front from sent (n ∷ ns) rest q = (q.0, queues_front (suc from) sent ns rest q.1)

queues_back : (from k sent : ℕ) (front rest : List Node) → from + length front ≡ k → AreQueues from sent (front ++ rest) → AreQueues k sent rest
queues_back from k sent [] rest is q = subst (λ p. AreQueues p sent rest) (omega (arith, is)) q
queues_back from k sent (n ∷ ns) rest is q = queues_back (suc from) k sent ns rest (omega (arith, is)) q.1

queues_join : (from k sent : ℕ) (front rest : List Node) → from + length front ≡ k → AreQueues from sent front → AreQueues k sent rest → AreQueues from sent (front ++ rest)
queues_join from k sent [] rest is q r = subst (λ p. AreQueues p sent rest) (omega (arith, is)) r
queues_join from k sent (n ∷ ns) rest is q r = (q.0, queues_join (suc from) k sent ns rest (omega (arith, is)) q.1 r)

queue_more : (place sent now : ℕ) (queue : List Numbered) → sent ≤ now → IsQueue place sent queue → IsQueue place now queue
queue_more place sent now queue le q = record {
  to = q.to;
  numbers = all-weaken (λ e. e.number ≤ sent) (λ e. e.number ≤ now) queue (λ e below. omega (arith, le, below)) q.numbers;
  increase = q.increase;
}

-- more sends
pub queues_later : (from sent now : ℕ) (nodes : List Node) → sent ≤ now → AreQueues from sent nodes → AreQueues from now nodes
queues_later from sent now [] le q = tt
queues_later from sent now (n ∷ ns) le q = (queue_more from sent now (queue_of n) le q.0, queues_later (suc from) sent now ns le q.1)

pub queue_here : (sent k : ℕ) (nodes : List Node) (node : Node) → AreQueues 0 sent nodes → Stands nodes k node → IsQueue k sent (queue_of node)
queue_here sent k nodes node q w = (queues_back 0 k sent w.front (node ∷ w.back) (omega (arith, w.place)) (subst (AreQueues 0 sent) w.are q)).0

-- one of them is replaced
pub queues_written : (sent k : ℕ) (nodes : List Node) (node new : Node) → AreQueues 0 sent nodes → Stands nodes k node → IsQueue k sent (queue_of new) → AreQueues 0 sent (set nodes k new)
queues_written sent k nodes node new q w here =
    let all = subst (AreQueues 0 sent) w.are q in
    let same : 0 + length w.front ≡ k = omega (arith, w.place) in
    subst (AreQueues 0 sent) (sym (w.written new))
    (queues_join 0 k sent w.front (new ∷ w.back) same (queues_front 0 sent w.front (node ∷ w.back) all) (here, (queues_back 0 k sent w.front (node ∷ w.back) same all).1))

numbers_all : (from sent : ℕ) (nodes : List Node) → AreQueues from sent nodes → AllByRecursion (λ e. e.number ≤ sent) (all_of nodes)
numbers_all from sent [] q = tt
numbers_all from sent (n ∷ ns) q = all-append (λ e. e.number ≤ sent) (queue_of n) (all_of ns) q.0.numbers (numbers_all (suc from) sent ns q.1)

-- ---- one more in a queue

increase_last : (least : ℕ) (es : List Numbered) (e : Numbered) → least ≤ e.number → AllByRecursion (λ f. f.number < e.number) es → Increase least es → Increase least (es ++ e ∷ [])
increase_last least [] e le below up = (le, tt)
increase_last least (f ∷ fs) e le below up = let lt : f.number < e.number = below.0 in (up.0, increase_last (suc f.number) fs e (omega (arith, lt)) below.1 up.1)

pub queue_longer : (k sent : ℕ) (queue : List Numbered) (e : Numbered) → IsQueue k sent queue → e.number ≡ sent + 1 → e.datagram.to ≡ node_at k → IsQueue k (sent + 1) (queue ++ e ∷ [])
queue_longer k sent queue e q number to = record {
  to = all-append (λ f. f.datagram.to ≡ node_at k) queue (e ∷ []) q.to (to, tt);
  numbers = all-append (λ f. f.number ≤ sent + 1) queue (e ∷ []) (all-weaken (λ f. f.number ≤ sent) (λ f. f.number ≤ sent + 1) queue (λ f below. omega (arith, below)) q.numbers) (omega (arith, number), tt);
  increase = increase_last 0 queue e (omega arith) (all-weaken (λ f. f.number ≤ sent) (λ f. f.number < e.number) queue (λ f below. omega (arith, below, number)) q.numbers) q.increase;
}

pub kept_longer : (sent k : ℕ) (nodes : List Node) (node new : Node) (e : Numbered) → AreQueues 0 sent nodes → Stands nodes k node → queue_of new ≡ queue_of node ++ e ∷ [] → e.number ≡ sent + 1
    → kept_in (set nodes k new) ≡ kept_in nodes ++ e.datagram ∷ []
kept_longer sent k nodes node new e q w is number =
    let xs = all_of w.front ++ queue_of node in
    let ys = all_of w.back in
    let old : all_of nodes ≡ xs ++ ys = ap all_of w.are ∙ all_of-between w.front w.back node ∙ sym (append_assoc (all_of w.front) (queue_of node) ys) in
    let now : all_of (set nodes k new) ≡ xs ++ e ∷ ys =
    ap all_of (w.written new) ∙ all_of-between w.front w.back new
    ∙ ap (λ l. all_of w.front ++ (l ++ ys)) is ∙ ap (λ l. all_of w.front ++ l) (append_assoc (queue_of node) (e ∷ []) ys) ∙ sym (append_assoc (all_of w.front) (queue_of node) (e ∷ ys)) in
    let below : AllByRecursion (λ f. f.number < e.number) (xs ++ ys) =
    subst (AllByRecursion (λ f. f.number < e.number)) old (all-weaken (λ f. f.number ≤ sent) (λ f. f.number < e.number) (all_of nodes) (λ f le. omega (arith, le, number)) (numbers_all 0 sent nodes q)) in
    ap (λ l. map datagram_of (in_order l)) now ∙ ap (map datagram_of) (in_order_more xs ys e below) ∙ map-append datagram_of (in_order (xs ++ ys)) (e ∷ [])
    ∙ ap (λ l. map datagram_of (in_order l) ++ e.datagram ∷ []) (sym old)

-- ---- one fewer

increase_all : (least : ℕ) (es : List Numbered) → Increase least es → AllByRecursion (λ f. least ≤ f.number) es
increase_all least [] up = tt
increase_all least (e ∷ es) up =
    let le : least ≤ e.number = up.0 in
    (le, all-weaken (λ f. suc e.number ≤ f.number) (λ f. least ≤ f.number) es (λ f more. omega (arith, le, more)) (increase_all (suc e.number) es up.1))

increase_less : (least : ℕ) (es : List Numbered) → Increase least es → Increase 0 es
increase_less least [] up = tt
increase_less least (e ∷ es) up = (omega arith, up.1)

pub queue_shorter : (k sent : ℕ) (queue rest : List Numbered) (e : Numbered) → IsQueue k sent queue → queue ≡ e ∷ rest → IsQueue k sent rest
queue_shorter k sent queue rest e q is =
    let w = subst (IsQueue k sent) is q in
    record { to = w.to.1; numbers = w.numbers.1; increase = increase_less (suc e.number) rest w.increase.1 }

pub kept_shorter : (sent k : ℕ) (nodes : List Node) (node new : Node) (e : Numbered) → AreQueues 0 sent nodes → Stands nodes k node → queue_of node ≡ e ∷ queue_of new
    → IsFirstFor (node_at k) (kept_in nodes) e.datagram (kept_in (set nodes k new))
kept_shorter sent k nodes node new e q w is =
    let xs = all_of w.front in
    let ys = queue_of new ++ all_of w.back in
    let old : all_of nodes ≡ xs ++ e ∷ ys = ap all_of w.are ∙ all_of-between w.front w.back node ∙ ap (λ l. xs ++ (l ++ all_of w.back)) is in
    let now : all_of (set nodes k new) ≡ xs ++ ys = ap all_of (w.written new) ∙ all_of-between w.front w.back new in
    let all = subst (AreQueues 0 sent) w.are q in
    let same : 0 + length w.front ≡ k = omega (arith, w.place) in
    let behind = queues_back 0 k sent w.front (node ∷ w.back) same all in
    let here = subst (IsQueue k sent) is behind.0 in
    let front = elsewhere_below 0 k sent w.front (queues_front 0 sent w.front (node ∷ w.back) all) (omega (arith, same)) in
    let Q : Numbered → Type 0 = λ f. IsElsewhere k f ⊎ (e.number ≤ f.number) in
    let rest : AllByRecursion Q ys =
    all-append Q (queue_of new) (all_of w.back)
    (all-weaken (λ f. suc e.number ≤ f.number) Q (queue_of new) (λ f more. inr (omega (arith, more))) (increase_all (suc e.number) (queue_of new) here.increase.1))
    (all-weaken (IsElsewhere k) Q (all_of w.back) (λ f away. inl away) (elsewhere_above (suc k) k sent w.back behind.1 (omega arith))) in
    let l = in_order_leaves (IsElsewhere k) xs ys e front rest in
    record {
      before = map datagram_of l.before;
      after = map datagram_of l.after;
      all = ap (λ l. map datagram_of (in_order l)) old ∙ ap (map datagram_of) l.are ∙ map-append datagram_of l.before (e ∷ l.after);
      others = ap (λ l. map datagram_of (in_order l)) now ∙ ap (map datagram_of) l.others ∙ map-append datagram_of l.before l.after;
      to = here.to.0;
      first = none_those k l.before l.none;
    }

-- ---- none

pub kept_same : (k : ℕ) (nodes : List Node) (node new : Node) → Stands nodes k node → queue_of new ≡ queue_of node → kept_in (set nodes k new) ≡ kept_in nodes
kept_same k nodes node new w is =
    ap (λ l. map datagram_of (in_order l))
    (ap all_of (w.written new) ∙ all_of-between w.front w.back new ∙ ap (λ l. all_of w.front ++ (l ++ all_of w.back)) is ∙ sym (all_of-between w.front w.back node) ∙ sym (ap all_of w.are))

pub none_here : (sent k : ℕ) (nodes : List Node) (node : Node) → AreQueues 0 sent nodes → Stands nodes k node → queue_of node ≡ [] → those_for (node_at k) (kept_in nodes) ≡ []
none_here sent k nodes node q w is =
    let all = subst (AreQueues 0 sent) w.are q in
    let same : 0 + length w.front ≡ k = omega (arith, w.place) in
    let old : all_of nodes ≡ all_of w.front ++ all_of w.back = ap all_of w.are ∙ all_of-between w.front w.back node ∙ ap (λ l. all_of w.front ++ (l ++ all_of w.back)) is in
    let away = all-append (IsElsewhere k) (all_of w.front) (all_of w.back)
    (elsewhere_below 0 k sent w.front (queues_front 0 sent w.front (node ∷ w.back) all) (omega (arith, same)))
    (elsewhere_above (suc k) k sent w.back (queues_back 0 k sent w.front (node ∷ w.back) same all).1 (omega arith)) in
    none_those k (in_order (all_of nodes)) (all_in_order (IsElsewhere k) (all_of nodes) (subst (AllByRecursion (IsElsewhere k)) (sym old) away))

pub none_past : (sent k : ℕ) (nodes : List Node) → AreQueues 0 sent nodes → length nodes ≤ k → those_for (node_at k) (kept_in nodes) ≡ []
none_past sent k nodes q le = none_those k (in_order (all_of nodes)) (all_in_order (IsElsewhere k) (all_of nodes) (elsewhere_below 0 k sent nodes q (omega (arith, le))))
