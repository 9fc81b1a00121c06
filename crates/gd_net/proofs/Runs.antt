-- The laws of lists of calls.
use Rattle.std.proofs.Common.{◌≡◌, ◌≢◌, ℕ, zero, suc, ◌+◌, ◌<◌, ◌≤◌, ℤ, List, [], ◌∷◌, ◌++◌, length, replicate, Bool, true, false, not, nat_lt, ◌||◌, cond, refl, ap, sym, ◌∙◌, subst, arith, inl, inr, ◌⊎◌, append_assoc, append-nil, length-append}
use Rattle.std.proofs.lemmas.List.{length-set, length-replicate}
use Rattle.std.proofs.lemmas.List.Elements.{filter-append, All-contains, All-contains_itself, All-from_recursion, recursion_from_All, Contains-append_left, Contains-append_right}
use Rattle.std.proofs.lemmas.Bool.{lt-ltb}
use Rattle.std.proofs.lemmas.Bool.Decides.{Decides-int_eq}
use Rattle.std.specs.List.{AllByRecursion, All, Contains, flat_map}
use Rattle.std.specs.Ordering.{int_eq}
use Rattle.ic_base.specs.declared.datagram.Datagram.{Datagram}
use Rattle.gd_net.specs.declared.network.Received.{Received}
use Rattle.gd_net.specs.declared.network.Received.TheVariants.{Came, Idle, Quiet}
use Rattle.gd_net.specs.Network.{Net, place_of, fresh, is_dropped, is_lost, kept_of, after_send, is_for, those_for, IsFirstFor, Receives}
use Rattle.gd_net.specs.History.{Call, sends, receives, Does, Runs, sent_in, sent_of, given, came_in, came_to, carried}
use Rattle.gd_net.specs.Laws.{ComesInOrder, WasSent, WithoutLoss, CountsSends}
use Rattle.gd_net.proofs.Order.{all-append}
use Rattle.gd_net.proofs.Queues.{for-same}

for-not : (at : ℤ) (d : Datagram) → (d.to ≡ at → ⊥) → is_for at d ≡ false
for-not at d ne = by (is_for at d) refl
  where
    by : (b : Bool) → is_for at d ≡ b → b ≡ false
    by true is_so = absurd (ne ((Decides-int_eq d.to at).0 is_so))
    by false no_ = refl

cases : (b : Bool) → (b ≡ true) ⊎ (b ≡ false)
cases true = inl refl
cases false = inr refl

those-first : (at : ℤ) (d : Datagram) (ds : List Datagram) → is_for at d ≡ true → those_for at (d ∷ ds) ≡ d ∷ those_for at ds
those-first at d ds is = ap (λ b. cond b (d ∷ those_for at ds) (those_for at ds)) is

those-skip : (at : ℤ) (d : Datagram) (ds : List Datagram) → is_for at d ≡ false → those_for at (d ∷ ds) ≡ those_for at ds
those-skip at d ds is = ap (λ b. cond b (d ∷ those_for at ds) (those_for at ds)) is

-- ---- one receive

-- the first of those for a node left them
first_left : (at : ℤ) (kept left : List Datagram) (d : Datagram) → IsFirstFor at kept d left → d ∷ those_for at left ≡ those_for at kept
first_left at kept left d w =
    let behind : those_for at left ≡ those_for at w.after = ap (those_for at) w.others ∙ filter-append (is_for at) w.before w.after ∙ ap (λ l. l ++ those_for at w.after) w.first in
    let all : those_for at kept ≡ d ∷ those_for at w.after =
    ap (those_for at) w.all ∙ filter-append (is_for at) w.before (d ∷ w.after) ∙ ap (λ l. l ++ those_for at (d ∷ w.after)) w.first ∙ those-first at d w.after (for-same at d w.to) in
    ap (λ l. d ∷ l) behind ∙ sym all

-- those for another node stayed
others_left : (at to : ℤ) (kept left : List Datagram) (d : Datagram) → (to ≡ at → ⊥) → IsFirstFor to kept d left → those_for at left ≡ those_for at kept
others_left at to kept left d ne w =
    ap (those_for at) w.others ∙ filter-append (is_for at) w.before w.after
    ∙ ap (λ l. those_for at w.before ++ l) (sym (those-skip at d w.after (for-not at d (λ is. ne (sym w.to ∙ is)))))
    ∙ sym (filter-append (is_for at) w.before (d ∷ w.after)) ∙ ap (those_for at) (sym w.all)

came-other : (at to : ℤ) (got : Received) → int_eq to at ≡ false → came_in at (receives to got) ≡ []
came-other at to got is = ap (λ b. cond b (given got) []) is

came-same : (at to : ℤ) (got : Received) → int_eq to at ≡ true → came_in at (receives to got) ≡ given got
came-same at to got is = ap (λ b. cond b (given got) []) is

none_given : (at to : ℤ) (got : Received) → given got ≡ [] → came_in at (receives to got) ≡ []
none_given at to got none = by (int_eq to at) refl
  where
    by : (b : Bool) → int_eq to at ≡ b → came_in at (receives to got) ≡ []
    by true is = came-same at to got is ∙ none
    by false is = came-other at to got is

-- what is unchanged by a receive
pub record Keeps (net new : Net) : Type 0 where
  pub drops : new.drops ≡ net.drops
  pub sent : new.sent ≡ net.sent
  pub nodes : length new.in_hand ≡ length net.in_hand

keeps : (at : ℤ) (net new : Net) (got : Received) → Receives at net got new → Keeps net new
keeps at net new (Came d) (left, first, is) = record {
  drops = ap (λ (n : Net). n.drops) is;
  sent = ap (λ (n : Net). n.sent) is;
  nodes = ap (λ (n : Net). length n.in_hand) is ∙ length-set net.in_hand (place_of at) true;
}
keeps at net new Idle (none, loud, is) = record {
  drops = ap (λ (n : Net). n.drops) is;
  sent = ap (λ (n : Net). n.sent) is;
  nodes = ap (λ (n : Net). length n.in_hand) is ∙ length-set net.in_hand (place_of at) false;
}
keeps at net new Quiet (quiet, is) = record {
  drops = ap (λ (n : Net). n.drops) is;
  sent = ap (λ (n : Net). n.sent) is;
  nodes = ap (λ (n : Net). length n.in_hand) is ∙ length-set net.in_hand (place_of at) false;
}

gave : (at to : ℤ) (net new : Net) (got : Received) → Receives to net got new → came_in at (receives to got) ++ those_for at new.kept ≡ those_for at net.kept
gave at to net new (Came d) (left, first, is) = by (int_eq to at) refl
  where
    kept : those_for at new.kept ≡ those_for at left
    kept = ap (λ (n : Net). those_for at n.kept) is

    by : (b : Bool) → int_eq to at ≡ b → came_in at (receives to (Came d)) ++ those_for at new.kept ≡ those_for at net.kept
    by true is_so =
        let same : to ≡ at = (Decides-int_eq to at).0 is_so in
        ap (λ l. l ++ those_for at new.kept) (came-same at to (Came d) is_so) ∙ ap (λ l. d ∷ l) kept ∙ first_left at net.kept left d (subst (λ a. IsFirstFor a net.kept d left) same first)
    by false other =
        ap (λ l. l ++ those_for at new.kept) (came-other at to (Came d) other) ∙ kept
        ∙ others_left at to net.kept left d (λ is'. both (int_eq to at) other ((Decides-int_eq to at).1 is')) first
      where
        both : (b : Bool) → b ≡ false → b ≡ true → ⊥
        both true x y = cc
        both false x y = cc
gave at to net new Idle (none, loud, is) = ap (λ l. l ++ those_for at new.kept) (none_given at to Idle refl) ∙ ap (λ (n : Net). those_for at n.kept) is
gave at to net new Quiet (quiet, is) = ap (λ l. l ++ those_for at new.kept) (none_given at to Quiet refl) ∙ ap (λ (n : Net). those_for at n.kept) is

-- ---- many calls

come_from : (at : ℤ) (calls : List Call) (net last : Net) → Runs net calls last
    → came_to at calls ++ those_for at last.kept ≡ those_for at (net.kept ++ carried net.drops (length net.in_hand) (net.sent + 1) (sent_of calls))
come_from at [] net last is = ap (λ (n : Net). those_for at n.kept) is ∙ ap (those_for at) (sym (append-nil net.kept))
come_from at (sends d ∷ calls) net last (next, does, runs) =
    come_from at calls (after_send d net) last (subst (λ n. Runs n calls last) does runs)
    ∙ ap (those_for at) (append_assoc net.kept (kept_of net.drops (length net.in_hand) (net.sent + 1) d) (carried net.drops (length net.in_hand) (net.sent + 1 + 1) (sent_of calls)))
come_from at (receives to got ∷ calls) net last (next, does, runs) =
    let k = keeps to net next got does in
    let C = carried net.drops (length net.in_hand) (net.sent + 1) (sent_of calls) in
    let same : carried next.drops (length next.in_hand) (next.sent + 1) (sent_of calls) ≡ C =
    ap (λ l. carried l (length next.in_hand) (next.sent + 1) (sent_of calls)) k.drops ∙ ap (λ n. carried net.drops n (next.sent + 1) (sent_of calls)) k.nodes
    ∙ ap (λ n. carried net.drops (length net.in_hand) (n + 1) (sent_of calls)) k.sent in
    append_assoc (came_in at (receives to got)) (came_to at calls) (those_for at last.kept)
    ∙ ap (λ l. came_in at (receives to got) ++ l) (come_from at calls next last runs ∙ ap (λ l. those_for at (next.kept ++ l)) same ∙ filter-append (is_for at) next.kept C)
    ∙ sym (append_assoc (came_in at (receives to got)) (those_for at next.kept) (those_for at C))
    ∙ ap (λ l. l ++ those_for at C) (gave at to net next got does)
    ∙ sym (filter-append (is_for at) net.kept C)

pub comes_in_order : ComesInOrder
comes_in_order segments drops calls last at runs =
    come_from at calls (fresh segments drops) last runs ∙ ap (λ n. those_for at (carried drops n 1 (sent_of calls))) (length-replicate (segments + 1) false)

counts_from : (calls : List Call) (net last : Net) → Runs net calls last → last.sent ≡ net.sent + length (sent_of calls)
counts_from [] net last is = ap (λ (n : Net). n.sent) is ∙ omega arith
counts_from (sends d ∷ calls) net last (next, does, runs) =
    counts_from calls next last runs ∙ ap (λ n. n + length (sent_of calls)) (ap (λ (n : Net). n.sent) does) ∙ omega arith
counts_from (receives to got ∷ calls) net last (next, does, runs) =
    counts_from calls next last runs ∙ ap (λ n. n + length (sent_of calls)) (keeps to net next got does).sent

pub counts_sends : CountsSends
counts_sends segments drops calls last runs = counts_from calls (fresh segments drops) last runs ∙ omega arith

-- ---- what was sent

all_kept : (P : Datagram → Type 0) (b : Bool) (d : Datagram) → P d → AllByRecursion P (cond b [] (d ∷ []))
all_kept P true d p = tt
all_kept P false d p = (p, tt)

all_carried : (P : Datagram → Type 0) (drops : List ℕ) (nodes number : ℕ) (ds : List Datagram) → AllByRecursion P ds → AllByRecursion P (carried drops nodes number ds)
all_carried P drops nodes number [] h = tt
all_carried P drops nodes number (d ∷ ds) h =
    all-append P (kept_of drops nodes number d) (carried drops nodes (number + 1) ds) (all_kept P (is_lost drops nodes number d) d h.0) (all_carried P drops nodes (number + 1) ds h.1)

all_those : (P : Datagram → Type 0) (at : ℤ) (ds : List Datagram) → AllByRecursion P ds → AllByRecursion (λ d. P d × (d.to ≡ at)) (those_for at ds)
all_those P at [] h = tt
all_those P at (d ∷ ds) h =
    let Q : Datagram → Type 0 = λ e. P e × (e.to ≡ at) in
    let rest = all_those P at ds h.1 in
    elim (cases (is_for at d)) [
      | inl is ↦ subst (AllByRecursion (λ e. P e × (e.to ≡ at))) (sym (those-first at d ds is)) ((h.0, (Decides-int_eq d.to at).0 is), rest)
      | inr is ↦ subst (AllByRecursion (λ e. P e × (e.to ≡ at))) (sym (those-skip at d ds is)) rest
    ]

-- a kept datagram is among those kept for its node
among_those : (ds : List Datagram) (d : Datagram) → Contains ds d → Contains (those_for d.to ds) d
among_those [] d (k, lt, is) = absurd (omega (arith, lt))
among_those (e ∷ ds) d (zero, lt, is) =
    subst (λ l. Contains l d) (sym (those-first d.to e ds (for-same d.to e (ap (λ (x : Datagram). x.to) is)))) (0, omega arith, is)
among_those (e ∷ ds) d (suc k, lt, is) =
    let rest = among_those ds d (k, omega (arith, lt), is) in
    elim (cases (is_for d.to e)) [
      | inl is_so ↦ subst (λ l. Contains l d) (sym (those-first d.to e ds is_so)) (Contains-append_right (e ∷ []) (those_for d.to ds) d rest)
      | inr not_ ↦ subst (λ l. Contains l d) (sym (those-skip d.to e ds not_)) rest
    ]

sent_to : (segments : ℕ) (drops : List ℕ) (calls : List Call) (last : Net) (at : ℤ) → Runs (fresh segments drops) calls last
    → All (λ d. Contains (sent_of calls) d × (d.to ≡ at)) (came_to at calls ++ those_for at last.kept)
unfolding comes_in_order
sent_to segments drops calls last at runs =
    let P : Datagram → Type 0 = λ d. Contains (sent_of calls) d × (d.to ≡ at) in
    subst (All (λ d. Contains (sent_of calls) d × (d.to ≡ at))) (sym (comes_in_order segments drops calls last at runs))
    (All-from_recursion (λ d. Contains (sent_of calls) d × (d.to ≡ at)) (those_for at (carried drops (segments + 1) 1 (sent_of calls)))
    (all_those (Contains (sent_of calls)) at (carried drops (segments + 1) 1 (sent_of calls))
    (all_carried (Contains (sent_of calls)) drops (segments + 1) 1 (sent_of calls) (recursion_from_All (Contains (sent_of calls)) (sent_of calls) (All-contains_itself (sent_of calls))))))

pub was_sent : WasSent
was_sent segments drops calls last runs = (
  λ at d came. All-contains (λ e. Contains (sent_of calls) e × (e.to ≡ at)) (came_to at calls ++ those_for at last.kept) d (sent_to segments drops calls last at runs)
      (Contains-append_left (came_to at calls) (those_for at last.kept) d came),
  λ d kept. (All-contains (λ e. Contains (sent_of calls) e × (e.to ≡ d.to)) (came_to d.to calls ++ those_for d.to last.kept) d (sent_to segments drops calls last d.to runs)
      (Contains-append_right (came_to d.to calls) (those_for d.to last.kept) d (among_those last.kept d kept))).0,
)

-- ---- if nothing is lost

kept_whole : (drops : List ℕ) (nodes number : ℕ) (d : Datagram) → place_of d.to < nodes → is_dropped drops number ≡ false → kept_of drops nodes number d ≡ d ∷ []
kept_whole drops nodes number d node kept =
    let lost : is_lost drops nodes number d ≡ false = ap (λ b. not b || is_dropped drops number) (lt-ltb (place_of d.to) nodes node) ∙ kept in
    ap (λ b. cond b [] (d ∷ [])) lost

kept_elsewhere : (at : ℤ) (drops : List ℕ) (nodes number : ℕ) (d : Datagram) → is_for at d ≡ false → those_for at (kept_of drops nodes number d) ≡ []
kept_elsewhere at drops nodes number d not_ = by (is_lost drops nodes number d)
  where
    by : (b : Bool) → those_for at (cond b [] (d ∷ [])) ≡ []
    by true = refl
    by false = those-skip at d [] not_

carried_whole : (at : ℤ) (drops : List ℕ) (nodes number : ℕ) (ds : List Datagram) → place_of at < nodes → ((n : ℕ) → number ≤ n → n < number + length ds → is_dropped drops n ≡ false)
    → those_for at (carried drops nodes number ds) ≡ those_for at ds
carried_whole at drops nodes number [] node whole = refl
carried_whole at drops nodes number (d ∷ ds) node whole =
    let rest = carried_whole at drops nodes (number + 1) ds node (λ n le lt. whole n (omega (arith, le)) (omega (arith, lt))) in
    filter-append (is_for at) (kept_of drops nodes number d) (carried drops nodes (number + 1) ds) ∙ ap (λ l. those_for at (kept_of drops nodes number d) ++ l) rest
    ∙ elim (cases (is_for at d)) [
      | inl is_so ↦
          let to : place_of d.to < nodes = subst (λ a. place_of a < nodes) (sym ((Decides-int_eq d.to at).0 is_so)) node in
          ap (λ l. those_for at l ++ those_for at ds) (kept_whole drops nodes number d to (whole number (omega arith) (omega arith)))
          ∙ sym (filter-append (is_for at) (d ∷ []) ds)
      | inr not_ ↦ ap (λ l. l ++ those_for at ds) (kept_elsewhere at drops nodes number d not_) ∙ sym (those-skip at d ds not_)
    ]

pub without_loss : WithoutLoss
unfolding comes_in_order
without_loss segments drops calls last at runs whole node =
    comes_in_order segments drops calls last at runs ∙ carried_whole at drops (segments + 1) 1 (sent_of calls) node (λ n le lt. whole n le (omega (arith, lt)))
