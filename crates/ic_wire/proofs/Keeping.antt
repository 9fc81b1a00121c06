-- What a network keeps, after any calls.
use Rattle.std.proofs.Common.{◌≡◌, ℕ, zero, suc, ◌<◌, ◌≤◌, min, ℤ, Bool, true, false, cond, nat_le, nat_lt, ◌%◌, List, [], ◌∷◌, ◌++◌, length, map, Option, Some, None, slice_get, get_or, refl, sym, ap, ◌∙◌, subst, arith, ◌⊎◌, inl, inr, append-nil, append_assoc, length-append}
use Rattle.std.specs.List.{All}
use Rattle.std.specs.Ordering.{int_eq}
use Rattle.std.proofs.lemmas.Bool.{cases_Bool, leb-true, leb-false}
use Rattle.std.proofs.lemmas.List.Elements.{All-cons, All-head, All-tail, All-contains, All-nil}
use Rattle.std.proofs.lemmas.List.Concat.{flat_map-append}
use Rattle.std.proofs.lemmas.Bool.Decides.{Decides-int_eq}
use Rattle.ic_base.specs.declared.datagram.Datagram.{Datagram}
use Rattle.ic_wire.specs.declared.fate.Fate.{Fate}
use Rattle.ic_wire.specs.declared.fate.Draws.{Draws}
use Rattle.ic_wire.specs.declared.copies.Kept.{Kept}
use Rattle.ic_wire.specs.Copies.{with_copy, with_copies, IsQueue}
use Rattle.ic_wire.specs.Fates.{draws_of, copy_of, again_of, copies_of, is_lost, last_number}
use Rattle.ic_wire.specs.Wires.{Node, Wire, idle_node, fresh, changed, queue_of, keeping, receiving, without_first, next_number, after_draws, sent_as, after_send, after_receive}
use Rattle.ic_wire.specs.Calls.{Call, Sends, Receives, after_call, after_calls, wire_after, sent_in, sent_of}
use Rattle.ic_wire.specs.Laws.{IsOfSend, KeepsWhatWasSent, KeepsInOrder}
use Rattle.ic_wire.proofs.Queues.{queue_with, all_with}

-- ---- the queue of a node, once one is changed

-- that of the changed one, if there is one
pub same_queue : (at : ℤ) (f : Node → Node) (g : List Kept → List Kept) → ((n : Node) → ((f n).kept ≡ g n.kept) × ((f n).at ≡ n.at)) → (nodes : List Node)
    → (queue_of at (changed at f nodes) ≡ g (queue_of at nodes)) ⊎ (queue_of at (changed at f nodes) ≡ [])
same_queue at f g is [] = inr refl
same_queue at f g is (node ∷ nodes) = by_test (int_eq node.at at) refl (same_queue at f g is nodes)
  where
    by_test : (b : Bool) → int_eq node.at at ≡ b
        → (queue_of at (changed at f nodes) ≡ g (queue_of at nodes)) ⊎ (queue_of at (changed at f nodes) ≡ [])
        → (queue_of at (changed at f (node ∷ nodes)) ≡ g (queue_of at (node ∷ nodes))) ⊎ (queue_of at (changed at f (node ∷ nodes)) ≡ [])
    by_test true e later =
        let here : int_eq (f node).at at ≡ true = ap (λ a. int_eq a at) (is node).1 ∙ e in
        inl (rw e (rw here ((is node).0)))
    by_test false e later = rw e (rw e later)

-- that of every other one
pub other_queue : (at to : ℤ) (f : Node → Node) → ((n : Node) → (f n).at ≡ n.at) → int_eq to at ≡ false → (nodes : List Node) → queue_of at (changed to f nodes) ≡ queue_of at nodes
other_queue at to f same apart [] = refl
other_queue at to f same apart (node ∷ nodes) = by_test (int_eq node.at to) refl (other_queue at to f same apart nodes)
  where
    by_test : (b : Bool) → int_eq node.at to ≡ b → queue_of at (changed to f nodes) ≡ queue_of at nodes → queue_of at (changed to f (node ∷ nodes)) ≡ queue_of at (node ∷ nodes)
    by_test true e later =
        let is : node.at ≡ to = (Decides-int_eq node.at to).0 e in
        let old : int_eq node.at at ≡ false = ap (λ a. int_eq a at) is ∙ apart in
        let new : int_eq (f node).at at ≡ false = ap (λ a. int_eq a at) (same node) ∙ old in
        rw e (rw new (rw old refl))
    by_test false e later = rw e (ap (λ l. cond (int_eq node.at at) node.kept l) later)

-- ---- what holds of what is kept

-- after these calls: how many sends were numbered, and of the node at each segment its queue's order, and its copies' sends
record Keeps (calls : List Call) (w : Wire) : Type 0 where
  sent : w.sent ≡ min last_number (length (sent_of calls))
  queue : (at : ℤ) → IsQueue (queue_of at w.nodes)
  sends : (at : ℤ) → All (IsOfSend at calls) (queue_of at w.nodes)

-- ---- a call more

sent_more : (calls : List Call) (call : Call) → sent_of (calls ++ call ∷ []) ≡ sent_of calls ++ sent_of (call ∷ [])
sent_more calls call = flat_map-append sent_in calls (call ∷ [])

front_get : {A : Type 0} (xs ys : List A) (k : ℕ) (x : A) → slice_get xs k ≡ Some x → slice_get (xs ++ ys) k ≡ Some x
front_get [] ys k x h = absurd cc
front_get (a ∷ xs) ys zero x h = h
front_get (a ∷ xs) ys (suc k) x h = front_get xs ys k x h

last_get : {A : Type 0} (xs : List A) (x : A) → slice_get (xs ++ x ∷ []) (length xs) ≡ Some x
last_get [] x = refl
last_get (a ∷ xs) x = last_get xs x

-- a copy of a send stays one
of_send : (at : ℤ) (calls : List Call) (call : Call) (copy : Kept) → IsOfSend at calls copy → IsOfSend at (calls ++ call ∷ []) copy
of_send at calls call copy h =
    record { place = h.place; number = h.number; to = h.to; sent = subst (λ ds. slice_get ds h.place ≡ Some copy.datagram) (sym (sent_more calls call)) (front_get (sent_of calls) (sent_of (call ∷ [])) h.place copy.datagram h.sent) }

all_of_send : (at : ℤ) (calls : List Call) (call : Call) (kept : List Kept) → All (IsOfSend at calls) kept → All (IsOfSend at (calls ++ call ∷ [])) kept
all_of_send at calls call kept all = λ k d lt. of_send at calls call (get_or kept k d) (all k d lt)

-- ---- receives

queue_rest : (kept : List Kept) → IsQueue kept → IsQueue (without_first kept)
queue_rest [] h = h
queue_rest (copy ∷ copies) h = h.1

all_rest : (P : Kept → Type 0) (kept : List Kept) → All P kept → All P (without_first kept)
all_rest P [] h = h
all_rest P (copy ∷ copies) h = All-tail P copy copies h

receive_keeps : (calls : List Call) (to : ℤ) (w : Wire) → Keeps calls w → Keeps (calls ++ Receives to ∷ []) (after_receive to w)
receive_keeps calls to w h = record {
  sent = h.sent ∙ ap (λ ds. min last_number (length ds)) (sym (sent_more calls (Receives to) ∙ append-nil (sent_of calls)));
  queue = λ at. by_segment at IsQueue queue_rest tt (h.queue at);
  sends = λ at. by_segment at (All (IsOfSend at (calls ++ Receives to ∷ []))) (all_rest (IsOfSend at (calls ++ Receives to ∷ []))) (All-nil (IsOfSend at (calls ++ Receives to ∷ []))) (all_of_send at calls (Receives to) (queue_of at w.nodes) (h.sends at));
}
  where
    by_segment : (at : ℤ) (P : List Kept → Type 0) → ((kept : List Kept) → P kept → P (without_first kept)) → P [] → P (queue_of at w.nodes) → P (queue_of at (changed to receiving w.nodes))
    by_segment at P rest nil old = elim (cases_Bool (int_eq to at)) [
      | inl t ↦
          let is : to ≡ at = (Decides-int_eq to at).0 t in
          subst (λ a. P (queue_of at (changed a receiving w.nodes))) (sym is) (elim (same_queue at receiving without_first (λ n. (refl, refl)) w.nodes) [
            | inl e ↦ subst P (sym e) (rest (queue_of at w.nodes) old)
            | inr e ↦ subst P (sym e) nil
          ])
      | inr f ↦ subst P (sym (other_queue at to receiving (λ n. refl) f w.nodes)) old
    ]

-- ---- sends

with_all : (P : Kept → Type 0) (copies kept : List Kept) → All P kept → All P copies → All P (with_copies copies kept)
with_all P [] kept all news = all
with_all P (copy ∷ copies) kept all news =
    with_all P copies (with_copy copy kept) (all_with P copy kept all (All-head P copy copies news)) (All-tail P copy copies news)

queue_all : (copies kept : List Kept) → IsQueue kept → IsQueue (with_copies copies kept)
queue_all [] kept queue = queue
queue_all (copy ∷ copies) kept queue = queue_all copies (with_copy copy kept) (queue_with copy kept queue)

-- the copies of a send are of it
copies_all : (P : Kept → Type 0) (fate : Fate) (number : ℕ) (d : Datagram) (draws : Draws) → ((again : Bool) (word : ℕ) → P (copy_of fate number d again word)) → All P (copies_of fate number d draws)
copies_all P fate number d draws each = by_loss (nat_lt (draws.loss % 1000) fate.loss)
  where
    by_repeat : (b : Bool) → All P (cond b (copy_of fate number d true draws.delay_again ∷ []) [])
    by_repeat true = All-cons P (copy_of fate number d true draws.delay_again) [] (each true draws.delay_again) (All-nil P)
    by_repeat false = All-nil P

    by_loss : (b : Bool) → All P (cond b [] (copy_of fate number d false draws.delay ∷ again_of fate number d draws))
    by_loss true = All-nil P
    by_loss false = All-cons P (copy_of fate number d false draws.delay) (again_of fate number d draws) (each false draws.delay) (by_repeat (nat_lt (draws.repeat % 1000) fate.repeat))

numbered : (sent last : ℕ) (calls : List Call) (d : Datagram) → sent ≡ min last (length (sent_of calls)) → sent < last → suc sent ≡ min last (length (sent_of (calls ++ Sends d ∷ [])))
numbered sent last calls d is below = omega (arith, is, below, ap length (sent_more calls (Sends d)), length-append (sent_of calls) (d ∷ []))

past : (sent last : ℕ) (calls : List Call) (d : Datagram) → sent ≡ min last (length (sent_of calls)) → last ≤ sent → sent ≡ min last (length (sent_of (calls ++ Sends d ∷ [])))
past sent last calls d is over = omega (arith, is, over, ap length (sent_more calls (Sends d)), length-append (sent_of calls) (d ∷ []))

record NextIs (sent number : ℕ) : Type 0 where
  below : sent < last_number
  number_is : number ≡ suc sent

next_is : (b : Bool) (sent number : ℕ) → nat_le last_number sent ≡ b → cond b None (Some (suc sent)) ≡ Some number → NextIs sent number
next_is true sent number e h = absurd cc
next_is false sent number e h = record { below = omega (arith, leb-false last_number sent e); number_is = cc }

none_is : (b : Bool) (sent : ℕ) → nat_le last_number sent ≡ b → cond b None (Some (suc sent)) ≡ None → last_number ≤ sent
none_is true sent e h = leb-true last_number sent e
none_is false sent e h = absurd cc

-- what holds of each queue holds after copies were kept, if it does so where they go
kept_keeps : (P : ℤ → List Kept → Type 0) (to : ℤ) (copies : List Kept) (nodes : List Node)
    → ((kept : List Kept) → P to kept → P to (with_copies copies kept)) → P to [] → ((at : ℤ) → P at (queue_of at nodes)) → (at : ℤ) → P at (queue_of at (changed to (keeping copies) nodes))
kept_keeps P to copies nodes more nil old at = elim (cases_Bool (int_eq to at)) [
  | inl t ↦
      let is : to ≡ at = (Decides-int_eq to at).0 t in
      subst (λ a. P a (queue_of a (changed to (keeping copies) nodes))) is (elim (same_queue to (keeping copies) (with_copies copies) (λ n. (refl, refl)) nodes) [
        | inl e ↦ subst (P to) (sym e) (more (queue_of to nodes) (old to))
        | inr e ↦ subst (P to) (sym e) nil
      ])
  | inr f ↦ subst (P at) (sym (other_queue at to (keeping copies) (λ n. refl) f nodes)) (old at)
]

-- a copy of the next send is of it
new_of_send : (calls : List Call) (fate : Fate) (number : ℕ) (d : Datagram) (again : Bool) (word : ℕ) → number ≡ suc (length (sent_of calls)) → IsOfSend d.to (calls ++ Sends d ∷ []) (copy_of fate number d again word)
new_of_send calls fate number d again word is =
    record { place = length (sent_of calls); number = is; to = refl; sent = subst (λ ds. slice_get ds (length (sent_of calls)) ≡ Some d) (sym (sent_more calls (Sends d))) (last_get (sent_of calls) d) }

send_keeps : (calls : List Call) (d : Datagram) (w : Wire) → Keeps calls w → Keeps (calls ++ Sends d ∷ []) (after_send d w)
send_keeps calls d w h = by_number (next_number w.sent) refl
  where
    longer : (at : ℤ) → All (IsOfSend at (calls ++ Sends d ∷ [])) (queue_of at w.nodes)
    longer at = all_of_send at calls (Sends d) (queue_of at w.nodes) (h.sends at)

    by_loss : (b : Bool) (number : ℕ) → NextIs w.sent number → Keeps (calls ++ Sends d ∷ []) (cond b (record w { sent = number }) (after_draws number d w))
    by_loss true number next = record { sent = next.number_is ∙ numbered w.sent last_number calls d h.sent next.below; queue = h.queue; sends = longer }
    by_loss false number next =
        let copies = copies_of w.fate number d (draws_of w.words).0 in
        let now = calls ++ Sends d ∷ [] in
        let P : ℤ → List Kept → Type 0 = λ at kept. All (IsOfSend at now) kept in
        let place : number ≡ suc (length (sent_of calls)) = omega (arith, next.number_is, next.below, h.sent) in
        let news : All (IsOfSend d.to now) copies = copies_all (IsOfSend d.to now) w.fate number d (draws_of w.words).0 (λ again word. new_of_send calls w.fate number d again word place) in
        record {
          sent = next.number_is ∙ numbered w.sent last_number calls d h.sent next.below;
          queue = kept_keeps (λ at kept. IsQueue kept) d.to copies w.nodes (queue_all copies) tt h.queue;
          sends = kept_keeps P d.to copies w.nodes (λ kept all. with_all (IsOfSend d.to now) copies kept all news) (All-nil (IsOfSend d.to now)) longer;
        }

    by_number : (next : Option ℕ) → next_number w.sent ≡ next → Keeps (calls ++ Sends d ∷ []) (sent_as next d w)
    by_number None e = record { sent = past w.sent last_number calls d h.sent (none_is (nat_le last_number w.sent) w.sent refl e); queue = h.queue; sends = longer }
    by_number (Some number) e = by_loss (is_lost w.fate number d) number (next_is (nat_le last_number w.sent) w.sent number refl e)

-- ---- all calls

call_keeps : (calls : List Call) (call : Call) (w : Wire) → Keeps calls w → Keeps (calls ++ call ∷ []) (after_call call w)
call_keeps calls (Sends d) w h = send_keeps calls d w h
call_keeps calls (Receives at) w h = receive_keeps calls at w h

calls_keep : (before calls : List Call) (w : Wire) → Keeps before w → Keeps (before ++ calls) (after_calls calls w)
calls_keep before [] w h = subst (λ cs. Keeps cs w) (sym (append-nil before)) h
calls_keep before (call ∷ calls) w h =
    subst (λ cs. Keeps cs (after_calls calls (after_call call w))) (append_assoc before (call ∷ []) calls) (calls_keep (before ++ call ∷ []) calls (after_call call w) (call_keeps before call w h))

idle_queues : (at : ℤ) (nodes : List ℤ) → queue_of at (map idle_node nodes) ≡ []
idle_queues at [] = refl
idle_queues at (node ∷ nodes) = by_test (int_eq node at) (idle_queues at nodes)
  where
    by_test : (b : Bool) → queue_of at (map idle_node nodes) ≡ [] → cond b [] (queue_of at (map idle_node nodes)) ≡ []
    by_test true later = refl
    by_test false later = later

fresh_keeps : (fate : Fate) (nodes : List ℤ) → Keeps [] (fresh fate nodes)
fresh_keeps fate nodes = record {
  sent = omega arith;
  queue = λ at. subst IsQueue (sym (idle_queues at nodes)) tt;
  sends = λ at. subst (All (IsOfSend at [])) (sym (idle_queues at nodes)) (All-nil (IsOfSend at []));
}

keeps_after : (fate : Fate) (nodes : List ℤ) (calls : List Call) → Keeps calls (wire_after fate nodes calls)
keeps_after fate nodes calls = calls_keep [] calls (fresh fate nodes) (fresh_keeps fate nodes)

pub keeps_in_order : KeepsInOrder
keeps_in_order fate nodes calls at = (keeps_after fate nodes calls).queue at

pub keeps_what_was_sent : KeepsWhatWasSent
keeps_what_was_sent fate nodes calls at copy inside =
    All-contains (IsOfSend at calls) (queue_of at (wire_after fate nodes calls).nodes) copy ((keeps_after fate nodes calls).sends at) inside
