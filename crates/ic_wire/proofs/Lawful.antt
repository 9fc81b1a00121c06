-- A machine stands for one entry more.
use Rattle.std.proofs.Common.{◌≡◌, ℕ, ℤ, Bool, true, false, cond, List, [], ◌∷◌, ◌++◌, map, Option, Some, None, refl, sym, ap, ◌∙◌, subst, inl, inr, append-nil}
use Rattle.std.specs.Ordering.{int_eq}
use Rattle.std.proofs.lemmas.List.Concat.{flat_map-append}
use Rattle.ic_base.specs.declared.datagram.Datagram.{Datagram}
use Rattle.ic_turn.specs.declared.entry.Entry.{Entry}
use Rattle.ic_wire.proofs.Entries.{every_push}
use Rattle.ic_wire.specs.declared.machine.Setting.{Setting}
use Rattle.ic_wire.specs.declared.machine.WireAsk.{WireAsk}
use Rattle.ic_wire.specs.declared.machine.WireAsk.TheVariants.{Send, Receive}
use Rattle.ic_wire.specs.declared.machine.WireReply.{WireReply}
use Rattle.ic_wire.specs.declared.machine.WireReply.TheVariants.{Taken, Memory}
use Rattle.ic_wire.specs.declared.received.Received.{Received}
use Rattle.ic_wire.specs.declared.received.Received.TheVariants as came
use Rattle.ic_wire.specs.Fates.{draws_of, copies_of, is_lost}
use Rattle.ic_wire.specs.Wires.{Node, Wire, fresh, changed, after_send, after_receive, received, keeping, receiving, sent_as, next_number, after_draws}
use Rattle.ic_wire.specs.Calls.{Call, after_call, after_calls, wire_after}
use Rattle.ic_wire.specs.Inside.{IsFor}
use Rattle.ic_wire.specs.Law.{setting_of, call_by, call_in, calls_of, reply_of, MayReply, IsReply, wire_for, StandsFor}

-- ---- calls one after another

pub calls_then : (first second : List Call) (w : Wire) → after_calls (first ++ second) w ≡ after_calls second (after_calls first w)
calls_then [] second w = refl
calls_then (call ∷ calls) second w = calls_then calls second (after_call call w)

-- the network after one entry more
pub wire_next : (kept : Setting) (entries : List (Entry WireAsk WireReply)) (e : Entry WireAsk WireReply)
    → wire_for kept (entries ++ e ∷ []) ≡ after_calls (call_in e) (wire_for kept entries)
wire_next kept entries e =
    ap (λ calls. wire_after kept.fate kept.nodes calls) (flat_map-append call_in entries (e ∷ []))
    ∙ calls_then (calls_of entries) (call_in e ++ []) (fresh kept.fate kept.nodes)
    ∙ ap (λ calls. after_calls calls (wire_for kept entries)) (append-nil (call_in e))

-- ---- what is kept for good

same_places : (at : ℤ) (f : Node → Node) → ((n : Node) → (f n).at ≡ n.at) → (nodes : List Node) → map (λ (n : Node). n.at) (changed at f nodes) ≡ map (λ (n : Node). n.at) nodes
same_places at f same [] = refl
same_places at f same (node ∷ nodes) = by_test (int_eq node.at at) (same_places at f same nodes)
  where
    by_test : (b : Bool) → map (λ (n : Node). n.at) (changed at f nodes) ≡ map (λ (n : Node). n.at) nodes
        → map (λ (n : Node). n.at) (cond b (f node ∷ nodes) (node ∷ changed at f nodes)) ≡ node.at ∷ map (λ (n : Node). n.at) nodes
    by_test true later = ap (λ a. a ∷ map (λ (n : Node). n.at) nodes) (same node)
    by_test false later = ap (λ l. node.at ∷ l) later

pub receive_setting : (at : ℤ) (w : Wire) → setting_of (after_receive at w) ≡ setting_of w
receive_setting at w = ap (λ nodes. record { fate = w.fate; nodes = nodes }) (same_places at receiving (λ n. refl) w.nodes)

pub send_setting : (d : Datagram) (w : Wire) → setting_of (after_send d w) ≡ setting_of w
send_setting d w = by_number (next_number w.sent)
  where
    by_test : (b : Bool) (number : ℕ) → setting_of (cond b (record w { sent = number }) (after_draws number d w)) ≡ setting_of w
    by_test true number = refl
    by_test false number =
        ap (λ nodes. record { fate = w.fate; nodes = nodes }) (same_places d.to (keeping (copies_of w.fate number d (draws_of w.words).0)) (λ n. refl) w.nodes)

    by_number : (next : Option ℕ) → setting_of (sent_as next d w) ≡ setting_of w
    by_number None = refl
    by_number (Some number) = by_test (is_lost w.fate number d) number

-- ---- one entry more

pub stands_next : (kept : Setting) (w v : Wire) (ask : WireAsk) (reply : WireReply) → IsReply w ask reply → v ≡ after_calls (call_by ask reply) w
    → (entries : List (Entry WireAsk WireReply)) → StandsFor kept w entries → StandsFor kept v (entries ++ (record { ask = ask; reply = reply }) ∷ [])
stands_next kept w v ask reply is new entries h =
    let e : Entry WireAsk WireReply = record { ask = ask; reply = reply } in
    record {
      wire_is = new ∙ ap (after_calls (call_by ask reply)) h.wire_is ∙ sym (wire_next kept entries e);
      lawful = every_push _ entries e h.lawful (subst (λ old. IsReply old ask reply) h.wire_is is);
    }

-- the entry that an ask adds
abbrev pub with_entry : WireAsk → WireReply → List (Entry WireAsk WireReply) → List (Entry WireAsk WireReply)
with_entry ask reply entries = entries ++ (record { ask = ask; reply = reply }) ∷ []

-- for every list for which the old network stands, the new one stands with this entry
abbrev pub Stands : Wire → Wire → WireAsk → WireReply → Type 0
Stands w v ask reply = (entries : List (Entry WireAsk WireReply)) → StandsFor (setting_of w) w entries → StandsFor (setting_of v) v (with_entry ask reply entries)

stands_by : (w v : Wire) (ask : WireAsk) (reply : WireReply) → IsReply w ask reply → v ≡ after_calls (call_by ask reply) w → setting_of v ≡ setting_of w → Stands w v ask reply
stands_by w v ask reply is new same entries h =
    subst (λ kept. StandsFor kept v (with_entry ask reply entries)) (sym same) (stands_next (setting_of w) w v ask reply is new entries h)

pub sent_stands : (w v : Wire) (ask : WireAsk) (d : Datagram) → ask ≡ Send d → v ≡ after_send d w → Stands w v ask Taken
sent_stands w v ask d is new =
    subst (λ (a : WireAsk). Stands w v a Taken) (sym is) (stands_by w v (Send d) Taken (inl refl) new (ap setting_of new ∙ send_setting d w))

pub failed_stands : (w v : Wire) (ask : WireAsk) (d : Datagram) → ask ≡ Send d → v ≡ w → Stands w v ask Memory
failed_stands w v ask d is new =
    subst (λ (a : WireAsk). Stands w v a Memory) (sym is) (stands_by w v (Send d) Memory (inr refl) new (ap setting_of new))

pub received_stands : (w v : Wire) (ask : WireAsk) (reply : WireReply) (at : ℤ) → ask ≡ Receive at → reply ≡ reply_of (received at w) → v ≡ after_receive at w → Stands w v ask reply
received_stands w v ask reply at is answer new =
    subst (λ (a : WireAsk). Stands w v a reply) (sym is) (stands_by w v (Receive at) reply answer new (ap setting_of new ∙ receive_setting at w))

-- ---- what may be replied

pub received_may : (ask : WireAsk) (reply : WireReply) (at : ℤ) (r : Received) → ask ≡ Receive at → reply ≡ reply_of r → IsFor at r → MayReply ask reply
received_may ask reply at r is answer to =
    subst (λ (a : WireAsk). MayReply a reply) (sym is) (subst (λ (x : WireReply). MayReply (Receive at) x) (sym answer) (by_answer r to))
  where
    by_answer : (x : Received) → IsFor at x → MayReply (Receive at) (reply_of x)
    by_answer (came.Came d) to = to
    by_answer came.Idle to = tt
    by_answer came.Quiet to = tt
