-- What one more entry does to what a receiving connection reflects.
use Rattle.std.proofs.Common.{◌≡◌, ℕ, ◌≤◌, List, [], ◌∷◌, ◌++◌, length, map, Bool, true, false, cond, ◌||◌, refl, ap, sym, ◌∙◌, subst, inl, inr, ◌⊎◌, append_assoc, append-nil}
use Rattle.std.specs.List.{Contains, flat_map, list_any}
use Rattle.std.proofs.lemmas.List.Elements.{Contains-append_left}
use Rattle.ic_base.specs.declared.keys.ConnKey.{ConnKey}
use Rattle.ic_base.specs.declared.keys.ConnEnd.{ConnEnd}
use Rattle.ic_base.specs.declared.settings.Settings.{Settings}
use Rattle.ic_base.specs.declared.datagram.Datagram.{Datagram}
use Rattle.ic_base.specs.declared.datagram.Parcel.{Parcel}
use Rattle.ic_chunk.specs.Counts.{HasCounted}
use Rattle.ic_recvring.specs.Ring.{Ring}
use Rattle.ic_law.specs.declared.history.HubAsk.{HubAsk}
use Rattle.ic_law.specs.declared.history.HubAsk.TheVariants.{Begin, Put, Finish, Take, TakeFrom, Halt, Arrive, Tick, Clear, Leave}
use Rattle.ic_law.specs.declared.history.HubReply.{HubReply}
use Rattle.ic_law.specs.declared.history.Entry.{Entry}
use Rattle.ic_header.specs.Packets.{RowPacket}
use Rattle.ic_law.specs.History.{rows_in, number_of, arrives, arrived_of, rows_arrived_of, datagrams_of}
use Rattle.ic_law.specs.Taking.{takes, parcels_of, payload_in, payloads_of, is_last_parcel, whole_of, halts, IsHaltAsked, IsHalted}
use Rattle.ic_law.specs.Storing.{stores, stored_by, stored_of as stored_in, stored_numbers_of, datagram_tells_stored}
use Rattle.ic_law.specs.Points.{RunHad}
use Rattle.ic_law.specs.Receiving.{IsRunEnd, consumed_of, Receives}
use Rattle.ic_law.proofs.Lists.{cut_at, Contains-none, Contains-middle, Contains-flat_map, flat_map-Contains, map-append, map-Contains, list_any-append}
use Rattle.ic_law.proofs.Readings.{every_push, parcels_of-push, stored_of-push}
use Rattle.ic_receiver.specs.Receiving.{Receiving}
use Rattle.ic_receiver.specs.Entries.{row_of}
use Rattle.ic_receiver.specs.Standing.{Mirrors, Reflects, Stands}

-- ---- halts

pub halted_push : (c : ConnKey) (h : List Entry) (e : Entry) → IsHalted c h → IsHalted c (h ++ e ∷ [])
halted_push c h e w = record {
  before = w.before;
  entry = w.entry;
  after = w.after ++ e ∷ [];
  all = ap (λ l. l ++ e ∷ []) w.all ∙ append_assoc w.before (w.entry ∷ w.after) (e ∷ []);
  asked = w.asked;
  unfinished = w.unfinished;
}

-- it was halted before, or with this entry
pub halted_pull : (c : ConnKey) (h : List Entry) (e : Entry) → IsHalted c (h ++ e ∷ []) → IsHalted c h ⊎ ((halts c e ≡ true) × (whole_of c h ≡ false))
halted_pull c h e w =
    elim (cut_at h e w.before w.entry w.after w.all) [
      | inl k ↦ inr (ap (halts c) (sym k.2) ∙ w.asked, ap (whole_of c) (sym k.1) ∙ w.unfinished)
      | inr k ↦ inl (record { before = w.before; entry = w.entry; after = k.0; all = k.2; asked = w.asked; unfinished = w.unfinished })
    ]

pub halt_asked : (c : ConnKey) (h : List Entry) → IsHalted c h → IsHaltAsked c h
halt_asked c h w =
    ap (list_any (halts c)) w.all ∙ list_any-append (halts c) w.before (w.entry ∷ w.after)
    ∙ ap (λ b. list_any (halts c) w.before || (b || list_any (halts c) w.after)) w.asked ∙ or_true (list_any (halts c) w.before)
  where
    or_true : (b : Bool) → (b || true) ≡ true
    or_true true = refl
    or_true false = refl

-- ---- what an entry adds

-- from h to now these parcels were taken and these packets stored, and nothing was halted
pub record Moves (c : ConnKey) (h now : List Entry) (ps : List Parcel) (qs : List RowPacket) : Type 0 where
  pub took : parcels_of c now ≡ parcels_of c h ++ ps
  pub kept : stored_in c now ≡ stored_in c h ++ qs
  pub on : IsHalted c h → IsHalted c now
  pub back : IsHalted c now → IsHalted c h

pub moves_by : (c : ConnKey) (h : List Entry) (e : Entry) (ps : List Parcel) (qs : List RowPacket) → takes c e ≡ ps → stores c e ≡ qs → halts c e ≡ false → Moves c h (h ++ e ∷ []) ps qs
moves_by c h e ps qs took kept none = record {
  took = parcels_of-push c h e ∙ ap (λ l. parcels_of c h ++ l) took;
  kept = stored_of-push c h e ∙ ap (λ l. stored_in c h ++ l) kept;
  on = halted_push c h e;
  back = λ w. elim (halted_pull c h e w) [ inl before ↦ before | inr now ↦ absurd (let bad : true ≡ false = sym now.0 ∙ none in cc) ];
}

pub numbers_now : (c : ConnKey) (h now : List Entry) (ps : List Parcel) (qs : List RowPacket) → Moves c h now ps qs → stored_numbers_of c now ≡ stored_numbers_of c h ++ map number_of qs
numbers_now c h now ps qs m = ap (map number_of) m.kept ∙ map-append number_of (stored_in c h) qs

pub whole_now : (c : ConnKey) (h now : List Entry) (ps : List Parcel) (qs : List RowPacket) → Moves c h now ps qs → whole_of c now ≡ (whole_of c h || list_any is_last_parcel ps)
whole_now c h now ps qs m = ap (list_any is_last_parcel) m.took ∙ list_any-append is_last_parcel (parcels_of c h) ps

pub whole_same : (c : ConnKey) (h now : List Entry) (qs : List RowPacket) → Moves c h now [] qs → whole_of c now ≡ whole_of c h
whole_same c h now qs m = ap (list_any is_last_parcel) (m.took ∙ append-nil (parcels_of c h))

pub payloads_now : (c : ConnKey) (h now : List Entry) (ps : List Parcel) (qs : List RowPacket) → Moves c h now ps qs → payloads_of c now ≡ payloads_of c h ++ map payload_in ps
payloads_now c h now ps qs m = ap (map payload_in) m.took ∙ map-append payload_in (parcels_of c h) ps

pub payloads_same : (c : ConnKey) (h now : List Entry) (qs : List RowPacket) → Moves c h now [] qs → payloads_of c h ≡ payloads_of c now
payloads_same c h now qs m = ap (map payload_in) (sym (m.took ∙ append-nil (parcels_of c h)))

pub consumed_same : (c : ConnKey) (h now : List Entry) (qs : List RowPacket) → Moves c h now [] qs → consumed_of c h ≡ consumed_of c now
consumed_same c h now qs m = ap length (sym (m.took ∙ append-nil (parcels_of c h)))

-- ---- stored packets had arrived

stores_arrives : (c : ConnKey) (ask : HubAsk) (reply : HubReply) (q : RowPacket) → Contains (stored_by c ask reply) q → Contains (flat_map (rows_in c) (arrives (record { ask = ask; reply = reply }))) q
stores_arrives c (Begin query ends) reply q h = h
stores_arrives c (Put key chunk) reply q h = h
stores_arrives c (Finish key) reply q h = h
stores_arrives c (Take query motion) reply q h = h
stores_arrives c (TakeFrom key) reply q h = h
stores_arrives c (Halt key) reply q h = h
stores_arrives c (Arrive d) reply q h = by (list_any datagram_tells_stored (datagrams_of reply)) h
  where
    by : (b : Bool) → Contains (cond b (rows_in c d) []) q → Contains (rows_in c d ++ []) q
    by true h = subst (λ l. Contains l q) (sym (append-nil (rows_in c d))) h
    by false h = absurd (Contains-none q h)
stores_arrives c Tick reply q h = h
stores_arrives c (Clear query) reply q h = h
stores_arrives c (Leave query) reply q h = h

pub stored_arrived : (c : ConnKey) (h : List Entry) (q : RowPacket) → Contains (stored_in c h) q → Contains (rows_arrived_of c h) q
stored_arrived c h q there =
    let w = Contains-flat_map (stores c) h q there in
    let e : Entry = w.1 in
    let k = Contains-flat_map (rows_in c) (arrives e) q (stores_arrives c e.ask e.reply q w.4) in
    let d : Datagram = k.1 in
    let in_e : Contains (arrives e) d = subst (λ l. Contains l d) (sym k.3) (Contains-middle k.0 d k.2) in
    let in_h : Contains h e = subst (λ l. Contains l e) (sym w.3) (Contains-middle w.0 e w.2) in
    flat_map-Contains (rows_in c) (arrived_of h) d q (flat_map-Contains arrives h e d in_h in_e) k.4

-- a run of stored numbers had come, also with one more entry
pub run_had : (c : ConnKey) (h now : List Entry) (ps : List Parcel) (qs : List RowPacket) (r : ℕ) → Moves c h now ps qs → ((n : ℕ) → 1 ≤ n → n ≤ r → Contains (stored_numbers_of c h ++ map number_of qs) n) → RunHad c r now
run_had c h now ps qs r m run n low high =
    let w = map-Contains number_of (stored_in c now) n (subst (λ l. Contains l n) (sym (numbers_now c h now ps qs m)) (run n low high)) in
    (w.0, stored_arrived c now w.0 w.1, sym w.2)

pub run_had_still : (c : ConnKey) (h now : List Entry) (ps : List Parcel) (qs : List RowPacket) (r : ℕ) → Moves c h now ps qs → IsRunEnd (stored_numbers_of c h) r → RunHad c r now
run_had_still c h now ps qs r m one = run_had c h now ps qs r m (λ n low high. Contains-append_left (stored_numbers_of c h) (map number_of qs) n (one.run n low high))

-- ---- the data

-- nothing was taken and nothing stored
pub mirrors_same : (settings : Settings) (end : ConnEnd) (ring : Ring) (h now : List Entry) → Moves end.key h now [] [] → Mirrors settings end ring h → Mirrors settings end ring now
mirrors_same settings end ring h now m old =
    let same : stored_in end.key h ≡ stored_in end.key now = sym (m.kept ∙ append-nil (stored_in end.key h)) in
    record {
      running = λ w. old.running (m.back w);
      least = old.least;
      packet = old.packet;
      depth = old.depth;
      consumed = old.consumed ∙ consumed_same end.key h now [] m;
      stored = λ n there. subst (λ l. Contains (map number_of l) n) same (old.stored n there);
      back = λ n there. old.back n (subst (λ l. Contains (map number_of l) n) (sym same) there);
      kept = λ p there. subst (λ l. Contains l (row_of p)) same (old.kept p there);
    }

pub reflects_same : (settings : Settings) (s : Receiving) (h now : List Entry) → Moves s.end.key h now [] [] → Reflects settings s h → Reflects settings s now
reflects_same settings s h now m old = record {
  whole = whole_same s.end.key h now [] m ∙ old.whole;
  halted = λ none. m.on (old.halted none);
  runs = λ ring is. mirrors_same settings s.end ring h now m (old.runs ring is);
  rows = subst (λ l. HasCounted l s.rows) (payloads_same s.end.key h now [] m) old.rows;
}

-- an entry that moved nothing
pub stands_still : (settings : Settings) (s : Receiving) (h : List Entry) (e : Entry) → Moves s.end.key h (h ++ e ∷ []) [] [] → Receives settings s.end h e → Stands settings s h → Stands settings s (h ++ e ∷ [])
stands_still settings s h e m point stands = record {
  law = every_push (Receives settings s.end) h e stands.law point;
  reflects = reflects_same settings s h (h ++ e ∷ []) m stands.reflects;
}

pub entry_is : (e : Entry) (ask : HubAsk) (reply : HubReply) → e.ask ≡ ask → e.reply ≡ reply → record { ask = ask; reply = reply } ≡ e
entry_is e ask reply asked replied =
    let first : Entry → HubAsk → Entry = λ x a. record { ask = a; reply = x.reply } in
    let second : HubReply → Entry = λ r. record { ask = ask; reply = r } in
    ap second (sym replied) ∙ ap (first e) (sym asked)
