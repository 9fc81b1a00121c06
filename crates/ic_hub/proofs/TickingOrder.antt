-- A tick of a hub serves one live query after another.
use Rattle.std.proofs.Common.{◌≡◌, ℕ, zero, suc, ◌+◌, ◌-◌, ◌<◌, ◌≤◌, List, [], ◌∷◌, ◌++◌, map, filter, Bool, true, false, cond, ◌&&◌, ◌==◌, find, Option, Some}
use Rattle.std.proofs.Common.{None, refl, ap, sym, ◌∙◌, subst, arith, inl, inr, slice_get, append-nil}
use Rattle.std.specs.List.{AllByRecursion, Contains, flat_map}
use Rattle.std.proofs.lemmas.List.Elements.{Contains-append_left, Contains-append_right}
use Rattle.ic_base.specs.declared.keys.ConnKey.{ConnKey}
use Rattle.ic_base.specs.declared.keys.ConnEnd.{ConnEnd}
use Rattle.ic_base.specs.declared.datagram.Datagram.{Datagram}
use Rattle.ic_base.specs.Keys.{key_eq}
use Rattle.ic_header.specs.declared.flags.Flags.TheVariants.{Query}
use Rattle.ic_expire.specs.declared.item.Item.{Item}
use Rattle.ic_law.specs.declared.history.Entry.{Entry}
use Rattle.ic_header.specs.Packets.{Packet, RowPacket, packet_of, key_of, is_rows, is_last, header_for, rows_flags, row_datagram, query_datagram}
use Rattle.ic_law.specs.Numbers.{IsIncreasingFrom}
use Rattle.ic_law.specs.Filling.{Sealed}
use Rattle.ic_law.specs.History.{rows_read, rows_in}
use Rattle.ic_law.specs.Points.{IsLive, IsHere}
use Rattle.ic_law.specs.Clock.{clock_of}
use Rattle.ic_law.specs.Timers.{Timer}
use Rattle.ic_law.specs.Timing.{row_at}
use Rattle.ic_law.specs.Emitting.{queries_read, queries_in, is_query, query_due, rows_then, queries_then}
use Rattle.ic_law.specs.Order.{Live, query_number, rows_out, query_out, AreLive, IsInOrder}
use Rattle.ic_law.specs.Emission.{EmitsDue}
use Rattle.ic_law.proofs.Lists.{Contains-none, Contains-head, Contains-one, Contains-tail, head_or_tail, flat_map-append, flat_map-Contains, Contains-flat_map}
use Rattle.ic_law.proofs.Lists.{map-Contains, Contains-map}
use Rattle.ic_law.proofs.Datagrams.{rows_is, query_is, flat_none, all_rows, all_queries}
use Rattle.ic_law.proofs.PacketKinds.{packet_kind}
use Rattle.ic_sender.specs.declared.flight.Flight.{Flight}
use Rattle.ic_sender.specs.Sending.{Sending, copy_of, flight_at, copies}
use Rattle.ic_sender.specs.Calls.{queries_when}
use Rattle.ic_sender.specs.Standing.{Alike, Waits}
use Rattle.ic_timed_sender.specs.Timed.{TimedState, numbers_due, datagrams_due, queries_due}
use Rattle.ic_timed_sender.specs.Standing.{Stands as SenderStands}
use Rattle.ic_hub.specs.Hubbing.{Hubbing, Living, Ascend, place_in}
use Rattle.ic_hub.specs.Standing.{Stands}
use Rattle.ic_hub.specs.Ticking.{emission_of}
use Rattle.ic_hub.proofs.Places.{Shaped, at_contains, contains_at, end_of_sender, number_of as place_number}
use Rattle.ic_hub.proofs.TickingEmits.{AllMay, its_tick, among, packets_formed, queries_formed}
use Rattle.ic_hub_laws.specs.Entries.{EndsKeep}

-- ---- flights are packets of rows

record Made (end : ConnEnd) (d : Datagram) : Type 0 where
  pub row : RowPacket
  pub is : d ≡ row_datagram end row

made_of : (end : ConnEnd) (o : Option Sealed) (seq : ℕ) (d : Datagram) → map (row_datagram end) (row_at o seq) ≡ d ∷ [] → Made end d
made_of end None seq d same = let bad : [] ≡ d ∷ [] = same in absurd cc
made_of end (Some s) seq d same =
    let row : RowPacket = record { seq = seq; payload = s.payload; last = s.last } in
    let one : row_datagram end row ∷ [] ≡ d ∷ [] = same in
    record { row = row; is = sym (first (row_datagram end row) d one) }
  where
    first : (a b : Datagram) → a ∷ [] ≡ b ∷ [] → a ≡ b
    first a b h = cc

flight_made : (end : ConnEnd) (packets : List Sealed) (conn : ℕ) (held : List Item) (clock : ℕ) (fs : List Flight) (ts : List Timer) → Alike (Waits end packets conn held clock) fs ts → (f : Flight) → Contains fs f → Made end f.datagram
flight_made end packets conn held clock [] [] all f at = absurd (Contains-none f at)
flight_made end packets conn held clock [] (t ∷ ts) all f at = absurd all
flight_made end packets conn held clock (g ∷ fs) [] all f at = absurd all
flight_made end packets conn held clock (g ∷ fs) (t ∷ ts) all f at = elim (head_or_tail g fs f at) [
  | inl same ↦ subst (λ (x : Flight). Made end x.datagram) same (made_of end (slice_get packets (g.seq - 1)) g.seq g.datagram all.0.same)
  | inr there ↦ flight_made end packets conn held clock fs ts all.1 f there
]

record FlightOf (fs : List Flight) (d : Datagram) : Type 0 where
  pub flight : Flight
  pub at : Contains fs flight
  pub is : d ≡ flight.datagram

flight_found : (fs : List Flight) (n : ℕ) (d : Datagram) → Contains (copy_of (find (λ (f : Flight). f.seq == n) fs)) d → FlightOf fs d
flight_found [] n d at = absurd (Contains-none d at)
flight_found (f ∷ fs) n d at = by (flight_found fs n d) (f.seq == n) at
  where
    by : (Contains (copy_of (find (λ (g : Flight). g.seq == n) fs)) d → FlightOf fs d) → (b : Bool) → Contains (copy_of (cond b (Some f) (find (λ (g : Flight). g.seq == n) fs))) d → FlightOf (f ∷ fs) d
    by more true here = record { flight = f; at = Contains-head f fs; is = Contains-one f.datagram d here }
    by more false here = let w = more here in record { flight = w.flight; at = Contains-tail f fs w.flight w.at; is = w.is }

copy_made : (end : ConnEnd) (fs : List Flight) (numbers : List ℕ) (d : Datagram) → ((f : Flight) → Contains fs f → Made end f.datagram) → Contains (copies fs numbers) d → Made end d
copy_made end fs numbers d each at =
    let w = Contains-flat_map (λ n. copy_of (flight_at fs n)) numbers d at in
    let f = flight_found fs w.1 d w.4 in
    let m = each f.flight f.at in
    record { row = m.row; is = f.is ∙ m.is }

-- what is due of a connection that stands are packets of rows
due_made : (o : TimedState) (h : List Entry) → SenderStands o h → (d : Datagram) → Contains (datagrams_due o) d → Made o.sending.end d
due_made o h stands d at = by o.sending.stopped refl
  where
    by : (b : Bool) → o.sending.stopped ≡ b → Made o.sending.end d
    by false on =
        let m = (stands.sends.reflects.runs on).mirrors in
        copy_made o.sending.end o.sending.flights (numbers_due o) d (flight_made o.sending.end _ o.sending.conn o.held (clock_of h) o.sending.flights _ m.timers) at
    by true off =
        let none = (stands.sends.reflects.still off).flights in
        copy_made o.sending.end o.sending.flights (numbers_due o) d (λ f there. absurd (Contains-none f (subst (λ l. Contains l f) none there))) at

-- ---- what is read of them

row_kind : (b : Bool) → is_query (rows_flags b) ≡ false
row_kind true = refl
row_kind false = refl

row_forth : (b : Bool) → is_rows (rows_flags b) ≡ true
row_forth true = refl
row_forth false = refl

no_queries : (c : ConnKey) (d : Datagram) (p : Packet) → packet_of d ≡ Some p → is_query p.head.flags ≡ false → queries_in c d ≡ []
no_queries c d p reads none = ap (queries_read c) reads ∙ ap (λ b. cond (b && key_eq (key_of p.head) c) (p.head.seq ∷ []) []) none

no_rows : (c : ConnKey) (d : Datagram) (p : Packet) → packet_of d ≡ Some p → is_rows p.head.flags ≡ false → rows_in c d ≡ []
no_rows c d p reads none = ap (rows_read c) reads ∙ ap (λ b. cond (b && key_eq (key_of p.head) c) (record { seq = p.head.seq; payload = p.body; last = is_last p.head.flags } ∷ []) []) none

-- ---- one connection

query_made : (s : Sending) (b : Bool) (d : Datagram) → Contains (queries_when s b) d → d ≡ query_datagram s.end s.sent
query_made s true d at = Contains-one (query_datagram s.end s.sent) d at
query_made s false d at = absurd (Contains-none d at)

-- what the tick emits of it
record IsDue (s : Hubbing) (h : List Entry) (o : TimedState) : Type 0 where
  pub rows : datagrams_due o ≡ map (row_datagram o.sending.end) (rows_then o.sending.end.key s.settings h (its_tick s))
  pub queries : queries_due o ≡ map (query_datagram o.sending.end) (queries_then o.sending.end.key s.settings h (its_tick s))

due_is : (s : Hubbing) (h : List Entry) (q i : ℕ) (l : Living) (o : TimedState) → Shaped s → AllMay s → slice_get s.live q ≡ Some l → slice_get l.senders i ≡ Some o → SenderStands o h
    → EmitsDue s.settings o.sending.end h (its_tick s) → IsDue s h o
due_is s h q i l o shaped all at here stands due = record {
  rows = all_rows end (datagrams_due o) row ∙ ap (map (row_datagram end)) (rows_mine ∙ due.rows);
  queries = all_queries end (queries_due o) query ∙ ap (map (query_datagram end)) (queries_mine ∙ due.queries);
}
  where
    end : ConnEnd
    end = o.sending.end

    emission : List Datagram
    emission = flat_map emission_of s.live

    packet_at : (d : Datagram) → Contains (datagrams_due o) d → Contains emission d
    packet_at d has = flat_map-Contains emission_of s.live l d (at_contains s.live q l at)
        (Contains-append_left (flat_map datagrams_due l.senders) (flat_map queries_due l.senders) d (flat_map-Contains datagrams_due l.senders o d (at_contains l.senders i o here) has))

    query_at : (d : Datagram) → Contains (queries_due o) d → Contains emission d
    query_at d has = flat_map-Contains emission_of s.live l d (at_contains s.live q l at)
        (Contains-append_right (flat_map datagrams_due l.senders) (flat_map queries_due l.senders) d (flat_map-Contains queries_due l.senders o d (at_contains l.senders i o here) has))

    row_flags : (d : Datagram) (p : Packet) → packet_of d ≡ Some p → (m : Made end d) → p.head.flags ≡ rows_flags m.row.last
    row_flags d p reads m = packet_kind d p _ m.row.payload reads (ap (λ (x : Datagram). x.bytes) m.is)

    query_flags : (d : Datagram) (p : Packet) → packet_of d ≡ Some p → d ≡ query_datagram end o.sending.sent → p.head.flags ≡ Query
    query_flags d p reads is = packet_kind d p (header_for end Query 0 o.sending.sent 0) [] reads (ap (λ (x : Datagram). x.bytes) is ∙ sym (append-nil _))

    row : (d : Datagram) → Contains (datagrams_due o) d → (r : RowPacket) × (rows_in end.key d ≡ r ∷ []) × (d ≡ row_datagram end r)
    row d has =
        let f = packets_formed s q i l o all at here d has in
        let p : Packet = record { head = f.head; body = f.body } in
        let m = due_made o h stands d has in
        let read = rows_is end.key d p f.reads f.key (ap is_rows (row_flags d p f.reads m) ∙ row_forth m.row.last) in
        (_, read, due.row_datagrams d _ (packet_at d has) read)

    query : (d : Datagram) → Contains (queries_due o) d → (n : ℕ) × (queries_in end.key d ≡ n ∷ []) × (d ≡ query_datagram end n)
    query d has =
        let f = queries_formed s q i l o all at here d has in
        let p : Packet = record { head = f.head; body = f.body } in
        let m = query_made o.sending (query_due _ o.sending.asked) d has in
        let read = query_is end.key d p f.reads f.key (ap is_query (query_flags d p f.reads m)) in
        (_, read, due.query_datagrams d _ (query_at d has) read)

    rows_mine : flat_map (rows_in end.key) (datagrams_due o) ≡ flat_map (rows_in end.key) emission
    rows_mine =
        sym (append-nil (flat_map (rows_in end.key) (datagrams_due o)))
        ∙ ap (λ x. flat_map (rows_in end.key) (datagrams_due o) ++ x) (sym (flat_none (rows_in end.key) (queries_due o) (λ d has.
        let f = queries_formed s q i l o all at here d has in
        let p : Packet = record { head = f.head; body = f.body } in
        no_rows end.key d p f.reads (ap is_rows (query_flags d p f.reads (query_made o.sending (query_due _ o.sending.asked) d has))))))
        ∙ sym (flat_map-append (rows_in end.key) (datagrams_due o) (queries_due o))
        ∙ sym (among s q i l o shaped all at here).rows

    queries_mine : flat_map (queries_in end.key) (queries_due o) ≡ flat_map (queries_in end.key) emission
    queries_mine =
        ap (λ x. x ++ flat_map (queries_in end.key) (queries_due o)) (sym (flat_none (queries_in end.key) (datagrams_due o) (λ d has.
        let f = packets_formed s q i l o all at here d has in
        let p : Packet = record { head = f.head; body = f.body } in
        let m = due_made o h stands d has in
        no_queries end.key d p f.reads (ap is_query (row_flags d p f.reads m) ∙ row_kind m.row.last))))
        ∙ sym (flat_map-append (queries_in end.key) (datagrams_due o) (queries_due o))
        ∙ sym (among s q i l o shaped all at here).queries

-- ---- one query

abbrev live_of : Living → Live
live_of l = record { number = l.number; ends = l.ends }

-- over the sending ends of a list, and over all of them where the others give nothing
over_ends : (g : ConnEnd → List Datagram) (ends : List ConnEnd) → flat_map g (filter (λ (e : ConnEnd). e.sending) ends) ≡ flat_map (λ (e : ConnEnd). cond e.sending (g e) []) ends
over_ends g [] = refl
over_ends g (e ∷ ends) = by e.sending (over_ends g ends)
  where
    by : (b : Bool) → flat_map g (filter (λ (x : ConnEnd). x.sending) ends) ≡ flat_map (λ (x : ConnEnd). cond x.sending (g x) []) ends
        → flat_map g (cond b (e ∷ filter (λ (x : ConnEnd). x.sending) ends) (filter (λ (x : ConnEnd). x.sending) ends)) ≡ cond b (g e) [] ++ flat_map (λ (x : ConnEnd). cond x.sending (g x) []) ends
    by true same = ap (λ l. g e ++ l) same
    by false same = same

over_senders : (f : TimedState → List Datagram) (g : ConnEnd → List Datagram) (os : List TimedState) → ((i : ℕ) (o : TimedState) → slice_get os i ≡ Some o → f o ≡ g o.sending.end)
    → flat_map f os ≡ flat_map g (map (λ (o : TimedState). o.sending.end) os)
over_senders f g [] each = refl
over_senders f g (o ∷ os) each = ap (λ l. l ++ flat_map f os) (each zero o refl) ∙ ap (λ l. g o.sending.end ++ l) (over_senders f g os (λ i x at. each (suc i) x at))

abbrev rows_of_end : Hubbing → List Entry → ConnEnd → List Datagram
rows_of_end s h end = map (row_datagram end) (rows_then end.key s.settings h (its_tick s))

abbrev queries_of_end : Hubbing → List Entry → ConnEnd → List Datagram
queries_of_end s h end = map (query_datagram end) (queries_then end.key s.settings h (its_tick s))

query_emits : (s : Hubbing) (h : List Entry) (q : ℕ) (l : Living) → Shaped s → slice_get s.live q ≡ Some l → ((i : ℕ) (o : TimedState) → slice_get l.senders i ≡ Some o → IsDue s h o)
    → emission_of l ≡ query_out s.settings h (its_tick s) (live_of l)
query_emits s h q l shaped at each =
    let ends = (shaped.living q l at).senders in
    ap (λ x. x ++ flat_map queries_due l.senders)
    (over_senders datagrams_due (rows_of_end s h) l.senders (λ i o here. (each i o here).rows) ∙ ap (flat_map (rows_of_end s h)) ends ∙ over_ends (rows_of_end s h) l.ends)
    ∙ ap (λ x. flat_map (rows_out s.settings h (its_tick s)) l.ends ++ x)
    (over_senders queries_due (queries_of_end s h) l.senders (λ i o here. (each i o here).queries) ∙ ap (flat_map (queries_of_end s h)) ends ∙ over_ends (queries_of_end s h) l.ends)

-- ---- all of them

over_live : (f : Living → List Datagram) (g : Live → List Datagram) (ls : List Living) → ((q : ℕ) (l : Living) → slice_get ls q ≡ Some l → f l ≡ g (live_of l)) → flat_map f ls ≡ flat_map g (map live_of ls)
over_live f g [] each = refl
over_live f g (l ∷ ls) each = ap (λ x. x ++ flat_map f ls) (each zero l refl) ∙ ap (λ x. g (live_of l) ++ x) (over_live f g ls (λ q m at. each (suc q) m at))

ascend_from : (least : ℕ) (ls : List Living) → Ascend ls → AllByRecursion (λ (l : Living). least ≤ l.number) ls → IsIncreasingFrom least (map query_number (map live_of ls))
ascend_from least [] ascend low = tt
ascend_from least (l ∷ ls) ascend low = (low.0, ascend_from (l.number + 1) ls ascend.1 (weaken ls ascend.0))
  where
    weaken : (ms : List Living) → AllByRecursion (λ (m : Living). l.number < m.number) ms → AllByRecursion (λ (m : Living). l.number + 1 ≤ m.number) ms
    weaken [] all = tt
    weaken (m ∷ ms) all = ((let lt = all.0 in omega (arith, lt)), weaken ms all.1)

from_zero : (ls : List Living) → AllByRecursion (λ (l : Living). 0 ≤ l.number) ls
from_zero [] = tt
from_zero (l ∷ ls) = (omega arith, from_zero ls)

are_live : (s : Hubbing) (h : List Entry) → Ascend s.live → Stands s h → AreLive h (map live_of s.live)
are_live s h ascend stands = record {
  each = λ q at.
      let w = map-Contains live_of s.live q at in
      let i = contains_at s.live w.0 w.1 in
      subst (λ (x : Live). IsLive x.number x.ends h) (sym w.2) ((stands.live w.0.number w.0.ends).1 (record { at = i.0; living = w.0; here = i.1; number = refl; ends_are = refl }));
  all = λ number ends live.
      let w = (stands.live number ends).0 live in
      subst (λ (x : Live). Contains (map live_of s.live) x) (ap (λ n. as_live n w.living.ends) w.number ∙ ap (as_live number) w.ends_are) (Contains-map live_of s.live w.living (at_contains s.live w.at w.living w.here));
  increase = ascend_from 0 s.live ascend (from_zero s.live);
}
  where
    as_live : ℕ → List ConnEnd → Live
    as_live number ends = record { number = number; ends = ends }

-- a tick that isn't refused is in order, if each end keeps its points with it
pub in_order : (s : Hubbing) (h : List Entry) → Shaped s → Ascend s.live → AllMay s → Stands s h → EndsKeep (place_in s) h (its_tick s) → IsInOrder s.settings h (its_tick s)
in_order s h shaped ascend all stands keeps = record {
  live = map live_of s.live;
  are = are_live s h ascend stands;
  emitted = over_live emission_of (query_out s.settings h (its_tick s)) s.live (λ q l at. query_emits s h q l shaped at (λ i o here. due_is s h q i l o shaped all at here ((stands.each q l at).senders i o here) (due q i l o at here)));
}
  where
    due : (q i : ℕ) (l : Living) (o : TimedState) → slice_get s.live q ≡ Some l → slice_get l.senders i ≡ Some o → EmitsDue s.settings o.sending.end h (its_tick s)
    due q i l o at here =
        let its = end_of_sender l i o (shaped.living q l at) here in
        let number = place_number s q l o.sending.end shaped at its.has in
        let live = (stands.live o.sending.end.key.query l.ends).1 (record { at = q; living = l; here = at; number = number; ends_are = refl }) in
        let there : IsHere o.sending.end h = record { ends = l.ends; live = live; stands = its.has } in
        (keeps.sending o.sending.end its.side_is there).emits there
