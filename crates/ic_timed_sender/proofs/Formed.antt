-- The datagrams that a sending end emits are its own.
use Rattle.std.proofs.Common.{◌≡◌, ℕ, ◌+◌, ◌-◌, ◌<◌, ◌≤◌, ◌^◌, List, [], ◌∷◌, ◌++◌, length, map, Bool, true, false, Option, Some, None, refl, sym, subst, arith, inl, inr, length-append, slice_get}
use Rattle.std.specs.List.{Contains}
use Rattle.std.proofs.lemmas.Bool.{cases_Bool}
use Rattle.std.proofs.lemmas.List.Elements.{Contains-append_cases}
use Rattle.ic_base.specs.declared.keys.ConnEnd.{ConnEnd}
use Rattle.ic_base.specs.declared.datagram.Datagram.{Datagram}
use Rattle.ic_header.specs.declared.flags.Flags.TheVariants.{Query}
use Rattle.ic_header.specs.Spelling.{written}
use Rattle.ic_header.proofs.Joining.{length-written}
use Rattle.ic_expire.specs.declared.item.Item.{Item}
use Rattle.ic_law.specs.declared.history.Entry.{Entry}
use Rattle.ic_header.specs.Packets.{RowPacket, header_for, rows_flags, goes_forth, row_datagram, query_datagram}
use Rattle.ic_law.specs.Filling.{Sealed, sealed_of}
use Rattle.ic_law.specs.Clock.{clock_of}
use Rattle.ic_law.specs.Timing.{timing_of, row_at}
use Rattle.ic_law.specs.Emitting.{query_due}
use Rattle.ic_law.proofs.Making.{row_heads, row_reads, query_heads, query_reads}
use Rattle.ic_law.proofs.Lists.{Contains-none, Contains-one, Contains-map}
use Rattle.ic_sender.specs.declared.flight.Flight.{Flight}
use Rattle.ic_sender.specs.Sending.{Sending, copy_of, copies, flight_at}
use Rattle.ic_sender.specs.Calls.{queries_when, queries_next}
use Rattle.ic_sender.specs.Standing.{IsNamed, Waits, Stands}
use Rattle.ic_sender.proofs.Carrying.{fits}
use Rattle.ic_sender.proofs.Emitting.{size_at}
use Rattle.ic_sender.proofs.Knowing.{alike_flight}
use Rattle.ic_sender.proofs.Lists.{in_behind, find_same}
use Rattle.ic_timed_sender.specs.Emitted.{IsOutgoingOf, AreOutgoing}

rows_forth : (last : Bool) → goes_forth (rows_flags last) ≡ true
rows_forth true = refl
rows_forth false = refl

row_formed : (end : ConnEnd) (packet : ℕ) (p : RowPacket) → IsNamed end → packet ≤ 65507 → 4 ≤ length p.payload → length p.payload + 64 ≤ packet → p.seq < 2 ^ 32 → IsOutgoingOf end packet (row_datagram end p)
row_formed end packet p names bound least most number =
    let head = header_for end (rows_flags p.last) (length p.payload) p.seq 0 in
    let small : 64 + length p.payload < 2 ^ 32 = omega (arith, bound, most) in
    record {
      head = head;
      body = p.payload;
      spelled = row_heads end p (fits end names) least small number;
      reads = row_reads end p (fits end names) least small number;
      key = refl;
      forth = rows_forth p.last;
      from = refl;
      to = refl;
      from_is = names.from;
      to_is = names.to;
      most = omega (arith, length-append (written head) p.payload, length-written head, most);
    }

query_formed : (end : ConnEnd) (packet seq : ℕ) → IsNamed end → 64 ≤ packet → seq < 2 ^ 32 → IsOutgoingOf end packet (query_datagram end seq)
query_formed end packet seq names room number =
    let head = header_for end Query 0 seq 0 in
    record {
      head = head;
      body = [];
      spelled = query_heads end seq (fits end names) number;
      reads = query_reads end seq (fits end names) number;
      key = refl;
      forth = refl;
      from = refl;
      to = refl;
      from_is = names.from;
      to_is = names.to;
      most = omega (arith, length-written head, room);
    }

-- the datagram is a packet of rows, no longer than packets may be
pub record IsRowsOf (end : ConnEnd) (packet : ℕ) (d : Datagram) : Type 0 where
  pub row : RowPacket
  pub is : row_datagram end row ≡ d
  pub least : 4 ≤ length row.payload
  pub most : length row.payload + 64 ≤ packet
  pub number : row.seq < 2 ^ 32

-- what is on its way
pub flight_is : (s : Sending) (held : List Item) (h : List Entry) → Stands s held h → s.stopped ≡ false → (f : Flight) → Contains s.flights f → IsRowsOf s.end s.settings.packet f.datagram
flight_is s held h stands on f at =
    let c = s.end.key in
    let packets = sealed_of c s.settings h in
    let m = (stands.reflects.runs on).mirrors in
    let t = alike_flight (Waits s.end packets s.conn held (clock_of h)) s.flights (timing_of c s.settings h).timers f m.timers at in
    let range = in_behind s.acked (s.sent - s.acked) f.seq (subst (λ l. Contains l f.seq) m.flights (Contains-map (λ (g : Flight). g.seq) s.flights f at)) in
    let within = stands.reflects.sent.within in
    let number : f.seq < 2 ^ 32 = omega (arith, range.1, m.up, within, m.sealed, m.small) in
    by (slice_get packets (f.seq - 1)) refl number t.1.same
  where
    by : (o : Option Sealed) → slice_get (sealed_of s.end.key s.settings h) (f.seq - 1) ≡ o → f.seq < 2 ^ 32 → map (row_datagram s.end) (row_at o f.seq) ≡ f.datagram ∷ [] → IsRowsOf s.end s.settings.packet f.datagram
    by None e number same = absurd (let bad : [] ≡ f.datagram ∷ [] = same in cc)
    by (Some x) e number same =
        let p : RowPacket = record { seq = f.seq; payload = x.payload; last = x.last } in
        let both : row_datagram s.end p ∷ [] ≡ f.datagram ∷ [] = same in
        let is : row_datagram s.end p ≡ f.datagram = cc in
        let size = size_at s.settings.packet (sealed_of s.end.key s.settings h) (f.seq - 1) x (stands.reflects.runs on).mirrors.sizes e in
        record { row = p; is = is; least = size.0; most = size.1; number = number }

pub flight_formed : (s : Sending) (held : List Item) (h : List Entry) → Stands s held h → s.stopped ≡ false → (f : Flight) → Contains s.flights f → IsOutgoingOf s.end s.settings.packet f.datagram
flight_formed s held h stands on f at =
    let r = flight_is s held h stands on f at in
    subst (IsOutgoingOf s.end s.settings.packet) r.is (row_formed s.end s.settings.packet r.row stands.reflects.names stands.reflects.checked.greatest_packet r.least r.most r.number)

-- what goes out again is on its way
pub copies_in : (fs : List Flight) (numbers : List ℕ) (d : Datagram) → Contains (copies fs numbers) d → (f : Flight) × Contains fs f × (f.datagram ≡ d)
copies_in fs [] d at = absurd (Contains-none d at)
copies_in fs (n ∷ numbers) d at = by (flight_at fs n) refl at (copies_in fs numbers d)
  where
    by : (o : Option Flight) → flight_at fs n ≡ o → Contains (copy_of o ++ copies fs numbers) d → (Contains (copies fs numbers) d → (f : Flight) × Contains fs f × (f.datagram ≡ d)) → (f : Flight) × Contains fs f × (f.datagram ≡ d)
    by None e at rest = rest at
    by (Some f) e at rest = elim (Contains-append_cases (f.datagram ∷ []) (copies fs numbers) d at) [
      | inl here ↦ (f, (find_same (λ (g : Flight). g.seq) fs n f e).0, sym (Contains-one f.datagram d here))
      | inr later ↦ rest later
    ]

pub copies_formed : (s : Sending) (held : List Item) (h : List Entry) (fs : List Flight) (numbers : List ℕ) → Stands s held h → s.stopped ≡ false → ((f : Flight) → Contains fs f → Contains s.flights f) → AreOutgoing s (copies fs numbers)
copies_formed s held h fs numbers stands on among d at =
    let w = copies_in fs numbers d at in
    subst (IsOutgoingOf s.end s.settings.packet) w.2 (flight_formed s held h stands on w.0 (among w.0 w.1))

-- the status query
pub query_is_formed : (s : Sending) (held : List Item) (h : List Entry) (b : Bool) → Stands s held h → s.stopped ≡ false → AreOutgoing s (queries_when s b)
query_is_formed s held h false stands on d at = absurd (Contains-none d at)
query_is_formed s held h true stands on d at =
    let old = stands.reflects in
    let m = (old.runs on).mirrors in
    let within = old.sent.within in
    let least = old.checked.least_packet in
    subst (IsOutgoingOf s.end s.settings.packet) (sym (Contains-one (query_datagram s.end s.sent) d at))
    (query_formed s.end s.settings.packet s.sent old.names (omega (arith, least)) (omega (arith, within, m.sealed, m.small)))

-- ---- stopped or not

pub all_copies_formed : (s : Sending) (held : List Item) (h : List Entry) (numbers : List ℕ) → Stands s held h → AreOutgoing s (copies s.flights numbers)
all_copies_formed s held h numbers stands = elim (cases_Bool s.stopped) [
  | inl off ↦ (λ d at. let w = copies_in s.flights numbers d at in absurd (Contains-none w.0 (subst (λ l. Contains l w.0) (stands.reflects.still off).flights w.1)))
  | inr on ↦ copies_formed s held h s.flights numbers stands on (λ f at. at)
]

pub all_queries_formed : (s : Sending) (held : List Item) (h : List Entry) (now : ℕ) → Stands s held h → AreOutgoing s (queries_next now s)
all_queries_formed s held h now stands = elim (cases_Bool s.stopped) [
  | inl off ↦ (λ d at. absurd (Contains-none d (subst (λ o. Contains (queries_when s (query_due now o)) d) (stands.reflects.still off).query at)))
  | inr on ↦ query_is_formed s held h (query_due now s.asked) stands on
]
