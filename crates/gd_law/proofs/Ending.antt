-- An end of stream that was taken had been put.
use Rattle.std.proofs.Common.{◌≡◌, ℕ, ◌+◌, ◌-◌, ℤ, List, [], ◌∷◌, ◌++◌, length, map, Bool, true, false, ◌||◌, Option, Some, None, refl, ap, sym, ◌∙◌, subst, arith, inl, inr, slice_get}
use Rattle.std.specs.List.{flat_map, Contains, list_any}
use Rattle.std.proofs.lemmas.List.Elements.{Contains-append_left, Contains-append_cases, Contains-get_or}
use Rattle.std.proofs.lemmas.Option.{slice_get_within, get_or_from_slice_get}
use Rattle.ic_base.specs.declared.keys.ConnKey.{ConnKey}
use Rattle.ic_base.specs.declared.settings.Settings.{Settings}
use Rattle.ic_base.specs.declared.datagram.Datagram.{Datagram}
use Rattle.ic_base.specs.declared.datagram.Parcel.{Parcel}
use Rattle.ic_header.proofs.Joining.{reads_spelled}
use Rattle.ic_law.specs.declared.history.Entry.{Entry}
use Rattle.ic_header.specs.Packets.{Packet, RowPacket, packet_read, packet_of, key_of, goes_forth}
use Rattle.ic_law.specs.History.{emits, emitted_of, arrives, arrived_of, rows_in, rows_emitted_of, rows_arrived_of}
use Rattle.ic_law.specs.Putting.{chunks_put_of, IsFinished}
use Rattle.ic_law.specs.Taking.{takes, parcels_of, is_last_parcel, IsWhole}
use Rattle.ic_law.specs.Filling.{Sealed, plain}
use Rattle.ic_law.specs.Points.{Place, place_at, IsDirected, IsFormed, final_of, Fills, Sends}
use Rattle.ic_law.specs.Hub.{HubPoint, HubLaw}
use Rattle.ic_law.specs.Streams.{history_of, NetworkLaw}
use Rattle.ic_law.proofs.Lists.{Contains-none, Contains-one, Contains-head, Contains-tail, Contains-middle, Contains-flat_map, flat_map-Contains, map-Contains, flat_map-append}
use Rattle.ic_law.proofs.Readings.{fold_every, rows_in-reads, rows_go_forth, takes_cases}
use Rattle.gd_law.specs.Laws.{WholeWasFinished}

-- ---- lists

-- if a test holds of some element, it holds of one that is there
any_there : {A : Type 0} (f : A → Bool) (xs : List A) → list_any f xs ≡ true → (x : A) × Contains xs x × (f x ≡ true)
any_there f [] h = let bad : false ≡ true = h in cc
any_there {A = A} f (x ∷ xs) h = by (f x) refl (any_there f xs)
  where
    by : (b : Bool) → f x ≡ b → (list_any f xs ≡ true → (y : A) × Contains xs y × (f y ≡ true)) → (y : A) × Contains (x ∷ xs) y × (f y ≡ true)
    by true is rest = (x, Contains-head x xs, is)
    by false is rest = let w = rest (sym (ap (λ b. b || list_any f xs) is) ∙ h) in (w.0, Contains-tail x xs w.0 w.1, w.2)

got_there : {A : Type 0} (xs : List A) (i : ℕ) (x : A) → slice_get xs i ≡ Some x → Contains xs x
got_there xs i x at = subst (Contains xs) (get_or_from_slice_get xs i x x at) (Contains-get_or xs i x (slice_get_within xs i x at))

-- ---- what a hub emitted

sends_none : (c : ConnKey) → Sends c []
sends_none c = record {
  packets = [];
  k = 0;
  sent = record {
    within = omega arith;
    each = λ p h. absurd (Contains-none p h);
    all = λ n low high. absurd (omega (arith, low, high));
    order = λ front back p h. absurd (empty front back p h);
  };
  fills = record { groups = []; end = None; are = refl; front = ([], refl); all = λ g e. cc };
}
  where
    empty : (front back : List RowPacket) (p : RowPacket) → [] ≡ front ++ p ∷ back → ⊥
    empty [] back p h = cc
    empty (f ∷ front) back p h = let bad : [] ≡ f ∷ (front ++ p ∷ back) = h in cc

sends_whole : (place : Place) (c : ConnKey) (h : List Entry) → HubLaw place h → Sends c h
sends_whole place c h law = fold_every (HubPoint place) (Sends c) h (sends_none c) (λ before e after at point old. point.sent c) law

formed_there : (place : Place) (h : List Entry) (d : Datagram) → HubLaw place h → Contains (emitted_of h) d → IsFormed place d
formed_there place h d law there =
    let w = Contains-flat_map emits h d there in
    (law w.0 w.1 w.2 w.3).formed d w.4

-- a formed packet is read as itself
formed_reads : (place : Place) (d : Datagram) (f : IsFormed place d) → packet_of d ≡ Some f.packet
unfolding packet_of
formed_reads place d f = ap packet_read (reads_spelled f.packet.head f.packet.body d.bytes f.spelled)

directed_from : (b : Bool) (d : Datagram) (key : ConnKey) → b ≡ true → IsDirected b d key → d.from ≡ key.from
directed_from true d key h x = x.0
directed_from false d key h x = absurd (cc)

-- a packet of rows that came was emitted at its connection's sending end
came_from : (nodes : List (List Entry)) (session : ℕ) (settings : Settings) → NetworkLaw nodes → ((segment : ℤ) → HubLaw (place_at session segment settings) (history_of nodes segment))
    → (c : ConnKey) (b : ℤ) (q : RowPacket) → Contains (rows_arrived_of c (history_of nodes b)) q → Contains (rows_emitted_of c (history_of nodes c.from)) q
came_from nodes session settings network hubs c b q came =
    let w = Contains-flat_map (rows_in c) (arrived_of (history_of nodes b)) q came in
    let d : Datagram = w.1 in
    let there : Contains (arrived_of (history_of nodes b)) d = subst (λ l. Contains l d) (sym w.3) (Contains-middle w.0 d w.2) in
    let sent = (network b d there).1 in
    let formed = formed_there (place_at session d.from settings) (history_of nodes d.from) d (hubs d.from) sent in
    let reads = rows_in-reads c d q w.4 in
    let same : formed.packet ≡ reads.packet = let both : Some formed.packet ≡ Some reads.packet = sym (formed_reads (place_at session d.from settings) d formed) ∙ reads.reads in cc in
    let forth : goes_forth formed.packet.head.flags ≡ true = ap (λ (p : Packet). goes_forth p.head.flags) same ∙ rows_go_forth reads.packet.head.flags reads.rows in
    let from : d.from ≡ c.from = directed_from (goes_forth formed.packet.head.flags) d (key_of formed.packet.head) forth formed.ends ∙ ap (λ (p : Packet). (key_of p.head).from) same ∙ ap (λ (k : ConnKey). k.from) reads.key in
    flat_map-Contains (rows_in c) (emitted_of (history_of nodes c.from)) d q (subst (λ s. Contains (emitted_of (history_of nodes s)) d) from sent) w.4

-- ---- the last packet

-- the last packet is emitted only of a finished stream
last_is_final : (puts : List (List ℕ)) (finished : Type 0) (packets : List Sealed) → Fills puts finished packets → (x : Sealed) → Contains packets x → x.last ≡ true → finished
last_is_final puts finished packets fills x there last =
    elim (Contains-append_cases (map plain fills.groups) (final_of fills.end) x (subst (λ l. Contains l x) fills.are there)) [
      | inl w ↦ let m = map-Contains plain fills.groups x w in let no_end : x.last ≡ false = ap (λ (s : Sealed). s.last) m.2 in let bad : true ≡ false = sym last ∙ no_end in cc
      | inr w ↦ by fills.end refl w
    ]
  where
    by : (o : Option (List (List ℕ))) → fills.end ≡ o → Contains (final_of o) x → finished
    by None is in_it = absurd (Contains-none x in_it)
    by (Some group) is in_it = (fills.all group is).1

-- a packet that was taken had come
taken_came : (place : Place) (c : ConnKey) (h : List Entry) → c.session ≡ place.session → c.to ≡ place.at → HubLaw place h → IsWhole c h
    → (q : RowPacket) × Contains (rows_arrived_of c h) q × (q.last ≡ true)
taken_came place c h session at law whole =
    let t = any_there is_last_parcel (parcels_of c h) whole in
    let w = Contains-flat_map (takes c) h t.0 t.1 in
    elim (takes_cases c w.1) [
      | inl nothing ↦ absurd (Contains-none t.0 (subst (λ l. Contains l t.0) nothing w.4))
      | inr one ↦
          let same : t.0 ≡ one.0 = Contains-one one.0 t.0 (subst (λ l. Contains l t.0) one.1 w.4) in
          let q : RowPacket = record { seq = length (parcels_of c w.0) + 1; payload = one.0.payload; last = one.0.last } in
          let came : Contains (rows_arrived_of c w.0) q = (law w.0 w.1 w.2 w.3).taken c session at one.0 one.1 in
          let split : rows_arrived_of c h ≡ rows_arrived_of c w.0 ++ rows_arrived_of c (w.1 ∷ w.2) =
          ap (rows_arrived_of c) w.3 ∙ ap (flat_map (rows_in c)) (flat_map-append arrives w.0 (w.1 ∷ w.2)) ∙ flat_map-append (rows_in c) (arrived_of w.0) (arrived_of (w.1 ∷ w.2)) in
          let all : Contains (rows_arrived_of c h) q = subst (λ l. Contains l q) (sym split) (Contains-append_left (rows_arrived_of c w.0) (rows_arrived_of c (w.1 ∷ w.2)) q came) in
          (q, all, sym (ap (λ (p : Parcel). p.last) same) ∙ t.2)
    ]

pub whole_was_finished : WholeWasFinished
whole_was_finished nodes session settings network hubs c in_session whole =
    let from = history_of nodes c.from in
    let came = taken_came (place_at session c.to settings) c (history_of nodes c.to) in_session refl (hubs c.to) whole in
    let sends = sends_whole (place_at session c.from settings) c from (hubs c.from) in
    let at = (sends.sent.each came.0 (came_from nodes session settings network hubs c c.to came.0 came.1)).2 in
    last_is_final (chunks_put_of c from) (IsFinished c from) sends.packets sends.fills (record { payload = came.0.payload; last = came.0.last })
    (got_there sends.packets (came.0.seq - 1) (record { payload = came.0.payload; last = came.0.last }) at) came.2
