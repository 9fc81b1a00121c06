-- The stream law, from the network law and the laws of the hubs.
use Rattle.std.proofs.Common.{◌≡◌, ℕ, suc, ◌+◌, ◌-◌, ℤ, List, [], ◌∷◌, ◌++◌, length, map, Bool, true, false, ◌||◌, Option, Some, None, refl, ap, sym, ◌∙◌}
use Rattle.std.proofs.Common.{subst, arith, inl, inr, ◌⊎◌, append_assoc, append-nil, slice_get}
use Rattle.std.specs.List.{flat_map, Contains, list_any}
use Rattle.std.proofs.lemmas.List.Elements.{Contains-append_left}
use Rattle.ic_base.specs.declared.keys.ConnKey.{ConnKey}
use Rattle.ic_base.specs.declared.settings.Settings.{Settings}
use Rattle.ic_base.specs.declared.datagram.Datagram.{Datagram}
use Rattle.ic_base.specs.declared.datagram.Parcel.{Parcel}
use Rattle.ic_row.specs.declared.value.Value.{Value}
use Rattle.ic_header.proofs.Joining.{reads_spelled}
use Rattle.ic_chunk.specs.Chunks.{spelled, end_of_stream}
use Rattle.ic_chunk.specs.Assembly.{Assembles, together}
use Rattle.ic_chunk.proofs.Lists.{together-append}
use Rattle.ic_chunk.proofs.Fronts.{front_assembles}
use Rattle.ic_law.specs.declared.history.Entry.{Entry}
use Rattle.ic_header.specs.Packets.{Packet, RowPacket, packet_read, packet_of, key_of, goes_forth}
use Rattle.ic_law.specs.History.{emits, emitted_of, arrives, arrived_of, rows_in, rows_emitted_of, rows_arrived_of}
use Rattle.ic_law.specs.Putting.{chunks_put_of, IsFinished}
use Rattle.ic_law.specs.Taking.{takes, parcels_of, payload_in, payloads_of, is_last_parcel}
use Rattle.ic_law.specs.Filling.{Sealed, plain, final}
use Rattle.ic_law.specs.Points.{Place, place_at, IsDirected, IsFormed, final_of, chunks_in, Sends}
use Rattle.ic_law.specs.Hub.{HubPoint, HubLaw}
use Rattle.ic_law.specs.Streams.{history_of, NetworkLaw, AreSent, Follows, StreamsFollow}
use Rattle.ic_law.proofs.Lists.{Contains-none, Contains-flat_map, flat_map-Contains, Contains-middle, prefix_by, get_push, inside, cut_map, map-append}
use Rattle.ic_law.proofs.Lists.{flat_map-append}
use Rattle.ic_law.proofs.Readings.{fold_every, rows_in-reads, rows_go_forth, takes_cases, parcels_of-push}
use Rattle.ic_law.proofs.Regrouping.{regrouped, regrouped_whole}

-- ---- what a hub emitted

sends_none : (c : ConnKey) → Sends c []
sends_none c = record {
  packets = [];
  k = 0;
  sent = record {
    within = omega arith;
    each = λ p h. absurd (Contains-none p h);
    all = λ n low high. absurd (omega (arith, low, high));
    order = λ front back p h. absurd (empty front back p h);
  };
  fills = record { groups = []; end = None; are = refl; front = ([], refl); all = λ g e. cc };
}
  where
    empty : (front back : List RowPacket) (p : RowPacket) → [] ≡ front ++ p ∷ back → ⊥
    empty [] back p h = cc
    empty (f ∷ front) back p h = let bad : [] ≡ f ∷ (front ++ p ∷ back) = h in cc

sends_whole : (place : Place) (c : ConnKey) (h : List Entry) → HubLaw place h → Sends c h
sends_whole place c h law = fold_every (HubPoint place) (Sends c) h (sends_none c) (λ before e after at point old. point.sent c) law

formed_there : (place : Place) (h : List Entry) (d : Datagram) → HubLaw place h → Contains (emitted_of h) d → IsFormed place d
formed_there place h d law there =
    let w = Contains-flat_map emits h d there in
    (law w.0 w.1 w.2 w.3).formed d w.4

-- a formed packet is read as itself
formed_reads : (place : Place) (d : Datagram) (f : IsFormed place d) → packet_of d ≡ Some f.packet
unfolding packet_of
formed_reads place d f = ap packet_read (reads_spelled f.packet.head f.packet.body d.bytes f.spelled)

directed_from : (b : Bool) (d : Datagram) (key : ConnKey) → b ≡ true → IsDirected b d key → d.from ≡ key.from
directed_from true d key h x = x.0
directed_from false d key h x = absurd (cc)

-- a packet of rows that came was emitted at its connection's sending end
came_from : (nodes : List (List Entry)) (session : ℕ) (settings : Settings) → NetworkLaw nodes → ((segment : ℤ) → HubLaw (place_at session segment settings) (history_of nodes segment))
    → (c : ConnKey) (b : ℤ) (q : RowPacket) → Contains (rows_arrived_of c (history_of nodes b)) q → Contains (rows_emitted_of c (history_of nodes c.from)) q
came_from nodes session settings network hubs c b q came =
    let w = Contains-flat_map (rows_in c) (arrived_of (history_of nodes b)) q came in
    let d : Datagram = w.1 in
    let there : Contains (arrived_of (history_of nodes b)) d = subst (λ l. Contains l d) (sym w.3) (Contains-middle w.0 d w.2) in
    let sent = (network b d there).1 in
    let formed = formed_there (place_at session d.from settings) (history_of nodes d.from) d (hubs d.from) sent in
    let reads = rows_in-reads c d q w.4 in
    let same : formed.packet ≡ reads.packet = let both : Some formed.packet ≡ Some reads.packet = sym (formed_reads (place_at session d.from settings) d formed) ∙ reads.reads in cc in
    let forth : goes_forth formed.packet.head.flags ≡ true = ap (λ (p : Packet). goes_forth p.head.flags) same ∙ rows_go_forth reads.packet.head.flags reads.rows in
    let from : d.from ≡ c.from = directed_from (goes_forth formed.packet.head.flags) d (key_of formed.packet.head) forth formed.ends ∙ ap (λ (p : Packet). (key_of p.head).from) same ∙ ap (λ (k : ConnKey). k.from) reads.key in
    flat_map-Contains (rows_in c) (emitted_of (history_of nodes c.from)) d q (subst (λ s. Contains (emitted_of (history_of nodes s)) d) from sent) w.4

-- ---- what was taken

abbrev sealed_in : Parcel → Sealed
sealed_in p = record { payload = p.payload; last = p.last }

length-sealed : (ps : List Parcel) → length (map sealed_in ps) ≡ length ps
length-sealed [] = refl
length-sealed (p ∷ ps) = ap suc (length-sealed ps)

-- each parcel is the packet of its number
taken_packets : (c : ConnKey) (to : List Entry) (packets : List Sealed) (place : Place) → c.session ≡ place.session → c.to ≡ place.at → HubLaw place to
    → ((q : RowPacket) → Contains (rows_arrived_of c to) q → slice_get packets (q.seq - 1) ≡ Some (record { payload = q.payload; last = q.last }))
    → (i : ℕ) (x : Sealed) → slice_get (map sealed_in (parcels_of c to)) i ≡ Some x → slice_get packets i ≡ Some x
taken_packets c to packets place session at law came = fold_every (HubPoint place) Same to none step law
  where
    Same : List Entry → Type 0
    Same h = (i : ℕ) (x : Sealed) → slice_get (map sealed_in (parcels_of c h)) i ≡ Some x → slice_get packets i ≡ Some x

    none : Same []
    none i x h = let bad : None ≡ Some x = h in cc

    arrived_front : (before : List Entry) (e : Entry) (after : List Entry) (q : RowPacket) → to ≡ before ++ e ∷ after → Contains (rows_arrived_of c before) q → Contains (rows_arrived_of c to) q
    arrived_front before e after q all h =
        let split : rows_arrived_of c to ≡ rows_arrived_of c before ++ rows_arrived_of c (e ∷ after) =
        ap (rows_arrived_of c) all ∙ ap (flat_map (rows_in c)) (flat_map-append arrives before (e ∷ after)) ∙ flat_map-append (rows_in c) (arrived_of before) (arrived_of (e ∷ after)) in
        subst (λ l. Contains l q) (sym split) (Contains-append_left (rows_arrived_of c before) (rows_arrived_of c (e ∷ after)) q h)

    number : (n i : ℕ) → i ≡ n → n + 1 - 1 ≡ i
    number n i h = omega (arith, h)

    more : (before : List Entry) (e : Entry) (after : List Entry) (ps : List Parcel) → to ≡ before ++ e ∷ after → takes c e ≡ ps → (ps ≡ []) ⊎ ((p : Parcel) × (ps ≡ p ∷ []))
        → HubPoint place before e → Same before → (i : ℕ) (x : Sealed) → slice_get (map sealed_in (parcels_of c before ++ ps)) i ≡ Some x → slice_get packets i ≡ Some x
    more before e after ps all takes (inl nil) point old i x h =
        old i x (subst (λ l. slice_get (map sealed_in l) i ≡ Some x) (ap (λ l. parcels_of c before ++ l) nil ∙ append-nil (parcels_of c before)) h)
    more before e after ps all takes (inr one) point old i x h =
        let p : Parcel = one.0 in
        let pushed : slice_get (map sealed_in (parcels_of c before) ++ sealed_in p ∷ []) i ≡ Some x =
        subst (λ l. slice_get l i ≡ Some x) (ap (λ l. map sealed_in (parcels_of c before ++ l)) one.1 ∙ map-append sealed_in (parcels_of c before) (p ∷ [])) h in
        elim (get_push (map sealed_in (parcels_of c before)) (sealed_in p) x i pushed) [
          | inl w ↦ old i x w
          | inr w ↦
              let q : RowPacket = record { seq = length (parcels_of c before) + 1; payload = p.payload; last = p.last } in
              let next = came q (arrived_front before e after q all (point.taken c session at p (takes ∙ one.1))) in
              let place_is : length (parcels_of c before) + 1 - 1 ≡ i = number (length (parcels_of c before)) i (w.0 ∙ length-sealed (parcels_of c before)) in
              subst (λ k. slice_get packets k ≡ Some x) place_is (next ∙ ap Some (sym w.1))
        ]

    step : (before : List Entry) (e : Entry) (after : List Entry) → to ≡ before ++ e ∷ after → HubPoint place before e → Same before → Same (before ++ e ∷ [])
    step before e after all point old i x h =
        more before e after (takes c e) all refl (takes_cases c e) point old i x
        (subst (λ l. slice_get (map sealed_in l) i ≡ Some x) (parcels_of-push c before e) h)

-- ---- from packets to rows

payloads-sealed : (ps : List Parcel) → map payload_in ps ≡ map (λ (s : Sealed). s.payload) (map sealed_in ps)
payloads-sealed [] = refl
payloads-sealed (p ∷ ps) = ap (λ l. p.payload ∷ l) (payloads-sealed ps)

payloads-plain : (gs : List (List (List ℕ))) → map (λ (s : Sealed). s.payload) (map plain gs) ≡ map together gs
payloads-plain [] = refl
payloads-plain (g ∷ gs) = ap (λ l. together g ∷ l) (payloads-plain gs)

-- a front of the packets: some that aren't last, or all with the last
cut_packets : (groups : List (List (List ℕ))) (end : Option (List (List ℕ))) (ss more : List Sealed) → map plain groups ++ final_of end ≡ ss ++ more
    → ((front : List (List (List ℕ))) × (back : List (List (List ℕ))) × (groups ≡ front ++ back) × (ss ≡ map plain front))
    ⊎ ((last : List (List ℕ)) × (end ≡ Some last) × (ss ≡ map plain groups ++ final last ∷ []))
cut_packets groups end ss more h =
    elim (inside (map plain groups) (final_of end) ss more h) [
      | inl w ↦ let k = cut_map plain groups ss w.0 w.1 in inl (k.0, k.1, k.2, k.3)
      | inr w ↦ by end w.0 w.1 w.2 w.3
    ]
  where
    by : (o : Option (List (List ℕ))) (x : Sealed) (m : List Sealed) → ss ≡ map plain groups ++ x ∷ m → final_of o ≡ x ∷ m ++ more
        → ((front : List (List (List ℕ))) × (back : List (List (List ℕ))) × (groups ≡ front ++ back) × (ss ≡ map plain front))
        ⊎ ((last : List (List ℕ)) × (o ≡ Some last) × (ss ≡ map plain groups ++ final last ∷ []))
    by None x m at ends = let bad : [] ≡ x ∷ (m ++ more) = ends in cc
    by (Some last) x [] at ends = let same : final last ≡ x = cc in inr (last, refl, at ∙ ap (λ y. map plain groups ++ y ∷ []) (sym same))
    by (Some last) x (y ∷ m) at ends = let bad : [] ≡ y ∷ (m ++ more) = cc in cc

-- packets that aren't last give no end
not_whole : (ps : List Parcel) (gs : List (List (List ℕ))) → map sealed_in ps ≡ map plain gs → list_any is_last_parcel ps ≡ false
not_whole [] gs same = refl
not_whole (p ∷ ps) [] same = let bad : sealed_in p ∷ map sealed_in ps ≡ [] = same in cc
not_whole (p ∷ ps) (g ∷ gs) same =
    let first : sealed_in p ≡ plain g = cc in
    let rest : map sealed_in ps ≡ map plain gs = cc in
    let off : p.last ≡ false = ap (λ (s : Sealed). s.last) first in
    ap (λ b. b || list_any is_last_parcel ps) off ∙ not_whole ps gs rest

some_rows : (c : ConnKey) (from to : List Entry) (sent : List (List Value)) → AreSent c from sent → (front : List (List (List ℕ))) (more : List (List ℕ))
    → chunks_put_of c from ≡ together front ++ more → map sealed_in (parcels_of c to) ≡ map plain front → Follows c from to sent
some_rows c from to sent is front more puts same =
    let first = front_assembles (together front) more sent is.rest false (subst (λ l. Assembles l sent is.rest false) puts is.assemble) in
    let payloads : map together front ≡ payloads_of c to = sym (payloads-sealed (parcels_of c to) ∙ ap (map (λ (s : Sealed). s.payload)) same ∙ payloads-plain front) in
    record {
      rows = first.0;
      taken = record { rest = first.2; ended = first.3; assemble = subst (λ l. Assembles l first.0 first.2 first.3) payloads (regrouped front first.0 first.2 first.3 first.4) };
      prefix = (first.1, first.5);
      whole = λ w. let no : true ≡ false = sym w ∙ not_whole (parcels_of c to) front same in cc;
    }

all_rows : (c : ConnKey) (from to : List Entry) (sent : List (List Value)) → AreSent c from sent → (groups : List (List (List ℕ))) (last : List (List ℕ))
    → together groups ++ last ≡ chunks_put_of c from → IsFinished c from → map sealed_in (parcels_of c to) ≡ map plain groups ++ final last ∷ [] → Follows c from to sent
all_rows c from to sent is groups last puts finished same =
    let payloads : map together groups ++ (together last ++ spelled end_of_stream) ∷ [] ≡ payloads_of c to =
    sym (payloads-sealed (parcels_of c to) ∙ ap (map (λ (s : Sealed). s.payload)) same ∙ map-append (λ (s : Sealed). s.payload) (map plain groups) (final last ∷ [])
    ∙ ap (λ l. l ++ (together last ++ spelled end_of_stream) ∷ []) (payloads-plain groups)) in
    record {
      rows = sent;
      taken = record {
        rest = is.rest;
        ended = true;
        assemble = subst (λ l. Assembles l sent is.rest true) payloads (regrouped_whole groups last sent is.rest (subst (λ l. Assembles l sent is.rest false) (sym puts) is.assemble) (is.none_left finished));
      };
      prefix = ([], sym (append-nil sent));
      whole = λ w. refl;
    }

-- ---- the law

pub follows : StreamsFollow
follows nodes session settings network hubs c in_session sent is =
    let from = history_of nodes c.from in
    let to = history_of nodes c.to in
    let sends = sends_whole (place_at session c.from settings) c from (hubs c.from) in
    let fills = sends.fills in
    let packets : (i : ℕ) (x : Sealed) → slice_get (map sealed_in (parcels_of c to)) i ≡ Some x → slice_get sends.packets i ≡ Some x =
    taken_packets c to sends.packets (place_at session c.to settings) in_session refl (hubs c.to)
    (λ q came. (sends.sent.each q (came_from nodes session settings network hubs c c.to q came)).2) in
    let front = prefix_by (map sealed_in (parcels_of c to)) sends.packets packets in
    elim (cut_packets fills.groups fills.end (map sealed_in (parcels_of c to)) front.0 (sym fills.are ∙ front.1)) [
      | inl w ↦
          let puts : chunks_put_of c from ≡ together w.0 ++ (together w.1 ++ (chunks_in fills.end ++ fills.front.0)) =
          fills.front.1 ∙ append_assoc (together fills.groups) (chunks_in fills.end) fills.front.0
          ∙ ap (λ l. together l ++ (chunks_in fills.end ++ fills.front.0)) w.2 ∙ ap (λ l. l ++ (chunks_in fills.end ++ fills.front.0)) (together-append w.0 w.1)
          ∙ append_assoc (together w.0) (together w.1) (chunks_in fills.end ++ fills.front.0) in
          some_rows c from to sent is w.0 (together w.1 ++ (chunks_in fills.end ++ fills.front.0)) puts w.3
      | inr w ↦ let full = fills.all w.0 w.1 in all_rows c from to sent is fills.groups w.0 full.0 full.1 w.2
    ]
