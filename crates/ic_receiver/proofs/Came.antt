-- A receiving connection stands for what came and was answered so.
use Rattle.std.proofs.Common.{◌≡◌, ℕ, ◌+◌, ◌-◌, ◌<◌, ◌≤◌, List, [], ◌∷◌, ◌++◌, length, Bool, true, false, cond, ◌&&◌, Option, Some, None, refl, ap, sym, ◌∙◌, subst, arith, inl, inr, ◌⊎◌}
use Rattle.std.specs.List.{Contains, filter, list_any}
use Rattle.std.proofs.lemmas.List.Elements.{Contains-append_cases, Contains-append_left, Contains-append_right}
use Rattle.ic_base.specs.declared.keys.ConnKey.{ConnKey}
use Rattle.ic_base.specs.declared.keys.ConnEnd.{ConnEnd}
use Rattle.ic_base.specs.declared.settings.Settings.{Settings}
use Rattle.ic_base.specs.declared.datagram.Datagram.{Datagram}
use Rattle.ic_base.specs.Keys.{key_eq}
use Rattle.ic_header.specs.declared.flags.Flags.TheVariants.{Query, Ack, Stop, Disorder, Duplicate}
use Rattle.ic_chunk.specs.Counts.{HasCounted}
use Rattle.ic_recvring.specs.Numbers as ring
use Rattle.ic_recvring.specs.Ring.{Ring, Packet, numbers, stored_of, IsRepeated, IsBeyond, HasRoom}
use Rattle.ic_recvring.proofs.Among.{Contains-head, numbers_bound}
use Rattle.ic_recvring.proofs.Runs.{consumed_in_run}
use Rattle.ic_recvring.proofs.Stored.{placed_from, stored_there, stored_keeps, stored_from}
use Rattle.ic_law.specs.declared.history.HubAsk.TheVariants.{Arrive}
use Rattle.ic_law.specs.declared.history.HubReply.{HubReply}
use Rattle.ic_law.specs.declared.history.HubReply.TheVariants.{Came}
use Rattle.ic_law.specs.declared.history.Arrived.TheVariants.{Dropped}
use Rattle.ic_law.specs.declared.history.DropCause.TheVariants.{Beyond}
use Rattle.ic_law.specs.declared.history.Entry.{Entry}
use Rattle.ic_header.specs.Packets.{Packet as Read, RowPacket, packet_of, key_of, is_rows, is_last, answer_datagram}
use Rattle.ic_law.specs.History.{rows_read, rows_in}
use Rattle.ic_law.specs.Taking.{payloads_of, whole_of, IsHalted}
use Rattle.ic_law.specs.Storing.{stored_of as stored_in, stored_numbers_of, datagram_tells_stored}
use Rattle.ic_law.specs.Receiving.{IsRunEnd, consumed_of, handled, AnswersRows, AnswersQuery, Receives, Stopped as RowsStopped, Again as RowsAgain, Far as RowsFar, Next as RowsNext, Gap as RowsGap, QueryStopped as LawStopped, QueryTold as LawTold}
use Rattle.ic_header.specs.Packets.{listing}
use Rattle.ic_law.proofs.Lists.{Contains-one}
use Rattle.ic_law.proofs.Readings.{every_push, rows_in-reads}
use Rattle.ic_receiver.specs.Receiving.{Receiving, storing, TellsStored, Next, Gap, HearsRows, Again, Far, Kept, Hears, Stopped, Running, HearsQuery, QueryStopped, QueryTold}
use Rattle.ic_header.specs.Packets.{IsAnswer}
use Rattle.ic_receiver.specs.Entries.{row_of, came_of, IsHearing, IsQuerying}
use Rattle.ic_receiver.specs.Standing.{Mirrors, Stands}
use Rattle.ic_receiver.proofs.Numbers.{Same, same_run_end, same_greatest, same_missing, missing_first, run_behind}
use Rattle.ic_receiver.proofs.Shown.{answer_tells, Lawful, lawful_none, lawful_stop, lawful_ack, lawful_duplicate, lawful_disorder}
use Rattle.ic_receiver.proofs.Moving.{halted_push, halt_asked, Moves, moves_by, numbers_now, whole_same, payloads_same, consumed_same, run_had, run_had_still, mirrors_same, stands_still, entry_is}

-- ---- the points at an arrival

abbrev coming : Datagram → HubReply → Entry
coming d reply = record { ask = Arrive d; reply = reply }

arrival : (settings : Settings) (end : ConnEnd) (h : List Entry) (d : Datagram) (reply : HubReply) → Lawful end.key (h ++ coming d reply ∷ []) (coming d reply)
    → ((q : RowPacket) → rows_in end.key d ≡ q ∷ [] → AnswersRows settings end h q reply)
    → ((p : Read) → packet_of d ≡ Some p → p.head.flags ≡ Query → AnswersQuery end h p.head.seq reply)
    → Receives settings end h (coming d reply)
arrival settings end h d reply lawful rows query = record {
  taken = λ p bad. cc;
  told = lawful.told;
  stopped = lawful.stopped;
  answered = λ here. record {
    rows = λ other q asked directed reads given. let is : d ≡ other = cc in rows q (ap (rows_in end.key) is ∙ reads);
    query = λ other p asked directed reads key flags given. let is : d ≡ other = cc in query p (ap packet_of is ∙ reads) flags;
    take = λ p ds w. absurd w.ask;
    take_from = λ bad given. cc;
    halt = λ bad given. cc;
  };
}

-- a packet of rows is no query
no_query : (c : ConnKey) (d : Datagram) (q : RowPacket) (p : Read) → rows_in c d ≡ q ∷ [] → packet_of d ≡ Some p → p.head.flags ≡ Query → ⊥
no_query c d q p one reads flags =
    let w = rows_in-reads c d q (subst (λ l. Contains l q) (sym one) (Contains-head q [])) in
    let both : Some w.packet ≡ Some p = sym w.reads ∙ reads in
    let packet : w.packet ≡ p = cc in
    let bad : false ≡ true = sym (ap is_rows (ap (λ (x : Read). x.head.flags) packet ∙ flags)) ∙ w.rows in
    cc

rows_came : (settings : Settings) (end : ConnEnd) (h : List Entry) (d : Datagram) (q : RowPacket) (reply : HubReply) → rows_in end.key d ≡ q ∷ []
    → Lawful end.key (h ++ coming d reply ∷ []) (coming d reply) → AnswersRows settings end h q reply → Receives settings end h (coming d reply)
rows_came settings end h d q reply one lawful answers =
    arrival settings end h d reply lawful
    (λ x reads. let both : q ∷ [] ≡ x ∷ [] = sym one ∙ reads in let is : q ≡ x = cc in subst (λ y. AnswersRows settings end h y reply) is answers)
    (λ p reads flags. absurd (no_query end.key d q p one reads flags))

-- ---- numbers

pub same_numbers : (settings : Settings) (end : ConnEnd) (s : Ring) (h : List Entry) → Mirrors settings end s h → Same (stored_of s) (stored_numbers_of end.key h)
same_numbers settings end s h mirrors = record { there = mirrors.stored; back = mirrors.back }

same_more : (settings : Settings) (end : ConnEnd) (s : Ring) (q : Packet) (h : List Entry) → Mirrors settings end s h → (Contains (numbers s.kept) q.seq → ⊥)
    → Same (stored_of (storing s q)) (stored_numbers_of end.key h ++ q.seq ∷ [])
same_more settings end s q h mirrors new = record {
  there = λ n h1. elim (stored_from s q n h1) [
    | inl same ↦ Contains-append_right (stored_numbers_of end.key h) (q.seq ∷ []) n (subst (Contains (q.seq ∷ [])) same (Contains-head q.seq []))
    | inr before ↦ Contains-append_left (stored_numbers_of end.key h) (q.seq ∷ []) n (mirrors.stored n before)
  ];
  back = λ n h1. elim (Contains-append_cases (stored_numbers_of end.key h) (q.seq ∷ []) n h1) [
    | inl before ↦ stored_keeps s q n new (mirrors.back n before)
    | inr now ↦ subst (Contains (stored_of (storing s q))) (sym (Contains-one q.seq n now)) (stored_there s q)
  ];
}

-- what is new to the ring is new to the history
fresh : (settings : Settings) (end : ConnEnd) (s : Ring) (h : List Entry) (r n : ℕ) → Mirrors settings end s h → ring.IsRunEnd (stored_of s) r → r < n → (Contains (numbers s.kept) n → ⊥)
    → Contains (stored_numbers_of end.key h) n → ⊥
fresh settings end s h r n mirrors one ahead new there =
    elim (Contains-append_cases (ring.numbers_from 1 s.consumed) (numbers s.kept) n (mirrors.back n there)) [
      | inl low ↦ let b = numbers_bound 1 s.consumed n low in let le = consumed_in_run s.consumed r (numbers s.kept) one in omega (arith, b.1, le, ahead)
      | inr kept ↦ new kept
    ]

-- ---- a packet of rows, where the end isn't halted

-- the entry keeps the points of its end, and the ring is then what the history says
record Heard (settings : Settings) (end : ConnEnd) (h : List Entry) (e : Entry) (now : Ring) : Type 0 where
  point : Receives settings end h e
  mirrors : Mirrors settings end now (h ++ e ∷ [])
  whole : whole_of end.key (h ++ e ∷ []) ≡ whole_of end.key h
  payloads : payloads_of end.key h ≡ payloads_of end.key (h ++ e ∷ [])
  on : IsHalted end.key h → IsHalted end.key (h ++ e ∷ [])

module _ (settings : Settings) (end : ConnEnd) (s : Ring) (h : List Entry) (d : Datagram) (q : Packet) (mirrors : Mirrors settings end s h) (reads : rows_in end.key d ≡ row_of q ∷ []) where
  heard_again : (x : Datagram) (r : ℕ) → ring.IsRunEnd (stored_of s) r → IsRepeated s r q.seq → IsAnswer end Duplicate q.seq r [] x → Heard settings end h (coming d (handled x)) s
  heard_again x r one repeated a =
      let c = end.key in
      let e = coming d (handled x) in
      let now = h ++ e ∷ [] in
      let m : Moves c h now [] [] = moves_by c h e [] [] refl (ap (λ b. cond b (rows_in c d) []) (answer_tells end Duplicate q.seq r [] x a)) refl in
      let run : IsRunEnd (stored_numbers_of c h) r = same_run_end (stored_of s) (stored_numbers_of c h) r (same_numbers settings end s h mirrors) one in
      let known : (q.seq ≤ r) ⊎ Contains (stored_numbers_of c h) q.seq = elim repeated [
        | inl le ↦ inl le
        | inr kept ↦ inr (mirrors.stored q.seq (Contains-append_right (ring.numbers_from 1 s.consumed) (numbers s.kept) q.seq kept))
      ] in
      record {
        point = rows_came settings end h d (row_of q) (handled x) reads (lawful_duplicate end q.seq r x now e a refl (run_had_still c h now [] [] r m run))
            (RowsAgain r mirrors.running run known (ap handled a.is));
        mirrors = mirrors_same settings end s h now m mirrors;
        whole = whole_same c h now [] m;
        payloads = payloads_same c h now [] m;
        on = m.on;
      }

  far_of : IsBeyond s q → (consumed_of end.key h + settings.receive_depth < q.seq) ⊎ (settings.packet < length q.payload + 64)
  far_of (inl far) = let count : s.consumed ≡ consumed_of end.key h = mirrors.consumed in let depth : s.depth ≡ settings.receive_depth = mirrors.depth in inl (omega (arith, far, count, depth))
  far_of (inr long) = let size : s.packet ≡ settings.packet = mirrors.packet in inr (omega (arith, long, size))

  near_of : HasRoom s q → (q.seq ≤ consumed_of end.key h + settings.receive_depth) × (length q.payload + 64 ≤ settings.packet)
  near_of room =
      let count : s.consumed ≡ consumed_of end.key h = mirrors.consumed in
      let depth : s.depth ≡ settings.receive_depth = mirrors.depth in
      let size : s.packet ≡ settings.packet = mirrors.packet in
      let least : 64 ≤ settings.packet = mirrors.least in
      (omega (arith, room.0, count, depth), omega (arith, room.1, size, least))

  heard_far : (r : ℕ) → ring.IsRunEnd (stored_of s) r → r < q.seq → (Contains (numbers s.kept) q.seq → ⊥) → IsBeyond s q → Heard settings end h (coming d (Came (Dropped Beyond) [])) s
  heard_far r one ahead new far =
      let c = end.key in
      let e = coming d (Came (Dropped Beyond) []) in
      let now = h ++ e ∷ [] in
      let m : Moves c h now [] [] = moves_by c h e [] [] refl refl refl in
      let run : IsRunEnd (stored_numbers_of c h) r = same_run_end (stored_of s) (stored_numbers_of c h) r (same_numbers settings end s h mirrors) one in
      record {
        point = rows_came settings end h d (row_of q) (Came (Dropped Beyond) []) reads (lawful_none c now e refl)
            (RowsFar r mirrors.running run ahead (fresh settings end s h r q.seq mirrors one ahead new) (far_of far) refl);
        mirrors = mirrors_same settings end s h now m mirrors;
        whole = whole_same c h now [] m;
        payloads = payloads_same c h now [] m;
        on = m.on;
      }

  mirrors_more : (now : List Entry) → Moves end.key h now [] (row_of q ∷ []) → (Contains (numbers s.kept) q.seq → ⊥) → Mirrors settings end (storing s q) now
  mirrors_more now m new =
      let c = end.key in
      let same = same_more settings end s q h mirrors new in
      let numbers_are : stored_numbers_of c now ≡ stored_numbers_of c h ++ q.seq ∷ [] = numbers_now c h now [] (row_of q ∷ []) m in
      record {
        running = λ w. mirrors.running (m.back w);
        least = mirrors.least;
        packet = mirrors.packet;
        depth = mirrors.depth;
        consumed = mirrors.consumed ∙ consumed_same c h now (row_of q ∷ []) m;
        stored = λ n there. subst (λ l. Contains l n) (sym numbers_are) (same.there n there);
        back = λ n there. same.back n (subst (λ l. Contains l n) numbers_are there);
        kept = λ p there. subst (λ l. Contains l (row_of p)) (sym m.kept) (elim (placed_from q s.kept p there) [
          | inl is ↦ Contains-append_right (stored_in c h) (row_of q ∷ []) (row_of p) (subst (λ y. Contains (row_of q ∷ []) (row_of y)) is (Contains-head (row_of q) []))
          | inr before ↦ Contains-append_left (stored_in c h) (row_of q ∷ []) (row_of p) (mirrors.kept p before)
        ]);
      }

  heard_kept : (x : Datagram) (r : ℕ) → ring.IsRunEnd (stored_of s) r → r < q.seq → (Contains (numbers s.kept) q.seq → ⊥) → HasRoom s q → TellsStored end (storing s q) r q.seq x
      → Heard settings end h (coming d (handled x)) (storing s q)
  heard_kept x r one ahead new room (Next run next ends a) =
      let c = end.key in
      let e = coming d (handled x) in
      let now = h ++ e ∷ [] in
      let m : Moves c h now [] (row_of q ∷ []) = moves_by c h e [] (row_of q ∷ []) refl (ap (λ b. cond b (rows_in c d) []) (answer_tells end Ack run s.consumed [] x a) ∙ reads) refl in
      let before : IsRunEnd (stored_numbers_of c h) r = same_run_end (stored_of s) (stored_numbers_of c h) r (same_numbers settings end s h mirrors) one in
      let after : IsRunEnd (stored_numbers_of c h ++ q.seq ∷ []) run = same_run_end (stored_of (storing s q)) (stored_numbers_of c h ++ q.seq ∷ []) run (same_more settings end s q h mirrors new) ends in
      let at : r ≡ q.seq - 1 = omega (arith, next) in
      let low : 1 ≤ q.seq = omega (arith, next) in
      let near = near_of room in
      let old_count : s.consumed ≡ consumed_of c h = mirrors.consumed in
      record {
        point = rows_came settings end h d (row_of q) (handled x) reads
            (lawful_ack end run s.consumed x now e a refl (run_had c h now [] (row_of q ∷ []) run m after.run) (old_count ∙ consumed_same c h now (row_of q ∷ []) m))
            (RowsNext run mirrors.running (subst (IsRunEnd (stored_numbers_of c h)) at before) low near.0 near.1 after (ap handled (a.is ∙ ap (λ n. answer_datagram end Ack run n []) old_count)));
        mirrors = mirrors_more now m new;
        whole = whole_same c h now (row_of q ∷ []) m;
        payloads = payloads_same c h now (row_of q ∷ []) m;
        on = m.on;
      }
  heard_kept x r one ahead new room (Gap g gap top a) =
      let c = end.key in
      let e = coming d (handled x) in
      let now = h ++ e ∷ [] in
      let here = stored_of (storing s q) in
      let body = listing (ring.missing here r g) in
      let m : Moves c h now [] (row_of q ∷ []) = moves_by c h e [] (row_of q ∷ []) refl (ap (λ b. cond b (rows_in c d) []) (answer_tells end Disorder q.seq g body x a) ∙ reads) refl in
      let before : IsRunEnd (stored_numbers_of c h) r = same_run_end (stored_of s) (stored_numbers_of c h) r (same_numbers settings end s h mirrors) one in
      let same = same_more settings end s q h mirrors new in
      let near = near_of room in
      let most : q.seq ≤ g = top.bound q.seq (stored_there s q) in
      record {
        point = rows_came settings end h d (row_of q) (handled x) reads
            (lawful_disorder end q.seq g r body (listing (filter _ (ring.numbers_from (r + 1 + 1) (g - (r + 1))))) x now e a refl
            (ap listing (missing_first here r g (run_behind s q r one gap new) (omega (arith, most, gap)))) (run_had_still c h now [] (row_of q ∷ []) r m before))
            (RowsGap r g mirrors.running before gap (fresh settings end s h r q.seq mirrors one ahead new) near.0 near.1 (same_greatest here (stored_numbers_of c h ++ q.seq ∷ []) g q.seq same (stored_there s q) top)
            (ap handled (a.is ∙ ap (λ l. answer_datagram end Disorder q.seq g (listing l)) (same_missing here (stored_numbers_of c h ++ q.seq ∷ []) r g same))));
        mirrors = mirrors_more now m new;
        whole = whole_same c h now (row_of q ∷ []) m;
        payloads = payloads_same c h now (row_of q ∷ []) m;
        on = m.on;
      }

  heard_rows : (a : Option Datagram) (now : Ring) → HearsRows end s q a now → Heard settings end h (coming d (came_of a)) now
  heard_rows a now (Again x r one repeated answer is same) =
      subst (λ o. Heard settings end h (coming d (came_of o)) now) (sym is) (subst (Heard settings end h (coming d (handled x))) (sym same) (heard_again x r one repeated answer))
  heard_rows a now (Far r one new far is same) =
      subst (λ o. Heard settings end h (coming d (came_of o)) now) (sym is) (subst (Heard settings end h (coming d (Came (Dropped Beyond) []))) (sym same) (heard_far r one new.0 new.1 far))
  heard_rows a now (Kept x r one new room told is same) =
      subst (λ o. Heard settings end h (coming d (came_of o)) now) (sym is) (subst (Heard settings end h (coming d (handled x))) (sym same) (heard_kept x r one new.0 new.1 room told))

-- ---- a packet of rows

heard_stopped : (settings : Settings) (s : Receiving) (h : List Entry) (d : Datagram) (q : Packet) (x : Datagram) → rows_in s.end.key d ≡ row_of q ∷ [] → s.ring ≡ None → IsAnswer s.end Stop q.seq 0 [] x
    → Stands settings s h → Stands settings s (h ++ coming d (handled x) ∷ [])
heard_stopped settings s h d q x reads none a stands =
    let c = s.end.key in
    let e = coming d (handled x) in
    let m : Moves c h (h ++ e ∷ []) [] [] = moves_by c h e [] [] refl (ap (λ b. cond b (rows_in c d) []) (answer_tells s.end Stop q.seq 0 [] x a)) refl in
    let halted = stands.reflects.halted none in
    stands_still settings s h e m
    (rows_came settings s.end h d (row_of q) (handled x) reads (lawful_stop s.end q.seq x (h ++ e ∷ []) e a refl (halt_asked c (h ++ e ∷ []) (halted_push c h e halted))) (RowsStopped halted (ap handled a.is))) stands

heard : (settings : Settings) (s after : Receiving) (h : List Entry) (d : Datagram) (q : Packet) (a : Option Datagram) → rows_in s.end.key d ≡ row_of q ∷ [] → Hears s q a after
    → Stands settings s h → Stands settings after (h ++ coming d (came_of a) ∷ [])
heard settings s after h d q a reads (Stopped x none answer is same) stands =
    subst (λ o. Stands settings after (h ++ coming d (came_of o) ∷ [])) (sym is) (subst (λ t. Stands settings t (h ++ coming d (handled x) ∷ [])) (sym same) (heard_stopped settings s h d q x reads none answer stands))
heard settings s after h d q a reads (Running old now runs hears same) stands =
    let e = coming d (came_of a) in
    let new = heard_rows settings s.end old h d q (stands.reflects.runs old runs) reads a now hears in
    subst (λ t. Stands settings t (h ++ e ∷ [])) (sym same) (record {
      law = every_push (Receives settings s.end) h e stands.law new.point;
      reflects = record {
        whole = new.whole ∙ stands.reflects.whole;
        halted = λ bad. absurd (let no : Some now ≡ None = bad in cc);
        runs = λ ring is. let same : now ≡ ring = cc in subst (λ r. Mirrors settings s.end r (h ++ e ∷ [])) same new.mirrors;
        rows = subst (λ l. HasCounted l s.rows) new.payloads stands.reflects.rows;
      };
    })

pub stands_heard : (settings : Settings) (s after : Receiving) (q : Packet) (a : Option Datagram) (h : List Entry) (e : Entry) → Hears s q a after → IsHearing s.end.key q a e → Stands settings s h
    → Stands settings after (h ++ e ∷ [])
stands_heard settings s after q a h e hears is stands =
    subst (λ x. Stands settings after (h ++ x ∷ [])) (entry_is e (Arrive is.datagram) (came_of a) is.ask is.reply) (heard settings s after h is.datagram q a is.reads hears stands)

-- ---- a status query

no_rows : (c : ConnKey) (d : Datagram) (p : Read) → packet_of d ≡ Some p → p.head.flags ≡ Query → rows_in c d ≡ []
no_rows c d p reads flags = ap (rows_read c) reads ∙ ap (λ f. cond (is_rows f && key_eq (key_of p.head) c) (record { seq = p.head.seq; payload = p.body; last = is_last f } ∷ []) []) flags

pub moves_query : (c : ConnKey) (h : List Entry) (d x : Datagram) → rows_in c d ≡ [] → Moves c h (h ++ coming d (handled x) ∷ []) [] []
moves_query c h d x none = moves_by c h (coming d (handled x)) [] [] refl (nothing (list_any datagram_tells_stored (x ∷ [])) (rows_in c d) none) refl
  where
    nothing : (b : Bool) (l : List RowPacket) → l ≡ [] → cond b l [] ≡ []
    nothing true l e = e
    nothing false l e = refl

asked : (settings : Settings) (s : Receiving) (h : List Entry) (d : Datagram) (p : Read) (x : Datagram) → packet_of d ≡ Some p → p.head.flags ≡ Query
    → AnswersQuery s.end h p.head.seq (handled x) → Lawful s.end.key (h ++ coming d (handled x) ∷ []) (coming d (handled x)) → Stands settings s h → Stands settings s (h ++ coming d (handled x) ∷ [])
asked settings s h d p x reads flags answers lawful stands =
    let c = s.end.key in
    let e = coming d (handled x) in
    let m = moves_query c h d x (no_rows c d p reads flags) in
    stands_still settings s h e m
    (arrival settings s.end h d (handled x) lawful
    (λ q one. absurd (let bad : [] ≡ q ∷ [] = sym (no_rows c d p reads flags) ∙ one in cc))
    (λ other again is_query. let both : Some p ≡ Some other = sym reads ∙ again in let is : p ≡ other = cc in subst (λ (y : Read). AnswersQuery s.end h y.head.seq (handled x)) is answers)) stands

told : (settings : Settings) (s : Receiving) (h : List Entry) (d : Datagram) (p : Read) (a : Option Datagram) → packet_of d ≡ Some p → p.head.flags ≡ Query
    → HearsQuery s p.head.seq a → Stands settings s h → Stands settings s (h ++ coming d (came_of a) ∷ [])
told settings s h d p a reads flags (QueryStopped x none answer is) stands =
    let c = s.end.key in
    let e = coming d (handled x) in
    let halted = stands.reflects.halted none in
    subst (λ o. Stands settings s (h ++ coming d (came_of o) ∷ [])) (sym is)
    (asked settings s h d p x reads flags (LawStopped halted (ap handled answer.is)) (lawful_stop s.end p.head.seq x (h ++ e ∷ []) e answer refl (halt_asked c (h ++ e ∷ []) (halted_push c h e halted))) stands)
told settings s h d p a reads flags (QueryTold x old r runs one answer is) stands =
    let c = s.end.key in
    let e = coming d (handled x) in
    let now = h ++ e ∷ [] in
    let mirrors = stands.reflects.runs old runs in
    let m = moves_query c h d x (no_rows c d p reads flags) in
    let run : IsRunEnd (stored_numbers_of c h) r = same_run_end (stored_of old) (stored_numbers_of c h) r (same_numbers settings s.end old h mirrors) one in
    let count : old.consumed ≡ consumed_of c h = mirrors.consumed in
    subst (λ o. Stands settings s (h ++ coming d (came_of o) ∷ [])) (sym is)
    (asked settings s h d p x reads flags (LawTold r mirrors.running run (ap handled (answer.is ∙ ap (λ n. answer_datagram s.end Ack r n []) count)))
    (lawful_ack s.end r old.consumed x now e answer refl (run_had_still c h now [] [] r m run) (count ∙ consumed_same c h now [] m)) stands)

pub stands_told : (settings : Settings) (s : Receiving) (seq : ℕ) (a : Option Datagram) (h : List Entry) (e : Entry) → HearsQuery s seq a → IsQuerying s.end.key seq a e → Stands settings s h
    → Stands settings s (h ++ e ∷ [])
stands_told settings s seq a h e hears is stands =
    subst (λ x. Stands settings s (h ++ x ∷ [])) (entry_is e (Arrive is.datagram) (came_of a) is.ask is.reply)
    (told settings s h is.datagram is.packet a is.reads is.flags (subst (λ n. HearsQuery s n a) (sym is.seq_is) hears) stands)
