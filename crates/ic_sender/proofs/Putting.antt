-- A connection on which a chunk, or the end of stream, was put stands for the entry.
use Rattle.std.proofs.Common.{◌≡◌, ◌≢◌, ℕ, ◌+◌, ◌-◌, ◌<◌, ◌≤◌, ◌^◌, List, [], ◌∷◌, ◌++◌, length, map, Bool, true, false, cond, ◌&&◌, ◌||◌, ◌==◌, Option, Some, None, Result, Ok, Err, refl, ap, sym, ◌∙◌, subst, arith, inl, inr, append-nil, slice_get}
use Rattle.std.specs.Prelude.{nat_le}
use Rattle.std.specs.List.{flat_map, Contains}
use Rattle.std.proofs.lemmas.Bool.{leb-true, leb-false, cases_lt, cases_Bool}
use Rattle.ic_base.specs.declared.keys.ConnEnd.{ConnEnd}
use Rattle.ic_base.specs.declared.keys.ConnKey.{ConnKey}
use Rattle.ic_base.specs.declared.settings.Settings.{Settings}
use Rattle.ic_base.specs.declared.datagram.Datagram.{Datagram}
use Rattle.ic_base.proofs.SameKeys.{key_eq-same}
use Rattle.ic_chunk.specs.Chunks.{spelled, end_of_stream}
use Rattle.ic_chunk.specs.Assembly.{together}
use Rattle.ic_chunk.proofs.Lists.{together-push, all_both}
use Rattle.ic_base.specs.Keys.{key_eq}
use Rattle.ic_expire.specs.declared.item.Item.{Item}
use Rattle.ic_expire.specs.Queue.{Queue}
use Rattle.ic_law.specs.declared.history.HubAsk.{HubAsk}
use Rattle.ic_law.specs.declared.history.HubAsk.TheVariants.{Put, Finish, Arrive}
use Rattle.ic_law.specs.declared.history.HubReply.{HubReply}
use Rattle.ic_law.specs.declared.history.HubReply.TheVariants.{Gave, Memory}
use Rattle.ic_law.specs.declared.history.HubNo.TheVariants as no
use Rattle.ic_law.specs.declared.history.Entry.{Entry}
use Rattle.ic_header.specs.Packets.{RowPacket, row_datagram}
use Rattle.ic_law.specs.History.{emits, rows_in, rows_emitted_of, number_of}
use Rattle.ic_law.specs.Putting.{puts, chunks_put_of, finished_of, was_given}
use Rattle.ic_law.specs.Hearing.{hears, IsStopped, run_heard}
use Rattle.ic_law.specs.Filling.{Sealed, plain, final, Filling, fits, filling, filling_of, sealed, sealed_of, kept_of}
use Rattle.ic_law.specs.Points.{Every, SentUpto}
use Rattle.ic_law.specs.Sending.{AnswersPut, Refuses, Fits}
use Rattle.ic_law.specs.Sending.AnswersPut.{Given, Full, TooLong, Stopped}
use Rattle.ic_law.specs.Clock.{clock_of, ticks_by}
use Rattle.ic_law.specs.Timers.{Timing}
use Rattle.ic_law.specs.Timing.{timing_of, moved, row_at, numbers_behind}
use Rattle.ic_law.specs.Emitting.{queries_in}
use Rattle.ic_law.proofs.Lists.{map-append}
use Rattle.ic_law.proofs.Packing.{filling-push}
use Rattle.ic_law.proofs.Readings.{chunks_put_of-push, finished_of-push}
use Rattle.ic_sender.specs.declared.send_no.SendNo.{SendNo}
use Rattle.ic_sender.specs.Sending.{Sending, row_of, kept_at, fits_opened, sealing, adding, ending, emitting, datagrams_next, waits_next}
use Rattle.ic_sender.specs.Calls.{Puts, NeedsPacket}
use Rattle.ic_sender.specs.Entries.{IsNothingOf, gave_of, IsPutting, IsFinishing}
use Rattle.ic_sender.specs.Standing.{Waits, IsPayload, Reads, Mirrors, Runs, Reflects, KeepsSending, Stands, StandsOn}
use Rattle.ic_sender.proofs.Lists.{in_behind, behind_has, behind-push, find_there, find_none, find_append, find_behind, same_number, length-map, length-behind}
use Rattle.ic_sender.proofs.Sent.{get_within, get_more, get_end, length-push, sent_grow}
use Rattle.ic_sender.proofs.Emitting.{Ready, alike_weaken}
use Rattle.ic_sender.proofs.Passing.{entry_is, chunks_stay, finished_stays, run_stays, consumed_stays, stopped_stays, clock_stays, moved_not, again_not}
use Rattle.ic_sender.proofs.Going.{goes_out, stands_out, stays}

-- ---- one packet more

-- what lies under a number that is sealed stays
same_more : (end : ConnEnd) (packets : List Sealed) (one : Sealed) (k seq : ℕ) (d : Datagram) → map (row_datagram end) (row_at (slice_get packets k) seq) ≡ d ∷ []
    → map (row_datagram end) (row_at (slice_get (packets ++ one ∷ []) k) seq) ≡ d ∷ []
same_more end packets one k seq d h = by (slice_get packets k) refl h
  where
    by : (o : Option Sealed) → slice_get packets k ≡ o → map (row_datagram end) (row_at o seq) ≡ d ∷ [] → map (row_datagram end) (row_at (slice_get (packets ++ one ∷ []) k) seq) ≡ d ∷ []
    by None e h = let bad : [] ≡ d ∷ [] = h in cc
    by (Some s) e h = ap (λ o. map (row_datagram end) (row_at o seq)) (get_more packets (one ∷ []) k (get_within packets k s e) ∙ e) ∙ h

pub mirrors_sealed : (s : Sending) (held : List Item) (packets : List Sealed) (t : Timing) (clock : ℕ) (payload : List ℕ) (last : Bool) (opened : List ℕ) (finished : Bool)
    → Mirrors s held packets t clock → s.sent ≤ length packets → s.sealed + 1 < 2 ^ 32 → IsPayload s.settings.packet (record { payload = payload; last = last })
    → Mirrors (record (sealing payload last s) { opened = opened; finished = finished }) held (packets ++ record { payload = payload; last = last } ∷ []) t clock
mirrors_sealed s held packets t clock payload last opened finished old le small size =
    let one : Sealed = record { payload = payload; last = last } in
    let new : RowPacket = record { seq = s.sealed + 1; last = last; payload = payload } in
    let within : s.acked ≤ s.sealed = omega (arith, old.up, le, old.sealed) in
    record {
      sealed = length-push packets one ∙ ap (λ n. n + 1) old.sealed;
      small = small;
      sizes = all_both (IsPayload s.settings.packet) packets (one ∷ []) old.sizes (size, tt);
      numbers = map-append number_of s.kept (new ∷ []) ∙ ap (λ l. l ++ (s.sealed + 1) ∷ []) old.numbers
          ∙ ap (λ n. numbers_behind s.acked (s.sealed - s.acked) ++ n ∷ []) (let e : s.sealed + 1 ≡ s.acked + (s.sealed - s.acked) + 1 = omega (arith, within) in e)
          ∙ sym (behind-push s.acked (s.sealed - s.acked)) ∙ ap (numbers_behind s.acked) (let e : (s.sealed - s.acked) + 1 ≡ s.sealed + 1 - s.acked = omega (arith, within) in e);
      kept = λ n low high. elim (cases_lt s.sealed n) [
        | inl beyond ↦ let is : s.sealed + 1 ≡ n = omega (arith, beyond, high) in subst (λ k. row_of (kept_at (s.kept ++ new ∷ []) k) ≡ row_at (slice_get (packets ++ one ∷ []) (k - 1)) k) is (last_one new one within)
        | inr before ↦ earlier new one n low before
      ];
      up = old.up;
      taken = old.taken;
      flights = old.flights;
      timers = alike_weaken (Waits s.end packets s.conn held clock) (Waits s.end (packets ++ one ∷ []) s.conn held clock) s.flights t.timers
          (λ f x w. record {
            seq = w.seq;
            tries = w.tries;
            since = w.since;
            resent = w.resent;
            waits = w.waits;
            soon = w.soon;
            same = same_more s.end packets one (f.seq - 1) f.seq f.datagram w.same;
          }) old.timers;
      alone = old.alone;
      window = old.window;
      depth = old.depth;
      least = old.least;
      asked = old.asked;
      asked_soon = old.asked_soon;
    }
  where
    last_one : (new : RowPacket) (one : Sealed) → s.acked ≤ s.sealed → row_of (kept_at (s.kept ++ record { seq = s.sealed + 1; last = last; payload = payload } ∷ []) (s.sealed + 1)) ≡ row_at (slice_get (packets ++ record { payload = payload; last = last } ∷ []) (s.sealed + 1 - 1)) (s.sealed + 1)
    last_one new one within =
        let absent : kept_at s.kept (s.sealed + 1) ≡ None =
        find_none number_of s.kept (s.sealed + 1) (λ at. let w = in_behind s.acked (s.sealed - s.acked) (s.sealed + 1) (subst (λ l. Contains l (s.sealed + 1)) old.numbers at) in omega (arith, w.1, within)) in
        let this : RowPacket = record { seq = s.sealed + 1; last = last; payload = payload } in
        ap row_of (find_behind (λ p. number_of p == s.sealed + 1) s.kept (this ∷ []) absent ∙ ap (λ b. cond b (Some this) None) (same_number (s.sealed + 1)))
        ∙ sym (ap (λ k. row_at (slice_get (packets ++ record { payload = payload; last = last } ∷ []) k) (s.sealed + 1)) (let e : s.sealed + 1 - 1 ≡ length packets = omega (arith, old.sealed) in e)
        ∙ ap (λ o. row_at o (s.sealed + 1)) (get_end packets (record { payload = payload; last = last })))

    earlier : (new : RowPacket) (one : Sealed) (n : ℕ) → s.acked < n → n ≤ s.sealed → row_of (kept_at (s.kept ++ record { seq = s.sealed + 1; last = last; payload = payload } ∷ []) n) ≡ row_at (slice_get (packets ++ record { payload = payload; last = last } ∷ []) (n - 1)) n
    earlier new one n low high =
        let found = find_there number_of s.kept n (subst (λ l. Contains l n) (sym old.numbers) (behind_has s.acked (s.sealed - s.acked) n low (omega (arith, low, high)))) in
        let here = find_append (λ p. number_of p == n) s.kept (record { seq = s.sealed + 1; last = last; payload = payload } ∷ []) found.0 found.1 in
        ap row_of (here ∙ sym found.1) ∙ old.kept n low high
        ∙ sym (ap (λ o. row_at o n) (get_more packets (record { payload = payload; last = last } ∷ []) (n - 1) (omega (arith, low, high, old.sealed))))

-- ---- what a put adds

chunk_is : (c : ConnKey) (chunk : List ℕ) (ds : List Datagram) → puts c (record { ask = Put c chunk; reply = Gave (Ok ds) }) ≡ chunk ∷ []
chunk_is c chunk ds = ap (λ b. cond (b && true) (chunk ∷ []) []) (key_eq-same c)

chunks_with : (c : ConnKey) (h : List Entry) (chunk : List ℕ) (ds : List Datagram) → chunks_put_of c (h ++ record { ask = Put c chunk; reply = Gave (Ok ds) } ∷ []) ≡ chunks_put_of c h ++ chunk ∷ []
chunks_with c h chunk ds = chunks_put_of-push c h (record { ask = Put c chunk; reply = Gave (Ok ds) }) ∙ ap (λ l. chunks_put_of c h ++ l) (chunk_is c chunk ds)

-- a chunk fits in the law as it fits here
pub fits_same : (s : Sending) (h : List Entry) (chunk : List ℕ) → s.finished ≡ false → Reads s h → fits s.settings.packet (filling_of s.end.key s.settings h).opened chunk ≡ fits_opened s chunk
fits_same s h chunk on reads = ap (λ l. nat_le (length l + length chunk + 68) s.settings.packet) (reads.opened on)

next_filling : Filling → List ℕ → Bool → Filling
next_filling f chunk b = cond b (record { full = f.full; opened = f.opened ++ chunk ∷ [] }) (record { full = f.full ++ f.opened ∷ []; opened = chunk ∷ [] })

filling_with : (s : Sending) (h : List Entry) (chunk : List ℕ) (ds : List Datagram) → s.finished ≡ false → Reads s h
    → filling_of s.end.key s.settings (h ++ record { ask = Put s.end.key chunk; reply = Gave (Ok ds) } ∷ []) ≡ next_filling (filling_of s.end.key s.settings h) chunk (fits_opened s chunk)
unfolding next_filling
filling_with s h chunk ds on reads =
    let c = s.end.key in
    ap (filling s.settings.packet) (chunks_with c h chunk ds) ∙ filling-push s.settings.packet (chunks_put_of c h) chunk
    ∙ ap (next_filling (filling_of c s.settings h) chunk) (fits_same s h chunk on reads)

packets_are : (s : Sending) (h : List Entry) → s.finished ≡ false → Reads s h → sealed_of s.end.key s.settings h ≡ map plain (filling_of s.end.key s.settings h).full
packets_are s h on reads = ap (sealed (filling_of s.end.key s.settings h)) (reads.finished ∙ on)

packets_with : (s : Sending) (h : List Entry) (chunk : List ℕ) (ds : List Datagram) → s.finished ≡ false → Reads s h
    → sealed_of s.end.key s.settings (h ++ record { ask = Put s.end.key chunk; reply = Gave (Ok ds) } ∷ []) ≡ map plain (next_filling (filling_of s.end.key s.settings h) chunk (fits_opened s chunk)).full
packets_with s h chunk ds on reads =
    let c = s.end.key in
    let e : Entry = record { ask = Put c chunk; reply = Gave (Ok ds) } in
    ap (λ b. sealed (filling_of c s.settings (h ++ e ∷ [])) b) (finished_stays c h e refl ∙ reads.finished ∙ on) ∙ ap (λ (f : Filling). map plain f.full) (filling_with s h chunk ds on reads)

-- ---- ready

length-both : (xs ys : List ℕ) → length (xs ++ ys) ≡ length xs + length ys
length-both [] ys = omega arith
length-both (x ∷ xs) ys = let i = length-both xs ys in omega (arith, i)

end_length : length (spelled end_of_stream) ≡ 4
unfolding spelled
end_length = refl

ready_fit : (s : Sending) (held : List Item) (h : List Entry) (chunk : List ℕ) (ds : List Datagram) → s.stopped ≡ false → s.finished ≡ false → 4 ≤ length chunk → fits_opened s chunk ≡ true → Reflects s held h
    → Ready (record s { opened = s.opened ++ chunk }) held h (record { ask = Put s.end.key chunk; reply = Gave (Ok ds) })
unfolding next_filling
ready_fit s held h chunk ds running on least room old =
    let c = s.end.key in
    let e : Entry = record { ask = Put c chunk; reply = Gave (Ok ds) } in
    let now = h ++ e ∷ [] in
    let runs = old.runs running in
    let f = filling_of c s.settings h in
    let fill : filling_of c s.settings now ≡ record { full = f.full; opened = f.opened ++ chunk ∷ [] } = filling_with s h chunk ds on runs.reads ∙ ap (next_filling f chunk) room in
    let packets : sealed_of c s.settings now ≡ sealed_of c s.settings h =
    packets_with s h chunk ds on runs.reads ∙ ap (λ b. map plain (next_filling f chunk b).full) room ∙ sym (packets_are s h on runs.reads) in
    let timing : moved c h e (timing_of c s.settings h) ≡ timing_of c s.settings h = moved_not c h e (timing_of c s.settings h) refl refl in
    let clock : clock_of now ≡ clock_of h = clock_stays h e refl in
    let o = runs.mirrors in
    let size = leb-true (length s.opened + length chunk + 68) s.settings.packet room in
    let len : length (s.opened ++ chunk) ≡ length s.opened + length chunk = length-both s.opened chunk in
    record {
      names = old.names;
      checked = old.checked;
      running = running;
      runs = stopped_stays c h e refl ∙ old.stopped ∙ running;
      reads = record {
        finished = finished_stays c h e refl ∙ runs.reads.finished;
        opened = λ still. ap (λ (g : Filling). together g.opened) fill ∙ together-push f.opened chunk ∙ ap (λ l. l ++ chunk) (runs.reads.opened on);
        least = inr (omega (arith, len, least));
        most = omega (arith, len, size);
        run = run_stays c h e refl ∙ runs.reads.run;
        consumed = consumed_stays c h e refl ∙ runs.reads.consumed;
      };
      mirrors = subst (λ l. Mirrors (record s { opened = s.opened ++ chunk }) held l (moved c h e (timing_of c s.settings h)) (clock_of now)) (sym packets)
          (subst (λ t. Mirrors (record s { opened = s.opened ++ chunk }) held (sealed_of c s.settings h) t (clock_of now)) (sym timing)
          (subst (λ n. Mirrors (record s { opened = s.opened ++ chunk }) held (sealed_of c s.settings h) (timing_of c s.settings h) n) (sym clock)
          (record {
            sealed = o.sealed;
            small = o.small;
            sizes = o.sizes;
            numbers = o.numbers;
            kept = o.kept;
            up = o.up;
            taken = o.taken;
            flights = o.flights;
            timers = o.timers;
            alone = o.alone;
            window = o.window;
            depth = o.depth;
            least = o.least;
            asked = o.asked;
            asked_soon = o.asked_soon;
          })));
      sent = subst (λ l. SentUpto l (rows_emitted_of c h) s.sent) (sym packets) old.sent;
      made = old.made;
    }

ready_seal : (s : Sending) (held : List Item) (h : List Entry) (chunk : List ℕ) (ds : List Datagram) → s.stopped ≡ false → s.finished ≡ false → 4 ≤ length chunk → length chunk + 68 ≤ s.settings.packet
    → s.sealed + 1 < 2 ^ 32 → fits_opened s chunk ≡ false → Reflects s held h
    → Ready (record (sealing s.opened false s) { opened = chunk }) held h (record { ask = Put s.end.key chunk; reply = Gave (Ok ds) })
unfolding next_filling
ready_seal s held h chunk ds running on least most small room old =
    let c = s.end.key in
    let e : Entry = record { ask = Put c chunk; reply = Gave (Ok ds) } in
    let now = h ++ e ∷ [] in
    let runs = old.runs running in
    let f = filling_of c s.settings h in
    let one : Sealed = record { payload = s.opened; last = false } in
    let m : Sending = record (sealing s.opened false s) { opened = chunk } in
    let fill : filling_of c s.settings now ≡ record { full = f.full ++ f.opened ∷ []; opened = chunk ∷ [] } = filling_with s h chunk ds on runs.reads ∙ ap (next_filling f chunk) room in
    let packets : sealed_of c s.settings now ≡ sealed_of c s.settings h ++ one ∷ [] =
    packets_with s h chunk ds on runs.reads ∙ ap (λ b. map plain (next_filling f chunk b).full) room ∙ map-append plain f.full (f.opened ∷ [])
    ∙ ap (λ l. l ++ plain f.opened ∷ []) (sym (packets_are s h on runs.reads)) ∙ ap (λ y. sealed_of c s.settings h ++ record { payload = y; last = false } ∷ []) (runs.reads.opened on) in
    let timing : moved c h e (timing_of c s.settings h) ≡ timing_of c s.settings h = moved_not c h e (timing_of c s.settings h) refl refl in
    let clock : clock_of now ≡ clock_of h = clock_stays h e refl in
    let big = leb-false (length s.opened + length chunk + 68) s.settings.packet room in
    let four : 4 ≤ length s.opened = elim runs.reads.least [ inl none ↦ absurd (let len : length s.opened ≡ 0 = ap length none in omega (arith, big, most, len)) | inr some_ ↦ some_ ] in
    let size : IsPayload s.settings.packet one = (four, omega (arith, runs.reads.most)) in
    record {
      names = old.names;
      checked = old.checked;
      running = running;
      runs = stopped_stays c h e refl ∙ old.stopped ∙ running;
      reads = record {
        finished = finished_stays c h e refl ∙ runs.reads.finished;
        opened = λ still. ap (λ (g : Filling). together g.opened) fill ∙ append-nil chunk;
        least = inr least;
        most = most;
        run = run_stays c h e refl ∙ runs.reads.run;
        consumed = consumed_stays c h e refl ∙ runs.reads.consumed;
      };
      mirrors = subst (λ l. Mirrors m held l (moved c h e (timing_of c s.settings h)) (clock_of now)) (sym packets)
          (subst (λ t. Mirrors m held (sealed_of c s.settings h ++ one ∷ []) t (clock_of now)) (sym timing)
          (subst (λ n. Mirrors m held (sealed_of c s.settings h ++ one ∷ []) (timing_of c s.settings h) n) (sym clock)
          (mirrors_sealed s held (sealed_of c s.settings h) (timing_of c s.settings h) (clock_of h) s.opened false chunk s.finished runs.mirrors old.sent.within small size)));
      sent = subst (λ l. SentUpto l (rows_emitted_of c h) s.sent) (sym packets) (sent_grow (sealed_of c s.settings h) (one ∷ []) (rows_emitted_of c h) s.sent old.sent);
      made = old.made;
    }

ready_end : (s : Sending) (held : List Item) (h : List Entry) (ds : List Datagram) → s.stopped ≡ false → s.finished ≡ false → s.sealed + 1 < 2 ^ 32 → Reflects s held h
    → Ready (ending s) held h (record { ask = Finish s.end.key; reply = Gave (Ok ds) })
ready_end s held h ds running on small old =
    let c = s.end.key in
    let e : Entry = record { ask = Finish c; reply = Gave (Ok ds) } in
    let now = h ++ e ∷ [] in
    let runs = old.runs running in
    let f = filling_of c s.settings h in
    let one : Sealed = record { payload = s.opened ++ spelled end_of_stream; last = true } in
    let m : Sending = ending s in
    let ends : finished_of c now ≡ true = finished_of-push c h e ∙ ap (λ b. finished_of c h || (b && true)) (key_eq-same c) ∙ or_true (finished_of c h) in
    let packets : sealed_of c s.settings now ≡ sealed_of c s.settings h ++ one ∷ [] =
    ap (λ l. sealed (filling s.settings.packet l) (finished_of c now)) (chunks_stay c h e refl) ∙ ap (sealed f) ends
    ∙ ap (λ l. l ++ final f.opened ∷ []) (sym (packets_are s h on runs.reads)) ∙ ap (λ y. sealed_of c s.settings h ++ record { payload = y ++ spelled end_of_stream; last = true } ∷ []) (runs.reads.opened on) in
    let timing : moved c h e (timing_of c s.settings h) ≡ timing_of c s.settings h = moved_not c h e (timing_of c s.settings h) refl refl in
    let clock : clock_of now ≡ clock_of h = clock_stays h e refl in
    let len : length (s.opened ++ spelled end_of_stream) ≡ length s.opened + 4 = length-both s.opened (spelled end_of_stream) ∙ ap (λ n. length s.opened + n) end_length in
    let size : IsPayload s.settings.packet one = (omega (arith, len), omega (arith, len, runs.reads.most)) in
    record {
      names = old.names;
      checked = old.checked;
      running = running;
      runs = stopped_stays c h e refl ∙ old.stopped ∙ running;
      reads = record {
        finished = ends;
        opened = λ still. absurd (cc);
        least = runs.reads.least;
        most = runs.reads.most;
        run = run_stays c h e refl ∙ runs.reads.run;
        consumed = consumed_stays c h e refl ∙ runs.reads.consumed;
      };
      mirrors = subst (λ l. Mirrors m held l (moved c h e (timing_of c s.settings h)) (clock_of now)) (sym packets)
          (subst (λ t. Mirrors m held (sealed_of c s.settings h ++ one ∷ []) t (clock_of now)) (sym timing)
          (subst (λ n. Mirrors m held (sealed_of c s.settings h ++ one ∷ []) (timing_of c s.settings h) n) (sym clock)
          (mirrors_sealed s held (sealed_of c s.settings h) (timing_of c s.settings h) (clock_of h) (s.opened ++ spelled end_of_stream) true s.opened true runs.mirrors old.sent.within small size)));
      sent = subst (λ l. SentUpto l (rows_emitted_of c h) s.sent) (sym packets) (sent_grow (sealed_of c s.settings h) (one ∷ []) (rows_emitted_of c h) s.sent old.sent);
      made = old.made;
    }
  where
    or_true : (b : Bool) → (b || true) ≡ true
    or_true true = refl
    or_true false = refl

-- ---- the answers

pub kept_count : (s : Sending) (held : List Item) (packets : List Sealed) (t : Timing) (clock : ℕ) → Mirrors s held packets t clock → length s.kept ≡ s.sealed - s.acked
kept_count s held packets t clock m = sym (length-map number_of s.kept) ∙ ap length m.numbers ∙ length-behind s.acked (s.sealed - s.acked)

-- what is kept of the history is what is kept here
kept_same : (s : Sending) (held : List Item) (h : List Entry) → Runs s held h → kept_of s.end.key s.settings h ≡ length s.kept
kept_same s held h runs =
    ap (λ n. n - run_heard s.end.key h) runs.mirrors.sealed ∙ ap (λ n. s.sealed - n) runs.reads.run
    ∙ sym (kept_count s held (sealed_of s.end.key s.settings h) (timing_of s.end.key s.settings h) (clock_of h) runs.mirrors)

runs_on : (s : Sending) (held : List Item) (h : List Entry) → Reflects s held h → s.stopped ≡ false → IsStopped s.end.key h → ⊥
runs_on s held h old on off = let bad : true ≡ false = sym off ∙ old.stopped ∙ on in cc

given : (s : Sending) (held : List Item) (h : List Entry) (needs needed : Type 0) (ds : List Datagram) → Reflects s held h → s.stopped ≡ false → (needed → needs)
    → (needs → (length s.kept < s.settings.send_depth) × (s.sealed + 1 < 2 ^ 32)) → AnswersPut s.settings s.end h needed (Gave (Ok ds))
given s held h needs needed ds old on back free =
    let runs = old.runs on in
    Given (runs_on s held h old on)
    (λ need. let w = free (back need) in (λ full. omega (arith, full, kept_same s held h runs, w.0), λ long. omega (arith, long, runs.mirrors.sealed, w.1))) ds refl

full : (s : Sending) (held : List Item) (h : List Entry) (needed : Type 0) → Reflects s held h → s.stopped ≡ false → needed → s.settings.send_depth ≤ length s.kept → AnswersPut s.settings s.end h needed (Gave (Err no.Full))
full s held h needed old on need le = Full (runs_on s held h old on) need (let same = kept_same s held h (old.runs on) in omega (arith, same, le)) refl

too_long : (s : Sending) (held : List Item) (h : List Entry) (needed : Type 0) → Reflects s held h → s.stopped ≡ false → needed → length s.kept < s.settings.send_depth → 2 ^ 32 ≤ s.sealed + 1
    → AnswersPut s.settings s.end h needed (Gave (Err (no.TooLong s.end.key)))
too_long s held h needed old on need lt le =
    let runs = old.runs on in
    let same = kept_same s held h runs in
    TooLong (runs_on s held h old on) need (λ is_full. omega (arith, is_full, same, lt)) (omega (arith, runs.mirrors.sealed, le)) refl

stopped : (s : Sending) (held : List Item) (h : List Entry) (needed : Type 0) → Reflects s held h → s.stopped ≡ true → AnswersPut s.settings s.end h needed (Gave (Err no.Stopped))
stopped s held h needed old off = Stopped (old.stopped ∙ off) refl

-- ---- the points of the entries

pub refuses_put : (settings : Settings) (end : ConnEnd) (h : List Entry) (chunk : List ℕ) (reply : HubReply) → (reply ≢ Memory → AnswersPut settings end h (Fits settings end.key h chunk → ⊥) reply)
    → Refuses settings end h (record { ask = Put end.key chunk; reply = reply })
refuses_put settings end h chunk reply answers = record {
  put = λ other ask kept. let same : chunk ≡ other = cc in subst (λ x. AnswersPut settings end h (Fits settings end.key h x → ⊥) reply) same (answers kept);
  finish = λ ask kept. absurd (let bad : Put end.key chunk ≡ Finish end.key = ask in cc);
  heard = λ d p ask directed reads key kept. absurd (let bad : Put end.key chunk ≡ Arrive d = ask in cc);
}

pub refuses_finish : (settings : Settings) (end : ConnEnd) (h : List Entry) (reply : HubReply) → (reply ≢ Memory → AnswersPut settings end h (Unit {0}) reply) → Refuses settings end h (record { ask = Finish end.key; reply = reply })
refuses_finish settings end h reply answers = record {
  put = λ other ask kept. absurd (let bad : Finish end.key ≡ Put end.key other = ask in cc);
  finish = λ ask kept. answers kept;
  heard = λ d p ask directed reads key kept. absurd (let bad : Finish end.key ≡ Arrive d = ask in cc);
}

-- a put, or a finish, that isn't given adds nothing
nothing_put : (c : ConnKey) (chunk : List ℕ) (reply : HubReply) → was_given reply ≡ false → emits (record { ask = Put c chunk; reply = reply }) ≡ [] → IsNothingOf c (record { ask = Put c chunk; reply = reply })
nothing_put c chunk reply ungiven none = record {
  puts_none = ap (λ b. cond (key_eq c c && b) (chunk ∷ []) []) ungiven ∙ both (key_eq c c);
  finishes_none = refl;
  hears_none = refl;
  rows = ap (flat_map (rows_in c)) none;
  queries = ap (flat_map (queries_in c)) none;
}
  where
    both : (b : Bool) → cond (b && false) (chunk ∷ []) [] ≡ []
    both true = refl
    both false = refl

nothing_finished : (c : ConnKey) (reply : HubReply) → was_given reply ≡ false → emits (record { ask = Finish c; reply = reply }) ≡ [] → IsNothingOf c (record { ask = Finish c; reply = reply })
nothing_finished c reply ungiven none = record {
  puts_none = refl;
  finishes_none = ap (λ b. key_eq c c && b) ungiven ∙ both (key_eq c c);
  hears_none = refl;
  rows = ap (flat_map (rows_in c)) none;
  queries = ap (flat_map (queries_in c)) none;
}
  where
    both : (b : Bool) → (b && false) ≡ false
    both true = refl
    both false = refl

-- ---- a put

none_again : (k : ℕ) (n : ℕ) → Contains [] n → (1 ≤ n) × (n ≤ k)
none_again k n at = absurd (omega (arith, at.1))

ready_put : (s : Sending) (held : List Item) (h : List Entry) (chunk : List ℕ) (ds : List Datagram) → s.stopped ≡ false → s.finished ≡ false → 4 ≤ length chunk → length chunk + 68 ≤ s.settings.packet
    → (fits_opened s chunk ≡ false → s.sealed + 1 < 2 ^ 32) → Reflects s held h → Ready (adding chunk s) held h (record { ask = Put s.end.key chunk; reply = Gave (Ok ds) })
ready_put s held h chunk ds running on least most small old = by (fits_opened s chunk) refl
  where
    by : (b : Bool) → fits_opened s chunk ≡ b → Ready (cond b (record s { opened = s.opened ++ chunk }) (record (sealing s.opened false s) { opened = chunk })) held h (record { ask = Put s.end.key chunk; reply = Gave (Ok ds) })
    by true room = ready_fit s held h chunk ds running on least room old
    by false room = ready_seal s held h chunk ds running on least most (small room) room old

-- what is given of a connection that is ready
gives : (s m : Sending) (held : List Item) (h : List Entry) (ask : HubAsk) (now : ℕ) → m.end ≡ s.end → m.settings ≡ s.settings → clock_of h ≡ now → Stands s held h
    → Ready m held h (record { ask = ask; reply = Gave (Ok (datagrams_next m)) }) → hears m.end.key (record { ask = ask; reply = Gave (Ok (datagrams_next m)) }) ≡ []
    → Refuses s.settings s.end h (record { ask = ask; reply = Gave (Ok (datagrams_next m)) })
    → Stands (emitting now m) (waits_next now m held) (h ++ record { ask = ask; reply = Gave (Ok (datagrams_next m)) } ∷ [])
gives s m held h ask now end settings is_now old ready none refuses =
    let e : Entry = record { ask = ask; reply = Gave (Ok (datagrams_next m)) } in
    let law : Every (KeepsSending m.settings m.end) h = subst (λ x. Every (KeepsSending x m.end) h) (sym settings) (subst (λ (x : ConnEnd). Every (KeepsSending s.settings x) h) (sym end) old.law) in
    let due : Refuses m.settings m.end h e = subst (λ x. Refuses x m.end h e) (sym settings) (subst (λ (x : ConnEnd). Refuses s.settings x h e) (sym end) refuses) in
    stands_out m held h e [] now (clock_stays h e refl ∙ is_now) law ready (none_again m.sent) (sym (again_not m.end.key h e (timing_of m.end.key m.settings h) refl none))
    (goes_out m held h e [] ready (none_again m.sent) refl refl) (λ here. due)

pub puts_stand : (s : Sending) (q : Queue) (now : ℕ) (chunk : List ℕ) (result : Result (List Datagram) SendNo) (after : Sending) (left : Queue) → s.finished ≡ false → 4 ≤ length chunk → length chunk + 68 ≤ s.settings.packet
    → Puts s q now (NeedsPacket s chunk) (adding chunk s) result after left → StandsOn now s q.held after left.held (IsPutting s.end.key chunk result)
puts_stand s q now chunk result after left on least most gave h e is_now is old =
    let c = s.end.key in
    let shown : e ≡ record { ask = Put c chunk; reply = gave_of result } = entry_is e (Put c chunk) (gave_of result) is.ask is.reply in
    subst (λ (x : Entry). Stands after left.held (h ++ x ∷ [])) (sym shown) (by gave)
  where
    c : ConnKey
    c = s.end.key

    leaves : (reply : HubReply) → was_given reply ≡ false → emits (record { ask = Put s.end.key chunk; reply = reply }) ≡ [] → ticks_by reply ≡ 0 → gave_of result ≡ reply → after ≡ s → left ≡ q
        → (reply ≢ Memory → AnswersPut s.settings s.end h (Fits s.settings s.end.key h chunk → ⊥) reply) → Stands after left.held (h ++ record { ask = Put s.end.key chunk; reply = gave_of result } ∷ [])
    leaves reply ungiven none still same same_s same_q answers =
        subst (λ r. Stands after left.held (h ++ record { ask = Put s.end.key chunk; reply = r } ∷ [])) (sym same)
        (subst (λ (x : Sending). Stands x left.held (h ++ record { ask = Put s.end.key chunk; reply = reply } ∷ [])) (sym same_s)
        (subst (λ (x : Queue). Stands s x.held (h ++ record { ask = Put s.end.key chunk; reply = reply } ∷ [])) (sym same_q)
        (stays s q.held h (record { ask = Put s.end.key chunk; reply = reply }) (nothing_put s.end.key chunk reply ungiven none) still (λ here. refuses_put s.settings s.end h chunk reply answers) old)))

    unfit : s.stopped ≡ false → NeedsPacket s chunk → Fits s.settings s.end.key h chunk → ⊥
    unfit running need fits_it = let bad : true ≡ false = sym fits_it ∙ fits_same s h chunk on (old.reflects.runs running).reads ∙ need in cc

    need_of : s.stopped ≡ false → (Fits s.settings s.end.key h chunk → ⊥) → NeedsPacket s chunk
    need_of running unfits = elim (cases_Bool (fits_opened s chunk)) [ inl t ↦ absurd (unfits (fits_same s h chunk on (old.reflects.runs running).reads ∙ t)) | inr f ↦ f ]

    by : Puts s q now (NeedsPacket s chunk) (adding chunk s) result after left → Stands after left.held (h ++ record { ask = Put s.end.key chunk; reply = gave_of result } ∷ [])
    by (Puts.Stopped off is_result same_s same_q) = leaves (Gave (Err no.Stopped)) refl refl refl (ap gave_of is_result) same_s same_q (λ kept. stopped s q.held h _ old.reflects off)
    by (Puts.Full running need le is_result same_s same_q) = leaves (Gave (Err no.Full)) refl refl refl (ap gave_of is_result) same_s same_q (λ kept. full s q.held h _ old.reflects running (unfit running need) le)
    by (Puts.TooLong running need lt le is_result same_s same_q) =
        leaves (Gave (Err (no.TooLong s.end.key))) refl refl refl (ap gave_of is_result) same_s same_q (λ kept. too_long s q.held h _ old.reflects running (unfit running need) lt le)
    by (Puts.NoMemory is_result same_s same_q) = leaves Memory refl refl refl (ap gave_of is_result) same_s same_q (λ kept. absurd (kept refl))
    by (Puts.Given running free is_result is_after is_left) =
        let m = adding chunk s in
        let ready = ready_put s q.held h chunk (datagrams_next m) running on least most (λ need. (free need).1) old.reflects in
        let reply = Gave (Ok (datagrams_next m)) in
        let stands = gives s m q.held h (Put s.end.key chunk) now (same_end (fits_opened s chunk)) (same_settings (fits_opened s chunk)) is_now old ready refl
        (refuses_put s.settings s.end h chunk reply (λ kept. given s q.held h (NeedsPacket s chunk) _ (datagrams_next m) old.reflects running (need_of running) free)) in
        subst (λ r. Stands after left.held (h ++ record { ask = Put s.end.key chunk; reply = gave_of r } ∷ [])) (sym is_result)
        (subst (λ (x : Sending). Stands x left.held (h ++ record { ask = Put s.end.key chunk; reply = reply } ∷ [])) (sym is_after)
        (subst (λ (x : Queue). Stands (emitting now m) x.held (h ++ record { ask = Put s.end.key chunk; reply = reply } ∷ [])) (sym is_left) stands))
      where
        same_end : (b : Bool) → (cond b (record s { opened = s.opened ++ chunk }) (record (sealing s.opened false s) { opened = chunk })).end ≡ s.end
        same_end true = refl
        same_end false = refl

        same_settings : (b : Bool) → (cond b (record s { opened = s.opened ++ chunk }) (record (sealing s.opened false s) { opened = chunk })).settings ≡ s.settings
        same_settings true = refl
        same_settings false = refl

pub finish_stands : (s : Sending) (q : Queue) (now : ℕ) (result : Result (List Datagram) SendNo) (after : Sending) (left : Queue) → s.finished ≡ false
    → Puts s q now (Unit {0}) (ending s) result after left → StandsOn now s q.held after left.held (IsFinishing s.end.key result)
finish_stands s q now result after left on gave h e is_now is old =
    let c = s.end.key in
    let shown : e ≡ record { ask = Finish c; reply = gave_of result } = entry_is e (Finish c) (gave_of result) is.ask is.reply in
    subst (λ (x : Entry). Stands after left.held (h ++ x ∷ [])) (sym shown) (by gave)
  where
    leaves : (reply : HubReply) → was_given reply ≡ false → emits (record { ask = Finish s.end.key; reply = reply }) ≡ [] → ticks_by reply ≡ 0 → gave_of result ≡ reply → after ≡ s → left ≡ q
        → (reply ≢ Memory → AnswersPut s.settings s.end h (Unit {0}) reply) → Stands after left.held (h ++ record { ask = Finish s.end.key; reply = gave_of result } ∷ [])
    leaves reply ungiven none still same same_s same_q answers =
        subst (λ r. Stands after left.held (h ++ record { ask = Finish s.end.key; reply = r } ∷ [])) (sym same)
        (subst (λ (x : Sending). Stands x left.held (h ++ record { ask = Finish s.end.key; reply = reply } ∷ [])) (sym same_s)
        (subst (λ (x : Queue). Stands s x.held (h ++ record { ask = Finish s.end.key; reply = reply } ∷ [])) (sym same_q)
        (stays s q.held h (record { ask = Finish s.end.key; reply = reply }) (nothing_finished s.end.key reply ungiven none) still (λ here. refuses_finish s.settings s.end h reply answers) old)))

    by : Puts s q now (Unit {0}) (ending s) result after left → Stands after left.held (h ++ record { ask = Finish s.end.key; reply = gave_of result } ∷ [])
    by (Puts.Stopped off is_result same_s same_q) = leaves (Gave (Err no.Stopped)) refl refl refl (ap gave_of is_result) same_s same_q (λ kept. stopped s q.held h _ old.reflects off)
    by (Puts.Full running need le is_result same_s same_q) = leaves (Gave (Err no.Full)) refl refl refl (ap gave_of is_result) same_s same_q (λ kept. full s q.held h _ old.reflects running need le)
    by (Puts.TooLong running need lt le is_result same_s same_q) = leaves (Gave (Err (no.TooLong s.end.key))) refl refl refl (ap gave_of is_result) same_s same_q (λ kept. too_long s q.held h _ old.reflects running need lt le)
    by (Puts.NoMemory is_result same_s same_q) = leaves Memory refl refl refl (ap gave_of is_result) same_s same_q (λ kept. absurd (kept refl))
    by (Puts.Given running free is_result is_after is_left) =
        let m = ending s in
        let ready = ready_end s q.held h (datagrams_next m) running on (free tt).1 old.reflects in
        let reply = Gave (Ok (datagrams_next m)) in
        let stands = gives s m q.held h (Finish s.end.key) now refl refl is_now old ready refl
        (refuses_finish s.settings s.end h reply (λ kept. given s q.held h (Unit {0}) (Unit {0}) (datagrams_next m) old.reflects running (λ u. u) free)) in
        subst (λ r. Stands after left.held (h ++ record { ask = Finish s.end.key; reply = gave_of r } ∷ [])) (sym is_result)
        (subst (λ (x : Sending). Stands x left.held (h ++ record { ask = Finish s.end.key; reply = reply } ∷ [])) (sym is_after)
        (subst (λ (x : Queue). Stands (emitting now m) x.held (h ++ record { ask = Finish s.end.key; reply = reply } ∷ [])) (sym is_left) stands))
