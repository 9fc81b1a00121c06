-- A connection stands for each answer that it hears.
use Rattle.std.proofs.Common.{◌≡◌, ◌≢◌, ℕ, zero, suc, ◌+◌, ◌-◌, ◌/◌, ◌%◌, ◌<◌, ◌≤◌, max, List, [], ◌∷◌, ◌++◌, length, map, Bool, true, false, cond, ◌&&◌, ◌||◌, ◌==◌, Some, Result, Ok, refl, ap, sym, ◌∙◌, subst, arith, inl, inr, ◌⊎◌}
use Rattle.std.specs.Prelude.{nat_lt, filter, take, drop}
use Rattle.std.specs.Int.{w32, from_be_bytes}
use Rattle.std.specs.List.{flat_map, Contains, list_any}
use Rattle.std.proofs.lemmas.Bool.{cases_Bool, cases_lt}
use Rattle.ic_base.specs.declared.keys.ConnEnd.{ConnEnd}
use Rattle.ic_base.specs.declared.keys.ConnKey.{ConnKey}
use Rattle.ic_base.specs.declared.settings.Settings.{Settings}
use Rattle.ic_base.specs.declared.datagram.Datagram.{Datagram}
use Rattle.ic_chunk.specs.Assembly.{together}
use Rattle.ic_header.specs.declared.flags.Flags.{Flags}
use Rattle.ic_header.specs.declared.flags.Flags.TheVariants.{Ack, Stop, Nak, Disorder, Duplicate}
use Rattle.ic_expire.specs.declared.item.Item.{Item}
use Rattle.ic_expire.specs.Items.{is_upto}
use Rattle.ic_expire.specs.Queue.{Queue, without}
use Rattle.ic_law.specs.declared.history.HubAsk.TheVariants.{Put, Finish, Arrive}
use Rattle.ic_law.specs.declared.history.HubReply.{HubReply}
use Rattle.ic_law.specs.declared.history.HubReply.TheVariants.{Came, Memory}
use Rattle.ic_law.specs.declared.history.Arrived.TheVariants.{Handled, Dropped}
use Rattle.ic_law.specs.declared.history.DropCause.TheVariants as cause
use Rattle.ic_law.specs.declared.history.Entry.{Entry}
use Rattle.ic_header.specs.Packets.{Packet, packet_of, key_of, goes_forth, row_datagram}
use Rattle.ic_law.specs.History.{datagrams_of, greatest, rows_in, rows_emitted_of, sent_upto}
use Rattle.ic_law.specs.Hearing.{was_handled, answer_in, hears, is_stop, stop_flags, stopped_of, IsStopped, run_heard, run_told, run_by, consumed_heard, consumed_told, consumed_by}
use Rattle.ic_law.specs.Filling.{Sealed, filling, sealed_of}
use Rattle.ic_law.specs.Points.{SentUpto}
use Rattle.ic_law.specs.Sending.{AnswersHeard, Refuses, IsStrayBy, IsStray}
use Rattle.ic_law.specs.Sending.AnswersHeard.{Unheard, Strayed, Heard}
use Rattle.ic_law.specs.Numbers.{words_in, words_from, IsIncreasingFrom, last_or}
use Rattle.ic_law.specs.Clock.{clock_of}
use Rattle.ic_law.specs.Timers.{Timer, Timing, names_its_number, listed_by}
use Rattle.ic_law.specs.Timing.{timing_of, moved, heard_then, rows_at, numbers_behind}
use Rattle.ic_law.specs.Emitting.{listed_then, again_numbers, queries_in}
use Rattle.ic_law.specs.Timers.{is_among as stands_among}
use Rattle.ic_law.proofs.Lists.{Contains-map, map-append}
use Rattle.ic_law.proofs.Readings.{run_heard-push, consumed_heard-push, stopped_of-push}
use Rattle.ic_sender.specs.declared.send_no.SendNo.{SendNo}
use Rattle.ic_sender.specs.declared.flight.Flight.{Flight}
use Rattle.ic_sender.specs.Sending.{Sending, Answer, run_with, hearing, datagrams_again, datagrams_next, rows_next, emitting, waits_next, halting}
use Rattle.ic_sender.specs.Calls.{Hears, acknowledging, repeating, missing_of, unknown, IsStrayAck, IsStrayDuplicate, IsStrayDisorder, IsStrayNak}
use Rattle.ic_sender.specs.Entries.{IsNothingOf, came_of, IsHearing}
use Rattle.ic_sender.specs.Standing.{Waits, Mirrors, Reflects, Stands, StandsOn}
use Rattle.ic_sender.proofs.Lists.{in_behind, behind_above, map_filter, in_filter, find_same}
use Rattle.ic_sender.proofs.Sent.{greatest_sent}
use Rattle.ic_sender.proofs.Pairs.{Found, waits_find, copies_are}
use Rattle.ic_sender.proofs.Emitting.{Ready}
use Rattle.ic_sender.proofs.Passing.{entry_is, keeps_law, chunks_stay, finished_stays, sealed_stays, stopped_stays, clock_stays, PassesStopped, reflects_stopped, stopped_due}
use Rattle.ic_sender.proofs.Going.{goes_out, stands_out, stays, stays_stopped}
use Rattle.ic_sender.proofs.Hearing.{IsAnswerOf, answer_is, plain, heard_is, kept_pairs, mirrors_heard}

-- ---- the points of the entries

pub refuses_heard : (settings : Settings) (end : ConnEnd) (h : List Entry) (d : Datagram) (p : Packet) (reply : HubReply) → packet_of d ≡ Some p → (reply ≢ Memory → AnswersHeard end h p reply)
    → Refuses settings end h (record { ask = Arrive d; reply = reply })
refuses_heard settings end h d p reply reads answers = record {
  put = λ chunk ask kept. absurd (let bad : Arrive d ≡ Put end.key chunk = ask in cc);
  finish = λ ask kept. absurd (let bad : Arrive d ≡ Finish end.key = ask in cc);
  heard = λ other q ask directed reads_other back key kept.
      let same : d ≡ other = cc in
      let both : Some p ≡ Some q = sym reads ∙ ap packet_of same ∙ reads_other in
      let one : p ≡ q = cc in
      subst (λ x. AnswersHeard end h x reply) one (answers kept);
}

-- ---- an answer that is heard

-- the numbers that are emitted again
abbrev pub again_of : Sending → Timing → Answer → List ℕ
again_of s t a = filter (stands_among (filter (λ (x : Timer). nat_lt (run_with a s) x.seq) t.timers)) a.lists

again_within : (s : Sending) (held : List Item) (packets : List Sealed) (t : Timing) (clock : ℕ) (a : Answer) → run_with a s ≤ s.sent → Mirrors s held packets t clock
    → (n : ℕ) → Contains (again_of s t a) n → (1 ≤ n) × (n ≤ s.sent)
again_within s held packets t clock a up old n at = by (waits_find s.end packets s.conn held clock fs ts n (kept_pairs s held packets t clock run old))
  where
    run : ℕ
    run = run_with a s

    fs : List Flight
    fs = filter (λ (f : Flight). nat_lt (run_with a s) f.seq) s.flights

    ts : List Timer
    ts = filter (λ (x : Timer). nat_lt (run_with a s) x.seq) t.timers

    by : Found (Waits s.end packets s.conn held clock) (filter (λ (f : Flight). nat_lt (run_with a s) f.seq) s.flights) (filter (λ (x : Timer). nat_lt (run_with a s) x.seq) t.timers) n → (1 ≤ n) × (n ≤ s.sent)
    by (Found.There f x w is there found among) =
        let low : s.acked ≤ run_with a s = omega arith in
        let member = find_same (λ (g : Flight). g.seq) (filter (λ (g : Flight). nat_lt (run_with a s) g.seq) s.flights) n f found in
        let numbers : map (λ (g : Flight). g.seq) (filter (λ (g : Flight). nat_lt (run_with a s) g.seq) s.flights) ≡ numbers_behind (run_with a s) (s.acked + (s.sent - s.acked) - run_with a s) =
        map_filter (nat_lt (run_with a s)) (λ (g : Flight). g.seq) s.flights ∙ ap (filter (nat_lt (run_with a s))) old.flights ∙ behind_above (run_with a s) s.acked (s.sent - s.acked) low (omega (arith, up, old.up)) in
        let range = in_behind (run_with a s) (s.acked + (s.sent - s.acked) - run_with a s) f.seq
        (subst (λ l. Contains l f.seq) numbers (Contains-map (λ (g : Flight). g.seq) (filter (λ (g : Flight). nat_lt (run_with a s) g.seq) s.flights) f member.0)) in
        (omega (arith, range.0, is), omega (arith, range.1, is, up, old.up))
    by (Found.Absent found among) = absurd (let pass = (in_filter (stands_among (filter (λ (x : Timer). nat_lt (run_with a s) x.seq) t.timers)) a.lists n at).1 in let bad : true ≡ false = sym pass ∙ among in cc)

-- the timing after it
moved_is : (s : Sending) (h : List Entry) (d : Datagram) (p : Packet) (a : Answer) (ds : List Datagram) (clock : ℕ) → packet_of d ≡ Some p → key_of p.head ≡ s.end.key → IsAnswerOf p a
    → run_heard s.end.key h ≡ s.acked → run_heard s.end.key (h ++ record { ask = Arrive d; reply = Came Handled ds } ∷ []) ≡ run_with a s
    → clock_of (h ++ record { ask = Arrive d; reply = Came Handled ds } ∷ []) ≡ clock
    → moved s.end.key h (record { ask = Arrive d; reply = Came Handled ds }) (timing_of s.end.key s.settings h) ≡ plain (run_with a s) s.acked clock (timing_of s.end.key s.settings h) p a.lists
moved_is s h d p a ds clock reads key is before after is_clock =
    let c = s.end.key in
    let t = timing_of c s.settings h in
    let now = h ++ record { ask = Arrive d; reply = Came Handled ds } ∷ [] in
    ap (heard_then c h now t) (answer_is c d p ds reads key is.back) ∙ heard_is c h now t p
    ∙ ap (λ n. plain n (run_heard c h) (clock_of now) t p (listed_by p.head.flags p)) after
    ∙ ap (λ n. plain (run_with a s) n (clock_of now) t p (listed_by p.head.flags p)) before
    ∙ ap (λ n. plain (run_with a s) s.acked n t p (listed_by p.head.flags p)) is_clock
    ∙ ap (λ l. plain (run_with a s) s.acked clock t p l) is.lists

again_is : (s : Sending) (h : List Entry) (d : Datagram) (p : Packet) (a : Answer) (ds : List Datagram) → packet_of d ≡ Some p → key_of p.head ≡ s.end.key → IsAnswerOf p a
    → run_heard s.end.key (h ++ record { ask = Arrive d; reply = Came Handled ds } ∷ []) ≡ run_with a s
    → again_of s (timing_of s.end.key s.settings h) a ≡ again_numbers s.end.key h (record { ask = Arrive d; reply = Came Handled ds }) (timing_of s.end.key s.settings h)
again_is s h d p a ds reads key is after =
    let c = s.end.key in
    let t = timing_of c s.settings h in
    let now = h ++ record { ask = Arrive d; reply = Came Handled ds } ∷ [] in
    let law : again_numbers c h (record { ask = Arrive d; reply = Came Handled ds }) t ≡ again_of s t a =
    ap (listed_then c now t) (answer_is c d p ds reads key is.back)
    ∙ ap (λ n. filter (stands_among (filter (λ (x : Timer). nat_lt n x.seq) t.timers)) (listed_by p.head.flags p)) after
    ∙ ap (λ l. filter (stands_among (filter (λ (x : Timer). nat_lt (run_with a s) x.seq) t.timers)) l) is.lists in
    sym law

ready_heard : (s : Sending) (held : List Item) (h : List Entry) (d : Datagram) (p : Packet) (a : Answer) (ds : List Datagram) (now : ℕ) → clock_of h ≡ now → packet_of d ≡ Some p → key_of p.head ≡ s.end.key → IsAnswerOf p a
    → s.stopped ≡ false → run_with a s ≤ s.sent → max s.consumed a.consumed ≤ run_with a s → Reflects s held h
    → Ready (hearing now a s) (without (is_upto s.conn (run_with a s)) held) h (record { ask = Arrive d; reply = Came Handled ds })
ready_heard s held h d p a ds now is_now reads key is running up taken old =
    let c = s.end.key in
    let e : Entry = record { ask = Arrive d; reply = Came Handled ds } in
    let nowh = h ++ e ∷ [] in
    let runs = old.runs running in
    let one : hears c e ≡ p ∷ [] = answer_is c d p ds reads key is.back in
    let packets : sealed_of c s.settings nowh ≡ sealed_of c s.settings h = sealed_stays c s.settings h e refl refl in
    let clock : clock_of nowh ≡ now = clock_stays h e refl ∙ is_now in
    let run : run_heard c nowh ≡ run_with a s =
    (let law = run_heard-push c h e ∙ ap (λ l. max (run_heard c h) (greatest (map run_told l))) one in omega (arith, law, is.run, runs.reads.run)) in
    let consumed : consumed_heard c nowh ≡ max s.consumed a.consumed =
    (let law = consumed_heard-push c h e ∙ ap (λ l. max (consumed_heard c h) (greatest (map consumed_told l))) one in omega (arith, law, is.consumed, runs.reads.consumed)) in
    let timing = moved_is s h d p a ds now reads key is runs.reads.run run clock in
    let before : Mirrors s held (sealed_of c s.settings h) (timing_of c s.settings h) now = subst (λ n. Mirrors s held (sealed_of c s.settings h) (timing_of c s.settings h) n) is_now runs.mirrors in
    let m = hearing now a s in
    let left = without (is_upto s.conn (run_with a s)) held in
    record {
      names = old.names;
      checked = old.checked;
      running = running;
      runs = stopped_stays c h e (ap (list_any is_stop) one ∙ ap (λ b. b || false) is.goes_on) ∙ old.stopped ∙ running;
      reads = record {
        finished = finished_stays c h e refl ∙ runs.reads.finished;
        opened = λ on. ap (λ l. together (filling s.settings.packet l).opened) (chunks_stay c h e refl) ∙ runs.reads.opened on;
        least = runs.reads.least;
        most = runs.reads.most;
        run = run;
        consumed = consumed;
      };
      mirrors = subst (λ l. Mirrors m left l (moved c h e (timing_of c s.settings h)) (clock_of nowh)) (sym packets)
          (subst (λ t. Mirrors m left (sealed_of c s.settings h) t (clock_of nowh)) (sym timing)
          (subst (λ n. Mirrors m left (sealed_of c s.settings h) (plain (run_with a s) s.acked now (timing_of c s.settings h) p a.lists) n) (sym clock)
          (mirrors_heard s held (sealed_of c s.settings h) (timing_of c s.settings h) now p a is up taken old.sent.within before)));
      sent = subst (λ l. SentUpto l (rows_emitted_of c h) s.sent) (sym packets) old.sent;
      made = old.made;
    }

-- ---- every answer

-- how an answer is judged here and in the law
pub record IsJudged (s : Sending) (p : Packet) (a : Answer) (stray : Type 0) : Type 0 where
  pub is : IsAnswerOf p a
  pub stray_there : stray → IsStrayBy p.head.flags s.sent p
  pub stray_here : IsStrayBy p.head.flags s.sent p → stray
  pub run : (stray → ⊥) → a.run ≤ s.sent
  pub taken : (stray → ⊥) → a.consumed ≤ a.run

runs_still : (s : Sending) (held : List Item) (h : List Entry) → Reflects s held h → s.stopped ≡ false → IsStopped s.end.key h → ⊥
runs_still s held h old on off = let bad : true ≡ false = sym off ∙ old.stopped ∙ on in cc

nothing_came : (c : ConnKey) (d : Datagram) (reply : HubReply) → was_handled reply ≡ false → datagrams_of reply ≡ [] → IsNothingOf c (record { ask = Arrive d; reply = reply })
nothing_came c d reply unheard none = record {
  puts_none = refl;
  finishes_none = refl;
  hears_none = ap (λ b. cond b (answer_in c d) []) unheard;
  rows = ap (flat_map (rows_in c)) none;
  queries = ap (flat_map (queries_in c)) none;
}

stray_law : (s : Sending) (held : List Item) (h : List Entry) (p : Packet) → Reflects s held h → IsStrayBy p.head.flags s.sent p → IsStray s.end.key h p
stray_law s held h p old is = subst (λ n. IsStrayBy p.head.flags n p) (sym (greatest_sent (sealed_of s.end.key s.settings h) (rows_emitted_of s.end.key h) s.sent old.sent)) is

law_stray : (s : Sending) (held : List Item) (h : List Entry) (p : Packet) → Reflects s held h → IsStray s.end.key h p → IsStrayBy p.head.flags s.sent p
law_stray s held h p old is = subst (λ n. IsStrayBy p.head.flags n p) (greatest_sent (sealed_of s.end.key s.settings h) (rows_emitted_of s.end.key h) s.sent old.sent) is

hears_stand : (s : Sending) (q : Queue) (now : ℕ) (stray : Type 0) (a : Answer) (result : Result (List Datagram) SendNo) (after : Sending) (left : Queue) (h : List Entry) (d : Datagram) (p : Packet)
    → Hears s q now stray a result after left → clock_of h ≡ now → packet_of d ≡ Some p → key_of p.head ≡ s.end.key → IsJudged s p a stray → Stands s q.held h
    → Stands after left.held (h ++ record { ask = Arrive d; reply = came_of result } ∷ [])
hears_stand s q now stray a result after left h d p heard is_now reads key judged old = by heard
  where
    back_to : (reply : HubReply) → came_of result ≡ reply → after ≡ s → left ≡ q → Stands s q.held (h ++ record { ask = Arrive d; reply = reply } ∷ []) → Stands after left.held (h ++ record { ask = Arrive d; reply = came_of result } ∷ [])
    back_to reply same same_s same_q stands =
        subst (λ r. Stands after left.held (h ++ record { ask = Arrive d; reply = r } ∷ [])) (sym same)
        (subst (λ (x : Sending). Stands x left.held (h ++ record { ask = Arrive d; reply = reply } ∷ [])) (sym same_s)
        (subst (λ (x : Queue). Stands s x.held (h ++ record { ask = Arrive d; reply = reply } ∷ [])) (sym same_q) stands))

    by : Hears s q now stray a result after left → Stands after left.held (h ++ record { ask = Arrive d; reply = came_of result } ∷ [])
    by (Hears.Unheard off is_result same_s same_q) =
        back_to (Came Handled []) (ap came_of is_result) same_s same_q
        (stays_stopped s q.held h (record { ask = Arrive d; reply = Came Handled [] }) off (record { puts_none = refl; finishes_none = refl; rows = refl; queries = refl })
        (λ here. refuses_heard s.settings s.end h d p (Came Handled []) reads (λ kept. Unheard (old.reflects.stopped ∙ off) refl)) old)
    by (Hears.Strayed running is_stray is_result same_s same_q) =
        back_to (Came (Dropped cause.Stray) []) (ap came_of is_result) same_s same_q
        (stays s q.held h (record { ask = Arrive d; reply = Came (Dropped cause.Stray) [] }) (nothing_came s.end.key d (Came (Dropped cause.Stray) []) refl refl) refl
        (λ here. refuses_heard s.settings s.end h d p (Came (Dropped cause.Stray) []) reads
        (λ kept. Strayed (runs_still s q.held h old.reflects running) (stray_law s q.held h p old.reflects (judged.stray_there is_stray)) refl)) old)
    by (Hears.HeardWithout is_result same_s same_q) =
        back_to Memory (ap came_of is_result) same_s same_q
        (stays s q.held h (record { ask = Arrive d; reply = Memory }) (nothing_came s.end.key d Memory refl refl) refl (λ here. refuses_heard s.settings s.end h d p Memory reads (λ kept. absurd (kept refl))) old)
    by (Hears.Heard running fine is_result is_after is_left) =
        let c = s.end.key in
        let run = judged.run fine in
        let taken = judged.taken fine in
        let runs = old.reflects.runs running in
        let up : run_with a s ≤ s.sent = omega (arith, run, runs.mirrors.up) in
        let less : max s.consumed a.consumed ≤ run_with a s = omega (arith, taken, runs.mirrors.taken) in
        let m = hearing now a s in
        let t = timing_of c s.settings h in
        let again = again_of s t a in
        let ds = datagrams_again now a s ++ datagrams_next m in
        let e : Entry = record { ask = Arrive d; reply = Came Handled ds } in
        let held = without (is_upto s.conn (run_with a s)) q.held in
        let ready = ready_heard s q.held h d p a ds now is_now reads key judged.is running up less old.reflects in
        let before : Mirrors s q.held (sealed_of c s.settings h) t (clock_of h) = runs.mirrors in
        let within : (n : ℕ) → Contains again n → (1 ≤ n) × (n ≤ m.sent) = again_within s q.held (sealed_of c s.settings h) t (clock_of h) a up before in
        let packets : sealed_of c s.settings (h ++ e ∷ []) ≡ sealed_of c s.settings h = sealed_stays c s.settings h e refl refl in
        let copies : datagrams_again now a s ≡ map (row_datagram s.end) (rows_at (sealed_of c s.settings (h ++ e ∷ [])) again) =
        copies_are s.end (sealed_of c s.settings h) s.conn q.held (clock_of h) (filter (λ (f : Flight). nat_lt (run_with a s) f.seq) s.flights) (filter (λ (x : Timer). nat_lt (run_with a s) x.seq) t.timers) a.lists
        (kept_pairs s q.held (sealed_of c s.settings h) t (clock_of h) (run_with a s) before)
        ∙ ap (λ l. map (row_datagram s.end) (rows_at l again)) (sym packets) in
        let all : ds ≡ map (row_datagram s.end) (rows_at (sealed_of c s.settings (h ++ e ∷ [])) again ++ rows_next m) =
        ap (λ l. l ++ datagrams_next m) copies ∙ sym (map-append (row_datagram s.end) (rows_at (sealed_of c s.settings (h ++ e ∷ [])) again) (rows_next m)) in
        let run_now : run_heard c (h ++ e ∷ []) ≡ run_with a s = ready.reads.run in
        let refuses = refuses_heard s.settings s.end h d p (Came Handled ds) reads
        (λ kept. Heard (runs_still s q.held h old.reflects running) (λ is_stray. fine (judged.stray_here (law_stray s q.held h p old.reflects is_stray))) ds refl) in
        let stands : Stands (emitting now m) (waits_next now m held) (h ++ e ∷ []) =
        stands_out m held h e again now (clock_stays h e refl ∙ is_now) old.law ready within (again_is s h d p a ds reads key judged.is run_now) (goes_out m held h e again ready within refl all) (λ here. refuses) in
        subst (λ r. Stands after left.held (h ++ record { ask = Arrive d; reply = came_of r } ∷ [])) (sym is_result)
        (subst (λ (x : Sending). Stands x left.held (h ++ e ∷ [])) (sym is_after) (subst (λ (x : Queue). Stands (emitting now m) x.held (h ++ e ∷ [])) (sym is_left) stands))

-- ---- each answer

-- the entry of an answer, by its datagram
shown_as : (s : Sending) (flags : Flags) (seq extra : ℕ) (body : List ℕ) (result : Result (List Datagram) SendNo) (e : Entry) (is : IsHearing s.end.key flags seq extra body result e) → e ≡ record { ask = Arrive is.datagram; reply = came_of result }
shown_as s flags seq extra body result e is = entry_is e (Arrive is.datagram) (came_of result) is.ask is.reply

at_most : (a b : ℕ) → (b < a → ⊥) → a ≤ b
at_most a b never = elim (cases_lt b a) [ inl lt ↦ absurd (never lt) | inr le ↦ le ]

ack_judged : (s : Sending) (p : Packet) (seq extra : ℕ) → p.head.flags ≡ Ack → p.head.seq ≡ seq → p.head.extra ≡ extra → IsJudged s p (acknowledging seq extra) (IsStrayAck s seq extra)
ack_judged s p seq extra flags seq_is extra_is = record {
  is = record {
    back = ap goes_forth flags;
    goes_on = ap stop_flags flags;
    run = ap (λ f. run_by f p) flags ∙ seq_is;
    consumed = ap (λ f. consumed_by f p) flags ∙ extra_is;
    names = λ n. ap (λ f. names_its_number f && (n == p.head.seq)) flags;
    lists = ap (λ f. listed_by f p) flags;
  };
  stray_there = λ is. subst (λ f. IsStrayBy f s.sent p) (sym flags) (subst (λ n. (s.sent < n) ⊎ (n < p.head.extra)) (sym seq_is) (subst (λ n. (s.sent < seq) ⊎ (seq < n)) (sym extra_is) is));
  stray_here = λ is. subst (λ n. (s.sent < seq) ⊎ (seq < n)) extra_is (subst (λ n. (s.sent < n) ⊎ (n < p.head.extra)) seq_is (subst (λ f. IsStrayBy f s.sent p) flags is));
  run = λ fine. at_most seq s.sent (λ lt. fine (inl lt));
  taken = λ fine. at_most extra seq (λ lt. fine (inr lt));
}

duplicate_judged : (s : Sending) (p : Packet) (seq extra : ℕ) → p.head.flags ≡ Duplicate → p.head.seq ≡ seq → p.head.extra ≡ extra → IsJudged s p (repeating seq extra) (IsStrayDuplicate s seq extra)
duplicate_judged s p seq extra flags seq_is extra_is = record {
  is = record {
    back = ap goes_forth flags;
    goes_on = ap stop_flags flags;
    run = ap (λ f. run_by f p) flags ∙ extra_is;
    consumed = ap (λ f. consumed_by f p) flags;
    names = λ n. ap (λ f. names_its_number f && (n == p.head.seq)) flags ∙ ap (λ k. n == k) seq_is;
    lists = ap (λ f. listed_by f p) flags;
  };
  stray_there = λ is. subst (λ f. IsStrayBy f s.sent p) (sym flags) (subst (λ n. (s.sent < n) ⊎ (s.sent < p.head.extra)) (sym seq_is) (subst (λ n. (s.sent < seq) ⊎ (s.sent < n)) (sym extra_is) is));
  stray_here = λ is. subst (λ n. (s.sent < seq) ⊎ (s.sent < n)) extra_is (subst (λ n. (s.sent < n) ⊎ (s.sent < p.head.extra)) seq_is (subst (λ f. IsStrayBy f s.sent p) flags is));
  run = λ fine. at_most extra s.sent (λ lt. fine (inr lt));
  taken = λ fine. omega arith;
}

nak_judged : (s : Sending) (p : Packet) (seq : ℕ) → p.head.flags ≡ Nak → p.head.seq ≡ seq → IsJudged s p (unknown seq) (IsStrayNak s seq)
nak_judged s p seq flags seq_is = record {
  is = record {
    back = ap goes_forth flags;
    goes_on = ap stop_flags flags;
    run = ap (λ f. run_by f p) flags;
    consumed = ap (λ f. consumed_by f p) flags;
    names = λ n. ap (λ f. names_its_number f && (n == p.head.seq)) flags ∙ ap (λ k. n == k) seq_is;
    lists = ap (λ f. listed_by f p) flags;
  };
  stray_there = λ is. subst (λ f. IsStrayBy f s.sent p) (sym flags) (subst (λ n. s.sent < n) (sym seq_is) is);
  stray_here = λ is. subst (λ n. s.sent < n) seq_is (subst (λ f. IsStrayBy f s.sent p) flags is);
  run = λ fine. omega arith;
  taken = λ fine. omega arith;
}

increasing_last : (n : ℕ) (ws : List ℕ) → IsIncreasingFrom (n + 1) ws → n ≤ last_or n ws
increasing_last n [] inc = omega arith
increasing_last n (w ∷ ws) inc = let rest = increasing_last w ws inc.1 in omega (arith, inc.0, rest)

-- the first of some increasing numbers is at most the last
first_last : (body : List ℕ) → 0 < length body → length body % 4 ≡ 0 → IsIncreasingFrom 1 (words_in body) → from_be_bytes w32 (take 4 body) ≤ last_or 0 (words_in body)
first_last body some_ whole = by (length body / 4) refl
  where
    by : (n : ℕ) → length body / 4 ≡ n → IsIncreasingFrom 1 (words_from n body) → from_be_bytes w32 (take 4 body) ≤ last_or 0 (words_from n body)
    by zero e inc = absurd (omega (arith, e, some_, whole))
    by (suc n) e inc = increasing_last (from_be_bytes w32 (take 4 body)) (words_from n (drop 4 body)) inc.1

-- a report that isn't stray frees nothing that wasn't emitted
pub disorder_run : (s : Sending) (seq extra : ℕ) (body : List ℕ) → 0 < length body → length body % 4 ≡ 0 → (IsStrayDisorder s seq extra body → ⊥) → from_be_bytes w32 (take 4 body) - 1 ≤ s.sent
disorder_run s seq extra body some_ whole fine =
    at_most (from_be_bytes w32 (take 4 body) - 1) s.sent
    (λ beyond. fine (inr (inr (inl (λ inc.
    let first = first_last body some_ whole inc in
    let before = at_most extra s.sent (λ lt. fine (inr (inl lt))) in
    fine (inr (inr (inr (omega (arith, beyond, first, before))))))))))

disorder_judged : (s : Sending) (p : Packet) (seq extra : ℕ) (body : List ℕ) → 0 < length body → length body % 4 ≡ 0 → p.head.flags ≡ Disorder → p.head.seq ≡ seq → p.head.extra ≡ extra → p.body ≡ body
    → IsJudged s p (missing_of seq body) (IsStrayDisorder s seq extra body)
disorder_judged s p seq extra body some_ whole flags seq_is extra_is body_is = record {
  is = record {
    back = ap goes_forth flags;
    goes_on = ap stop_flags flags;
    run = ap (λ f. run_by f p) flags ∙ ap (λ l. from_be_bytes w32 (take 4 l) - 1) body_is;
    consumed = ap (λ f. consumed_by f p) flags;
    names = λ n. ap (λ f. names_its_number f && (n == p.head.seq)) flags ∙ ap (λ k. n == k) seq_is;
    lists = ap (λ f. listed_by f p) flags ∙ ap words_in body_is;
  };
  stray_there = λ is. subst (λ f. IsStrayBy f s.sent p) (sym flags) (subst (λ n. Strays n p.head.extra p.body) (sym seq_is) (subst (λ n. Strays seq n p.body) (sym extra_is) (subst (Strays seq extra) (sym body_is) is)));
  stray_here = λ is. subst (Strays seq extra) body_is (subst (λ n. Strays seq n p.body) extra_is (subst (λ n. Strays n p.head.extra p.body) seq_is (subst (λ f. IsStrayBy f s.sent p) flags is)));
  run = disorder_run s seq extra body some_ whole;
  taken = λ fine. omega arith;
}
  where
    Strays : ℕ → ℕ → List ℕ → Type 0
    Strays n m l = (s.sent < n) ⊎ ((s.sent < m) ⊎ ((IsIncreasingFrom 1 (words_in l) → ⊥) ⊎ (m ≤ last_or 0 (words_in l))))

pub acks_stand : (s : Sending) (q : Queue) (now seq extra : ℕ) (result : Result (List Datagram) SendNo) (after : Sending) (left : Queue) → Hears s q now (IsStrayAck s seq extra) (acknowledging seq extra) result after left
    → StandsOn now s q.held after left.held (IsHearing s.end.key Ack seq extra [] result)
acks_stand s q now seq extra result after left heard h e is_now is old =
    subst (λ (x : Entry). Stands after left.held (h ++ x ∷ [])) (sym (shown_as s Ack seq extra [] result e is))
    (hears_stand s q now (IsStrayAck s seq extra) (acknowledging seq extra) result after left h is.datagram is.packet heard is_now is.reads is.key (ack_judged s is.packet seq extra is.flags_are is.seq_is is.extra_is) old)

pub duplicates_stand : (s : Sending) (q : Queue) (now seq extra : ℕ) (result : Result (List Datagram) SendNo) (after : Sending) (left : Queue) → Hears s q now (IsStrayDuplicate s seq extra) (repeating seq extra) result after left
    → StandsOn now s q.held after left.held (IsHearing s.end.key Duplicate seq extra [] result)
duplicates_stand s q now seq extra result after left heard h e is_now is old =
    subst (λ (x : Entry). Stands after left.held (h ++ x ∷ [])) (sym (shown_as s Duplicate seq extra [] result e is))
    (hears_stand s q now (IsStrayDuplicate s seq extra) (repeating seq extra) result after left h is.datagram is.packet heard is_now is.reads is.key (duplicate_judged s is.packet seq extra is.flags_are is.seq_is is.extra_is) old)

pub naks_stand : (s : Sending) (q : Queue) (now seq extra : ℕ) (result : Result (List Datagram) SendNo) (after : Sending) (left : Queue) → Hears s q now (IsStrayNak s seq) (unknown seq) result after left
    → StandsOn now s q.held after left.held (IsHearing s.end.key Nak seq extra [] result)
naks_stand s q now seq extra result after left heard h e is_now is old =
    subst (λ (x : Entry). Stands after left.held (h ++ x ∷ [])) (sym (shown_as s Nak seq extra [] result e is))
    (hears_stand s q now (IsStrayNak s seq) (unknown seq) result after left h is.datagram is.packet heard is_now is.reads is.key (nak_judged s is.packet seq is.flags_are is.seq_is) old)

pub disorders_stand : (s : Sending) (q : Queue) (now seq extra : ℕ) (body : List ℕ) (result : Result (List Datagram) SendNo) (after : Sending) (left : Queue) → 0 < length body → length body % 4 ≡ 0
    → Hears s q now (IsStrayDisorder s seq extra body) (missing_of seq body) result after left → StandsOn now s q.held after left.held (IsHearing s.end.key Disorder seq extra body result)
disorders_stand s q now seq extra body result after left some_ whole heard h e is_now is old =
    subst (λ (x : Entry). Stands after left.held (h ++ x ∷ [])) (sym (shown_as s Disorder seq extra body result e is))
    (hears_stand s q now (IsStrayDisorder s seq extra body) (missing_of seq body) result after left h is.datagram is.packet heard is_now is.reads is.key
    (disorder_judged s is.packet seq extra body some_ whole is.flags_are is.seq_is is.extra_is (is.lists refl)) old)

-- ---- a stop

-- a stop isn't a stray answer, and one that was stopped before hears nothing
stop_answer : (s : Sending) (held : List Item) (h : List Entry) (p : Packet) → p.head.flags ≡ Stop → Reflects s held h → AnswersHeard s.end h p (Came Handled [])
stop_answer s held h p flags old =
    elim (cases_Bool s.stopped) [
      | inl off ↦ Unheard (old.stopped ∙ off) refl
      | inr on ↦ Heard (runs_still s held h old on) (λ is. subst (λ f. IsStrayBy f (sent_upto s.end.key h) p) flags is) [] refl
    ]

pub stop_stands : (s : Sending) (held left : List Item) (now seq extra : ℕ) → StandsOn now s held (halting s) left (IsHearing s.end.key Stop seq extra [] (Ok []))
stop_stands s held left now seq extra h e is_now is old =
    let c = s.end.key in
    let d = is.datagram in
    let p = is.packet in
    let x : Entry = record { ask = Arrive d; reply = Came Handled [] } in
    let one : hears c x ≡ p ∷ [] = answer_is c d p [] is.reads is.key (ap goes_forth is.flags_are) in
    let off : stopped_of c (h ++ x ∷ []) ≡ true =
    stopped_of-push c h x ∙ ap (λ l. stopped_of c h || list_any is_stop l) one ∙ ap (λ f. stopped_of c h || (stop_flags f || false)) is.flags_are ∙ or_true (stopped_of c h) in
    let passes : PassesStopped s h x = record { puts_none = refl; finishes_none = refl; rows = refl; queries = refl } in
    let reflects = reflects_stopped s (halting s) held left h x refl refl refl refl refl refl off passes old.reflects in
    let stands = keeps_law (halting s) left h x old.law reflects (λ here. refuses_heard s.settings s.end h d p (Came Handled []) is.reads (λ kept. stop_answer s held h p is.flags_are old.reflects)) (stopped_due s h x off (inl refl) passes) in
    subst (λ (y : Entry). Stands (halting s) left (h ++ y ∷ [])) (sym (shown_as s Stop seq extra [] (Ok []) e is)) stands
  where
    or_true : (b : Bool) → (b || true) ≡ true
    or_true true = refl
    or_true false = refl
