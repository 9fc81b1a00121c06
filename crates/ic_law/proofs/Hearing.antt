-- What an entry adds to a sending end: nothing if the end isn't here; otherwise an answer that tells no more than was
-- emitted.
use Rattle.std.proofs.Common.{◌≡◌, ◌≢◌, ℕ, zero, suc, ◌+◌, ◌-◌, ◌/◌, ◌%◌, ◌<◌, ◌≤◌, List, [], ◌∷◌, length, take, drop, Bool, true, false, not, cond, ◌&&◌}
use Rattle.std.proofs.Common.{Option, Some, None, Err, refl, ap, sym, ◌∙◌, subst, inl, inr, arith}
use Rattle.std.specs.Int.{w32, from_be_bytes}
use Rattle.std.proofs.Math.Decide.{dec_le}
use Rattle.std.proofs.lemmas.List.{length-drop}
use Rattle.ic_base.specs.declared.keys.ConnKey.{ConnKey}
use Rattle.ic_base.specs.declared.keys.ConnEnd.{ConnEnd}
use Rattle.ic_base.specs.declared.datagram.Datagram.{Datagram}
use Rattle.ic_base.specs.Keys.{key_eq}
use Rattle.ic_base.proofs.SameKeys.{key_eq-tells}
use Rattle.ic_header.specs.declared.fault.HeaderFault.{HeaderFault}
use Rattle.ic_header.specs.declared.fault.HeaderFault.TheVariants as fault
use Rattle.ic_header.specs.declared.flags.Flags.{Flags}
use Rattle.ic_header.specs.declared.flags.Flags.TheVariants.{Rows, LastRows, Query, Ack, Stop, Nak, Disorder, Duplicate}
use Rattle.ic_header.specs.Spelling.{AllowsBody}
use Rattle.ic_header.specs.Reading.{header_at, read_header}
use Rattle.ic_header.proofs.Judging.{Verdict, Shorts, Sums, Unknown, Misfits, Reads, verdict}
use Rattle.ic_law.specs.declared.history.HubAsk.{HubAsk}
use Rattle.ic_law.specs.declared.history.HubAsk.TheVariants.{Begin, Put, Finish, Take, TakeFrom, Halt, Arrive, Tick, Clear, Leave}
use Rattle.ic_law.specs.declared.history.HubReply.{HubReply}
use Rattle.ic_law.specs.declared.history.HubReply.TheVariants.{Memory}
use Rattle.ic_law.specs.declared.history.Entry.{Entry}
use Rattle.ic_header.specs.Packets.{Packet, packet_read, packet_of, key_of, goes_forth}
use Rattle.ic_law.specs.History.{sent_upto}
use Rattle.ic_law.specs.Putting.{was_given, chunk_put, puts, is_finish, finishes}
use Rattle.ic_law.specs.Hearing.{was_handled, answer_read, answer_in, heard_by, hears, run_by, run_told, consumed_by, consumed_told, stopped_of}
use Rattle.ic_law.specs.Numbers.{words_from, words_in, IsIncreasingFrom, last_or}
use Rattle.ic_law.specs.Points.{Place, IsDirected, IsHere}
use Rattle.ic_law.specs.Sending.{IsStrayBy, AnswersHeard, Unheard, Strayed, Heard}
use Rattle.ic_law.specs.Arriving.{Arrives, Stranger, OfEnded, OfNotBegun, TooLate, Known, IsUnknownKey}
use Rattle.ic_law.specs.Hub.{HubPoint}
use Rattle.ic_law.proofs.Stored.{directed_of}

-- ---- numbers of an answer

at_most : (a b : ℕ) → (b < a → ⊥) → a ≤ b
at_most a b fine = elim (dec_le a b) [ yes low ↦ low | no above ↦ absurd (fine (omega (arith, above))) ]

increasing_last : (n : ℕ) (ws : List ℕ) → IsIncreasingFrom (n + 1) ws → n ≤ last_or n ws
increasing_last n [] inc = omega arith
increasing_last n (w ∷ ws) inc = let rest = increasing_last w ws inc.1 in omega (arith, inc.0, rest)

-- the first of some increasing numbers is at most the last
first_last : (body : List ℕ) → 0 < length body → length body % 4 ≡ 0 → IsIncreasingFrom 1 (words_in body) → from_be_bytes w32 (take 4 body) ≤ last_or 0 (words_in body)
first_last body some_ whole = by (length body / 4) refl
  where
    by : (n : ℕ) → length body / 4 ≡ n → IsIncreasingFrom 1 (words_from n body) → from_be_bytes w32 (take 4 body) ≤ last_or 0 (words_from n body)
    by zero e inc = absurd (omega (arith, e, some_, whole))
    by (suc n) e inc = increasing_last (from_be_bytes w32 (take 4 body)) (words_from n (drop 4 body)) inc.1

pub record IsUpto (sent : ℕ) (p : Packet) : Type 0 where
  pub run : run_told p ≤ sent
  pub consumed : consumed_told p ≤ sent

upto_by : (f : Flags) (sent : ℕ) (p : Packet) → AllowsBody f (length p.body) → (IsStrayBy f sent p → ⊥) → (run_by f p ≤ sent) × (consumed_by f p ≤ sent)
upto_by Rows sent p allowed fine = (omega arith, omega arith)
upto_by LastRows sent p allowed fine = (omega arith, omega arith)
upto_by Query sent p allowed fine = (omega arith, omega arith)
upto_by Ack sent p allowed fine =
    let seq = at_most p.head.seq sent (λ lt. fine (inl lt)) in
    let extra = at_most p.head.extra p.head.seq (λ lt. fine (inr lt)) in
    (seq, omega (arith, seq, extra))
upto_by Stop sent p allowed fine = (omega arith, omega arith)
upto_by Nak sent p allowed fine = (omega arith, omega arith)
upto_by Disorder sent p allowed fine = (
  at_most (from_be_bytes w32 (take 4 p.body) - 1) sent
      (λ beyond. fine (inr (inr (inl (λ inc.
      let first = first_last p.body allowed.0 allowed.1 inc in
      let before = at_most p.head.extra sent (λ lt. fine (inr (inl lt))) in
      fine (inr (inr (inr (omega (arith, beyond, first, before)))))))))),
  omega arith,
)
upto_by Duplicate sent p allowed fine = (at_most p.head.extra sent (λ lt. fine (inr lt)), omega arith)

-- a packet that is read has a body that its kind allows
pub body_allowed : (d : Datagram) (p : Packet) → packet_of d ≡ Some p → AllowsBody p.head.flags (length p.body)
unfolding packet_of header_at
body_allowed d p reads = by (verdict d.bytes)
  where
    never : (f : HeaderFault) → read_header d.bytes ≡ Err f → AllowsBody p.head.flags (length p.body)
    never f is = let bad : None ≡ Some p = sym (ap packet_read is) ∙ reads in absurd cc

    by : Verdict d.bytes → AllowsBody p.head.flags (length p.body)
    by (Shorts w is) = never fault.Short is
    by (Sums w is) = never fault.Crc is
    by (Unknown w is) = never fault.Flags is
    by (Misfits w is) = never fault.Len is
    by (Reads kind fine is) =
        let q : Packet = record { head = header_at d.bytes kind; body = drop 64 d.bytes } in
        let same : Some q ≡ Some p = sym (ap packet_read is) ∙ reads in
        let one : q ≡ p = cc in
        let rest : length (drop 64 d.bytes) ≡ length d.bytes - 64 = length-drop 64 d.bytes in
        subst (λ (x : Packet). AllowsBody x.head.flags (length x.body)) one (subst (AllowsBody kind) (sym rest) fine.allowed)

-- ---- the answer in a datagram

pub record IsAnswer (c : ConnKey) (d : Datagram) (p : Packet) : Type 0 where
  pub reads : packet_of d ≡ Some p
  pub back : goes_forth p.head.flags ≡ false
  pub key : key_of p.head ≡ c

pub data AnswerIn (c : ConnKey) (d : Datagram) (ps : List Packet) : Type 0 where
  NoAnswer : ps ≡ [] → AnswerIn c d ps
  OneAnswer : (p : Packet) → ps ≡ p ∷ [] → IsAnswer c d p → AnswerIn c d ps

pub answer_cases : (c : ConnKey) (d : Datagram) → AnswerIn c d (answer_in c d)
answer_cases c d = by (packet_of d) refl
  where
    one : (p : Packet) (forth same : Bool) → packet_of d ≡ Some p → goes_forth p.head.flags ≡ forth → key_eq (key_of p.head) c ≡ same → AnswerIn c d (cond forth [] (cond same (p ∷ []) []))
    one p true same reads way key = NoAnswer refl
    one p false true reads way key = OneAnswer p refl (record { reads = reads; back = way; key = key_eq-tells (key_of p.head) c key })
    one p false false reads way key = NoAnswer refl

    by : (o : Option Packet) → packet_of d ≡ o → AnswerIn c d (answer_read c o)
    by None reads = NoAnswer refl
    by (Some p) reads = one p (goes_forth p.head.flags) (key_eq (key_of p.head) c) reads refl refl

-- ---- what is handled

differ : true ≡ false → ⊥
differ h = cc

-- an answer that is handled has its sending end here
pub record HandledAt (place : Place) (c : ConnKey) (h : List Entry) (d : Datagram) : Type 0 where
  pub end : ConnEnd
  pub here : IsHere end h
  pub key : end.key ≡ c
  pub sends : end.sending ≡ true
  pub directed : IsDirected false d c

pub handled_at : (place : Place) (c : ConnKey) (h : List Entry) (e : Entry) (d : Datagram) (p : Packet) → HubPoint place h e → e.ask ≡ Arrive d → was_handled e.reply ≡ true → IsAnswer c d p → HandledAt place c h d
handled_at place c h e d p point is was answer = by (point.arrived d p is answer.reads (λ memory. not_so Memory memory refl))
  where
    not_so : (reply : HubReply) → e.reply ≡ reply → was_handled reply ≡ false → ⊥
    not_so reply same none = differ (sym was ∙ ap was_handled same ∙ none)

    by : Arrives place h d p e.reply → HandledAt place c h d
    by (Stranger foreign same) = absurd (not_so _ same refl)
    by (OfEnded ours dead forth old same) = absurd (differ (sym forth ∙ answer.back))
    by (OfNotBegun ours dead forth young same) = absurd (differ (sym forth ∙ answer.back))
    by (TooLate ours dead back same) = absurd (not_so _ same refl)
    by (Known ours end here key side) = record {
      end = end;
      here = here;
      key = key ∙ answer.key;
      sends = side ∙ ap not answer.back;
      directed = subst (λ k. IsDirected false d k) answer.key (subst (λ b. IsDirected b d (key_of p.head)) answer.back (directed_of place h d p.head ours));
    }

-- ---- an end that isn't here

pub record AddsNone (c : ConnKey) (e : Entry) : Type 0 where
  pub puts_none : puts c e ≡ []
  pub finishes_none : finishes c e ≡ false
  pub hears_none : hears c e ≡ []

pub adds_none : (place : Place) (c : ConnKey) (h : List Entry) (e : Entry) → HubPoint place h e → IsUnknownKey true c h → AddsNone c e
adds_none place c h e point away = record { puts_none = put e.ask refl; finishes_none = finish e.ask refl; hears_none = heard e.ask refl }
  where
    refused : (b : Bool) (reply : HubReply) → was_given e.reply ≡ b → (e.reply ≢ Memory → e.reply ≡ reply) → was_given reply ≡ false → b ≡ false
    refused true reply was is none = absurd (differ (sym was ∙ ap was_given (is (λ memory. differ (sym was ∙ ap was_given memory))) ∙ none))
    refused false reply was is none = refl

    put_of : (key : ConnKey) (chunk : List ℕ) (a b : Bool) → e.ask ≡ Put key chunk → key_eq key c ≡ a → was_given e.reply ≡ b → cond (a && b) (chunk ∷ []) [] ≡ []
    put_of key chunk true b is same was =
        let key_is = key_eq-tells key c same in
        let none = refused b _ was (point.known.put key chunk is (subst (λ k. IsUnknownKey true k h) (sym key_is) away)) refl in
        ap (λ t. cond t (chunk ∷ []) []) none
    put_of key chunk false b is same was = refl

    put : (ask : HubAsk) → e.ask ≡ ask → chunk_put c ask e.reply ≡ []
    put (Begin query ends) is = refl
    put (Put key chunk) is = put_of key chunk (key_eq key c) (was_given e.reply) is refl refl
    put (Finish key) is = refl
    put (Take query motion) is = refl
    put (TakeFrom key) is = refl
    put (Halt key) is = refl
    put (Arrive d) is = refl
    put Tick is = refl
    put (Clear query) is = refl
    put (Leave query) is = refl

    finish_of : (key : ConnKey) (a b : Bool) → e.ask ≡ Finish key → key_eq key c ≡ a → was_given e.reply ≡ b → (a && b) ≡ false
    finish_of key true b is same was =
        let key_is = key_eq-tells key c same in
        refused b _ was (point.known.finish key is (subst (λ k. IsUnknownKey true k h) (sym key_is) away)) refl
    finish_of key false b is same was = refl

    finish : (ask : HubAsk) → e.ask ≡ ask → is_finish c ask e.reply ≡ false
    finish (Begin query ends) is = refl
    finish (Put key chunk) is = refl
    finish (Finish key) is = finish_of key (key_eq key c) (was_given e.reply) is refl refl
    finish (Take query motion) is = refl
    finish (TakeFrom key) is = refl
    finish (Halt key) is = refl
    finish (Arrive d) is = refl
    finish Tick is = refl
    finish (Clear query) is = refl
    finish (Leave query) is = refl

    heard_one : (d : Datagram) (ps : List Packet) → e.ask ≡ Arrive d → was_handled e.reply ≡ true → AnswerIn c d ps → ps ≡ []
    heard_one d ps is was (NoAnswer none) = none
    heard_one d ps is was (OneAnswer p one answer) = let w = handled_at place c h e d p point is was answer in absurd (away w.end w.here w.key w.sends)

    heard_of_it : (d : Datagram) (b : Bool) → e.ask ≡ Arrive d → was_handled e.reply ≡ b → cond b (answer_in c d) [] ≡ []
    heard_of_it d true is was = heard_one d (answer_in c d) is was (answer_cases c d)
    heard_of_it d false is was = refl

    heard : (ask : HubAsk) → e.ask ≡ ask → heard_by c ask e.reply ≡ []
    heard (Begin query ends) is = refl
    heard (Put key chunk) is = refl
    heard (Finish key) is = refl
    heard (Take query motion) is = refl
    heard (TakeFrom key) is = refl
    heard (Halt key) is = refl
    heard (Arrive d) is = heard_of_it d (was_handled e.reply) is refl
    heard Tick is = refl
    heard (Clear query) is = refl
    heard (Leave query) is = refl

-- ---- an end that is here

-- an entry tells an end nothing, or no more than was emitted
pub data Hears (sent : ℕ) (ps : List Packet) : Type 0 where
  HearsNone : ps ≡ [] → Hears sent ps
  HearsOne : (p : Packet) → ps ≡ p ∷ [] → IsUpto sent p → Hears sent ps

pub hears_upto : (place : Place) (h : List Entry) (e : Entry) (end : ConnEnd) → HubPoint place h e → end.sending ≡ true → IsHere end h → stopped_of end.key h ≡ false → Hears (sent_upto end.key h) (hears end.key e)
hears_upto place h e end point sends here running = by e.ask refl
  where
    judged : (d : Datagram) (p : Packet) → e.ask ≡ Arrive d → was_handled e.reply ≡ true → IsAnswer end.key d p → AnswersHeard end h p e.reply → IsUpto (sent_upto end.key h) p
    judged d p is was answer (Unheard stopped same) = absurd (differ (sym stopped ∙ running))
    judged d p is was answer (Strayed going stray same) = absurd (differ (sym was ∙ ap was_handled same))
    judged d p is was answer (Heard going fine ds same) =
        let w = upto_by p.head.flags (sent_upto end.key h) p (body_allowed d p answer.reads) fine in record { run = w.0; consumed = w.1 }

    one : (d : Datagram) (ps : List Packet) → e.ask ≡ Arrive d → was_handled e.reply ≡ true → AnswerIn end.key d ps → Hears (sent_upto end.key h) ps
    one d ps is was (NoAnswer none) = HearsNone none
    one d ps is was (OneAnswer p this answer) =
        let w = handled_at place end.key h e d p point is was answer in
        HearsOne p this (judged d p is was answer ((point.refused end sends here).heard d p is w.directed answer.reads answer.back answer.key (λ memory. differ (sym was ∙ ap was_handled memory))))

    chosen : (d : Datagram) (b : Bool) → e.ask ≡ Arrive d → was_handled e.reply ≡ b → Hears (sent_upto end.key h) (cond b (answer_in end.key d) [])
    chosen d true is was = one d (answer_in end.key d) is was (answer_cases end.key d)
    chosen d false is was = HearsNone refl

    by : (ask : HubAsk) → e.ask ≡ ask → Hears (sent_upto end.key h) (heard_by end.key ask e.reply)
    by (Begin query ends) is = HearsNone refl
    by (Put key chunk) is = HearsNone refl
    by (Finish key) is = HearsNone refl
    by (Take query motion) is = HearsNone refl
    by (TakeFrom key) is = HearsNone refl
    by (Halt key) is = HearsNone refl
    by (Arrive d) is = chosen d (was_handled e.reply) is refl
    by Tick is = HearsNone refl
    by (Clear query) is = HearsNone refl
    by (Leave query) is = HearsNone refl
