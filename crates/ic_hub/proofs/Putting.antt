-- A hub stands on with a put, or the end of stream, on one of its connections.
use Rattle.std.proofs.Common.{◌≡◌, ◌≢◌, ◌<◌, ◌≤◌, ◌+◌, ℕ, List, [], ◌∷◌, ◌++◌, set, length, Bool, true, false, Option, Some, None, Result, Ok, Err, refl, ap, sym, ◌∙◌, subst, inl, inr, slice_get, get_or, arith}
use Rattle.std.specs.Prelude.{IfOk, OnErr}
use Rattle.std.specs.List.{Contains, AllByRecursion}
use Rattle.std.proofs.lemmas.Option.{slice_get-get_or}
use Rattle.ic_base.specs.declared.keys.ConnKey.{ConnKey}
use Rattle.ic_base.specs.declared.keys.ConnEnd.{ConnEnd}
use Rattle.ic_base.specs.declared.datagram.Datagram.{Datagram}
use Rattle.ic_base.specs.declared.settings.Settings.{Settings}
use Rattle.ic_chunk.proofs.ReadingLemmas.{length-spelled}
use Rattle.ic_law.specs.declared.history.HubAsk.{HubAsk}
use Rattle.ic_law.specs.declared.history.HubAsk.TheVariants.{Begin, Put, Finish, Clear}
use Rattle.ic_law.specs.declared.history.HubReply.TheVariants.{Memory}
use Rattle.ic_law.specs.declared.history.HubNo.{HubNo}
use Rattle.ic_law.specs.declared.history.HubNo.TheVariants as no
use Rattle.ic_law.specs.declared.history.Entry.{Entry}
use Rattle.ic_law.specs.History.{datagrams_of}
use Rattle.ic_header.specs.Packets.{key_of, IsSegment}
use Rattle.ic_law.specs.Points.{Place, IsDirected, IsFormed}
use Rattle.ic_law.specs.Asking.{IsPuttable, IsAllowed, GoesOn}
use Rattle.ic_law.specs.Arriving.{unknown}
use Rattle.ic_law.specs.Hub.{IsReplyTo}
use Rattle.ic_law.proofs.Lists.{Contains-none}
use Rattle.ic_sender.specs.declared.send_no.SendNo.{SendNo}
use Rattle.ic_sender.specs.declared.send_no.SendNo.TheVariants as send
use Rattle.ic_sender.specs.Sending.{Sending}
use Rattle.ic_sender.specs.Entries.{IsPutting, IsFinishing}
use Rattle.ic_sender.specs.Entries.{gave_of as gave}
use Rattle.ic_timed_sender.specs.Timed.{TimedState, SameEnd}
use Rattle.ic_timed_sender.specs.Emitted.{IsOutgoingOf, AreOutgoing}
use Rattle.ic_timed_sender.specs.Standing.{Stands as SenderStands}
use Rattle.ic_hub_laws.specs.Entries.{IsPacketOf, IsOurs, AsksOf, OfPut, OfFinish, UnknownPut, UnknownFinish}
use Rattle.ic_hub.specs.Hubbing.{Hubbing, Living, IsOfHub, place_in}
use Rattle.ic_hub.specs.Entries.{gave_of, put_entry, finish_entry}
use Rattle.ic_hub.specs.Finding.{HasNo, SenderIs, FindsSender}
use Rattle.ic_hub.specs.Standing.{Stands}
use Rattle.ic_hub.specs.Calls.{put_answer, FitsAll, PutsOn, Behind, Answered}
use Rattle.ic_hub.proofs.Places.{Shaped, all_at, contains_at, end_of_sender}
use Rattle.ic_hub.proofs.Moving.{with_query, with_sender, sender_keeps, sender_moved, nought_stands, memory_stands, unknown_key, set_same}

-- what is read at a place stands there
pub at_index : {A : Type 0} (xs : List A) (i : ℕ) (x : A) → i < length xs → x ≡ get_or xs i x → slice_get xs i ≡ Some x
at_index xs i x less is = slice_get-get_or xs i x less ∙ ap Some (sym is)

abbrev pub set_in : Living → ℕ → TimedState → Living
set_in l i o = record l { senders = set l.senders i o }

-- behind the end of stream nothing is put
pub behind : (place : ℕ) (Is : ConnKey → Result (List Datagram) SendNo → Entry → Type 0) (l : Living) (old : TimedState) → slice_get l.senders place ≡ Some old → old.sending.finished ≡ true → PutsOn place Is l l (Err no.Memory)
behind place Is l old here finished = Behind old here finished refl refl

-- ---- replies

gave_is : (answer : Result (List Datagram) SendNo) → gave_of (put_answer answer) ≡ gave answer
gave_is (Ok ds) = refl
gave_is (Err send.Full) = refl
gave_is (Err send.Stopped) = refl
gave_is (Err (send.TooLong key)) = refl
gave_is (Err (send.Spent key seq tries)) = refl
gave_is (Err send.Stray) = refl
gave_is (Err send.Memory) = refl

put_replied : (key : ConnKey) (chunk : List ℕ) (answer : Result (List Datagram) SendNo) → IsReplyTo (Put key chunk) (gave answer)
put_replied key chunk (Ok ds) = inr refl
put_replied key chunk (Err send.Full) = inr refl
put_replied key chunk (Err send.Stopped) = inr refl
put_replied key chunk (Err (send.TooLong k)) = inr refl
put_replied key chunk (Err (send.Spent k seq tries)) = inl refl
put_replied key chunk (Err send.Stray) = inl refl
put_replied key chunk (Err send.Memory) = inl refl

finish_replied : (key : ConnKey) (answer : Result (List Datagram) SendNo) → IsReplyTo (Finish key) (gave answer)
finish_replied key (Ok ds) = inr refl
finish_replied key (Err send.Full) = inr refl
finish_replied key (Err send.Stopped) = inr refl
finish_replied key (Err (send.TooLong k)) = inr refl
finish_replied key (Err (send.Spent k seq tries)) = inl refl
finish_replied key (Err send.Stray) = inl refl
finish_replied key (Err send.Memory) = inl refl

-- what is emitted is of the connection
gave_emits : (s : Sending) (answer : Result (List Datagram) SendNo) → IfOk answer (AreOutgoing s) → (d : Datagram) → Contains (datagrams_of (gave answer)) d → IsOutgoingOf s.end s.settings.packet d
gave_emits s (Ok ds) are d c = are d c
gave_emits s (Err send.Full) are d c = absurd (Contains-none d c)
gave_emits s (Err send.Stopped) are d c = absurd (Contains-none d c)
gave_emits s (Err (send.TooLong key)) are d c = absurd (Contains-none d c)
gave_emits s (Err (send.Spent key seq tries)) are d c = absurd (Contains-none d c)
gave_emits s (Err send.Stray) are d c = absurd (Contains-none d c)
gave_emits s (Err send.Memory) are d c = absurd (Contains-none d c)

pub packet_of_it : (end : ConnEnd) (packet : ℕ) (d : Datagram) → IsOutgoingOf end packet d → IsPacketOf end.key true d
packet_of_it end packet d is = record { packet = record { head = is.head; body = is.body }; reads = is.reads; key = is.key; way = is.forth }

-- and has the form of what a hub there may emit
pub are_formed : (place : Place) (end : ConnEnd) (packet : ℕ) (d : Datagram) → end.key.session ≡ place.session → end.key.from ≡ place.at → IsOutgoingOf end packet d → IsFormed place d
are_formed place end packet d session at is =
    record {
      packet = record { head = is.head; body = is.body };
      spelled = is.spelled;
      session = ap (λ (k : ConnKey). k.session) is.key ∙ session;
      src_content = subst IsSegment (sym (ap (λ (k : ConnKey). k.from) is.key)) is.from_is;
      dst_content = subst IsSegment (sym (ap (λ (k : ConnKey). k.to) is.key)) is.to_is;
      from = is.from ∙ at;
      ends = subst (λ (b : Bool). IsDirected b d (key_of is.head)) (sym is.forth) (is.from ∙ sym (ap (λ (k : ConnKey). k.from) is.key), is.to ∙ sym (ap (λ (k : ConnKey). k.to) is.key));
    }

-- ---- one connection moves

-- the end of a sender is one of this place
pub ours_of : (s : Hubbing) (q i : ℕ) (l : Living) (o : TimedState) → Shaped s → slice_get s.live q ≡ Some l → slice_get l.senders i ≡ Some o → IsOurs (place_in s) o.sending.end
ours_of s q i l o shaped here at =
    let its = end_of_sender l i o (shaped.living q l here) at in
    let place = contains_at l.ends o.sending.end its.has in
    all_at (IsOurs (place_in s)) l.ends place.0 o.sending.end (shaped.of_hub q l here).ours place.1

-- the hub stands on with an entry that gives what a sender answered, where that stands on
gave_stands : (s : Hubbing) (h : List Entry) (q i : ℕ) (l : Living) (old new : TimedState) (ask : HubAsk) (answer : Result (List Datagram) SendNo) → Shaped s → Stands s h → slice_get s.live q ≡ Some l → slice_get l.senders i ≡ Some old
    → SameEnd old new → new.now ≡ old.now → SenderStands new (h ++ record { ask = ask; reply = gave answer } ∷ []) → AsksOf (place_in s) old.sending.end.key true (record { ask = ask; reply = gave answer }) → IsReplyTo ask (gave answer)
    → IfOk answer (AreOutgoing old.sending) → (gave answer ≢ Memory → IsAllowed (place_in s) h ask) → Stands (with_query s q (with_sender l i new)) (h ++ record { ask = ask; reply = gave answer } ∷ [])
gave_stands s h q i l old new ask answer shaped stands here at same now moved asks replied formed allowed =
    let ours = ours_of s q i l old shaped here at in
    let sends = (end_of_sender l i old (shaped.living q l here) at).side_is in
    sender_moved s h (record { ask = ask; reply = gave answer }) q i l old new shaped stands here at same now moved
    (record { asks = asks; replied = replied; emitted = λ d c. packet_of_it old.sending.end old.sending.settings.packet d (gave_emits old.sending answer formed d c) }) allowed
    (λ d c. are_formed (place_in s) old.sending.end old.sending.settings.packet d ours.session (ours.sends_here sends) (gave_emits old.sending answer formed d c))

-- nothing is put behind the end of stream
goes_on : (h : List Entry) (o : TimedState) → SenderStands o h → o.sending.finished ≡ false → GoesOn h o.sending.end.key
goes_on h o stands unfinished end here same sends finished = let bad : true ≡ false = sym finished ∙ stands.finished ∙ unfinished in cc

-- ---- puts

pub put_unknown : (s : Hubbing) (h : List Entry) (key : ConnKey) (chunk : List ℕ) → Shaped s → Stands s h → HasNo true s key → IsPuttable (place_in s) chunk → Stands s (h ++ put_entry key chunk (Err (unknown key.query key.motion)) ∷ [])
put_unknown s h key chunk shaped stands none puttable =
    let away = unknown_key true s key h none stands in
    nought_stands s h (put_entry key chunk (Err (unknown key.query key.motion))) shaped stands (UnknownPut key chunk refl away refl)
    (λ query ends asked begun. let bad : Put key chunk ≡ Begin query ends = asked in cc) refl (λ given. (puttable, λ end here same sends finished. away end here same sends)) (λ d c. absurd (Contains-none d c))

pub put_stands : (s : Hubbing) (h : List Entry) (key : ConnKey) (chunk : List ℕ) (q i : ℕ) (l after : Living) (result : Result (List Datagram) HubNo) → Shaped s → Stands s h → SenderIs s key q i → slice_get s.live q ≡ Some l
    → PutsOn i (λ c answer e. IsPutting c chunk answer e) l after result → IsPuttable (place_in s) chunk → Stands (with_query s q after) (h ++ put_entry key chunk result ∷ [])
put_stands s h key chunk q i l after result shaped stands found here (Behind old at finished is same) puttable =
    let hub : s ≡ with_query s q after = ap (λ xs. record s { live = xs }) (sym (set_same s.live q l here) ∙ ap (λ m. set s.live q m) (sym same)) in
    subst (λ x. Stands x (h ++ put_entry key chunk result ∷ [])) hub (subst (λ r. Stands s (h ++ put_entry key chunk r ∷ [])) (sym is)
    (memory_stands s h (Put key chunk) shaped stands (λ query asked. let bad : Put key chunk ≡ Clear query = asked in cc) refl))
put_stands s h key chunk q i l after result shaped stands found here (Answered answer is moves unfinished err formed) puttable =
    let old = moves.old in
    let l_is : Some l ≡ Some found.living = sym here ∙ found.live in
    let same_l : l ≡ found.living = cc in
    let o_is : Some old ≡ Some found.sender = sym moves.here ∙ ap (λ (x : Living). slice_get x.senders i) same_l ∙ found.here in
    let same_o : old ≡ found.sender = cc in
    let key_is : old.sending.end.key ≡ key = ap (λ (o : TimedState). o.sending.end.key) same_o ∙ found.is in
    let e : Entry = record { ask = Put old.sending.end.key chunk; reply = gave answer } in
    let was = (stands.each q l here).senders i old moves.here in
    let moved = moves.stands h e (record { ask = refl; reply = refl }) was in
    let done = gave_stands s h q i l old moves.new (Put old.sending.end.key chunk) answer shaped stands here moves.here moves.end moves.now moved (OfPut refl chunk refl) (put_replied old.sending.end.key chunk answer) formed
    (λ given. (puttable, goes_on h old was unfinished)) in
    let entry : e ≡ put_entry key chunk result = ap (λ k. record { ask = Put k chunk; reply = gave answer }) key_is ∙ ap (λ r. record { ask = Put key chunk; reply = r }) (sym (gave_is answer) ∙ ap gave_of (sym is)) in
    subst (λ x. Stands x (h ++ put_entry key chunk result ∷ [])) (ap (λ m. with_query s q m) (sym moves.is)) (subst (λ x. Stands (with_query s q (with_sender l i moves.new)) (h ++ x ∷ [])) entry done)

-- ---- the end of stream

pub finish_unknown : (s : Hubbing) (h : List Entry) (key : ConnKey) → Shaped s → Stands s h → HasNo true s key → Stands s (h ++ finish_entry key (Err (unknown key.query key.motion)) ∷ [])
finish_unknown s h key shaped stands none =
    let away = unknown_key true s key h none stands in
    nought_stands s h (finish_entry key (Err (unknown key.query key.motion))) shaped stands (UnknownFinish key refl away refl)
    (λ query ends asked begun. let bad : Finish key ≡ Begin query ends = asked in cc) refl (λ given end here same sends finished. away end here same sends) (λ d c. absurd (Contains-none d c))

pub finish_stands : (s : Hubbing) (h : List Entry) (key : ConnKey) (q i : ℕ) (l after : Living) (result : Result (List Datagram) HubNo) → Shaped s → Stands s h → SenderIs s key q i → slice_get s.live q ≡ Some l
    → PutsOn i (λ c answer e. IsFinishing c answer e) l after result → Stands (with_query s q after) (h ++ finish_entry key result ∷ [])
finish_stands s h key q i l after result shaped stands found here (Behind old at finished is same) =
    let hub : s ≡ with_query s q after = ap (λ xs. record s { live = xs }) (sym (set_same s.live q l here) ∙ ap (λ m. set s.live q m) (sym same)) in
    subst (λ x. Stands x (h ++ finish_entry key result ∷ [])) hub (subst (λ r. Stands s (h ++ finish_entry key r ∷ [])) (sym is)
    (memory_stands s h (Finish key) shaped stands (λ query asked. let bad : Finish key ≡ Clear query = asked in cc) refl))
finish_stands s h key q i l after result shaped stands found here (Answered answer is moves unfinished err formed) =
    let old = moves.old in
    let l_is : Some l ≡ Some found.living = sym here ∙ found.live in
    let same_l : l ≡ found.living = cc in
    let o_is : Some old ≡ Some found.sender = sym moves.here ∙ ap (λ (x : Living). slice_get x.senders i) same_l ∙ found.here in
    let same_o : old ≡ found.sender = cc in
    let key_is : old.sending.end.key ≡ key = ap (λ (o : TimedState). o.sending.end.key) same_o ∙ found.is in
    let e : Entry = record { ask = Finish old.sending.end.key; reply = gave answer } in
    let was = (stands.each q l here).senders i old moves.here in
    let moved = moves.stands h e (record { ask = refl; reply = refl }) was in
    let done = gave_stands s h q i l old moves.new (Finish old.sending.end.key) answer shaped stands here moves.here moves.end moves.now moved (OfFinish refl refl) (finish_replied old.sending.end.key answer) formed
    (λ given. goes_on h old was unfinished) in
    let entry : e ≡ finish_entry key result = ap (λ k. record { ask = Finish k; reply = gave answer }) key_is ∙ ap (λ r. record { ask = Finish key; reply = r }) (sym (gave_is answer) ∙ ap gave_of (sym is)) in
    subst (λ x. Stands x (h ++ finish_entry key result ∷ [])) (ap (λ m. with_query s q m) (sym moves.is)) (subst (λ x. Stands (with_query s q (with_sender l i moves.new)) (h ++ x ∷ [])) entry done)

-- ---- the hub's own

-- a chunk has a header of 4 bytes
pub chunk_least : (place : Place) (chunk : List ℕ) → IsPuttable place chunk → 4 ≤ length chunk
chunk_least place chunk puttable =
    let is : length chunk ≡ length puttable.chunk.body + 4 = ap length puttable.are ∙ length-spelled puttable.chunk in
    omega (arith, is)

-- it fits in a packet of each sender
pub fits_all : (place : Place) (tick : ℕ) (l : Living) (chunk : List ℕ) → IsOfHub place tick l → IsPuttable place chunk → FitsAll l (length chunk)
fits_all place tick l chunk of_hub puttable = go l.senders of_hub.settings
  where
    go : (os : List TimedState) → AllByRecursion (λ (o : TimedState). o.sending.settings ≡ place.settings) os → AllByRecursion (λ (o : TimedState). length chunk + 68 ≤ o.sending.settings.packet) os
    go [] all = tt
    go (o ∷ os) all = (subst (λ (x : Settings). length chunk + 68 ≤ x.packet) (sym all.0) puttable.room, go os all.1)

-- no connection is found
pub finds_none : (s : Hubbing) (key : ConnKey) (found : Option (ℕ × ℕ)) → FindsSender s key found → ((x : ℕ × ℕ) → found ≡ Some x → ⊥) → HasNo true s key
finds_none s key None is none = is
finds_none s key (Some x) is none = absurd (none x refl)

on_err : {A E : Type 0} (result : Result A E) (P : Type 0) → ((e : E) → result ≡ Err e → P) → OnErr result P
on_err (Ok a) P go = tt
on_err (Err e) P go = go e refl

answer_err : (answer : Result (List Datagram) SendNo) (e : HubNo) (P : Type 0) → put_answer answer ≡ Err e → OnErr answer P → P
answer_err (Ok ds) e P is err = let bad : Ok ds ≡ Err e = is in cc
answer_err (Err refusal) e P is err = err

-- what is always true of the query stays so
pub record PutKeeps (place : Place) (tick : ℕ) (l after : Living) : Type 0 where
  pub number : after.number ≡ l.number
  pub ends : after.ends ≡ l.ends
  pub of_hub : IsOfHub place tick after

pub put_keeps : (place : Place) (tick i : ℕ) (Is : ConnKey → Result (List Datagram) SendNo → Entry → Type 0) (l after : Living) (result : Result (List Datagram) HubNo) → IsOfHub place tick l → PutsOn i Is l after result → PutKeeps place tick l after
put_keeps place tick i Is l after result of_hub (Behind old at finished is same) =
    record { number = ap (λ (x : Living). x.number) same; ends = ap (λ (x : Living). x.ends) same; of_hub = subst (IsOfHub place tick) (sym same) of_hub }
put_keeps place tick i Is l after result of_hub (Answered answer is moves unfinished err formed) =
    record {
      number = ap (λ (x : Living). x.number) moves.is;
      ends = ap (λ (x : Living). x.ends) moves.is;
      of_hub = subst (IsOfHub place tick) (sym moves.is) (sender_keeps place tick l i moves.old moves.new of_hub.living of_hub moves.here moves.end moves.now).1;
    }

-- a put that is refused changes nothing
pub put_refused : (s : Hubbing) (q i : ℕ) (Is : ConnKey → Result (List Datagram) SendNo → Entry → Type 0) (l after : Living) (result : Result (List Datagram) HubNo) → slice_get s.live q ≡ Some l → PutsOn i Is l after result → OnErr result (with_query s q after ≡ s)
put_refused s q i Is l after result here puts = on_err result (with_query s q after ≡ s) (λ e is. ap (λ xs. record s { live = xs }) (ap (λ m. set s.live q m) (same e is puts) ∙ set_same s.live q l here))
  where
    same : (e : HubNo) → result ≡ Err e → PutsOn i Is l after result → after ≡ l
    same e is (Behind old at finished memory still) = still
    same e is (Answered answer told moves unfinished err formed) =
        let stays = answer_err answer e (moves.new ≡ moves.old) (sym told ∙ is) err in
        moves.is ∙ ap (λ xs. record l { senders = xs }) (ap (λ o. set l.senders i o) stays ∙ set_same l.senders i moves.old moves.here)
