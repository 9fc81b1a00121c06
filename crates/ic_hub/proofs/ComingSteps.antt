-- What each step of hearing a datagram gives, as it is.
use Rattle.std.proofs.Common.{◌≡◌, ℕ, ℤ, ◌+◌, ◌^◌, ◌<◌, List, [], set, length, Bool, true, false, Option, Some, None, Result, Ok, Err, is_err, refl, ap, sym, ◌∙◌, subst, slice_get, slice_index_or, IfOk, OnErr}
use Rattle.std.proofs.lemmas.Option.{slice_get-get_or, slice_get_within}
use Rattle.std.proofs.lemmas.List.{length-append}
use Rattle.std.specs.declared.alloc.AllocError.{AllocError}
use Rattle.ic_base.specs.declared.keys.ConnKey.{ConnKey}
use Rattle.ic_base.specs.declared.datagram.Datagram.{Datagram}
use Rattle.ic_header.specs.declared.header.Header.{Header}
use Rattle.ic_header.specs.declared.flags.Flags.TheVariants.{Query}
use Rattle.ic_header.specs.Spelling.{Heads, words_of, written}
use Rattle.ic_header.proofs.Joining.{length-written}
use Rattle.ic_law.specs.declared.history.Arrived.TheVariants.{Handled, Dropped}
use Rattle.ic_law.specs.declared.history.DropCause.TheVariants as cause
use Rattle.ic_header.specs.Packets.{key_of, is_rows, is_last}
use Rattle.ic_conntab.specs.declared.slots.Sides.{Sides}
use Rattle.ic_conntab.specs.Table.{Table}
use Rattle.ic_sender.specs.declared.send_no.SendNo.{SendNo}
use Rattle.ic_sender.specs.Entries.{IsHearing as IsAnswered}
use Rattle.ic_timed_sender.specs.Timed.{TimedState, SameEnd}
use Rattle.ic_timed_sender.specs.Emitted.{AreOutgoing}
use Rattle.ic_timed_sender.specs.Standing.{StandsNext}
use Rattle.ic_receiver.specs.Receiving.{Receiving, Hears, Stopped, Running, HearsQuery}
use Rattle.ic_receiver.specs.Entries.{IsHearing, IsQuerying}
use Rattle.ic_receiver.specs.Standing.{StandsOn}
use Rattle.ic_hub.specs.Hubbing.{Hubbing, Living, IsOfHub, IsHub, place_in}
use Rattle.ic_hub.specs.declared.finding.Found.TheVariants.{Here}
use Rattle.ic_hub.specs.declared.finding.Found.TheVariants as says
use Rattle.ic_hub.specs.Finding.{IsFound, OfOther, NoSuchKey, OfEnded, OfUnbegun, There, SenderIs, ReceiverIs}
use Rattle.ic_hub.specs.Coming.{Became, kept_of, Asks, WithRows, WithQuery, HearsForth, ForthWithout, Forth, HearsBack, BackWithout, Strays, Back, ReceiverHears, SenderHears, IsAddressed, Addresses, NoSegment, NotHere, Misdirected, Addressed, OtherSession, NoKey, ComesToNone, Comes, ToNobody, ToNone}
use Rattle.ic_hub.proofs.Places.{all_at}
use Rattle.ic_hub.proofs.Shape.{shape_of, hub_with}
use Rattle.ic_hub.proofs.Finds.{finds_sender, finds_receiver}
use Rattle.ic_hub.proofs.Moving.{receiver_keeps, sender_keeps}

-- ---- no memory

pub err_of : {T E : Type 0} (r : Result T E) → is_err r ≡ true → (e : E) × (r ≡ Err e)
err_of (Ok x) h = let bad : false ≡ true = h in cc
err_of (Err e) h = (e, refl)

-- ---- lists

-- what was read at a place stands there
pub read_at : {A : Type 0} (xs : List A) (i : ℕ) (x : A) → i < length xs → x ≡ slice_index_or xs i x → slice_get xs i ≡ Some x
read_at xs i x less is = slice_get-get_or xs i x less ∙ ap Some (sym is)

pub same_at : {A : Type 0} (xs : List A) (i : ℕ) (a b : A) → slice_get xs i ≡ Some a → slice_get xs i ≡ Some b → a ≡ b
same_at xs i a b at bt = let both : Some a ≡ Some b = sym at ∙ bt in cc

-- ---- a receiver

pub asks_rows : (head : Header) (body : List ℕ) (old new : Receiving) (r : Result (Option Datagram) AllocError) (last : Bool) → is_rows head.flags ≡ true → is_last head.flags ≡ last
    → IfOk r (λ a. Hears old (record { seq = head.seq; last = last; payload = body }) a new) → IfOk r (λ a. StandsOn old new (IsHearing old.end.key (record { seq = head.seq; last = last; payload = body }) a))
    → IfOk r (Asks head body old new)
asks_rows head body old new (Ok a) last rows is hears stands =
    WithRows rows (subst (λ b. Hears old (record { seq = head.seq; last = b; payload = body }) a new) (sym is) hears)
    (subst (λ b. StandsOn old new (IsHearing old.end.key (record { seq = head.seq; last = b; payload = body }) a)) (sym is) stands)
asks_rows head body old new (Err e) last rows is hears stands = hears

pub asks_query : (head : Header) (body : List ℕ) (old new : Receiving) (r : Result (Option Datagram) AllocError) → head.flags ≡ Query → IfOk r (λ a. HearsQuery old head.seq a) → new ≡ old
    → IfOk r (λ a. StandsOn old new (IsQuerying old.end.key head.seq a)) → IfOk r (Asks head body old new)
asks_query head body old new (Ok a) query hears same stands = WithQuery query hears same stands
asks_query head body old new (Err e) query hears same stands = hears

pub hears_end : (s after : Receiving) (head : Header) (body : List ℕ) (a : Option Datagram) → Hears s (kept_of head body) a after → after.end ≡ s.end
hears_end s after head body a (Stopped d halted is told same) = ap (λ (r : Receiving). r.end) same
hears_end s after head body a (Running ring now runs hears same) = ap (λ (r : Receiving). r.end) same

pub asks_end : (head : Header) (body : List ℕ) (old new : Receiving) (a : Option Datagram) → Asks head body old new a → new.end ≡ old.end
asks_end head body old new a (WithRows rows hears stands) = hears_end old new head body a hears
asks_end head body old new a (WithQuery query hears same stands) = ap (λ (r : Receiving). r.end) same

pub forth_end : (head : Header) (body : List ℕ) (old new : Receiving) (r : Became) → HearsForth head body old new r → new.end ≡ old.end
forth_end head body old new r (ForthWithout e is same) = ap (λ (x : Receiving). x.end) same
forth_end head body old new r (Forth a is asks) = asks_end head body old new a asks

pub forth_without : (head : Header) (body : List ℕ) (old new : Receiving) (r : Became) → is_err r ≡ true → new ≡ old → HearsForth head body old new r
forth_without head body old new r fails same = let w = err_of r fails in ForthWithout w.0 w.1 same

-- ---- a sender

pub back_end : (head : Header) (body : List ℕ) (old new : TimedState) (r : Became) → HearsBack head body old new r → SameEnd old new
back_end head body old new r (BackWithout e is same) = subst (λ o. SameEnd old o) (sym same) (record { end = refl; settings = refl })
back_end head body old new r (Strays is same end stands) = end
back_end head body old new r (Back ds is end now formed stands) = end

pub back_now : (head : Header) (body : List ℕ) (old new : TimedState) (r : Became) → HearsBack head body old new r → new.now ≡ old.now
back_now head body old new r (BackWithout e is same) = ap (λ (o : TimedState). o.now) same
back_now head body old new r (Strays is same end stands) = ap (λ (o : TimedState). o.now) same
back_now head body old new r (Back ds is end now formed stands) = now

pub back_heard : (head : Header) (body : List ℕ) (old new : TimedState) (r : Result (List Datagram) SendNo) (ds : List Datagram) → r ≡ Ok ds → SameEnd old new → new.now ≡ old.now → IfOk r (AreOutgoing old.sending)
    → StandsNext old new (IsAnswered old.sending.end.key head.flags head.seq head.extra body r) → HearsBack head body old new (Ok (Handled, ds))
back_heard head body old new r ds is end now formed stands =
    Back ds refl end now (subst (λ x. IfOk x (AreOutgoing old.sending)) is formed) (subst (λ x. StandsNext old new (IsAnswered old.sending.end.key head.flags head.seq head.extra body x)) is stands)

pub back_without : (head : Header) (body : List ℕ) (old new : TimedState) (e : AllocError) (r : Result (List Datagram) SendNo) (why : SendNo) → r ≡ Err why → OnErr r (new ≡ old) → HearsBack head body old new (Err e)
back_without head body old new e r why is same = BackWithout e refl (subst (λ x. OnErr x (new ≡ old)) is same)

-- ---- the hub

-- the receiver that is found for a header's connection
pub receiver_there : (s : Hubbing) (table : Table) (head : Header) (query place : ℕ) (sides : Sides) → IsHub s table → IsFound s (key_of head) (Here query sides) → sides.receiver ≡ Some place → ReceiverIs s (key_of head) query place
receiver_there s table head query place sides is found at = finds_receiver s (key_of head) query place sides (shape_of s table is) found at

pub sender_there : (s : Hubbing) (table : Table) (head : Header) (query place : ℕ) (sides : Sides) → IsHub s table → IsFound s (key_of head) (Here query sides) → sides.sender ≡ Some place → SenderIs s (key_of head) query place
sender_there s table head query place sides is found at = finds_sender s (key_of head) query place sides (shape_of s table is) found at

-- a place that is found is one of the query's receivers
pub receiver_within : (s : Hubbing) (key : ConnKey) (query place : ℕ) (l : Living) → ReceiverIs s key query place → slice_get s.live query ≡ Some l → place < length l.receivers
receiver_within s key query place l found here =
    slice_get_within l.receivers place found.receiver (ap (λ (x : Living). slice_get x.receivers place) (same_at s.live query l found.living here found.live) ∙ found.here)

pub sender_within : (s : Hubbing) (key : ConnKey) (query place : ℕ) (l : Living) → SenderIs s key query place → slice_get s.live query ≡ Some l → place < length l.senders
sender_within s key query place l found here =
    slice_get_within l.senders place found.sender (ap (λ (x : Living). slice_get x.senders place) (same_at s.live query l found.living here found.live) ∙ found.here)

-- the hub keeps what is always true of it
pub receiver_hub : (s : Hubbing) (table : Table) (query place : ℕ) (head : Header) (body : List ℕ) (l m : Living) (r : Became) → IsHub s table → slice_get s.live query ≡ Some l → ReceiverHears place head body l m r
    → IsHub (record s { live = set s.live query m }) table
receiver_hub s table query place head body l m r is here hears =
    let was = all_at (IsOfHub (place_in s) s.tick) s.live query l is.each here in
    let keeps = receiver_keeps (place_in s) s.tick l place hears.old hears.new was.living was hears.here (forth_end head body hears.old hears.new r hears.hears) in
    hub_with s table query l m is here (ap (λ (x : Living). x.number) hears.is) (ap (λ (x : Living). x.ends) hears.is) (subst (IsOfHub (place_in s) s.tick) (sym hears.is) keeps.1)

pub sender_hub : (s : Hubbing) (table : Table) (query place : ℕ) (head : Header) (body : List ℕ) (l m : Living) (r : Became) → IsHub s table → slice_get s.live query ≡ Some l → SenderHears place head body l m r
    → IsHub (record s { live = set s.live query m }) table
sender_hub s table query place head body l m r is here hears =
    let was = all_at (IsOfHub (place_in s) s.tick) s.live query l is.each here in
    let keeps = sender_keeps (place_in s) s.tick l place hears.old hears.new was.living was hears.here (back_end head body hears.old hears.new r hears.hears) (back_now head body hears.old hears.new r hears.hears) in
    hub_with s table query l m is here (ap (λ (x : Living). x.number) hears.is) (ap (λ (x : Living). x.ends) hears.is) (subst (IsOfHub (place_in s) s.tick) (sym hears.is) keeps.1)

-- ---- where it goes

some_one : {A : Type 0} (a b : A) → Some a ≡ Some b → a ≡ b
some_one a b h = cc

-- a datagram whose connection is named leads here
pub addressed_key : (at : ℤ) (d : Datagram) (head : Header) (key : ConnKey) → Addresses at d head (Some key) → IsAddressed at d head × (key ≡ key_of head)
addressed_key at d head key (NoSegment apart none) = let bad : Some key ≡ None = none in cc
addressed_key at d head key (NotHere apart none) = let bad : Some key ≡ None = none in cc
addressed_key at d head key (Misdirected apart none) = let bad : Some key ≡ None = none in cc
addressed_key at d head key (Addressed leads same) = (leads, some_one key (key_of head) same)

pub comes_foreign : (s : Hubbing) (d : Datagram) (head : Header) (body : List ℕ) (r : Became) → IsFound s (key_of head) says.Foreign → r ≡ Ok (Dropped cause.Foreign, []) → Comes s d head body r s
comes_foreign s d head body r (OfOther other is) drops = ToNobody (OtherSession other) drops refl
comes_foreign s d head body r (NoSuchKey session i l at number none is) drops = ToNobody (NoKey i l at number none) drops refl
comes_foreign s d head body r (OfEnded session none past is) drops = let bad : says.Foreign ≡ says.Ended = is in cc
comes_foreign s d head body r (OfUnbegun session none past is) drops = let bad : says.Foreign ≡ says.NotBegun = is in cc
comes_foreign s d head body r (There session i l at number has sides sender receiver is) drops = let bad : says.Foreign ≡ says.Here i sides = is in cc

pub comes_ended : (s : Hubbing) (d : Datagram) (head : Header) (body : List ℕ) (r : Became) → IsFound s (key_of head) says.Ended → IsAddressed s.at d head → ComesToNone s.at d head true r → Comes s d head body r s
comes_ended s d head body r (OfOther other is) leads turns = let bad : says.Ended ≡ says.Foreign = is in cc
comes_ended s d head body r (NoSuchKey session i l at number none is) leads turns = let bad : says.Ended ≡ says.Foreign = is in cc
comes_ended s d head body r (OfEnded session none past is) leads turns = ToNone leads session none (subst (λ b. ComesToNone s.at d head b r) (sym past) turns) refl
comes_ended s d head body r (OfUnbegun session none past is) leads turns = let bad : says.Ended ≡ says.NotBegun = is in cc
comes_ended s d head body r (There session i l at number has sides sender receiver is) leads turns = let bad : says.Ended ≡ says.Here i sides = is in cc

pub comes_unbegun : (s : Hubbing) (d : Datagram) (head : Header) (body : List ℕ) (r : Became) → IsFound s (key_of head) says.NotBegun → IsAddressed s.at d head → ComesToNone s.at d head false r → Comes s d head body r s
comes_unbegun s d head body r (OfOther other is) leads turns = let bad : says.NotBegun ≡ says.Foreign = is in cc
comes_unbegun s d head body r (NoSuchKey session i l at number none is) leads turns = let bad : says.NotBegun ≡ says.Foreign = is in cc
comes_unbegun s d head body r (OfEnded session none past is) leads turns = let bad : says.NotBegun ≡ says.Ended = is in cc
comes_unbegun s d head body r (OfUnbegun session none past is) leads turns = ToNone leads session none (subst (λ b. ComesToNone s.at d head b r) (sym past) turns) refl
comes_unbegun s d head body r (There session i l at number has sides sender receiver is) leads turns = let bad : says.NotBegun ≡ says.Here i sides = is in cc

-- ---- reading

-- what is read fits
pub heads_fits : (head : Header) (body bytes : List ℕ) → Heads head body bytes → 64 + length body < 2 ^ 32
heads_fits head body bytes heads =
    let size : length bytes ≡ 64 + length body = ap length heads.spelled ∙ length-append (written head) body ∙ ap (λ n. n + length body) (length-written head) in
    let small : head.len < 2 ^ 32 = all_at (λ (w : ℕ). w < 2 ^ 32) (words_of head) 13 head.len heads.in_range.words refl in
    subst (λ n. n < 2 ^ 32) (heads.len ∙ size) small
