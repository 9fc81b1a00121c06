-- A datagram that isn't handled leaves the hub as it is.
use Rattle.std.proofs.Common.{◌≡◌, ℕ, ◌+◌, ◌-◌, ◌^◌, min, List, set, Option, Some, None, Result, Ok, Err, is_err, OnErr, true, false, ap, sym, ◌∙◌, subst, slice_get}
use Rattle.std.specs.declared.alloc.AllocError.{AllocError}
use Rattle.ic_base.specs.declared.datagram.Datagram.{Datagram}
use Rattle.ic_header.specs.declared.header.Header.{Header}
use Rattle.ic_recvring.specs.Ring.{Ring, Packet as Kept}
use Rattle.ic_law.specs.declared.history.Arrived.{Arrived}
use Rattle.ic_law.specs.declared.history.Arrived.TheVariants.{Handled, Dropped}
use Rattle.ic_law.specs.declared.history.Entry.{Entry}
use Rattle.ic_conntab.specs.declared.slots.Sides.{Sides}
use Rattle.ic_timed_sender.specs.Timed.{TimedState}
use Rattle.ic_receiver.specs.Receiving.{Receiving, Hears, Stopped, Running, HearsRows, Again, Far, Kept as KeptNow}
use Rattle.ic_hub.specs.Hubbing.{Hubbing, Living}
use Rattle.ic_hub.specs.Standing.{Stands}
use Rattle.ic_hub.specs.Calls.{CountsDrop}
use Rattle.ic_hub.specs.Coming.{Became, kept_of, told_of, Asks, WithRows, WithQuery, HearsForth, ForthWithout, Forth, HearsBack, BackWithout, Strays, Back, ReceiverHears, SenderHears, ComesToQuery, AtReceiver, AtSender, NoReceiver, NoSender, Comes, ToNobody, ToNone, ToQuery, Arrives, Unread, Read, with_query, counted}
use Rattle.ic_hub.proofs.Moving.{set_same}

-- it was dropped, or there was no memory
abbrev NotHandled : Became → Type 0
NotHandled (Err e) = Unit {0}
NotHandled (Ok (Handled, ds)) = ⊥
NotHandled (Ok (Dropped why, ds)) = Unit {0}

-- ---- one connection

rows_same : (s : Receiving) (ring now : Ring) (q : Kept) (after : Receiving) → s.ring ≡ Some ring → HearsRows s.end ring q None now → after ≡ record s { ring = Some now } → after ≡ s
rows_same s ring now q after runs (Again d r run repeated is told same) now_is = let bad : None ≡ Some d = told in cc
rows_same s ring now q after runs (Far r run new beyond told same) now_is = now_is ∙ ap (λ x. record s { ring = Some x }) same ∙ ap (λ x. record s { ring = x }) (sym runs)
rows_same s ring now q after runs (KeptNow d r run new room tells told same) now_is = let bad : None ≡ Some d = told in cc

unheard : (s : Receiving) (q : Kept) (after : Receiving) → Hears s q None after → after ≡ s
unheard s q after (Stopped d halted is told same) = let bad : None ≡ Some d = told in cc
unheard s q after (Running ring now runs hears same) = rows_same s ring now q after runs hears same

asks_same : (head : Header) (body : List ℕ) (old new : Receiving) (a : Option Datagram) → Asks head body old new a → NotHandled (Ok (told_of a)) → new ≡ old
asks_same head body old new (Some d) (WithRows rows hears stands) drops = absurd drops
asks_same head body old new None (WithRows rows hears stands) drops = unheard old (kept_of head body) new hears
asks_same head body old new a (WithQuery query hears same stands) drops = same

forth_same : (head : Header) (body : List ℕ) (old new : Receiving) (r : Became) → HearsForth head body old new r → NotHandled r → new ≡ old
forth_same head body old new r (ForthWithout e is same) drops = same
forth_same head body old new r (Forth a is asks) drops = asks_same head body old new a asks (subst NotHandled is drops)

back_same : (head : Header) (body : List ℕ) (old new : TimedState) (r : Became) → HearsBack head body old new r → NotHandled r → new ≡ old
back_same head body old new r (BackWithout e is same) drops = same
back_same head body old new r (Strays is same end stands) drops = same
back_same head body old new r (Back ds is end now formed stands) drops = absurd (subst NotHandled is drops)

-- ---- the hub

receiver_same : (place : ℕ) (head : Header) (body : List ℕ) (l m : Living) (r : Became) → ReceiverHears place head body l m r → NotHandled r → m ≡ l
receiver_same place head body l m r hears drops =
    hears.is ∙ ap (λ x. record l { receivers = set l.receivers place x }) (forth_same head body hears.old hears.new r hears.hears drops) ∙ ap (λ xs. record l { receivers = xs }) (set_same l.receivers place hears.old hears.here)

sender_same : (place : ℕ) (head : Header) (body : List ℕ) (l m : Living) (r : Became) → SenderHears place head body l m r → NotHandled r → m ≡ l
sender_same place head body l m r hears drops =
    hears.is ∙ ap (λ x. record l { senders = set l.senders place x }) (back_same head body hears.old hears.new r hears.hears drops) ∙ ap (λ xs. record l { senders = xs }) (set_same l.senders place hears.old hears.here)

query_same : (s after : Hubbing) (query : ℕ) (l m : Living) → slice_get s.live query ≡ Some l → after ≡ with_query s query m → m ≡ l → after ≡ s
query_same s after query l m here is same = is ∙ ap (λ x. with_query s query x) same ∙ ap (λ xs. record s { live = xs }) (set_same s.live query l here)

to_query_same : (s : Hubbing) (query : ℕ) (sides : Sides) (head : Header) (body : List ℕ) (r : Became) (after : Hubbing) → ComesToQuery s query sides head body r after → NotHandled r → after ≡ s
to_query_same s query sides head body r after (AtReceiver forth place l m at here hears is) drops = query_same s after query l m here is (receiver_same place head body l m r hears drops)
to_query_same s query sides head body r after (AtSender back place l m at here hears is) drops = query_same s after query l m here is (sender_same place head body l m r hears drops)
to_query_same s query sides head body r after (NoReceiver forth none is same) drops = same
to_query_same s query sides head body r after (NoSender back none is same) drops = same

comes_same : (s : Hubbing) (d : Datagram) (head : Header) (body : List ℕ) (r : Became) (after : Hubbing) → Comes s d head body r after → NotHandled r → after ≡ s
comes_same s d head body r after (ToNobody none is same) drops = same
comes_same s d head body r after (ToNone leads session none turns same) drops = same
comes_same s d head body r after (ToQuery leads query sides found comes) drops = to_query_same s query sides head body r after comes drops

arrives_same : (s : Hubbing) (d : Datagram) (r : Became) (after : Hubbing) → Arrives s d r after → NotHandled r → after ≡ s
arrives_same s d r after (Unread fault fails is same) drops = same
arrives_same s d r after (Read head body reads comes) drops = comes_same s d head body r after comes drops

-- without memory it is as it was
pub arrives_without : (s : Hubbing) (d : Datagram) (e : AllocError) (after : Hubbing) → Arrives s d (Err e) after → after ≡ s
arrives_without s d e after arrives = arrives_same s d (Err e) after arrives tt

pub on_err : {T E : Type 0} {P : Type 0} (r : Result T E) → is_err r ≡ true → P → OnErr r P
on_err (Ok x) h p = let bad : false ≡ true = h in cc
on_err (Err e) h p = p

-- ---- the count

to_query_dropped : (s : Hubbing) (query : ℕ) (sides : Sides) (head : Header) (body : List ℕ) (r : Became) (after : Hubbing) → ComesToQuery s query sides head body r after → after.dropped ≡ s.dropped
to_query_dropped s query sides head body r after (AtReceiver forth place l m at here hears is) = ap (λ (x : Hubbing). x.dropped) is
to_query_dropped s query sides head body r after (AtSender back place l m at here hears is) = ap (λ (x : Hubbing). x.dropped) is
to_query_dropped s query sides head body r after (NoReceiver forth none is same) = ap (λ (x : Hubbing). x.dropped) same
to_query_dropped s query sides head body r after (NoSender back none is same) = ap (λ (x : Hubbing). x.dropped) same

arrives_dropped : (s : Hubbing) (d : Datagram) (r : Became) (after : Hubbing) → Arrives s d r after → after.dropped ≡ s.dropped
arrives_dropped s d r after (Unread fault fails is same) = ap (λ (x : Hubbing). x.dropped) same
arrives_dropped s d r after (Read head body reads (ToNobody none is same)) = ap (λ (x : Hubbing). x.dropped) same
arrives_dropped s d r after (Read head body reads (ToNone leads session none turns same)) = ap (λ (x : Hubbing). x.dropped) same
arrives_dropped s d r after (Read head body reads (ToQuery leads query sides found comes)) = to_query_dropped s query sides head body r after comes

pub counts_drop : (s : Hubbing) (d : Datagram) (how : Arrived) (ds : List Datagram) (after new : Hubbing) → Arrives s d (Ok (how, ds)) after → new ≡ counted how after → CountsDrop s new how
counts_drop s d Handled ds after new arrives is = ap (λ (x : Hubbing). x.dropped) is ∙ arrives_dropped s d (Ok (Handled, ds)) after arrives
counts_drop s d (Dropped why) ds after new arrives is = is ∙ ap (λ (x : Hubbing). record x { dropped = min (x.dropped + 1) (2 ^ 64 - 1) }) (arrives_same s d (Ok (Dropped why, ds)) after arrives tt)

-- it stands for the same histories with another count
pub counted_stands : (how : Arrived) (s : Hubbing) (h : List Entry) → Stands s h → Stands (counted how s) h
counted_stands Handled s h stands = stands
counted_stands (Dropped why) s h stands = record { goes = stands.goes; clock = stands.clock; top = stands.top; live = stands.live; each = stands.each }
