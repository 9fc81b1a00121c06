-- A hub stands on with a datagram that came.
use Rattle.std.proofs.Common.{◌≡◌, ℕ, List, [], ◌∷◌, ◌++◌, Bool, true, false, Option, Some, None, Ok, Err, refl, ap, sym, ◌∙◌, subst, slice_get}
use Rattle.std.specs.List.{Contains}
use Rattle.std.proofs.lemmas.Bool.{leb-true, le-leb}
use Rattle.std.specs.declared.alloc.AllocError.{AllocError}
use Rattle.ic_base.specs.declared.keys.ConnKey.{ConnKey}
use Rattle.ic_base.specs.declared.keys.ConnEnd.{ConnEnd}
use Rattle.ic_base.specs.declared.datagram.Datagram.{Datagram}
use Rattle.ic_header.specs.declared.flags.Flags.TheVariants.{Stop, Nak}
use Rattle.ic_header.specs.declared.header.Header.{Header}
use Rattle.ic_header.specs.Reading.{read_header}
use Rattle.ic_law.specs.declared.history.HubAsk.TheVariants.{Begin, Arrive, Clear}
use Rattle.ic_law.specs.declared.history.HubReply.TheVariants.{Came}
use Rattle.ic_law.specs.declared.history.Arrived.TheVariants.{Handled, Dropped}
use Rattle.ic_law.specs.declared.history.DropCause.TheVariants as cause
use Rattle.ic_law.specs.declared.history.Entry.{Entry}
use Rattle.ic_header.specs.Packets.{packet_of, packet_read, key_of}
use Rattle.ic_law.specs.History.{datagrams_of}
use Rattle.ic_law.specs.Points.{IsFormed, IsHere}
use Rattle.ic_law.specs.Arriving.{IsForeign, NoSegment, NotHere, Misdirected, OtherSession, NoSuchKey, IsLiveQuery, IsOld}
use Rattle.ic_law.proofs.Lists.{Contains-none, Contains-one}
use Rattle.ic_conntab.specs.Table.{is_past}
use Rattle.ic_conntab.specs.Ends.{keys_of}
use Rattle.ic_conntab.proofs.Named.{keys_are_of_ends}
use Rattle.ic_hub_laws.specs.Entries.{IsNought, Unread, Strange, EndedQuery, UnbegunQuery, LateAnswer}
use Rattle.ic_hub_laws.proofs.Forms.{turned_formed}
use Rattle.ic_hub_laws.proofs.Lives.{old_upto}
use Rattle.ic_hub.specs.Hubbing.{Hubbing, Living, place_in}
use Rattle.ic_hub.specs.Entries.{arrive_entry, came_of}
use Rattle.ic_hub.specs.Finding.{IsNotLive}
use Rattle.ic_hub.specs.Standing.{IsTop, Stands}
use Rattle.ic_hub.specs.Coming.{Became, IsAddressed, Addressed, IsOfNone, Astray, NoKey, ComesToNone, NoneWithout, Turned, TooLate, TurnsBack}
use Rattle.ic_hub.specs.Coming.{NoSegment as Unnamed, NotHere as Elsewhere, Misdirected as Crossed, OtherSession as Outside}
use Rattle.ic_hub.proofs.Places.{Shaped}
use Rattle.ic_hub.proofs.Moving.{nought_stands, memory_stands}
use Rattle.ic_hub.proofs.ComingSteps.{same_at}

-- ---- reading

pub reads_packet : (d : Datagram) (head : Header) (body : List ℕ) → read_header d.bytes ≡ Ok (head, body) → packet_of d ≡ Some (record { head = head; body = body })
unfolding packet_of
reads_packet d head body reads = ap packet_read reads

-- ---- entries of no end

pub without : (s : Hubbing) (h : List Entry) (d : Datagram) (e : AllocError) → Shaped s → Stands s h → Stands s (h ++ arrive_entry d (Err e) ∷ [])
without s h d e shaped stands = memory_stands s h (Arrive d) shaped stands (λ query asked. let bad : Arrive d ≡ Clear query = asked in cc) refl

nought_comes : (s : Hubbing) (h : List Entry) (d : Datagram) (result : Became) → Shaped s → Stands s h → IsNought (place_in s) h (arrive_entry d result) → ((x : Datagram) → Contains (datagrams_of (came_of result)) x → IsFormed (place_in s) x)
    → Stands s (h ++ arrive_entry d result ∷ [])
nought_comes s h d result shaped stands nought formed =
    nought_stands s h (arrive_entry d result) shaped stands nought (λ query ends asked begun. let bad : Arrive d ≡ Begin query ends = asked in cc) refl (λ given. tt) formed

pub unread_stands : (s : Hubbing) (h : List Entry) (d : Datagram) (fault : _) → Shaped s → Stands s h → read_header d.bytes ≡ Err fault → Stands s (h ++ arrive_entry d (Ok (Dropped (cause.Header fault), [])) ∷ [])
unread_stands s h d fault shaped stands fails =
    nought_comes s h d (Ok (Dropped (cause.Header fault), [])) shaped stands (Unread d fault refl fails refl) (λ x c. absurd (Contains-none x c))

-- ---- of none of the hub's connections

-- a query that is live in the hub is live
live_in : (s : Hubbing) (h : List Entry) (i : ℕ) (l : Living) (query : ℕ) → Stands s h → slice_get s.live i ≡ Some l → l.number ≡ query → IsLiveQuery query h
live_in s h i l query stands here number = (l.ends, (stands.live query l.ends).1 (record { at = i; living = l; here = here; number = number; ends_are = refl }))

-- an end that is here has its key among those of its query
key_here : (s : Hubbing) (h : List Entry) (i : ℕ) (l : Living) (end : ConnEnd) → Shaped s → Stands s h → slice_get s.live i ≡ Some l → l.number ≡ end.key.query → IsHere end h → Contains (keys_of l.ends) end.key
key_here s h i l end shaped stands here number its =
    let a = (stands.live end.key.query its.ends).0 its.live in
    let place = shaped.apart a.at i a.living l a.here here (a.number ∙ sym number) in
    let same = same_at s.live i a.living l (ap (λ n. slice_get s.live n) (sym place) ∙ a.here) here in
    let has : Contains l.ends end = subst (λ (x : Living). Contains x.ends end) same (subst (λ xs. Contains xs end) (sym a.ends_are) its.stands) in
    (keys_are_of_ends l.ends end.key).1 (end, has, refl)

foreign_of : (s : Hubbing) (h : List Entry) (d : Datagram) (head : Header) → Shaped s → Stands s h → IsOfNone s d head → IsForeign (place_in s) h d head
foreign_of s h d head shaped stands (Astray (Unnamed apart none)) = NoSegment apart
foreign_of s h d head shaped stands (Astray (Elsewhere apart none)) = NotHere apart
foreign_of s h d head shaped stands (Astray (Crossed apart none)) = Misdirected apart
foreign_of s h d head shaped stands (Astray (Addressed leads none)) = let bad : None ≡ Some (key_of head) = none in cc
foreign_of s h d head shaped stands (Outside other) = OtherSession other
foreign_of s h d head shaped stands (NoKey i l here number none) =
    NoSuchKey (live_in s h i l head.query stands here number)
    (λ end its same. none (subst (λ k. Contains (keys_of l.ends) k) same (key_here s h i l end shaped stands here (number ∙ ap (λ (k : ConnKey). k.query) (sym same)) its)))

pub strange_stands : (s : Hubbing) (h : List Entry) (d : Datagram) (head : Header) (body : List ℕ) → Shaped s → Stands s h → read_header d.bytes ≡ Ok (head, body) → IsOfNone s d head
    → Stands s (h ++ arrive_entry d (Ok (Dropped cause.Foreign, [])) ∷ [])
strange_stands s h d head body shaped stands reads none =
    nought_comes s h d (Ok (Dropped cause.Foreign, [])) shaped stands (Strange d (record { head = head; body = body }) refl (reads_packet d head body reads) (foreign_of s h d head shaped stands none) refl)
    (λ x c. absurd (Contains-none x c))

-- ---- of a query that isn't live

dead : (s : Hubbing) (h : List Entry) (query : ℕ) → Stands s h → IsNotLive s query → IsLiveQuery query h → ⊥
dead s h query stands none live = let a = (stands.live query live.0).0 live.1 in none a.at a.living a.here a.number

own : (s : Hubbing) (h : List Entry) (d : Datagram) (head : Header) → Stands s h → IsAddressed s.at d head → head.session ≡ s.session → IsNotLive s head.query → IsForeign (place_in s) h d head → ⊥
own s h d head stands leads session none (NoSegment apart) = apart (leads.from, leads.to)
own s h d head stands leads session none (NotHere apart) = apart leads.here
own s h d head stands leads session none (Misdirected apart) = apart leads.directed
own s h d head stands leads session none (OtherSession apart) = apart session
own s h d head stands leads session none (NoSuchKey live apart) = dead s h head.query stands none live

old_by : (top : Option ℕ) (query : ℕ) (h : List Entry) → IsTop top h → is_past top query ≡ true → IsOld query h
old_by None query h is past = let bad : false ≡ true = past in cc
old_by (Some top) query h is past = (old_upto h top query is).1 (leb-true query top past)

young_by : (top : Option ℕ) (query : ℕ) (h : List Entry) → IsTop top h → is_past top query ≡ false → IsOld query h → ⊥
young_by None query h is past old = Contains-none old.0 (subst (λ xs. Contains xs old.0) is old.1)
young_by (Some top) query h is past old = let bad : false ≡ true = sym past ∙ le-leb query top ((old_upto h top query is).0 old) in cc

pub none_stands : (s : Hubbing) (h : List Entry) (d : Datagram) (head : Header) (body : List ℕ) (result : Became) → Shaped s → Stands s h → read_header d.bytes ≡ Ok (head, body) → IsAddressed s.at d head → head.session ≡ s.session
    → IsNotLive s head.query → ComesToNone s.at d head (is_past s.top head.query) result → Stands s (h ++ arrive_entry d result ∷ [])
none_stands s h d head body result shaped stands reads leads session none (NoneWithout e is) = subst (λ r. Stands s (h ++ arrive_entry d r ∷ [])) (sym is) (without s h d e shaped stands)
none_stands s h d head body result shaped stands reads leads session none (TooLate back is) =
    subst (λ r. Stands s (h ++ arrive_entry d r ∷ [])) (sym is)
    (nought_comes s h d (Ok (Dropped cause.Late, [])) shaped stands
    (LateAnswer d (record { head = head; body = body }) refl (reads_packet d head body reads) (own s h d head stands leads session none) (dead s h head.query stands none) back refl) (λ x c. absurd (Contains-none x c)))
none_stands s h d head body result shaped stands reads leads session none (Turned forth ds back is) =
    subst (λ r. Stands s (h ++ arrive_entry d r ∷ [])) (sym is) (by (is_past s.top head.query) refl back)
  where
    mine : IsForeign (place_in s) h d head → ⊥
    mine = own s h d head stands leads session none

    by : (past : Bool) → is_past s.top head.query ≡ past → TurnsBack s.at d head past ds → Stands s (h ++ arrive_entry d (Ok (Handled, ds)) ∷ [])
    by true past turned =
        nought_comes s h d (Ok (Handled, ds)) shaped stands
        (EndedQuery d (record { head = head; body = body }) refl (reads_packet d head body reads) mine (dead s h head.query stands none) forth (old_by s.top head.query h stands.top past) turned.spelled (ap (λ xs. Came Handled xs) turned.are))
        (λ x c. subst (IsFormed (place_in s)) (sym (Contains-one _ x (subst (λ xs. Contains xs x) turned.are c))) (turned_formed (place_in s) h d head Stop mine forth refl turned.spelled))
    by false past turned =
        nought_comes s h d (Ok (Handled, ds)) shaped stands
        (UnbegunQuery d (record { head = head; body = body }) refl (reads_packet d head body reads) mine (dead s h head.query stands none) forth (young_by s.top head.query h stands.top past) turned.spelled (ap (λ xs. Came Handled xs) turned.are))
        (λ x c. subst (IsFormed (place_in s)) (sym (Contains-one _ x (subst (λ xs. Contains xs x) turned.are c))) (turned_formed (place_in s) h d head Nak mine forth refl turned.spelled))
