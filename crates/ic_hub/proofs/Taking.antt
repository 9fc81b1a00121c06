-- A hub stands on with takes from one sender and with halts.
use Rattle.std.proofs.Common.{◌≡◌, ℕ, List, [], ◌∷◌, ◌++◌, ◌+◌, Bool, false, Option, Some, Result, Ok, Err, refl, ap, sym, ◌∙◌, subst, inr, slice_get, get_or, ◌<◌, length}
use Rattle.std.specs.Prelude.{OnErr}
use Rattle.std.specs.List.{AllByRecursion, Contains}
use Rattle.std.proofs.lemmas.Option.{slice_get_within, get_or_from_slice_get}
use Rattle.ic_base.specs.declared.keys.ConnKey.{ConnKey}
use Rattle.ic_base.specs.declared.datagram.Datagram.{Datagram}
use Rattle.ic_base.specs.declared.datagram.Parcel.{Parcel}
use Rattle.ic_conntab.specs.Table.{Table}
use Rattle.ic_header.specs.declared.flags.Flags.TheVariants.{Ack, Stop}
use Rattle.ic_law.specs.declared.history.HubAsk.TheVariants.{Begin, Take, TakeFrom, Halt, Clear}
use Rattle.ic_law.specs.declared.history.HubReply.TheVariants.{Gave, Took}
use Rattle.ic_law.specs.declared.history.HubNo.{HubNo}
use Rattle.ic_law.specs.declared.history.HubNo.TheVariants as no
use Rattle.ic_law.specs.declared.history.Entry.{Entry}
use Rattle.ic_law.specs.History.{emits}
use Rattle.ic_law.specs.Points.{IsFormed}
use Rattle.ic_law.specs.Asking.{IsAllowed, AreEnds}
use Rattle.ic_law.specs.Arriving.{IsUnknownKey, unknown}
use Rattle.ic_law.proofs.Lists.{Contains-none, Contains-one}
use Rattle.ic_timed_sender.specs.Timed.{TimedState}
use Rattle.ic_receiver.specs.Receiving.{Receiving, HandsOver, Halts, HaltsAgain, HaltsNow}
use Rattle.ic_receiver.specs.Entries.{list_of}
use Rattle.ic_receiver.specs.Standing.{Stands as ReceiverStands}
use Rattle.ic_hub_laws.specs.Entries.{IsOurs, OfTakeFrom, OfHalt, Concerns, NoMemory, UnknownHalt, UnknownTakeFrom}
use Rattle.ic_hub_laws.specs.Formed.{IsFormedOf}
use Rattle.ic_hub_laws.proofs.Forms.{answers_formed}
use Rattle.ic_hub_laws.proofs.Served.{served_before}
use Rattle.ic_hub.specs.Hubbing.{Hubbing, Living, IsLiving, IsOfHub, IsHub, place_in}
use Rattle.ic_hub.specs.Standing.{Stands}
use Rattle.ic_hub.specs.Finding.{HasNo, ReceiverIs}
use Rattle.ic_hub.specs.Entries.{take_from_entry, halt_entry}
use Rattle.ic_hub.specs.Taking.{Takes, NoRoom, Waits, Done, Hands, HaltsOne, NoRoomToHalt, HaltsIt, AtReceiver, TakesAt, HaltsAt}
use Rattle.ic_hub.proofs.Places.{Shaped, all_at, contains_at, end_of_receiver}
use Rattle.ic_hub.proofs.Shape.{hub_with}
use Rattle.ic_hub.proofs.Receivers.{set_same, halts_end}
use Rattle.ic_hub.proofs.Moving.{with_receiver, receiver_living, with_query, nought_stands, receiver_moved}

-- ---- entries of no end

-- what no end of a hub has, no end has that is here
pub unknown_key : (side : Bool) (s : Hubbing) (key : ConnKey) (h : List Entry) → HasNo side s key → Stands s h → IsUnknownKey side key h
unknown_key side s key h none stands = λ end here is sends.
    let among = (stands.live end.key.query here.ends).0 here.live in
    none among.at among.living among.here end (subst (λ x. Contains x end) (sym among.ends_are) here.stands) is sends

-- the reply emits nothing
pub emits_none : (s : Hubbing) (e : Entry) → emits e ≡ [] → (d : Datagram) → Contains (emits e) d → IsFormed (place_in s) d
emits_none s e none d at = absurd (Contains-none d (subst (λ ds. Contains ds d) none at))

pub take_from_unknown : (s : Hubbing) (key : ConnKey) (h : List Entry) → Shaped s → HasNo false s key → Stands s h → Stands s (h ++ take_from_entry key (Err (unknown key.query key.motion)) ∷ [])
take_from_unknown s key h shaped none stands =
    let e : Entry = take_from_entry key (Err (unknown key.query key.motion)) in
    nought_stands s h e shaped stands (UnknownTakeFrom key refl (unknown_key false s key h none stands) refl) (λ query ends bad begun. let no_begin : TakeFrom key ≡ Begin query ends = bad in cc) refl (λ given. tt) (emits_none s e refl)

pub halt_unknown : (s : Hubbing) (key : ConnKey) (h : List Entry) → Shaped s → HasNo false s key → Stands s h → Stands s (h ++ halt_entry key (Err (unknown key.query key.motion)) ∷ [])
halt_unknown s key h shaped none stands =
    let e : Entry = halt_entry key (Err (unknown key.query key.motion)) in
    nought_stands s h e shaped stands (UnknownHalt key refl (unknown_key false s key h none stands) refl) (λ query ends bad begun. let no_begin : Halt key ≡ Begin query ends = bad in cc) refl (λ given. tt) (emits_none s e refl)

take_from_memory : (s : Hubbing) (key : ConnKey) (h : List Entry) → Shaped s → Stands s h → Stands s (h ++ take_from_entry key (Err no.Memory) ∷ [])
take_from_memory s key h shaped stands =
    let e : Entry = take_from_entry key (Err no.Memory) in
    nought_stands s h e shaped stands (NoMemory (λ query bad. let no_clear : TakeFrom key ≡ Clear query = bad in cc) refl) (λ query ends bad begun. let no_begin : TakeFrom key ≡ Begin query ends = bad in cc) refl (λ given. tt) (emits_none s e refl)

halt_memory : (s : Hubbing) (key : ConnKey) (h : List Entry) → Shaped s → Stands s h → Stands s (h ++ halt_entry key (Err no.Memory) ∷ [])
halt_memory s key h shaped stands =
    let e : Entry = halt_entry key (Err no.Memory) in
    nought_stands s h e shaped stands (NoMemory (λ query bad. let no_clear : Halt key ≡ Clear query = bad in cc) refl) (λ query ends bad begun. let no_begin : Halt key ≡ Begin query ends = bad in cc) refl (λ given. tt) (emits_none s e refl)

-- ---- the receiver's end

-- the receiver of a live query is an end of this place, on its side
pub record EndHere (s : Hubbing) (r : Receiving) : Type 0 where
  pub ours : IsOurs (place_in s) r.end
  pub receives : r.end.sending ≡ false

pub end_here : (s : Hubbing) (q i : ℕ) (l : Living) (r : Receiving) → Shaped s → slice_get s.live q ≡ Some l → slice_get l.receivers i ≡ Some r → EndHere s r
end_here s q i l r shaped here at =
    let its = end_of_receiver l i r (shaped.living q l here) at in
    let place = contains_at l.ends r.end its.has in
    record { ours = all_at (IsOurs (place_in s)) l.ends place.0 r.end (shaped.of_hub q l here).ours place.1; receives = its.side_is }

-- what it tells with a parcel has the form of what a hub emits
pub told_with : (s : Hubbing) (old new : Receiving) (parcel : Parcel) (d : Datagram) → EndHere s old → HandsOver old parcel d new → (x : Datagram) → Contains (d ∷ []) x → IsFormedOf (place_in s) old.end false x
told_with s old new parcel d end hands x at =
    subst (λ y. IsFormedOf (place_in s) old.end false y) (sym (Contains-one d x at)) (answers_formed (place_in s) old.end Ack hands.hands.run (hands.ring.consumed + 1) [] d end.ours end.receives refl hands.hands.answer)

-- and so has what it tells when it is halted
told_by : (s : Hubbing) (old new : Receiving) (told : Option Datagram) → EndHere s old → Halts old told new → (x : Datagram) → Contains (list_of told) x → IsFormedOf (place_in s) old.end false x
told_by s old new told end (HaltsAgain over none same) x at = absurd (Contains-none x (subst (λ t. Contains (list_of t) x) none at))
told_by s old new told end (HaltsNow d ring goes_on runs answer is after) x at =
    subst (λ y. IsFormedOf (place_in s) old.end false y) (sym (Contains-one d x (subst (λ t. Contains (list_of t) x) is at))) (answers_formed (place_in s) old.end Stop 0 0 [] d end.ours end.receives refl answer)

-- ---- one receiver moves

-- the hub stands on where one receiver does, with an entry that is no take of any
moved : (s : Hubbing) (h : List Entry) (e : Entry) (q i : ℕ) (l : Living) (old new : Receiving) → Shaped s → Stands s h → slice_get s.live q ≡ Some l → slice_get l.receivers i ≡ Some old → new.end ≡ old.end
    → ReceiverStands s.settings new (h ++ e ∷ []) → Concerns (place_in s) old.end.key false e → ((query motion : ℕ) → e.ask ≡ Take query motion → ⊥) → IsAllowed (place_in s) h e.ask
    → ((d : Datagram) → Contains (emits e) d → IsFormed (place_in s) d) → Stands (with_query s q (with_receiver l i new)) (h ++ e ∷ [])
moved s h e q i l old new shaped stands here at same moves about no_take allowed formed =
    receiver_moved s h e q i l old new l.served shaped stands here at same refl moves about
    (λ k motion last m found. served_before l.number motion h e last (λ from served. no_take l.number motion served.ask) ((stands.each q l here).served k motion last m found))
    (λ given. allowed) formed (λ query motion is. absurd (no_take query motion is))

-- ---- a take from one sender

no_take_from : (key : ConnKey) (query motion : ℕ) → TakeFrom key ≡ Take query motion → ⊥
no_take_from key query motion bad = cc

no_halt : (key : ConnKey) (query motion : ℕ) → Halt key ≡ Take query motion → ⊥
no_halt key query motion bad = cc

take_refused : (s : Hubbing) (h : List Entry) (q i : ℕ) (l : Living) (old new : Receiving) (why : HubNo) → Shaped s → Stands s h → slice_get s.live q ≡ Some l → slice_get l.receivers i ≡ Some old → new.end ≡ old.end
    → ReceiverStands s.settings new (h ++ record { ask = TakeFrom old.end.key; reply = Took (Err why) } ∷ [])
    → Stands (with_query s q (with_receiver l i new)) (h ++ record { ask = TakeFrom old.end.key; reply = Took (Err why) } ∷ [])
take_refused s h q i l old new why shaped stands here at same moves =
    let e : Entry = record { ask = TakeFrom old.end.key; reply = Took (Err why) } in
    moved s h e q i l old new shaped stands here at same moves (record { asks = OfTakeFrom refl refl; replied = inr refl; emitted = λ d bad. absurd (Contains-none d bad) }) (no_take_from old.end.key) tt (emits_none s e refl)

-- a query whose receiver is as it was is as it was
pub as_it_was : (s : Hubbing) (q i : ℕ) (l : Living) (old new : Receiving) → slice_get s.live q ≡ Some l → slice_get l.receivers i ≡ Some old → new ≡ old → with_query s q (with_receiver l i new) ≡ s
as_it_was s q i l old new here at same =
    ap (λ x. with_query s q (with_receiver l i x)) same
    ∙ ap (λ xs. with_query s q (record l { receivers = xs })) (set_same l.receivers i old at)
    ∙ ap (λ xs. record s { live = xs }) (set_same s.live q l here)

took : (s : Hubbing) (h : List Entry) (q i : ℕ) (l : Living) (old new : Receiving) (result : Result (Parcel × List Datagram) HubNo) → Shaped s → Stands s h → slice_get s.live q ≡ Some l → slice_get l.receivers i ≡ Some old
    → Takes old new result → Stands (with_query s q (with_receiver l i new)) (h ++ take_from_entry old.end.key result ∷ [])
took s h q i l old new result shaped stands here at (NoRoom is same) =
    subst (λ r. Stands (with_query s q (with_receiver l i new)) (h ++ take_from_entry old.end.key r ∷ [])) (sym is)
    (subst (λ t. Stands t (h ++ take_from_entry old.end.key (Err no.Memory) ∷ [])) (sym (as_it_was s q i l old new here at same)) (take_from_memory s old.end.key h shaped stands))
took s h q i l old new result shaped stands here at (Waits is same empty goes) =
    subst (λ r. Stands (with_query s q (with_receiver l i new)) (h ++ take_from_entry old.end.key r ∷ [])) (sym is)
    (take_refused s h q i l old new no.Empty shaped stands here at (ap (λ (r : Receiving). r.end) same) (goes s.settings h (take_from_entry old.end.key (Err no.Empty)) (record { ask = refl; reply = refl }) ((stands.each q l here).receivers i old at)))
took s h q i l old new result shaped stands here at (Done is same over goes) =
    subst (λ r. Stands (with_query s q (with_receiver l i new)) (h ++ take_from_entry old.end.key r ∷ [])) (sym is)
    (take_refused s h q i l old new no.Ended shaped stands here at (ap (λ (r : Receiving). r.end) same) (goes s.settings h (take_from_entry old.end.key (Err no.Ended)) (record { ask = refl; reply = refl }) ((stands.each q l here).receivers i old at)))
took s h q i l old new result shaped stands here at (Hands parcel d is hands goes takes) =
    let e : Entry = record { ask = TakeFrom old.end.key; reply = Took (Ok (parcel, d ∷ [])) } in
    let end = end_here s q i l old shaped here at in
    let told = told_with s old new parcel d end hands in
    subst (λ r. Stands (with_query s q (with_receiver l i new)) (h ++ take_from_entry old.end.key r ∷ [])) (sym is)
    (moved s h e q i l old new shaped stands here at (ap (λ (r : Receiving). r.end) hands.after_is)
    (goes s.settings h e (record { ask = (refl, hands.hands.from); reply = refl }) ((stands.each q l here).receivers i old at))
    (record { asks = OfTakeFrom refl refl; replied = inr refl; emitted = λ x found. (told x found).packet })
    (no_take_from old.end.key) tt (λ x found. (told x found).formed))

-- ---- a halt

halted : (s : Hubbing) (h : List Entry) (q i : ℕ) (l : Living) (old new : Receiving) (result : Result (List Datagram) HubNo) → Shaped s → Stands s h → slice_get s.live q ≡ Some l → slice_get l.receivers i ≡ Some old
    → HaltsOne old new result → Stands (with_query s q (with_receiver l i new)) (h ++ halt_entry old.end.key result ∷ [])
halted s h q i l old new result shaped stands here at (NoRoomToHalt is same) =
    subst (λ r. Stands (with_query s q (with_receiver l i new)) (h ++ halt_entry old.end.key r ∷ [])) (sym is)
    (subst (λ t. Stands t (h ++ halt_entry old.end.key (Err no.Memory) ∷ [])) (sym (as_it_was s q i l old new here at same)) (halt_memory s old.end.key h shaped stands))
halted s h q i l old new result shaped stands here at (HaltsIt told is halts goes) =
    let e : Entry = record { ask = Halt old.end.key; reply = Gave (Ok (list_of told)) } in
    let end = end_here s q i l old shaped here at in
    let tells = told_by s old new told end halts in
    subst (λ r. Stands (with_query s q (with_receiver l i new)) (h ++ halt_entry old.end.key r ∷ [])) (sym is)
    (moved s h e q i l old new shaped stands here at (halts_end old new told halts)
    (goes s.settings h e (record { ask = refl; reply = refl }) ((stands.each q l here).receivers i old at))
    (record { asks = OfHalt refl refl; replied = inr refl; emitted = λ x found. (tells x found).packet })
    (no_halt old.end.key) tt (λ x found. (tells x found).formed))

-- ---- the receiver of a key

-- the query at this place is the one that has the receiver
pub record Found (s : Hubbing) (key : ConnKey) (q i : ℕ) (l : Living) : Type 0 where
  pub receiver : Receiving
  pub here : slice_get l.receivers i ≡ Some receiver
  pub is : receiver.end.key ≡ key

pub found : (s : Hubbing) (key : ConnKey) (q i : ℕ) (l : Living) → ReceiverIs s key q i → slice_get s.live q ≡ Some l → Found s key q i l
found s key q i l there here =
    let same : Some there.living ≡ Some l = sym there.live ∙ here in
    let one : there.living ≡ l = cc in
    record { receiver = there.receiver; here = subst (λ (x : Living). slice_get x.receivers i ≡ Some there.receiver) one there.here; is = there.is }

pub take_from_stands : (s : Hubbing) (key : ConnKey) (q i : ℕ) (l after : Living) (result : Result (Parcel × List Datagram) HubNo) (h : List Entry) → Shaped s → ReceiverIs s key q i → slice_get s.live q ≡ Some l → TakesAt i l after result
    → Stands s h → Stands (with_query s q after) (h ++ take_from_entry key result ∷ [])
take_from_stands s key q i l after result h shaped there here takes stands =
    let it = found s key q i l there here in
    let same : Some it.receiver ≡ Some takes.old = sym it.here ∙ takes.here in
    let one : it.receiver ≡ takes.old = cc in
    subst (λ x. Stands (with_query s q x) (h ++ take_from_entry key result ∷ [])) (sym takes.is)
    (subst (λ k. Stands (with_query s q (with_receiver l i takes.new)) (h ++ take_from_entry k result ∷ [])) (ap (λ (r : Receiving). r.end.key) (sym one) ∙ it.is)
    (took s h q i l takes.old takes.new result shaped stands here takes.here takes.does))

pub halt_stands : (s : Hubbing) (key : ConnKey) (q i : ℕ) (l after : Living) (result : Result (List Datagram) HubNo) (h : List Entry) → Shaped s → ReceiverIs s key q i → slice_get s.live q ≡ Some l → HaltsAt i l after result
    → Stands s h → Stands (with_query s q after) (h ++ halt_entry key result ∷ [])
halt_stands s key q i l after result h shaped there here halts stands =
    let it = found s key q i l there here in
    let same : Some it.receiver ≡ Some halts.old = sym it.here ∙ halts.here in
    let one : it.receiver ≡ halts.old = cc in
    subst (λ x. Stands (with_query s q x) (h ++ halt_entry key result ∷ [])) (sym halts.is)
    (subst (λ k. Stands (with_query s q (with_receiver l i halts.new)) (h ++ halt_entry k result ∷ [])) (ap (λ (r : Receiving). r.end.key) (sym one) ∙ it.is)
    (halted s h q i l halts.old halts.new result shaped stands here halts.here halts.does))

-- ---- the hub is what it always is

-- a query with its senders is of its hub still
pub of_hub_with : (s : Hubbing) (l m : Living) → IsOfHub (place_in s) s.tick l → IsLiving m → m.number ≡ l.number → m.ends ≡ l.ends → m.senders ≡ l.senders → IsOfHub (place_in s) s.tick m
of_hub_with s l m of_hub living number ends senders =
    record {
      living = living;
      ends = subst (λ n. AreEnds (place_in s) n m.ends) (sym number) (subst (λ x. AreEnds (place_in s) l.number x) (sym ends) of_hub.ends);
      ours = subst (λ x. AllByRecursion (IsOurs (place_in s)) x) (sym ends) of_hub.ours;
      settings = subst (λ x. AllByRecursion (λ (o : TimedState). o.sending.settings ≡ s.settings) x) (sym senders) of_hub.settings;
      tick_is = subst (λ x. AllByRecursion (λ (o : TimedState). o.now ≡ s.tick) x) (sym senders) of_hub.tick_is;
    }

-- the hub with such a query is what a hub always is
pub hub_at : (Is : Receiving → Receiving → Type 0) (s : Hubbing) (table : Table) (q i : ℕ) (l after : Living) → IsHub s table → slice_get s.live q ≡ Some l → (at : AtReceiver Is i l after) → at.new.end ≡ at.old.end → IsHub (with_query s q after) table
hub_at Is s table q i l after is here at end =
    let of_hub = all_at (IsOfHub (place_in s) s.tick) s.live q l is.each here in
    let living : IsLiving after = subst IsLiving (sym at.is) (receiver_living l i at.old at.new of_hub.living at.here end) in
    let number : after.number ≡ l.number = ap (λ (x : Living). x.number) at.is in
    let ends : after.ends ≡ l.ends = ap (λ (x : Living). x.ends) at.is in
    hub_with s table q l after is here number ends (of_hub_with s l after of_hub living number ends (ap (λ (x : Living). x.senders) at.is))

-- where it is refused, the hub is as it was
pub take_err : (s : Hubbing) (q i : ℕ) (l after : Living) (result : Result (Parcel × List Datagram) HubNo) → slice_get s.live q ≡ Some l → TakesAt i l after result → OnErr result (with_query s q after ≡ s)
take_err s q i l after (Ok r) here at = tt
take_err s q i l after (Err why) here at = ap (λ x. with_query s q x) at.is ∙ as_it_was s q i l at.old at.new here at.here (same at.does)
  where
    same : Takes at.old at.new (Err why) → at.new ≡ at.old
    same (NoRoom is equal) = equal
    same (Waits is equal empty goes) = equal
    same (Done is equal over goes) = equal
    same (Hands parcel d is hands goes takes) = absurd (let bad : Err why ≡ Ok (parcel, d ∷ []) = is in cc)

pub halt_err : (s : Hubbing) (q i : ℕ) (l after : Living) (result : Result (List Datagram) HubNo) → slice_get s.live q ≡ Some l → HaltsAt i l after result → OnErr result (with_query s q after ≡ s)
halt_err s q i l after (Ok r) here at = tt
halt_err s q i l after (Err why) here at = ap (λ x. with_query s q x) at.is ∙ as_it_was s q i l at.old at.new here at.here (same at.does)
  where
    same : HaltsOne at.old at.new (Err why) → at.new ≡ at.old
    same (NoRoomToHalt is equal) = equal
    same (HaltsIt told is halts goes) = absurd (let bad : Err why ≡ Ok (list_of told) = is in cc)

-- the query at this place is the one that was looked at there
pub query_here : (s now : Hubbing) (key : ConnKey) (q i : ℕ) (l : Living) → s ≡ now → ReceiverIs now key q i → l ≡ get_or s.live q l → slice_get s.live q ≡ Some l
query_here s now key q i l same there is =
    let at : slice_get s.live q ≡ Some there.living = ap (λ (x : Hubbing). slice_get x.live q) same ∙ there.live in
    at ∙ ap Some (sym (is ∙ get_or_from_slice_get s.live q there.living l at))

-- and has the receiver
pub receiver_here : (s now : Hubbing) (key : ConnKey) (q i : ℕ) (l : Living) → s ≡ now → ReceiverIs now key q i → l ≡ get_or s.live q l → i < length l.receivers
receiver_here s now key q i l same there is =
    let it = found s key q i l (subst (λ x. ReceiverIs x key q i) (sym same) there) (query_here s now key q i l same there is) in
    slice_get_within l.receivers i it.receiver it.here
