-- A hub stands on with takes from any sender of a motion.
use Rattle.std.proofs.Common.{◌≡◌, ◌≢◌, ℕ, ◌<◌, ℤ, List, [], ◌∷◌, ◌++◌, set, length, true, false, ◌==◌, Option, Some, None, Result, Ok, Err, refl, ap, sym, ◌∙◌, subst, inl, inr, ◌⊎◌, slice_get, get_or, position, length-set, true≢false}
use Rattle.std.specs.Prelude.{OnErr, ◌≤ℤ◌}
use Rattle.std.specs.List.{Contains}
use Rattle.std.proofs.lemmas.Option.{slice_get_within, get_or_from_slice_get}
use Rattle.std.proofs.lemmas.Bool.Decides.{Decides-eqb}
use Rattle.std.proofs.lemmas.Map.Keys.{apart_from_distinct}
use Rattle.ic_base.specs.declared.keys.ConnEnd.{ConnEnd}
use Rattle.ic_base.specs.declared.datagram.Datagram.{Datagram}
use Rattle.ic_base.specs.declared.datagram.Parcel.{Parcel}
use Rattle.ic_conntab.specs.Table.{Table}
use Rattle.ic_law.specs.declared.history.HubAsk.TheVariants.{Begin, Take, Clear}
use Rattle.ic_law.specs.declared.history.HubReply.TheVariants.{Took}
use Rattle.ic_law.specs.declared.history.HubNo.{HubNo}
use Rattle.ic_law.specs.declared.history.HubNo.TheVariants as no
use Rattle.ic_law.specs.declared.history.Entry.{Entry}
use Rattle.ic_law.specs.Points.{IsEnded}
use Rattle.ic_law.specs.Receiving.{IsTaking, IsNext}
use Rattle.ic_law.specs.Arriving.{IsOfMotion, IsReady as IsReadyIn, LastServed, ComesBefore, AnswersTakeAny, AllOver, NoneReady, Serves, unknown}
use Rattle.ic_conntab.specs.Ends.{receiving_ends, motions_of, receivers_of}
use Rattle.ic_conntab.proofs.Named.{ends_have_their_sides, motions_are_received, motions_differ, receivers_have_the_motion}
use Rattle.ic_receiver.specs.Receiving.{Receiving, IsEmpty, IsOver, IsReady, HandsOver}
use Rattle.ic_recvring.specs.Ring.{front_of}
use Rattle.ic_receiver.specs.Standing.{Stands as ReceiverStands, StandsOn, TakesNow}
use Rattle.ic_hub_laws.specs.Entries.{OfTake, NoMemory, UnknownTake, RefusedTake}
use Rattle.ic_hub_laws.proofs.Served.{served_before, served_now}
use Rattle.ic_hub_laws.proofs.Beside.{set_cases}
use Rattle.ic_hub.specs.Hubbing.{Hubbing, Living, IsLiving, IsOfHub, IsHub, place_in}
use Rattle.ic_hub.specs.Standing.{Stands}
use Rattle.ic_hub.specs.Entries.{take_entry}
use Rattle.ic_hub.specs.Taking.{Takes, NoRoom, Waits, Done, Hands, NobodyReady, ComesFirst, rank_of, Refuses, AllDone, OneOpen, served_by, TakesAny, Nobody, Somebody}
use Rattle.ic_hub.proofs.Places.{Shaped, all_at, map_at, at_contains, contains_at, end_of_receiver, receiver_of, number_of, apart_or_same, some_one}
use Rattle.ic_hub.proofs.Shape.{hub_with}
use Rattle.ic_hub.proofs.Found.{position_none, position_some}
use Rattle.ic_hub.proofs.Receivers.{set_same, living_serving, take_end}
use Rattle.ic_hub.proofs.Choosing.{rank_first}
use Rattle.ic_hub.proofs.Taking.{end_here, told_with, emits_none, as_it_was, of_hub_with}
use Rattle.ic_hub.proofs.Moving.{with_receiver, with_query, has_end, nought_stands, receiver_moved}

-- ---- the receivers of a motion

-- the live query at this place, whose motion this is
pub record AtMotion (s : Hubbing) (query motion q m : ℕ) (l : Living) : Type 0 where
  pub here : slice_get s.live q ≡ Some l
  pub number : l.number ≡ query
  pub motion_is : slice_get (motions_of l.ends) m ≡ Some motion

-- a receiving end of the query that has the motion is of it
end_of_motion : (s : Hubbing) (h : List Entry) (query motion q : ℕ) (l : Living) (end : ConnEnd) → Shaped s → Stands s h → slice_get s.live q ≡ Some l → l.number ≡ query → Contains l.ends end → end.sending ≡ false → end.key.motion ≡ motion
    → IsOfMotion query motion end h
end_of_motion s h query motion q l end shaped stands here number has receives motion_is =
    let there = has_end s h q l end shaped stands here has in
    record {
      here = record { ends = l.ends; live = (stands.live end.key.query l.ends).1 (record { at = q; living = l; here = here; number = number_of s q l end shaped here has; ends_are = refl }); stands = has };
      receiving = receives;
      query_is = sym (number_of s q l end shaped here has) ∙ number;
      motion_is = motion_is;
    }

-- so is the end of each receiver at a place of the motion
of_motion : (s : Hubbing) (h : List Entry) (query motion q place : ℕ) (l : Living) (r : Receiving) → Shaped s → Stands s h → slice_get s.live q ≡ Some l → l.number ≡ query → Contains (receivers_of l.ends motion) place → slice_get l.receivers place ≡ Some r
    → IsOfMotion query motion r.end h
of_motion s h query motion q place l r shaped stands here number among at =
    let living = shaped.living q l here in
    let its = end_of_receiver l place r living at in
    let named = (receivers_have_the_motion l.ends motion place).0 among in
    let stood : slice_get (receiving_ends l.ends) place ≡ Some r.end = ap (λ xs. slice_get xs place) (sym living.receivers) ∙ map_at (λ (x : Receiving). x.end) l.receivers place r at in
    let same : named.0 ≡ r.end = some_one named.0 r.end (sym named.1 ∙ stood) in
    end_of_motion s h query motion q l r.end shaped stands here number its.has its.side_is (ap (λ (e : ConnEnd). e.key.motion) (sym same) ∙ named.2)

-- the receiver of an end of the motion
record ReceiverAt (l : Living) (motion : ℕ) (end : ConnEnd) : Type 0 where
  pub place : ℕ
  pub receiver : Receiving
  pub among : Contains (receivers_of l.ends motion) place
  pub at : slice_get l.receivers place ≡ Some receiver
  pub is : receiver.end ≡ end

-- each end of the motion is of the query, and has its receiver at a place of the motion
receiver_at_motion : (s : Hubbing) (h : List Entry) (query motion q : ℕ) (l : Living) (end : ConnEnd) → Shaped s → Stands s h → slice_get s.live q ≡ Some l → l.number ≡ query → IsOfMotion query motion end h → ReceiverAt l motion end
receiver_at_motion s h query motion q l end shaped stands here number of =
    let among = (stands.live end.key.query of.here.ends).0 of.here.live in
    let place = shaped.apart among.at q among.living l among.here here (among.number ∙ of.query_is ∙ sym number) in
    let same : among.living ≡ l = some_one among.living l (sym among.here ∙ ap (λ n. slice_get s.live n) place ∙ here) in
    let has : Contains l.ends end = subst (λ (x : Living). Contains x.ends end) same (subst (λ x. Contains x end) (sym among.ends_are) of.here.stands) in
    let living = shaped.living q l here in
    let r = receiver_of l end living has of.receiving in
    let stood : slice_get (receiving_ends l.ends) r.at ≡ Some end = ap (λ xs. slice_get xs r.at) (sym living.receivers) ∙ map_at (λ (x : Receiving). x.end) l.receivers r.at r.receiver r.here ∙ ap Some r.is in
    record { place = r.at; receiver = r.receiver; among = (receivers_have_the_motion l.ends motion r.at).1 (end, stood, of.motion_is); at = r.here; is = r.is }

-- a motion has an end
some_end : (s : Hubbing) (h : List Entry) (query motion q m : ℕ) (l : Living) → Shaped s → Stands s h → AtMotion s query motion q m l → (end : ConnEnd) × IsOfMotion query motion end h
some_end s h query motion q m l shaped stands at =
    let w = (motions_are_received l.ends motion).0 (at_contains (motions_of l.ends) m motion at.motion_is) in
    let side = (ends_have_their_sides l.ends w.0).1.0 w.1 in
    (w.0, end_of_motion s h query motion q l w.0 shaped stands at.here at.number side.0 side.1 w.2)

-- ---- takes that are refused

no_clear : (query motion other : ℕ) → Take query motion ≡ Clear other → ⊥
no_clear query motion other bad = cc

no_begin : (query motion other : ℕ) (ends : List ConnEnd) → Take query motion ≡ Begin other ends → ⊥
no_begin query motion other ends bad = cc

take_unknown : (s : Hubbing) (query motion : ℕ) (h : List Entry) → Shaped s → Stands s h → ((end : ConnEnd) → IsOfMotion query motion end h → ⊥) → Stands s (h ++ take_entry query motion (Err (unknown query motion)) ∷ [])
take_unknown s query motion h shaped stands none =
    let e : Entry = take_entry query motion (Err (unknown query motion)) in
    nought_stands s h e shaped stands (UnknownTake query motion refl none refl) (λ other ends bad begun. no_begin query motion other ends bad) refl (λ given. tt) (emits_none s e refl)

take_memory : (s : Hubbing) (query motion : ℕ) (h : List Entry) → Shaped s → Stands s h → Stands s (h ++ take_entry query motion (Err no.Memory) ∷ [])
take_memory s query motion h shaped stands =
    let e : Entry = take_entry query motion (Err no.Memory) in
    nought_stands s h e shaped stands (NoMemory (λ other bad. no_clear query motion other bad) refl) (λ other ends bad begun. no_begin query motion other ends bad) refl (λ given. tt) (emits_none s e refl)

take_refused : (s : Hubbing) (query motion : ℕ) (h : List Entry) (end : ConnEnd) (why : HubNo) → Shaped s → Stands s h → IsOfMotion query motion end h → AnswersTakeAny query motion h (Took (Err why))
    → Stands s (h ++ record { ask = Take query motion; reply = Took (Err why) } ∷ [])
take_refused s query motion h end why shaped stands of answers =
    let e : Entry = record { ask = Take query motion; reply = Took (Err why) } in
    nought_stands s h e shaped stands (RefusedTake query motion refl end of why refl answers) (λ other ends bad begun. no_begin query motion other ends bad) refl (λ given. tt) (emits_none s e refl)

-- no live query has the number
pub no_query : (s : Hubbing) (query motion : ℕ) (h : List Entry) → Shaped s → position (λ (x : Living). x.number == query) s.live ≡ None → Stands s h → Stands s (h ++ take_entry query motion (Err (unknown query motion)) ∷ [])
no_query s query motion h shaped none stands = take_unknown s query motion h shaped stands (λ end of.
    let among = (stands.live end.key.query of.here.ends).0 of.here.live in
    position_none (λ (x : Living). x.number == query) s.live none among.at among.living among.here ((Decides-eqb among.living.number query).1 (among.number ∙ of.query_is)))

-- the query has no such motion
pub no_motion : (s : Hubbing) (query motion q : ℕ) (l : Living) (h : List Entry) → Shaped s → slice_get s.live q ≡ Some l → l.number ≡ query → position (λ (m : ℕ). m == motion) (motions_of l.ends) ≡ None → Stands s h
    → Stands s (h ++ take_entry query motion (Err (unknown query motion)) ∷ [])
no_motion s query motion q l h shaped here number none stands = take_unknown s query motion h shaped stands (λ end of.
    let r = receiver_at_motion s h query motion q l end shaped stands here number of in
    let living = shaped.living q l here in
    let its = end_of_receiver l r.place r.receiver living r.at in
    let has = contains_at (motions_of l.ends) motion ((motions_are_received l.ends motion).1 (r.receiver.end, (ends_have_their_sides l.ends r.receiver.end).1.1 (its.has, its.side_is), ap (λ (x : ConnEnd). x.key.motion) r.is ∙ of.motion_is)) in
    position_none (λ (m : ℕ). m == motion) (motions_of l.ends) none has.0 motion has.1 ((Decides-eqb motion motion).1 refl))

-- none of the motion is ready
nobody_stands : (s : Hubbing) (h : List Entry) (query motion q m : ℕ) (l : Living) (why : HubNo) → Shaped s → Stands s h → AtMotion s query motion q m l → NobodyReady l.receivers (receivers_of l.ends motion)
    → Refuses l.receivers (receivers_of l.ends motion) why → Stands s (h ++ take_entry query motion (Err why) ∷ [])
nobody_stands s h query motion q m l why shaped stands at nobody (AllDone done is) =
    let w = some_end s h query motion q m l shaped stands at in
    subst (λ x. Stands s (h ++ take_entry query motion (Err x) ∷ [])) (sym is)
    (take_refused s query motion h w.0 no.Ended shaped stands w.1 (AllOver (λ end of.
    let r = receiver_at_motion s h query motion q l end shaped stands at.here at.number of in
    subst (λ (x : ConnEnd). IsEnded x.key h) r.is (done r.place r.receiver r.among r.at s.settings h ((stands.each q l at.here).receivers r.place r.receiver r.at))) refl))
nobody_stands s h query motion q m l why shaped stands at nobody (OneOpen place r among here goes_on is) =
    let of = of_motion s h query motion q place l r shaped stands at.here at.number among here in
    subst (λ x. Stands s (h ++ take_entry query motion (Err x) ∷ [])) (sym is)
    (take_refused s query motion h r.end no.Empty shaped stands of
    (NoneReady r.end of (λ ended. goes_on s.settings h ((stands.each q l at.here).receivers place r here) ended) (λ end ready.
    let x = receiver_at_motion s h query motion q l end shaped stands at.here at.number ready.of_motion in
    nobody x.place x.receiver x.among x.at s.settings h ((stands.each q l at.here).receivers x.place x.receiver x.at)
    (λ ended. ready.goes_on (subst (λ (y : ConnEnd). IsEnded y.key h) x.is ended)) ready.packet (subst (λ (y : ConnEnd). IsNext y.key h ready.packet) (sym x.is) ready.next)) refl))

-- ---- a take that serves one

-- a receiver that is ready neither waits nor is done
not_empty : (r : Receiving) → IsReady r → IsEmpty r → ⊥
not_empty r ready empty =
    let rings : Some ready.ring ≡ Some empty.ring = sym ready.runs ∙ empty.runs in
    let same : ready.ring ≡ empty.ring = cc in
    let bad : Some ready.packet ≡ None = sym ready.front ∙ ap front_of same ∙ empty.front in
    cc

not_over : (r : Receiving) → IsReady r → IsOver r → ⊥
not_over r ready (inl whole) = let bad : false ≡ true = sym ready.goes_on ∙ whole in cc
not_over r ready (inr none) = let bad : Some ready.ring ≡ None = sym ready.runs ∙ none in cc

-- two places have two motions
motions_apart : (ends : List ConnEnd) (i j a b : ℕ) → slice_get (motions_of ends) i ≡ Some a → slice_get (motions_of ends) j ≡ Some b → i ≢ j → a ≡ b → ⊥
motions_apart ends i j a b ai bj other same = elim (apart_or_same i j) [
  | inl less ↦ by i j a b less ai bj same
  | inr rest ↦ elim rest [ inl more ↦ by j i b a more bj ai (sym same) | inr equal ↦ other equal ]
]
  where
    by : (k n x y : ℕ) → k < n → slice_get (motions_of ends) k ≡ Some x → slice_get (motions_of ends) n ≡ Some y → x ≡ y → ⊥
    by k n x y less xk yn equal =
        let apart = apart_from_distinct (λ m p. m == p) (motions_of ends) k n 0 (motions_differ ends) less (slice_get_within (motions_of ends) n y yn) in
        let first = get_or_from_slice_get (motions_of ends) k x 0 xk in
        let second = get_or_from_slice_get (motions_of ends) n y 0 yn in
        true≢false (sym ((Decides-eqb (get_or (motions_of ends) k 0) (get_or (motions_of ends) n 0)).1 (first ∙ equal ∙ sym second)) ∙ apart)

module _ (s : Hubbing) (h : List Entry) (query motion q m place : ℕ) (l : Living) (old new : Receiving) (last : Option ℤ) (rank : ℤ) (parcel : Parcel) (d : Datagram)
    (shaped : Shaped s) (stands : Stands s h) (at : AtMotion s query motion q m l) (served : slice_get l.served m ≡ Some last) (first : ComesFirst l.receivers (receivers_of l.ends motion) last place rank)
    (here : slice_get l.receivers place ≡ Some old) (hands : HandsOver old parcel d new) (goes : StandsOn old new (IsTaking old.end.key parcel (d ∷ []))) (takes : TakesNow old parcel d) where
  abbrev pub taken_from : Entry
  taken_from = record { ask = Take query motion; reply = Took (Ok (parcel, d ∷ [])) }

  of_it : IsOfMotion query motion old.end h
  of_it = of_motion s h query motion q place l old shaped stands at.here at.number first.among here

  it_stands : ReceiverStands s.settings old h
  it_stands = (stands.each q l at.here).receivers place old here

  -- it has its next parcel
  it_is_ready : IsReadyIn query motion h old.end
  it_is_ready = let now = takes s.settings h it_stands in record { of_motion = of_it; goes_on = now.0; packet = now.1.packet; next = now.1.next }

  -- none that has one comes before it
  it_is_first : (other : ConnEnd) → IsReadyIn query motion h other → (old.end.key.from ≡ other.key.from) ⊎ ComesBefore last old.end.key.from other.key.from
  it_is_first other ready =
      let x = receiver_at_motion s h query motion q l other shaped stands at.here at.number ready.of_motion in
      let same : first.receiver ≡ old = some_one first.receiver old (sym first.here ∙ here) in
      let mine = end_here s q place l old shaped at.here here in
      let its = end_here s q x.place l x.receiver shaped at.here x.at in
      elim (first.first x.place x.receiver x.among x.at) [
        | inl never ↦ absurd (never s.settings h ((stands.each q l at.here).receivers x.place x.receiver x.at)
            (λ ended. ready.goes_on (subst (λ (y : ConnEnd). IsEnded y.key h) x.is ended)) ready.packet (subst (λ (y : ConnEnd). IsNext y.key h ready.packet) (sym x.is) ready.next))
        | inr le ↦ subst (λ (y : ConnEnd). (old.end.key.from ≡ y.key.from) ⊎ ComesBefore last old.end.key.from y.key.from) x.is
            (rank_first last old.end.key.from x.receiver.end.key.from mine.ours.from its.ours.from
            (subst (λ (r : Receiving). rank_of last r.end.key.from ≤ℤ rank_of last x.receiver.end.key.from) same (subst (λ n. n ≤ℤ rank_of last x.receiver.end.key.from) first.rank_is le)))
      ]

  was_served : LastServed query motion h last
  was_served = subst (λ n. LastServed n motion h last) at.number ((stands.each q l at.here).served m motion last at.motion_is served)

  answers : AnswersTakeAny query motion h (Took (Ok (parcel, d ∷ [])))
  answers = Serves old.end it_is_ready last was_served it_is_first parcel (d ∷ []) (takes s.settings h it_stands).1 refl

  same_take : (a b x y : ℕ) → Take a b ≡ Take x y → (a ≡ x) × (b ≡ y)
  same_take a b x y e = (cc, cc)

  -- it is served last then, and of other motions who was
  serves : (k other : ℕ) (then : Option ℤ) → slice_get (motions_of l.ends) k ≡ Some other → slice_get (set l.served m (Some parcel.from)) k ≡ Some then → LastServed l.number other (h ++ taken_from ∷ []) then
  serves k other then motion_at found = elim (set_cases l.served m k (Some parcel.from) then found) [
    | inl w ↦ (
        let same : motion ≡ other = some_one motion other (sym at.motion_is ∙ ap (λ n. slice_get (motions_of l.ends) n) w.0 ∙ motion_at) in
        subst (λ t. LastServed l.number other (h ++ taken_from ∷ []) t) (sym w.1)
        (served_now l.number other h taken_from parcel.from (record { parcel = parcel; ds = d ∷ []; ask = ap (λ n. Take n motion) (sym at.number) ∙ ap (λ n. Take l.number n) same; reply = refl; sender = refl })))
    | inr w ↦ served_before l.number other h taken_from then
        (λ from is. motions_apart l.ends m k motion other at.motion_is motion_at w.0 (same_take query motion l.number other is.ask).1)
        ((stands.each q l at.here).served k other then motion_at w.1)
  ]

  pub served_stands : Stands (with_query s q (record (with_receiver l place new) { served = set l.served m (Some parcel.from) })) (h ++ taken_from ∷ [])
  served_stands =
      let end = end_here s q place l old shaped at.here here in
      let told = told_with s old new parcel d end hands in
      receiver_moved s h taken_from q place l old new (set l.served m (Some parcel.from)) shaped stands at.here here (ap (λ (r : Receiving). r.end) hands.after_is) (length-set l.served m (Some parcel.from))
      (goes s.settings h taken_from (record { ask = (sym of_it.query_is, sym of_it.motion_is, hands.hands.from); reply = refl }) it_stands)
      (record {
        asks = OfTake refl end.ours.session (end.ours.receives_here end.receives) parcel (d ∷ []) (ap (λ n. Take n motion) (sym of_it.query_is) ∙ ap (λ n. Take old.end.key.query n) (sym of_it.motion_is)) refl hands.hands.from;
        replied = inr refl;
        emitted = λ x found. (told x found).packet;
      })
      serves (λ given. tt) (λ x found. (told x found).formed)
      (λ a b asked. let w = same_take query motion a b asked in subst (λ n. AnswersTakeAny n b h (Took (Ok (parcel, d ∷ [])))) w.0 (subst (λ n. AnswersTakeAny query n h (Took (Ok (parcel, d ∷ [])))) w.1 answers))

-- ---- a take of any

-- the query with the segments that were served last as they were is as it was
unserved : (s : Hubbing) (q place : ℕ) (l taken : Living) (old new : Receiving) → slice_get s.live q ≡ Some l → slice_get l.receivers place ≡ Some old → taken ≡ record l { receivers = set l.receivers place new } → new ≡ old
    → with_query s q (record taken { served = l.served }) ≡ s
unserved s q place l taken old new here at is same = ap (λ x. with_query s q (record x { served = l.served })) is ∙ as_it_was s q place l old new here at same

take_stands : (s : Hubbing) (h : List Entry) (query motion q m place : ℕ) (l taken : Living) (last : Option ℤ) (rank : ℤ) (result : Result (Parcel × List Datagram) HubNo) → Shaped s → Stands s h → AtMotion s query motion q m l → slice_get l.served m ≡ Some last
    → ComesFirst l.receivers (receivers_of l.ends motion) last place rank → (old new : Receiving) → slice_get l.receivers place ≡ Some old → taken ≡ record l { receivers = set l.receivers place new } → Takes old new result
    → Stands (with_query s q (record taken { served = served_by l.served m result })) (h ++ take_entry query motion result ∷ [])
take_stands s h query motion q m place l taken last rank result shaped stands at served first old new here is (NoRoom fails same) =
    subst (λ r. Stands (with_query s q (record taken { served = served_by l.served m r })) (h ++ take_entry query motion r ∷ [])) (sym fails)
    (subst (λ t. Stands t (h ++ take_entry query motion (Err no.Memory) ∷ [])) (sym (unserved s q place l taken old new at.here here is same)) (take_memory s query motion h shaped stands))
take_stands s h query motion q m place l taken last rank result shaped stands at served first old new here is (Waits fails same empty goes) =
    absurd (not_empty old (subst IsReady (some_one first.receiver old (sym first.here ∙ here)) first.ready) empty)
take_stands s h query motion q m place l taken last rank result shaped stands at served first old new here is (Done fails same over goes) =
    absurd (not_over old (subst IsReady (some_one first.receiver old (sym first.here ∙ here)) first.ready) over)
take_stands s h query motion q m place l taken last rank result shaped stands at served first old new here is (Hands parcel d given hands goes takes) =
    subst (λ r. Stands (with_query s q (record taken { served = served_by l.served m r })) (h ++ take_entry query motion r ∷ [])) (sym given)
    (subst (λ t. Stands (with_query s q (record t { served = set l.served m (Some parcel.from) })) (h ++ take_entry query motion (Ok (parcel, d ∷ [])) ∷ [])) (sym is)
    (served_stands s h query motion q m place l old new last rank parcel d shaped stands at served first here hands goes takes))

pub take_any_stands : (s : Hubbing) (query motion q m : ℕ) (l after : Living) (result : Result (Parcel × List Datagram) HubNo) (h : List Entry) → Shaped s → AtMotion s query motion q m l → TakesAny m motion l after result
    → Stands s h → Stands (with_query s q after) (h ++ take_entry query motion result ∷ [])
take_any_stands s query motion q m l after result h shaped at (Nobody why nobody refuses is same) stands =
    subst (λ x. Stands (with_query s q x) (h ++ take_entry query motion result ∷ [])) (sym same)
    (subst (λ t. Stands t (h ++ take_entry query motion result ∷ [])) (sym (ap (λ xs. record s { live = xs }) (set_same s.live q l at.here)))
    (subst (λ r. Stands s (h ++ take_entry query motion r ∷ [])) (sym is) (nobody_stands s h query motion q m l why shaped stands at nobody refuses)))
take_any_stands s query motion q m l after result h shaped at (Somebody last place rank taken served first takes is) stands =
    subst (λ x. Stands (with_query s q x) (h ++ take_entry query motion result ∷ [])) (sym is)
    (take_stands s h query motion q m place l taken last rank result shaped stands at served first takes.old takes.new takes.here takes.is takes.does)

-- where it is refused, the hub is as it was
pub take_any_err : (s : Hubbing) (motion q m : ℕ) (l after : Living) (result : Result (Parcel × List Datagram) HubNo) → slice_get s.live q ≡ Some l → TakesAny m motion l after result → OnErr result (with_query s q after ≡ s)
take_any_err s motion q m l after (Ok r) here takes = tt
take_any_err s motion q m l after (Err why) here (Nobody refused nobody refuses is same) = ap (λ x. with_query s q x) same ∙ ap (λ xs. record s { live = xs }) (set_same s.live q l here)
take_any_err s motion q m l after (Err why) here (Somebody last place rank taken served first takes is) =
    ap (λ x. with_query s q x) is ∙ unserved s q place l taken takes.old takes.new here takes.here takes.is (same takes.does)
  where
    same : Takes takes.old takes.new (Err why) → takes.new ≡ takes.old
    same (NoRoom fails equal) = equal
    same (Waits fails equal empty goes) = equal
    same (Done fails equal over goes) = equal
    same (Hands parcel d given hands goes now) = absurd (let bad : Err why ≡ Ok (parcel, d ∷ []) = given in cc)

-- the hub is what a hub always is
pub take_any_hub : (s : Hubbing) (table : Table) (motion q m : ℕ) (l after : Living) (result : Result (Parcel × List Datagram) HubNo) → IsHub s table → slice_get s.live q ≡ Some l → TakesAny m motion l after result → IsHub (with_query s q after) table
take_any_hub s table motion q m l after result is here (Nobody why nobody refuses fails same) =
    subst (λ x. IsHub (with_query s q x) table) (sym same) (subst (λ t. IsHub t table) (sym (ap (λ xs. record s { live = xs }) (set_same s.live q l here))) is)
take_any_hub s table motion q m l after result is here (Somebody last place rank taken served first takes are) =
    let of_hub = all_at (IsOfHub (place_in s) s.tick) s.live q l is.each here in
    let now : Living = record (with_receiver l place takes.new) { served = served_by l.served m result } in
    let same : after ≡ now = are ∙ ap (λ (x : Living). record x { served = served_by l.served m result }) takes.is in
    let living : IsLiving now = living_serving l place takes.old takes.new (served_by l.served m result) of_hub.living takes.here (take_end takes.old takes.new result takes.does) (as_many l.served m result) in
    subst (λ x. IsHub (with_query s q x) table) (sym same) (hub_with s table q l now is here refl refl (of_hub_with s l now of_hub living refl refl refl))
  where
    as_many : (served : List (Option ℤ)) (n : ℕ) (r : Result (Parcel × List Datagram) HubNo) → length (served_by served n r) ≡ length served
    as_many served n (Ok r) = length-set served n (Some r.0.from)
    as_many served n (Err why) = refl

-- ---- what is looked up

-- the query at the place of its number
pub record QueryAt (s : Hubbing) (query q : ℕ) (l : Living) : Type 0 where
  pub here : slice_get s.live q ≡ Some l
  pub number : l.number ≡ query

pub query_at : (s now : Hubbing) (query q : ℕ) (l : Living) → s ≡ now → position (λ (x : Living). x.number == query) now.live ≡ Some q → l ≡ get_or s.live q l → QueryAt s query q l
query_at s now query q l same first at =
    let p = position_some (λ (x : Living). x.number == query) now.live q first in
    let there : slice_get s.live q ≡ Some p.0 = ap (λ (x : Hubbing). slice_get x.live q) same ∙ p.1 in
    let it : l ≡ p.0 = at ∙ get_or_from_slice_get s.live q p.0 l there in
    record { here = there ∙ ap Some (sym it); number = ap (λ (x : Living). x.number) it ∙ (Decides-eqb p.0.number query).0 p.2 }

-- and the motion at the place of its number, of the query that was looked at there
pub at_motion : (s : Hubbing) (query motion q m : ℕ) (l looked seen : Living) → QueryAt s query q l → QueryAt s query q looked → seen ≡ looked → position (λ (n : ℕ). n == motion) (motions_of seen.ends) ≡ Some m → AtMotion s query motion q m l
at_motion s query motion q m l looked seen at also same first =
    let p = position_some (λ (n : ℕ). n == motion) (motions_of seen.ends) m first in
    let one : seen ≡ l = same ∙ some_one looked l (sym also.here ∙ at.here) in
    record { here = at.here; number = at.number; motion_is = ap (λ (x : Living). slice_get (motions_of x.ends) m) (sym one) ∙ p.1 ∙ ap Some ((Decides-eqb p.0 motion).0 p.2) }
