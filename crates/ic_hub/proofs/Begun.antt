-- A hub stands on where a query begins, or is refused.
use Rattle.std.proofs.Common.{◌≡◌, ◌≢◌, ◌<◌, ◌≤◌, ℕ, zero, suc, List, [], ◌∷◌, ◌++◌, map, length, take, drop, Bool, true, false, cond, ◌==◌, Option, Some, None}
use Rattle.std.proofs.Common.{Result, Ok, Err, refl, ap, sym, ◌∙◌, subst, arith, inl, inr, ◌⊎◌, slice_get, is_some, replicate}
use Rattle.std.specs.Result.{IsErrAnd}
use Rattle.std.specs.List.{AllByRecursion, Contains}
use Rattle.std.proofs.lemmas.List.{take-append-drop}
use Rattle.std.proofs.lemmas.Bool.{leb-false}
use Rattle.std.proofs.lemmas.Bool.Decides.{Decides-eqb}
use Rattle.ic_base.specs.declared.keys.ConnKey.{ConnKey}
use Rattle.ic_base.specs.declared.keys.ConnEnd.{ConnEnd}
use Rattle.ic_base.specs.declared.keys.BeginNo.{BeginNo}
use Rattle.ic_base.specs.declared.keys.BeginNo.TheVariants.{Old, Twice, Memory}
use Rattle.ic_base.specs.declared.settings.Settings.{Settings}
use Rattle.ic_conntab.specs.Table.{Table, MayBegin, is_past}
use Rattle.ic_conntab.specs.Table as table
use Rattle.ic_conntab.proofs.Entries.{get_put}
use Rattle.ic_law.specs.declared.history.HubAsk.TheVariants.{Begin, Take, Clear}
use Rattle.ic_law.specs.declared.history.Entry.{Entry}
use Rattle.ic_law.specs.Points.{Place, IsLive}
use Rattle.ic_law.specs.Asking.{AreEnds}
use Rattle.ic_law.specs.Arriving.{IsLiveQuery, IsOld, LastServed, IsGreatestLeft, IsOldOne, IsTwice, IsNew}
use Rattle.ic_law.specs.Clock.{clock_of}
use Rattle.ic_law.proofs.Lists.{Contains-none}
use Rattle.ic_conntab.specs.Ends.{sending_ends, receiving_ends, keys_of, motions_of}
use Rattle.ic_conntab.proofs.Named.{ends_have_their_sides}
use Rattle.ic_timed_sender.specs.Timed.{TimedState, begun_at}
use Rattle.ic_timed_sender.specs.Standing.{Stands as SenderStands}
use Rattle.ic_receiver.specs.Receiving as receiving
use Rattle.ic_receiver.specs.Standing.{Stands as ReceiverStands}
use Rattle.ic_sender.proofs.Passing.{clock_stays}
use Rattle.ic_hub_laws.specs.Entries.{IsOurs, EndsKeep, IsNought, Begins}
use Rattle.ic_hub_laws.specs.Laws.{AboutNone, IsAhead}
use Rattle.ic_hub_laws.proofs.Lives.{lives_from, old_upto}
use Rattle.ic_hub_laws.proofs.Ahead.{stays_ahead, ahead_goes_on}
use Rattle.ic_hub_laws.proofs.Whole.{law_goes_on, emission_goes_on, still_in_order}
use Rattle.ic_hub_laws.proofs.Nought.{quiet}
use Rattle.ic_hub_laws.proofs.NoughtPoints.{nought_point}
use Rattle.ic_hub_laws.proofs.Served.{served_before, served_nobody}
use Rattle.ic_hub.specs.Hubbing.{Hubbing, Living, IsOfHub, keys_in, Ascend, IsHub, place_in}
use Rattle.ic_hub.specs.Entries.{begin_entry}
use Rattle.ic_hub.specs.Standing.{LivingStands, IsTop, IsAmong, Stands}
use Rattle.ic_hub.specs.Beginning.{IsBetween, SendsFirst, ReceivesFirst, IsBegun}
use Rattle.ic_hub.proofs.Places.{Shaped, all_at, at_map, at_contains, contains_at, apart_or_same}
use Rattle.ic_hub.proofs.Shape.{shape_of}
use Rattle.ic_hub.proofs.Found.{HasKeys, Live, NotLive, has_keys}
use Rattle.ic_hub.proofs.Moving.{same_queries, ends_keep, top_same, nought_living, nought_stands, memory_stands}
use Rattle.ic_hub.proofs.Beginning.{senders_are, receivers_are, begun_living}

-- ---- one more in a list

inserted_at : {A : Type 0} (front back : List A) (x : A) (i : ℕ) (y : A) → slice_get (front ++ x ∷ back) i ≡ Some y → (y ≡ x) ⊎ ((j : ℕ) × (slice_get (front ++ back) j ≡ Some y))
inserted_at [] back x zero y h = let same : x ≡ y = cc in inl (sym same)
inserted_at [] back x (suc i) y h = inr (i, h)
inserted_at (f ∷ fs) back x zero y h = inr (zero, h)
inserted_at (f ∷ fs) back x (suc i) y h = elim (inserted_at fs back x i y h) [ inl s ↦ inl s | inr w ↦ inr (suc w.0, w.1) ]

inserted_here : {A : Type 0} (front back : List A) (x : A) → slice_get (front ++ x ∷ back) (length front) ≡ Some x
inserted_here [] back x = refl
inserted_here (f ∷ fs) back x = inserted_here fs back x

inserted_on : {A : Type 0} (front back : List A) (x : A) (j : ℕ) (y : A) → slice_get (front ++ back) j ≡ Some y → (i : ℕ) × (slice_get (front ++ x ∷ back) i ≡ Some y)
inserted_on [] back x j y h = (suc j, h)
inserted_on (f ∷ fs) back x zero y h = (zero, h)
inserted_on (f ∷ fs) back x (suc j) y h = let w = inserted_on fs back x j y h in (suc w.0, w.1)

all_inserted : {A : Type 0} (P : A → Type 0) (front back : List A) (x : A) → AllByRecursion P (front ++ back) → P x → AllByRecursion P (front ++ x ∷ back)
all_inserted P [] back x all here = (here, all)
all_inserted P (f ∷ fs) back x all here = (all.0, all_inserted P fs back x all.1 here)

-- ---- its number is another than theirs

back_at : {A : Type 0} (front back : List A) (i : ℕ) (y : A) → slice_get back i ≡ Some y → (j : ℕ) × (slice_get (front ++ back) j ≡ Some y)
back_at [] back i y h = (i, h)
back_at (f ∷ fs) back i y h = let w = back_at fs back i y h in (suc w.0, w.1)

no_number : (live : List Living) (query : ℕ) → keys_in live query ≡ None → (i : ℕ) (l : Living) → slice_get live i ≡ Some l → l.number ≢ query
no_number live query none = by (has_keys live query)
  where
    by : HasKeys live query → (i : ℕ) (l : Living) → slice_get live i ≡ Some l → l.number ≢ query
    by (Live j m at number keys) i l here = let bad : Some (keys_of m.ends) ≡ None = sym keys ∙ none in cc
    by (NotLive away keys) i l here = away i l here

less_of : (m n : ℕ) → m ≤ n → n ≢ m → m < n
less_of m n le apart = elim (apart_or_same m n) [ inl l ↦ l | inr o ↦ elim o [ inl g ↦ absurd (omega (arith, le, g)) | inr same ↦ absurd (apart (sym same)) ] ]

strictly : (number : ℕ) (back : List Living) → AllByRecursion (λ (m : Living). number ≤ m.number) back → ((i : ℕ) (m : Living) → slice_get back i ≡ Some m → m.number ≢ number) → AllByRecursion (λ (m : Living). number < m.number) back
strictly number [] all apart = tt
strictly number (m ∷ ms) all apart = (less_of number m.number all.0 (apart zero m refl), strictly number ms all.1 (λ i x h. apart (suc i) x h))

ascend_inserted : (front back : List Living) (l : Living) → Ascend (front ++ back) → AllByRecursion (λ (m : Living). m.number < l.number) front → AllByRecursion (λ (m : Living). l.number < m.number) back → Ascend (front ++ l ∷ back)
ascend_inserted [] back l up before behind = (behind, up)
ascend_inserted (x ∷ xs) back l up before behind = (all_inserted (λ (m : Living). x.number < m.number) xs back l up.0 before.0, ascend_inserted xs back l up.1 before.1 behind)

rest_none : {A : Type 0} (b : Bool) (x : A) (rest : Option A) → cond b (Some x) rest ≡ None → (b ≡ true → ⊥) × (rest ≡ None)
rest_none true x rest h = let bad : Some x ≡ None = h in cc
rest_none false x rest h = (λ e. (let bad : false ≡ true = e in cc), h)

keys_inserted : (front back : List Living) (l : Living) (query : ℕ) → keys_in (front ++ back) l.number ≡ None → keys_in (front ++ l ∷ back) query ≡ cond (l.number == query) (Some (keys_of l.ends)) (keys_in (front ++ back) query)
keys_inserted [] back l query none = refl
keys_inserted (x ∷ xs) back l query none =
    let rest = rest_none (x.number == l.number) (keys_of x.ends) (keys_in (xs ++ back) l.number) none in
    let apart : x.number ≡ l.number → ⊥ = (λ same. rest.0 ((Decides-eqb x.number l.number).1 same)) in
    ap (λ r. cond (x.number == query) (Some (keys_of x.ends)) r) (keys_inserted xs back l query rest.1)
    ∙ by (x.number == query) (l.number == query) (λ a b. apart ((Decides-eqb x.number query).0 a ∙ sym ((Decides-eqb l.number query).0 b)))
  where
    by : (a b : Bool) → (a ≡ true → b ≡ true → ⊥) → cond a (Some (keys_of x.ends)) (cond b (Some (keys_of l.ends)) (keys_in (xs ++ back) query)) ≡ cond b (Some (keys_of l.ends)) (cond a (Some (keys_of x.ends)) (keys_in (xs ++ back) query))
    by true true both = absurd (both refl refl)
    by true false both = refl
    by false true both = refl
    by false false both = refl

-- ---- what is always true of it

all_from : {A : Type 0} (P : A → Type 0) (xs : List A) → ((i : ℕ) (x : A) → slice_get xs i ≡ Some x → P x) → AllByRecursion P xs
all_from P [] each = tt
all_from P (x ∷ xs) each = (each zero x refl, all_from P xs (λ i y h. each (suc i) y h))

all_sent : (P : TimedState → Type 0) (settings : Settings) (tick : ℕ) (es : List ConnEnd) → ((e : ConnEnd) → P (begun_at e settings tick)) → AllByRecursion P (map (λ (e : ConnEnd). begun_at e settings tick) es)
all_sent P settings tick [] each = tt
all_sent P settings tick (e ∷ es) each = (each e, all_sent P settings tick es each)

pub begun_of_hub : (place : Place) (tick query : ℕ) (ends : List ConnEnd) (l : Living) → AreEnds place query ends → IsBegun place.settings tick query ends l → IsOfHub place tick l
begun_of_hub place tick query ends l are begun =
    let senders : l.senders ≡ map (λ (e : ConnEnd). begun_at e place.settings tick) (sending_ends ends) = begun.senders ∙ senders_are place.settings tick ends in
    let ours : AllByRecursion (IsOurs place) ends = all_from (IsOurs place) ends (λ i e h.
    let its = are.each e (at_contains ends i e h) in
    let between = all_at IsBetween ends i e begun.between h in
    record { session = its.session; sends_here = its.sends_here; receives_here = its.receives_here; from = between.from; to = between.to }) in
    record {
      living = begun_living place.settings tick query ends l begun.ends_are begun.senders begun.receivers (begun.served ∙ ap (λ es. replicate (length (motions_of es)) None) (sym begun.ends_are));
      ends = subst (λ n. AreEnds place n l.ends) (sym begun.number_is) (subst (AreEnds place query) (sym begun.ends_are) are);
      ours = subst (AllByRecursion (IsOurs place)) (sym begun.ends_are) ours;
      settings = subst (AllByRecursion (λ (o : TimedState). o.sending.settings ≡ place.settings)) (sym senders) (all_sent (λ (o : TimedState). o.sending.settings ≡ place.settings) place.settings tick (sending_ends ends) (λ e. refl));
      tick_is = subst (AllByRecursion (λ (o : TimedState). o.now ≡ tick)) (sym senders) (all_sent (λ (o : TimedState). o.now ≡ tick) place.settings tick (sending_ends ends) (λ e. refl));
    }

-- the hub with it, and with the table in which it began
pub hub_begun : (s : Hubbing) (t : Table) (front back : List Living) (l : Living) (query : ℕ) (ends : List ConnEnd) → front ++ back ≡ s.live → IsHub s t → MayBegin t query → AreEnds (place_in s) query ends → IsBegun s.settings s.tick query ends l
    → AllByRecursion (λ (m : Living). m.number < query) front → AllByRecursion (λ (m : Living). query ≤ m.number) back → IsHub (record s { live = front ++ l ∷ back }) (table.begun t query (keys_of ends))
hub_begun s t front back l query ends cut is may are begun before behind =
    let none : keys_in (front ++ back) query ≡ None = ap (λ xs. keys_in xs query) cut ∙ sym (is.tabled query) ∙ may.1 in
    let none' : keys_in (front ++ back) l.number ≡ None = ap (λ n. keys_in (front ++ back) n) begun.number_is ∙ none in
    let apart : (i : ℕ) (m : Living) → slice_get back i ≡ Some m → m.number ≢ query = (λ i m h. let w = back_at front back i m h in no_number (front ++ back) query none w.0 m w.1) in
    record {
      session = is.session;
      top = is.top;
      tabled = λ q.
          get_put t.live query (keys_of ends) q
          ∙ ap (λ r. cond (query == q) (Some (keys_of ends)) r) (is.tabled q ∙ ap (λ xs. keys_in xs q) (sym cut))
          ∙ ap (λ n. cond (n == q) (Some (keys_of ends)) (keys_in (front ++ back) q)) (sym begun.number_is)
          ∙ ap (λ es. cond (l.number == q) (Some (keys_of es)) (keys_in (front ++ back) q)) (sym begun.ends_are)
          ∙ sym (keys_inserted front back l q none');
      ascend = ascend_inserted front back l (subst Ascend (sym cut) is.ascend)
          (subst (λ n. AllByRecursion (λ (m : Living). m.number < n) front) (sym begun.number_is) before)
          (subst (λ n. AllByRecursion (λ (m : Living). n < m.number) back) (sym begun.number_is) (strictly query back behind apart));
      each = all_inserted (IsOfHub (place_in s) s.tick) front back l (subst (AllByRecursion (IsOfHub (place_in s) s.tick)) (sym cut) is.each) (begun_of_hub (place_in s) s.tick query ends l are begun);
      checked = is.checked;
      last = is.last;
    }

-- ---- what the history says of its number

young : (top : Option ℕ) (query : ℕ) (h : List Entry) → is_past top query ≡ false → IsTop top h → IsOld query h → ⊥
young None query h past is old = Contains-none old.0 (subst (λ xs. Contains xs old.0) is old.1)
young (Some t) query h past is old =
    let le = (old_upto h t query is).0 old in
    let gt = leb-false query t past in
    omega (arith, le, gt)

dead : (s : Hubbing) (h : List Entry) (query : ℕ) → Stands s h → keys_in s.live query ≡ None → IsLiveQuery query h → ⊥
dead s h query stands none live =
    let a = (stands.live query live.0).0 live.1 in
    no_number s.live query none a.at a.living a.here a.number

-- ---- it stands

replicated_at : {A : Type 0} (n : ℕ) (x : A) (i : ℕ) (y : A) → slice_get (replicate n x) i ≡ Some y → y ≡ x
replicated_at zero x i y h = let bad : None ≡ Some y = h in cc
replicated_at (suc n) x zero y h = let same : x ≡ y = cc in sym same
replicated_at (suc n) x (suc i) y h = replicated_at n x i y h

about_new : (s : Hubbing) (h : List Entry) (query : ℕ) (ends : List ConnEnd) → (IsOld query h → ⊥) → (IsLiveQuery query h → ⊥) → IsNought (place_in s) h (begin_entry query ends (Ok tt))
about_new s h query ends fresh away = Begins query ends refl (IsNew fresh away refl)

new_stands : (s : Hubbing) (h : List Entry) (query : ℕ) (ends : List ConnEnd) (l : Living) → Stands s h → AreEnds (place_in s) query ends → IsBegun s.settings s.tick query ends l → (IsOld query h → ⊥) → (IsLiveQuery query h → ⊥)
    → LivingStands s.settings l (h ++ begin_entry query ends (Ok tt) ∷ [])
new_stands s h query ends l stands are begun fresh away =
    let e : Entry = begin_entry query ends (Ok tt) in
    let about : IsNought (place_in s) h e = about_new s h query ends fresh away in
    let clock : clock_of (h ++ e ∷ []) ≡ s.tick = clock_stays h e (quiet (place_in s) h e about).still ∙ stands.clock in
    let ahead : (end : ConnEnd) → Contains ends end → IsAhead end (h ++ e ∷ []) = (λ end has.
    let is = (are.each end has).query_is in
    let none : IsLiveQuery end.key.query h → ⊥ = (λ live. away (subst (λ n. IsLiveQuery n h) is live)) in
    let new : IsOld end.key.query h → ⊥ = (λ old. fresh (subst (λ n. IsOld n h) is old)) in
    stays_ahead (place_in s) h e end (AboutNone about) none (stands.goes.ahead end none new)) in
    record {
      senders = λ i o at.
          let w = at_map (λ (x : ConnEnd). begun_at x s.settings s.tick) (sending_ends ends) i o (ap (λ xs. slice_get xs i) (sym (begun.senders ∙ senders_are s.settings s.tick ends)) ∙ at) in
          let its = (ends_have_their_sides ends w.0).0.0 (at_contains (sending_ends ends) i w.0 w.1) in
          let c = contains_at ends w.0 its.0 in
          let first = all_at (SendsFirst s.settings s.tick) ends c.0 w.0 begun.sends c.1 in
          subst (λ x. SenderStands x (h ++ e ∷ [])) w.2 (first its.1 (h ++ e ∷ []) clock (ahead w.0 its.0).sends);
      receivers = λ i r at.
          let w = at_map (λ (x : ConnEnd). receiving.begun x s.settings) (receiving_ends ends) i r (ap (λ xs. slice_get xs i) (sym (begun.receivers ∙ receivers_are s.settings ends)) ∙ at) in
          let its = (ends_have_their_sides ends w.0).1.0 (at_contains (receiving_ends ends) i w.0 w.1) in
          let c = contains_at ends w.0 its.0 in
          let first = all_at (ReceivesFirst s.settings) ends c.0 w.0 begun.receives c.1 in
          subst (λ x. ReceiverStands s.settings x (h ++ e ∷ [])) w.2 (first its.1 (h ++ e ∷ []) (ahead w.0 its.0).receives);
      served = λ k motion last m at.
          let none : last ≡ None = replicated_at (length (motions_of ends)) None k last (ap (λ xs. slice_get xs k) (sym begun.served) ∙ at) in
          subst (λ o. LastServed l.number motion (h ++ e ∷ []) o) (sym none) (subst (λ n. LastServed n motion (h ++ e ∷ []) None) (sym begun.number_is)
          (served_before query motion h e None (λ from served. let bad : Begin query ends ≡ Take query motion = served.ask in cc) (served_nobody query motion h stands.goes.ahead away fresh)));
    }

-- the hub stands with it
begun_stands_on : (s : Hubbing) (h : List Entry) (front back : List Living) (l : Living) (query : ℕ) (ends : List ConnEnd) → front ++ back ≡ s.live → Shaped s → Stands s h → AreEnds (place_in s) query ends → IsBegun s.settings s.tick query ends l
    → (IsOld query h → ⊥) → (IsLiveQuery query h → ⊥) → Stands (record s { live = front ++ l ∷ back }) (h ++ begin_entry query ends (Ok tt) ∷ [])
begun_stands_on s h front back l query ends cut shaped stands are begun fresh away =
    let e : Entry = begin_entry query ends (Ok tt) in
    let about : IsNought (place_in s) h e = about_new s h query ends fresh away in
    let keeps : EndsKeep (place_in s) h e = ends_keep s s h e shaped (record { session = refl; at = refl; settings = refl }) (same_queries s.live) stands (λ i x here. nought_living s h e i x shaped stands here about) in
    let from = lives_from query ends h e refl refl in
    record {
      goes = record {
        law = law_goes_on (place_in s) h e stands.goes.law (nought_point (place_in s) h e about (record { law = stands.goes.law; keeps = keeps; allowed = λ m. are; formed = λ d c. absurd (Contains-none d c) }));
        emission = emission_goes_on (place_in s) h e stands.goes.emission keeps (still_in_order s.settings h e (quiet (place_in s) h e about).still);
        ahead = ahead_goes_on (place_in s) h e (AboutNone about) stands.goes.ahead;
      };
      clock = clock_stays h e (quiet (place_in s) h e about).still ∙ stands.clock;
      top = top_same s.top h (h ++ e ∷ []) from.left stands.top;
      live = λ q es. (
        λ live. elim ((from.live q es).0 live) [
          | inl w ↦ record { at = length front; living = l; here = inserted_here front back l; number = begun.number_is ∙ sym w.0; ends_are = begun.ends_are ∙ sym w.1 }
          | inr old ↦ (
              let a = (stands.live q es).0 old in
              let w = inserted_on front back l a.at a.living (ap (λ xs. slice_get xs a.at) cut ∙ a.here) in
              record { at = w.0; living = a.living; here = w.1; number = a.number; ends_are = a.ends_are })
        ],
        λ a. (from.live q es).1 (back_to q es a (inserted_at front back l a.at a.living a.here)),
      );
      each = λ i x here. elim (inserted_at front back l i x here) [
        | inl w ↦ subst (λ y. LivingStands s.settings y (h ++ e ∷ [])) (sym w) (new_stands s h query ends l stands are begun fresh away)
        | inr w ↦ nought_living s h e w.0 x shaped stands (ap (λ xs. slice_get xs w.0) (sym cut) ∙ w.1) about
      ];
    }
  where
    back_to : (q : ℕ) (es : List ConnEnd) (a : IsAmong (front ++ l ∷ back) q es) → (a.living ≡ l) ⊎ ((j : ℕ) × (slice_get (front ++ back) j ≡ Some a.living)) → ((q ≡ query) × (es ≡ ends)) ⊎ IsLive q es h
    back_to q es a (inl w) = inl (sym a.number ∙ ap (λ (y : Living). y.number) w ∙ begun.number_is, sym a.ends_are ∙ ap (λ (y : Living). y.ends) w ∙ begun.ends_are)
    back_to q es a (inr w) = inr ((stands.live q es).1 (record { at = w.0; living = a.living; here = ap (λ xs. slice_get xs w.0) (sym cut) ∙ w.1; number = a.number; ends_are = a.ends_are }))

pub begun_stands : (s : Hubbing) (t : Table) (h : List Entry) (front back : List Living) (l : Living) (query : ℕ) (ends : List ConnEnd) → front ++ back ≡ s.live → IsHub s t → MayBegin t query → Stands s h → AreEnds (place_in s) query ends
    → IsBegun s.settings s.tick query ends l → Stands (record s { live = front ++ l ∷ back }) (h ++ begin_entry query ends (Ok tt) ∷ [])
begun_stands s t h front back l query ends cut is may stands are begun =
    begun_stands_on s h front back l query ends cut (shape_of s t is) stands are begun
    (young s.top query h (ap (λ o. is_past o query) (sym is.top) ∙ may.0) stands.top)
    (dead s h query stands (sym (is.tabled query) ∙ may.1))

-- ---- it is refused

-- where a query is live in the hub, it is so in the history
live_then : (s : Hubbing) (h : List Entry) (query : ℕ) → Stands s h → is_some (keys_in s.live query) ≡ true → IsLiveQuery query h
live_then s h query stands has = by (has_keys s.live query)
  where
    by : HasKeys s.live query → IsLiveQuery query h
    by (Live i l at number keys) = (l.ends, (stands.live query l.ends).1 (record { at = i; living = l; here = at; number = number; ends_are = refl }))
    by (NotLive away keys) = let bad : false ≡ true = ap is_some (sym keys) ∙ has in cc

pub refused_stands : (s : Hubbing) (t : Table) (h : List Entry) (query : ℕ) (ends : List ConnEnd) (refusal : BeginNo) → IsHub s t → Stands s h → AreEnds (place_in s) query ends → ((top : ℕ) → refusal ≡ Old top → table.IsOld t query top)
    → (refusal ≡ Twice → (is_past t.top query ≡ false) × table.IsLive t query) → Stands s (h ++ begin_entry query ends (Err refusal) ∷ [])
refused_stands s t h query ends (Old top) is stands are old twice =
    let o = old top refl in
    let greatest : IsGreatestLeft h top = subst (λ x. IsTop x h) (sym is.top ∙ o.0) stands.top in
    nought_stands s h (begin_entry query ends (Err (Old top))) (shape_of s t is) stands (Begins query ends refl (IsOldOne top greatest o.1 refl)) (λ q es asked begun. let bad : false ≡ true = begun in cc) refl (λ m. are)
    (λ d c. absurd (Contains-none d c))
refused_stands s t h query ends Twice is stands are old twice =
    let w = twice refl in
    let fresh = young s.top query h (ap (λ o. is_past o query) (sym is.top) ∙ w.0) stands.top in
    let live = live_then s h query stands (ap is_some (sym (is.tabled query)) ∙ w.1) in
    nought_stands s h (begin_entry query ends (Err Twice)) (shape_of s t is) stands (Begins query ends refl (IsTwice fresh live refl)) (λ q es asked begun. let bad : false ≡ true = begun in cc) refl (λ m. are)
    (λ d c. absurd (Contains-none d c))
refused_stands s t h query ends Memory is stands are old twice =
    memory_stands s h (Begin query ends) (shape_of s t is) stands (λ q same. let bad : Begin query ends ≡ Clear q = same in cc) refl

pub refused_memory : (s : Hubbing) (t : Table) (h : List Entry) (query : ℕ) (ends : List ConnEnd) → IsHub s t → Stands s h → AreEnds (place_in s) query ends → Stands s (h ++ begin_entry query ends (Err Memory) ∷ [])
refused_memory s t h query ends is stands are =
    refused_stands s t h query ends Memory is stands are (λ top same. let bad : Memory ≡ Old top = same in cc) (λ same. let bad : Memory ≡ Twice = same in cc)

-- a refusal that is passed on is the same
pub passed_on : {A E : Type 0} (r : Result A E) (refusal : E) → IsErrAnd r (λ e. e ≡ refusal) → r ≡ Err refusal
passed_on (Ok a) refusal is = absurd is
passed_on (Err e) refusal is = ap Err is

-- ---- as a call does it

-- a query enters the table and the live ones, where its number belongs
pub record Enters (s : Hubbing) (t now : Table) (query : ℕ) (ends : List ConnEnd) (place : ℕ) (keys : List ConnKey) (reserved seen live : List Living) (l : Living) : Type 0 where
  pub may : MayBegin t query
  pub now_is : now ≡ table.begun t query keys
  pub keys_are : keys ≡ keys_of ends
  pub reserved_is : reserved ≡ s.live
  pub seen_is : seen ≡ reserved
  pub before : AllByRecursion (λ (m : Living). m.number < query) (take place seen)
  pub behind : AllByRecursion (λ (m : Living). query ≤ m.number) (drop place seen)
  pub live_is : live ≡ take place reserved ++ l ∷ drop place reserved
  pub begun : IsBegun s.settings s.tick query ends l

pub enters_hub : (s : Hubbing) (t now : Table) (query : ℕ) (ends : List ConnEnd) (place : ℕ) (keys : List ConnKey) (reserved seen live : List Living) (l : Living) → IsHub s t → AreEnds (place_in s) query ends
    → Enters s t now query ends place keys reserved seen live l → IsHub (record s { top = now.top; live = live }) now
enters_hub s t now query ends place keys reserved seen live l is are enters =
    let front = take place s.live in
    let back = drop place s.live in
    let seen_live : seen ≡ s.live = enters.seen_is ∙ enters.reserved_is in
    let now_is : now ≡ table.begun t query (keys_of ends) = enters.now_is ∙ ap (λ ks. table.begun t query ks) enters.keys_are in
    let live_is : live ≡ front ++ l ∷ back = enters.live_is ∙ ap (λ xs. take place xs ++ l ∷ drop place xs) enters.reserved_is in
    let base : IsHub (record s { live = front ++ l ∷ back }) (table.begun t query (keys_of ends)) =
    hub_begun s t front back l query ends (take-append-drop place s.live) is enters.may are enters.begun
    (subst (λ xs. AllByRecursion (λ (m : Living). m.number < query) (take place xs)) seen_live enters.before)
    (subst (λ xs. AllByRecursion (λ (m : Living). query ≤ m.number) (drop place xs)) seen_live enters.behind) in
    subst (λ xs. IsHub (record s { top = now.top; live = xs }) now) (sym live_is)
    (subst (λ (u : Table). IsHub (record s { top = u.top; live = front ++ l ∷ back }) u) (sym now_is)
    (subst (λ o. IsHub (record s { top = o; live = front ++ l ∷ back }) (table.begun t query (keys_of ends))) (sym is.top) base))

pub enters_stands : (s : Hubbing) (t now : Table) (h : List Entry) (query : ℕ) (ends : List ConnEnd) (place : ℕ) (keys : List ConnKey) (reserved seen live : List Living) (l : Living) → IsHub s t → Stands s h → AreEnds (place_in s) query ends
    → Enters s t now query ends place keys reserved seen live l → Stands (record s { top = now.top; live = live }) (h ++ begin_entry query ends (Ok tt) ∷ [])
enters_stands s t now h query ends place keys reserved seen live l is stands are enters =
    let front = take place s.live in
    let back = drop place s.live in
    let e : Entry = begin_entry query ends (Ok tt) in
    let live_is : live ≡ front ++ l ∷ back = enters.live_is ∙ ap (λ xs. take place xs ++ l ∷ drop place xs) enters.reserved_is in
    let top : s.top ≡ now.top = sym is.top ∙ sym (ap (λ (u : Table). u.top) enters.now_is) in
    let base : Stands (record s { live = front ++ l ∷ back }) (h ++ e ∷ []) = begun_stands s t h front back l query ends (take-append-drop place s.live) is enters.may stands are enters.begun in
    subst (λ xs. Stands (record s { top = now.top; live = xs }) (h ++ e ∷ [])) (sym live_is)
    (subst (λ o. Stands (record s { top = o; live = front ++ l ∷ back }) (h ++ e ∷ [])) top base)
