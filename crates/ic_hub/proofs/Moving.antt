-- A hub stands on with an entry about one end, where that end's connection does.
use Rattle.std.proofs.Common.{◌≡◌, ◌≢◌, ℕ, zero, suc, ℤ, List, [], ◌∷◌, ◌++◌, set, map, Bool, true, false, ◌==◌, Option, Some, None, Ok, refl, ap, sym, ◌∙◌}
use Rattle.std.proofs.Common.{subst, arith, inl, inr, ◌⊎◌, slice_get, cond, ◌&&◌, length}
use Rattle.std.specs.List.{AllByRecursion, Contains}
use Rattle.std.proofs.lemmas.Bool.Decides.{Decides-eqb, Decides-int_eq}
use Rattle.ic_base.specs.declared.keys.ConnKey.{ConnKey}
use Rattle.ic_base.specs.declared.keys.ConnEnd.{ConnEnd}
use Rattle.ic_base.specs.declared.settings.Settings.{Settings}
use Rattle.ic_base.specs.declared.datagram.Datagram.{Datagram}
use Rattle.ic_law.specs.declared.history.HubAsk.TheVariants.{Begin, Put, Finish, Take, TakeFrom, Halt, Arrive, Clear}
use Rattle.ic_law.specs.declared.history.HubReply.TheVariants.{Took, Memory}
use Rattle.ic_law.specs.declared.history.Entry.{Entry}
use Rattle.ic_law.specs.History.{emits}
use Rattle.ic_law.specs.Taking.{takes, parcel_for, parcels_from}
use Rattle.ic_law.specs.Queries.{was_begun, leaves, left_by, left_of}
use Rattle.ic_law.specs.Points.{Place, place_at, IsFormed}
use Rattle.ic_law.specs.Asking.{IsAllowed}
use Rattle.ic_law.specs.declared.history.HubAsk.{HubAsk}
use Rattle.ic_law.proofs.Lists.{Contains-none}
use Rattle.ic_law.specs.Arriving.{IsUnknownKey, IsServed, LastServed, AnswersTakeAny}
use Rattle.ic_law.specs.Clock.{clock_of}
use Rattle.ic_law.specs.Hub.{HubPoint}
use Rattle.ic_law.specs.Receiving.{Receives}
use Rattle.ic_conntab.specs.Ends.{motions_of}
use Rattle.ic_receiver.specs.Receiving.{Receiving}
use Rattle.ic_receiver.specs.Standing.{Stands as ReceiverStands}
use Rattle.ic_receiver.proofs.Others.{stands_silent}
use Rattle.ic_sender.specs.Standing.{KeepsSending}
use Rattle.ic_timed_sender.specs.Timed.{TimedState, SameEnd}
use Rattle.ic_timed_sender.specs.Standing.{Stands as SenderStands}
use Rattle.ic_timed_sender.proofs.Silence.{others_pass}
use Rattle.ic_sender.proofs.Passing.{clock_stays}
use Rattle.ic_hub_laws.specs.Entries.{IsOurs, HasEnd, EndsKeep, AsksOf, OfPut, OfFinish, OfTakeFrom, OfHalt, OfTake, OfArrive, Concerns, IsNought, NoMemory}
use Rattle.ic_hub_laws.specs.Living.{BeginsNone, LivesOn}
use Rattle.ic_hub_laws.specs.Laws.{TicksInOrder, IsAbout, AboutEnd, AboutNone, Goes}
use Rattle.ic_hub_laws.proofs.Concerned.{still_then, concerned_passes}
use Rattle.ic_hub_laws.proofs.Lives.{lives_on}
use Rattle.ic_hub_laws.proofs.Ahead.{ahead_goes_on}
use Rattle.ic_hub_laws.proofs.Whole.{law_goes_on, emission_goes_on, still_in_order}
use Rattle.ic_hub_laws.proofs.ConcernedPoints.{concerned_point}
use Rattle.ic_hub_laws.proofs.Nought.{IsQuiet, quiet, nought_passes}
use Rattle.ic_hub_laws.proofs.NoughtPoints.{nought_point}
use Rattle.ic_hub_laws.proofs.Served.{served_before}
use Rattle.ic_hub_laws.proofs.Beside.{set_cases}
use Rattle.ic_hub.specs.Hubbing.{Hubbing, Living, IsLiving, IsOfHub, place_in}
use Rattle.ic_hub.specs.Standing.{LivingStands, IsTop, IsAmong, Stands}
use Rattle.ic_hub.specs.Calls.{SamePlace}
use Rattle.ic_hub.specs.Finding.{HasNo}
use Rattle.ic_hub.proofs.Places.{Shaped, sender_of, receiver_of, end_of_sender, end_of_receiver, number_of, one_sender, one_receiver, all_at, contains_at}

-- ---- lists

-- what stood at a place stands there still, or was replaced
pub set_on : {A : Type 0} (xs : List A) (i j : ℕ) (d b : A) → slice_get xs j ≡ Some b → ((i ≡ j) × (slice_get (set xs i d) j ≡ Some d)) ⊎ ((i ≢ j) × (slice_get (set xs i d) j ≡ Some b))
set_on [] i j d b h = let bad : None ≡ Some b = h in cc
set_on (x ∷ xs) zero zero d b h = inl (refl, refl)
set_on (x ∷ xs) zero (suc j) d b h = inr (λ e. absurd (omega (arith, e)), h)
set_on (x ∷ xs) (suc i) zero d b h = inr (λ e. absurd (omega (arith, e)), h)
set_on (x ∷ xs) (suc i) (suc j) d b h = elim (set_on xs i j d b h) [ inl w ↦ inl (ap suc w.0, w.1) | inr w ↦ inr (λ e. w.0 (omega (arith, e)), w.1) ]

-- ---- places

pub same_place : (s new : Hubbing) → SamePlace s new → place_in new ≡ place_in s
same_place s new p = ap (λ x. place_at x new.at new.settings) p.session ∙ ap (λ x. place_at s.session x new.settings) p.at ∙ ap (λ x. place_at s.session s.at x) p.settings

-- ---- the same queries

-- each query is there still, in its place, with its ends, and there is no other
pub record SameQueries (live new : List Living) : Type 0 where
  pub on : (i : ℕ) (l : Living) → slice_get live i ≡ Some l → (m : Living) × (slice_get new i ≡ Some m) × (m.number ≡ l.number) × (m.ends ≡ l.ends)
  pub back : (i : ℕ) (m : Living) → slice_get new i ≡ Some m → (l : Living) × (slice_get live i ≡ Some l) × (m.number ≡ l.number) × (m.ends ≡ l.ends)

pub same_queries : (live : List Living) → SameQueries live live
same_queries live = record { on = λ i l at. (l, at, refl, refl); back = λ i l at. (l, at, refl, refl) }

-- one query is replaced by one with its number and its ends
pub one_replaced : (live : List Living) (q : ℕ) (l m : Living) → slice_get live q ≡ Some l → m.number ≡ l.number → m.ends ≡ l.ends → SameQueries live (set live q m)
one_replaced live q l m here number ends =
    record {
      on = λ i x at. elim (set_on live q i m x at) [
        | inl w ↦ (let same = is_l i x at w.0 in (m, w.1, number ∙ ap (λ (y : Living). y.number) same, ends ∙ ap (λ (y : Living). y.ends) same))
        | inr w ↦ (x, w.1, refl, refl)
      ];
      back = λ i x at. elim (set_cases live q i m x at) [
        | inl w ↦ (l, ap (λ n. slice_get live n) (sym w.0) ∙ here, ap (λ (y : Living). y.number) w.1 ∙ number, ap (λ (y : Living). y.ends) w.1 ∙ ends)
        | inr w ↦ (x, w.1, refl, refl)
      ];
    }
  where
    is_l : (i : ℕ) (x : Living) → slice_get live i ≡ Some x → q ≡ i → l ≡ x
    is_l i x at e = let both : Some l ≡ Some x = sym here ∙ ap (λ n. slice_get live n) e ∙ at in cc

pub among_on : (live new : List Living) (query : ℕ) (ends : List ConnEnd) → SameQueries live new → IsAmong live query ends → IsAmong new query ends
among_on live new query ends same a =
    let w = same.on a.at a.living a.here in
    record { at = a.at; living = w.0; here = w.1; number = w.2 ∙ a.number; ends_are = w.3 ∙ a.ends_are }

pub among_back : (live new : List Living) (query : ℕ) (ends : List ConnEnd) → SameQueries live new → IsAmong new query ends → IsAmong live query ends
among_back live new query ends same a =
    let w = same.back a.at a.living a.here in
    record { at = a.at; living = w.0; here = w.1; number = sym w.2 ∙ a.number; ends_are = sym w.3 ∙ a.ends_are }

-- ---- each end keeps its points

abbrev pub AllStand : Settings → List Living → List Entry → Type 0
AllStand settings live h = (i : ℕ) (l : Living) → slice_get live i ≡ Some l → LivingStands settings l h

pub ends_keep : (s new : Hubbing) (h : List Entry) (e : Entry) → Shaped new → SamePlace s new → SameQueries s.live new.live → Stands s h → AllStand new.settings new.live (h ++ e ∷ []) → EndsKeep (place_in s) h e
ends_keep s new h e shaped place same stands all =
    record {
      sending = λ end sends here.
          let a = among_on s.live new.live end.key.query here.ends same ((stands.live end.key.query here.ends).0 here.live) in
          let has : Contains a.living.ends end = subst (λ x. Contains x end) (sym a.ends_are) here.stands in
          let o = sender_of a.living end (shaped.living a.at a.living a.here) has sends in
          let keeps = (((all a.at a.living a.here).senders o.at o.sender o.here).sends).law h e [] refl in
          let own : o.sender.sending.settings ≡ s.settings = all_at _ a.living.senders o.at o.sender (shaped.of_hub a.at a.living a.here).settings o.here ∙ place.settings in
          subst (λ x. KeepsSending x end h e) own (subst (λ x. KeepsSending o.sender.sending.settings x h e) o.is keeps);
      receiving = λ end receives here.
          let a = among_on s.live new.live end.key.query here.ends same ((stands.live end.key.query here.ends).0 here.live) in
          let has : Contains a.living.ends end = subst (λ x. Contains x end) (sym a.ends_are) here.stands in
          let r = receiver_of a.living end (shaped.living a.at a.living a.here) has receives in
          let keeps = ((all a.at a.living a.here).receivers r.at r.receiver r.here).law h e [] refl in
          subst (λ x. Receives x end h e) place.settings (subst (λ x. Receives new.settings x h e) r.is keeps);
    }

-- ---- the whole stands

pub top_same : (top : Option ℕ) (h now : List Entry) → left_of now ≡ left_of h → IsTop top h → IsTop top now
top_same None h now left is = left ∙ is
top_same (Some t) h now left is = record { bound = λ n c. is.bound n (subst (λ x. Contains x n) left c); here = subst (λ x. Contains x t) (sym left) is.here }

-- what a hub has with one more entry that begins and leaves no query
pub record Adds (s new : Hubbing) (h : List Entry) (e : Entry) : Type 0 where
  pub place : SamePlace s new
  pub shaped : Shaped new
  pub same : SameQueries s.live new.live
  pub stand : AllStand new.settings new.live (h ++ e ∷ [])
  pub top : new.top ≡ s.top
  pub clock : clock_of (h ++ e ∷ []) ≡ new.tick
  pub lives : LivesOn h e
  pub about : IsAbout (place_in s) h e
  pub point : EndsKeep (place_in s) h e → HubPoint (place_in s) h e
  pub order : EndsKeep (place_in s) h e → TicksInOrder s.settings h e

pub adds : (s new : Hubbing) (h : List Entry) (e : Entry) → Stands s h → Adds s new h e → Stands new (h ++ e ∷ [])
adds s new h e stands a =
    let keeps = ends_keep s new h e a.shaped a.place a.same stands a.stand in
    let goes : Goes (place_in s) (h ++ e ∷ []) =
    record {
      law = law_goes_on (place_in s) h e stands.goes.law (a.point keeps);
      emission = emission_goes_on (place_in s) h e stands.goes.emission keeps (a.order keeps);
      ahead = ahead_goes_on (place_in s) h e a.about stands.goes.ahead;
    } in
    record {
      goes = subst (λ p. Goes p (h ++ e ∷ [])) (sym (same_place s new a.place)) goes;
      clock = a.clock;
      top = subst (λ t. IsTop t (h ++ e ∷ [])) (sym a.top) (top_same s.top h (h ++ e ∷ []) a.lives.left stands.top);
      live = λ query ends. (
        λ live. among_on s.live new.live query ends a.same ((stands.live query ends).0 ((a.lives.live query ends).0 live)),
        λ among. (a.lives.live query ends).1 ((stands.live query ends).1 (among_back s.live new.live query ends a.same among)),
      );
      each = a.stand;
    }

-- ---- an entry about one end

-- the ask neither begins nor leaves a query
begins_none : (place : Place) (c : ConnKey) (side : Bool) (e : Entry) → AsksOf place c side e → (query : ℕ) (ends : List ConnEnd) → e.ask ≡ Begin query ends → was_begun e.reply ≡ true → ⊥
begins_none place c side e (OfPut is chunk asked) query ends h b = let bad : Put c chunk ≡ Begin query ends = sym asked ∙ h in cc
begins_none place c side e (OfFinish is asked) query ends h b = let bad : Finish c ≡ Begin query ends = sym asked ∙ h in cc
begins_none place c side e (OfTakeFrom is asked) query ends h b = let bad : TakeFrom c ≡ Begin query ends = sym asked ∙ h in cc
begins_none place c side e (OfHalt is asked) query ends h b = let bad : Halt c ≡ Begin query ends = sym asked ∙ h in cc
begins_none place c side e (OfTake is session to parcel ds asked replied from) query ends h b = let bad : Take c.query c.motion ≡ Begin query ends = sym asked ∙ h in cc
begins_none place c side e (OfArrive d asked packet directed) query ends h b = let bad : Arrive d ≡ Begin query ends = sym asked ∙ h in cc

leaves_none : (place : Place) (c : ConnKey) (side : Bool) (e : Entry) → AsksOf place c side e → leaves e ≡ []
leaves_none place c side e (OfPut is chunk asked) = ap (λ a. left_by a e.reply) asked
leaves_none place c side e (OfFinish is asked) = ap (λ a. left_by a e.reply) asked
leaves_none place c side e (OfTakeFrom is asked) = ap (λ a. left_by a e.reply) asked
leaves_none place c side e (OfHalt is asked) = ap (λ a. left_by a e.reply) asked
leaves_none place c side e (OfTake is session to parcel ds asked replied from) = ap (λ a. left_by a e.reply) asked
leaves_none place c side e (OfArrive d asked packet directed) = ap (λ a. left_by a e.reply) asked

-- the end of a connection is here, and one of this place
pub has_end : (s : Hubbing) (h : List Entry) (q : ℕ) (l : Living) (end : ConnEnd) → Shaped s → Stands s h → slice_get s.live q ≡ Some l → Contains l.ends end → HasEnd (place_in s) end.key end.sending h
has_end s h q l end shaped stands here has =
    let number = number_of s q l end shaped here has in
    let live = (stands.live end.key.query l.ends).1 (record { at = q; living = l; here = here; number = number; ends_are = refl }) in
    let at = contains_at l.ends end has in
    record {
      end = end;
      here = record { ends = l.ends; live = live; stands = has };
      key = refl;
      side_is = refl;
      ours = all_at _ l.ends at.0 end (shaped.of_hub q l here).ours at.1;
    }

-- one query is another now, with its number and its ends, and stands with such an entry
pub record QueryMoves (s : Hubbing) (h : List Entry) (e : Entry) (q : ℕ) (l m : Living) : Type 0 where
  pub here : slice_get s.live q ≡ Some l
  pub number : m.number ≡ l.number
  pub ends : m.ends ≡ l.ends
  pub living : IsLiving m
  pub of_hub : IsOfHub (place_in s) s.tick m
  pub stands : LivingStands s.settings m (h ++ e ∷ [])

abbrev pub with_query : Hubbing → ℕ → Living → Hubbing
with_query s q m = record s { live = set s.live q m }

-- the hub with it has its shape still
pub shaped_with : (s : Hubbing) (q : ℕ) (l m : Living) → Shaped s → slice_get s.live q ≡ Some l → m.number ≡ l.number → IsLiving m → IsOfHub (place_in s) s.tick m → Shaped (with_query s q m)
shaped_with s q l m shaped here number living of_hub =
    record {
      living = λ i x at. elim (set_cases s.live q i m x at) [ inl w ↦ subst IsLiving (sym w.1) living | inr w ↦ shaped.living i x w.1 ];
      of_hub = λ i x at. elim (set_cases s.live q i m x at) [ inl w ↦ subst (IsOfHub (place_in s) s.tick) (sym w.1) of_hub | inr w ↦ shaped.of_hub i x w.1 ];
      apart = λ i j a b ai bj same. elim (set_cases s.live q i m a ai) [
        | inl u ↦ elim (set_cases s.live q j m b bj) [
          | inl v ↦ sym u.0 ∙ v.0
          | inr v ↦ sym u.0 ∙ shaped.apart q j l b here v.1 (sym number ∙ ap (λ (y : Living). y.number) (sym u.1) ∙ same)
        ]
        | inr u ↦ elim (set_cases s.live q j m b bj) [
          | inl v ↦ shaped.apart i q a l u.1 here (same ∙ ap (λ (y : Living). y.number) v.1 ∙ number) ∙ v.0
          | inr v ↦ shaped.apart i j a b u.1 v.1 same
        ]
      ];
    }

-- a query of another number stands on with an entry about an end of this one
other_stands : (s : Hubbing) (h : List Entry) (e : Entry) (c : ConnKey) (side : Bool) (i : ℕ) (x : Living) → Shaped s → Stands s h → slice_get s.live i ≡ Some x → x.number ≢ c.query → Concerns (place_in s) c side e
    → ((motion : ℕ) (from : ℤ) → IsServed x.number motion e from → ⊥) → LivingStands s.settings x (h ++ e ∷ [])
other_stands s h e c side i x shaped stands here apart about unserved =
    let was = stands.each i x here in
    record {
      senders = λ k o at.
          let end = end_of_sender x k o (shaped.living i x here) at in
          let other : o.sending.end.key ≡ c → side ≡ true → ⊥ = λ same b. apart (number_of s i x o.sending.end shaped here end.has ∙ ap (λ (y : ConnKey). y.query) same) in
          others_pass o h e ((concerned_passes (place_in s) c side h e o.sending.end about).0 other).silent (was.senders k o at);
      receivers = λ k r at.
          let end = end_of_receiver x k r (shaped.living i x here) at in
          let place = contains_at x.ends r.end end.has in
          let ours = all_at (IsOurs (place_in s)) x.ends place.0 r.end (shaped.of_hub i x here).ours place.1 in
          let other : r.end.key ≡ c → side ≡ false → ⊥ = λ same b. apart (number_of s i x r.end shaped here end.has ∙ ap (λ (y : ConnKey). y.query) same) in
          stands_silent s.settings r h e ((concerned_passes (place_in s) c side h e r.end about).1 other ours.session (ours.receives_here end.side_is)) (was.receivers k r at);
      served = λ k motion last m at. served_before x.number motion h e last (unserved motion) (was.served k motion last m at);
    }

-- a take that serves a sender is of its own query
served_here : (place : Place) (c : ConnKey) (side : Bool) (e : Entry) (query motion : ℕ) (from : ℤ) → AsksOf place c side e → IsServed query motion e from → query ≡ c.query
served_here place c side e query motion from (OfPut is chunk asked) served = let bad : Put c chunk ≡ Take query motion = sym asked ∙ served.ask in cc
served_here place c side e query motion from (OfFinish is asked) served = let bad : Finish c ≡ Take query motion = sym asked ∙ served.ask in cc
served_here place c side e query motion from (OfTakeFrom is asked) served = let bad : TakeFrom c ≡ Take query motion = sym asked ∙ served.ask in cc
served_here place c side e query motion from (OfHalt is asked) served = let bad : Halt c ≡ Take query motion = sym asked ∙ served.ask in cc
served_here place c side e query motion from (OfTake is session to parcel ds asked replied f) served = let both : Take query motion ≡ Take c.query c.motion = sym served.ask ∙ asked in cc
served_here place c side e query motion from (OfArrive d asked packet directed) served = let bad : Arrive d ≡ Take query motion = sym asked ∙ served.ask in cc

-- the hub stands on with an entry about an end of the query
pub query_moved : (s : Hubbing) (h : List Entry) (e : Entry) (q : ℕ) (l m : Living) (end : ConnEnd) → Shaped s → Stands s h → QueryMoves s h e q l m → Contains l.ends end → Concerns (place_in s) end.key end.sending e
    → (e.reply ≢ Memory → IsAllowed (place_in s) h e.ask) → ((d : Datagram) → Contains (emits e) d → IsFormed (place_in s) d) → ((query motion : ℕ) → e.ask ≡ Take query motion → AnswersTakeAny query motion h e.reply)
    → Stands (with_query s q m) (h ++ e ∷ [])
query_moved s h e q l m end shaped stands moves has about allowed formed takes =
    let number = number_of s q l end shaped moves.here has in
    adds s (with_query s q m) h e stands (record {
      place = record { session = refl; at = refl; settings = refl };
      shaped = shaped_with s q l m shaped moves.here moves.number moves.living moves.of_hub;
      same = one_replaced s.live q l m moves.here moves.number moves.ends;
      stand = λ i x at. elim (set_cases s.live q i m x at) [
        | inl w ↦ subst (λ (y : Living). LivingStands s.settings y (h ++ e ∷ [])) (sym w.1) moves.stands
        | inr w ↦ (
            let apart : x.number ≢ end.key.query = λ same. w.0 (sym (shaped.apart i q x l w.1 moves.here (same ∙ sym number))) in
            other_stands s h e end.key end.sending i x shaped stands w.1 apart about (λ motion from served. apart (served_here (place_in s) end.key end.sending e x.number motion from about.asks served)))
      ];
      top = refl;
      clock = clock_stays h e (still_then (place_in s) end.key end.sending e about) ∙ stands.clock;
      lives = lives_on h e (begins_none (place_in s) end.key end.sending e about.asks) (leaves_none (place_in s) end.key end.sending e about.asks);
      about = AboutEnd end.key end.sending about (has_end s h q l end shaped stands moves.here has);
      point = λ keeps. concerned_point (place_in s) end.key end.sending h e about (has_end s h q l end shaped stands moves.here has)
          (record { law = stands.goes.law; keeps = keeps; allowed = allowed; formed = formed }) takes;
      order = λ keeps. still_in_order s.settings h e (still_then (place_in s) end.key end.sending e about);
    })

-- ---- one connection of the query

all_set : {A : Type 0} (P : A → Type 0) (xs : List A) (i : ℕ) (x : A) → AllByRecursion P xs → P x → AllByRecursion P (set xs i x)
all_set P [] i x all here = all
all_set P (y ∷ ys) zero x all here = (here, all.1)
all_set P (y ∷ ys) (suc i) x all here = (all.0, all_set P ys i x all.1 here)

map_set : {A B : Type 0} (f : A → B) (xs : List A) (i : ℕ) (x y : A) → slice_get xs i ≡ Some x → f y ≡ f x → map f (set xs i y) ≡ map f xs
map_set f [] i x y h same = refl
map_set f (z ∷ zs) zero x y h same = let is : z ≡ x = cc in ap (λ a. a ∷ map f zs) (same ∙ ap f (sym is))
map_set f (z ∷ zs) (suc i) x y h same = ap (λ rest. f z ∷ rest) (map_set f zs i x y h same)

abbrev pub with_sender : Living → ℕ → TimedState → Living
with_sender l i o = record l { senders = set l.senders i o }

abbrev pub with_receiver : Living → ℕ → Receiving → Living
with_receiver l i r = record l { receivers = set l.receivers i r }

-- a sender of the same end keeps the query whole
pub sender_living : (l : Living) (i : ℕ) (old new : TimedState) → IsLiving l → slice_get l.senders i ≡ Some old → new.sending.end ≡ old.sending.end → IsLiving (with_sender l i new)
sender_living l i old new living here same =
    record { senders = map_set (λ (o : TimedState). o.sending.end) l.senders i old new here same ∙ living.senders; receivers = living.receivers; served = living.served }

pub receiver_living : (l : Living) (i : ℕ) (old new : Receiving) → IsLiving l → slice_get l.receivers i ≡ Some old → new.end ≡ old.end → IsLiving (with_receiver l i new)
receiver_living l i old new living here same =
    record { senders = living.senders; receivers = map_set (λ (r : Receiving). r.end) l.receivers i old new here same ∙ living.receivers; served = living.served }

-- a sender with its end, its settings and its tick keeps what is always true of its query
pub sender_keeps : (place : Place) (tick : ℕ) (l : Living) (i : ℕ) (old new : TimedState) → IsLiving l → IsOfHub place tick l → slice_get l.senders i ≡ Some old → SameEnd old new → new.now ≡ old.now
    → IsLiving (with_sender l i new) × IsOfHub place tick (with_sender l i new)
sender_keeps place tick l i old new living of_hub here same tick_is =
    let keeps = sender_living l i old new living here same.end in (
      keeps,
      record {
        living = keeps;
        ends = of_hub.ends;
        ours = of_hub.ours;
        settings = all_set _ l.senders i new of_hub.settings (same.settings ∙ all_at _ l.senders i old of_hub.settings here);
        tick_is = all_set _ l.senders i new of_hub.tick_is (tick_is ∙ all_at _ l.senders i old of_hub.tick_is here);
      },
    )

pub receiver_keeps : (place : Place) (tick : ℕ) (l : Living) (i : ℕ) (old new : Receiving) → IsLiving l → IsOfHub place tick l → slice_get l.receivers i ≡ Some old → new.end ≡ old.end
    → IsLiving (with_receiver l i new) × IsOfHub place tick (with_receiver l i new)
receiver_keeps place tick l i old new living of_hub here same =
    let keeps = receiver_living l i old new living here same in
    (keeps, record { living = keeps; ends = of_hub.ends; ours = of_hub.ours; settings = of_hub.settings; tick_is = of_hub.tick_is })

-- no sender is served by what a sending end is asked
unserved : (place : Place) (c : ConnKey) (e : Entry) → AsksOf place c true e → (query motion : ℕ) (from : ℤ) → IsServed query motion e from → ⊥
unserved place c e (OfPut is chunk asked) query motion from served = let bad : Put c chunk ≡ Take query motion = sym asked ∙ served.ask in cc
unserved place c e (OfFinish is asked) query motion from served = let bad : Finish c ≡ Take query motion = sym asked ∙ served.ask in cc
unserved place c e (OfTakeFrom is asked) query motion from served = let bad : TakeFrom c ≡ Take query motion = sym asked ∙ served.ask in cc
unserved place c e (OfHalt is asked) query motion from served = let bad : Halt c ≡ Take query motion = sym asked ∙ served.ask in cc
unserved place c e (OfTake is session to parcel ds asked replied f) query motion from served = let bad : true ≡ false = is in cc
unserved place c e (OfArrive d asked packet directed) query motion from served = let bad : Arrive d ≡ Take query motion = sym asked ∙ served.ask in cc

-- nor is a take from any
takes_none : (place : Place) (c : ConnKey) (h : List Entry) (e : Entry) → AsksOf place c true e → (query motion : ℕ) → e.ask ≡ Take query motion → AnswersTakeAny query motion h e.reply
takes_none place c h e (OfPut is chunk asked) query motion w = let bad : Put c chunk ≡ Take query motion = sym asked ∙ w in cc
takes_none place c h e (OfFinish is asked) query motion w = let bad : Finish c ≡ Take query motion = sym asked ∙ w in cc
takes_none place c h e (OfTakeFrom is asked) query motion w = let bad : TakeFrom c ≡ Take query motion = sym asked ∙ w in cc
takes_none place c h e (OfHalt is asked) query motion w = let bad : Halt c ≡ Take query motion = sym asked ∙ w in cc
takes_none place c h e (OfTake is session to parcel ds asked replied f) query motion w = let bad : true ≡ false = is in cc
takes_none place c h e (OfArrive d asked packet directed) query motion w = let bad : Arrive d ≡ Take query motion = sym asked ∙ w in cc

-- the hub stands on where one sender does
pub sender_moved : (s : Hubbing) (h : List Entry) (e : Entry) (q i : ℕ) (l : Living) (old new : TimedState) → Shaped s → Stands s h → slice_get s.live q ≡ Some l → slice_get l.senders i ≡ Some old
    → SameEnd old new → new.now ≡ old.now → SenderStands new (h ++ e ∷ []) → Concerns (place_in s) old.sending.end.key true e
    → (e.reply ≢ Memory → IsAllowed (place_in s) h e.ask) → ((d : Datagram) → Contains (emits e) d → IsFormed (place_in s) d) → Stands (with_query s q (with_sender l i new)) (h ++ e ∷ [])
sender_moved s h e q i l old new shaped stands here at same tick moved about allowed formed =
    let living = shaped.living q l here in
    let keeps = sender_keeps (place_in s) s.tick l i old new living (shaped.of_hub q l here) at same tick in
    let end = end_of_sender l i old living at in
    let was = stands.each q l here in
    let about' : Concerns (place_in s) old.sending.end.key old.sending.end.sending e = subst (λ b. Concerns (place_in s) old.sending.end.key b e) (sym end.side_is) about in
    query_moved s h e q l (with_sender l i new) old.sending.end shaped stands (record {
      here = here;
      number = refl;
      ends = refl;
      living = keeps.0;
      of_hub = keeps.1;
      stands = record {
        senders = λ k o found. elim (set_cases l.senders i k new o found) [
          | inl w ↦ subst (λ x. SenderStands x (h ++ e ∷ [])) (sym w.1) moved
          | inr w ↦ (
              let other : o.sending.end.key ≡ old.sending.end.key → true ≡ true → ⊥ = λ key b. w.0 (sym ((one_sender s q q k i l l o old shaped here here w.1 at key).place)) in
              others_pass o h e ((concerned_passes (place_in s) old.sending.end.key true h e o.sending.end about).0 other).silent (was.senders k o w.1))
        ];
        receivers = λ k r found.
            let its = end_of_receiver l k r living found in
            let place = contains_at l.ends r.end its.has in
            let ours = all_at (IsOurs (place_in s)) l.ends place.0 r.end (shaped.of_hub q l here).ours place.1 in
            let other : r.end.key ≡ old.sending.end.key → true ≡ false → ⊥ = λ key b. let bad : true ≡ false = b in cc in
            stands_silent s.settings r h e ((concerned_passes (place_in s) old.sending.end.key true h e r.end about).1 other ours.session (ours.receives_here its.side_is)) (was.receivers k r found);
        served = λ k motion last m found. served_before l.number motion h e last (λ from served. unserved (place_in s) old.sending.end.key e about.asks l.number motion from served) (was.served k motion last m found);
      };
    }) end.has about' allowed formed (takes_none (place_in s) old.sending.end.key h e about.asks)

-- The hub stands on where one receiver does, and where a take served it, that is noted.
pub receiver_moved : (s : Hubbing) (h : List Entry) (e : Entry) (q i : ℕ) (l : Living) (old new : Receiving) (served : List (Option ℤ)) → Shaped s → Stands s h → slice_get s.live q ≡ Some l → slice_get l.receivers i ≡ Some old
    → new.end ≡ old.end → length served ≡ length l.served → ReceiverStands s.settings new (h ++ e ∷ []) → Concerns (place_in s) old.end.key false e
    → ((k motion : ℕ) (last : Option ℤ) → slice_get (motions_of l.ends) k ≡ Some motion → slice_get served k ≡ Some last → LastServed l.number motion (h ++ e ∷ []) last)
    → (e.reply ≢ Memory → IsAllowed (place_in s) h e.ask) → ((d : Datagram) → Contains (emits e) d → IsFormed (place_in s) d) → ((query motion : ℕ) → e.ask ≡ Take query motion → AnswersTakeAny query motion h e.reply)
    → Stands (with_query s q (record (with_receiver l i new) { served = served })) (h ++ e ∷ [])
receiver_moved s h e q i l old new served shaped stands here at same count moved about serves allowed formed takes =
    let living = shaped.living q l here in
    let keeps = receiver_keeps (place_in s) s.tick l i old new living (shaped.of_hub q l here) at same in
    let end = end_of_receiver l i old living at in
    let was = stands.each q l here in
    let about' : Concerns (place_in s) old.end.key old.end.sending e = subst (λ b. Concerns (place_in s) old.end.key b e) (sym end.side_is) about in
    query_moved s h e q l (record (with_receiver l i new) { served = served }) old.end shaped stands (record {
      here = here;
      number = refl;
      ends = refl;
      living = record { senders = keeps.0.senders; receivers = keeps.0.receivers; served = count ∙ living.served };
      of_hub = record { living = record { senders = keeps.0.senders; receivers = keeps.0.receivers; served = count ∙ living.served }; ends = keeps.1.ends; ours = keeps.1.ours; settings = keeps.1.settings; tick_is = keeps.1.tick_is };
      stands = record {
        senders = λ k o found.
            let other : o.sending.end.key ≡ old.end.key → false ≡ true → ⊥ = λ key b. let bad : false ≡ true = b in cc in
            others_pass o h e ((concerned_passes (place_in s) old.end.key false h e o.sending.end about).0 other).silent (was.senders k o found);
        receivers = λ k r found. elim (set_cases l.receivers i k new r found) [
          | inl w ↦ subst (λ x. ReceiverStands s.settings x (h ++ e ∷ [])) (sym w.1) moved
          | inr w ↦ (
              let its = end_of_receiver l k r living w.1 in
              let place = contains_at l.ends r.end its.has in
              let ours = all_at (IsOurs (place_in s)) l.ends place.0 r.end (shaped.of_hub q l here).ours place.1 in
              let other : r.end.key ≡ old.end.key → false ≡ false → ⊥ = λ key b. w.0 (sym ((one_receiver s q q k i l l r old shaped here here w.1 at key).place)) in
              stands_silent s.settings r h e ((concerned_passes (place_in s) old.end.key false h e r.end about).1 other ours.session (ours.receives_here its.side_is)) (was.receivers k r w.1))
        ];
        served = serves;
      };
    }) end.has about' allowed formed takes

-- ---- an entry about no end

-- a take that serves a sender takes a parcel of it
takes_one : (e : Entry) (query motion : ℕ) (from : ℤ) → IsServed query motion e from → takes (record { session = 0; query = query; motion = motion; from = from; to = from }) e ≡ [] → ⊥
takes_one e query motion from served none =
    let c : ConnKey = record { session = 0; query = query; motion = motion; from = from; to = from } in
    let is : takes c e ≡ parcel_for c (Take query motion) (Took (Ok (served.parcel, served.ds))) = ap (λ a. parcel_for c a e.reply) served.ask ∙ ap (λ r. parcel_for c (Take query motion) r) served.reply in
    let one = ap (λ b. cond (b && (motion == motion)) (parcels_from from (served.parcel ∷ [])) []) ((Decides-eqb query query).1 refl)
    ∙ ap (λ b. cond b (parcels_from from (served.parcel ∷ [])) []) ((Decides-eqb motion motion).1 refl)
    ∙ ap (λ b. cond b (served.parcel ∷ []) []) ((Decides-int_eq served.parcel.from from).1 (sym served.sender)) in
    let bad : served.parcel ∷ [] ≡ [] = sym one ∙ sym is ∙ none in
    cc

-- each query stands on
pub nought_living : (s : Hubbing) (h : List Entry) (e : Entry) (i : ℕ) (l : Living) → Shaped s → Stands s h → slice_get s.live i ≡ Some l → IsNought (place_in s) h e → LivingStands s.settings l (h ++ e ∷ [])
nought_living s h e i l shaped stands here about =
    let was = stands.each i l here in
    let living = shaped.living i l here in
    let ours : (end : ConnEnd) → Contains l.ends end → IsOurs (place_in s) end =
    λ end has. let place = contains_at l.ends end has in all_at (IsOurs (place_in s)) l.ends place.0 end (shaped.of_hub i l here).ours place.1 in
    record {
      senders = λ k o at.
          let its = end_of_sender l k o living at in
          others_pass o h e ((nought_passes (place_in s) h e o.sending.end about (ours o.sending.end its.has)).0 its.side_is).silent (was.senders k o at);
      receivers = λ k r at.
          let its = end_of_receiver l k r living at in
          stands_silent s.settings r h e ((nought_passes (place_in s) h e r.end about (ours r.end its.has)).1 its.side_is) (was.receivers k r at);
      served = λ k motion last m at. served_before l.number motion h e last (λ from served. serves_none h e l.number motion from (quiet (place_in s) h e about) served) (was.served k motion last m at);
    }
  where
    serves_none : (h : List Entry) (e : Entry) (query motion : ℕ) (from : ℤ) → IsQuiet h e → IsServed query motion e from → ⊥
    serves_none h e query motion from is served =
        let none = is.takes_none (record { session = 0; query = query; motion = motion; from = from; to = from }) in
        absurd (takes_one e query motion from served none)

-- where nothing is begun or left, the hub stands on as it is
pub nought_stands : (s : Hubbing) (h : List Entry) (e : Entry) → Shaped s → Stands s h → IsNought (place_in s) h e → BeginsNone e → leaves e ≡ [] → (e.reply ≢ Memory → IsAllowed (place_in s) h e.ask)
    → ((d : Datagram) → Contains (emits e) d → IsFormed (place_in s) d) → Stands s (h ++ e ∷ [])
nought_stands s h e shaped stands about begins left allowed formed =
    adds s s h e stands (record {
      place = record { session = refl; at = refl; settings = refl };
      shaped = shaped;
      same = same_queries s.live;
      stand = λ i l here. nought_living s h e i l shaped stands here about;
      top = refl;
      clock = clock_stays h e (quiet (place_in s) h e about).still ∙ stands.clock;
      lives = lives_on h e begins left;
      about = AboutNone about;
      point = λ keeps. nought_point (place_in s) h e about (record { law = stands.goes.law; keeps = keeps; allowed = allowed; formed = formed });
      order = λ keeps. still_in_order s.settings h e (quiet (place_in s) h e about).still;
    })

-- ---- where an end isn't

-- where no live query has an end of this key and side, none is here
pub unknown_key : (side : Bool) (s : Hubbing) (key : ConnKey) (h : List Entry) → HasNo side s key → Stands s h → IsUnknownKey side key h
unknown_key side s key h none stands end here same sending =
    let a = (stands.live end.key.query here.ends).0 here.live in
    none a.at a.living a.here end (subst (λ x. Contains x end) (sym a.ends_are) here.stands) same sending

-- what stands at a place, put there again, leaves the list as it is
pub set_same : {A : Type 0} (xs : List A) (i : ℕ) (x : A) → slice_get xs i ≡ Some x → set xs i x ≡ xs
set_same [] i x h = refl
set_same (y ∷ ys) zero x h = let same : y ≡ x = cc in ap (λ z. z ∷ ys) (sym same)
set_same (y ∷ ys) (suc i) x h = ap (λ zs. y ∷ zs) (set_same ys i x h)

-- want of memory leaves the hub standing as it is, whatever was asked but whether a query is clear
pub memory_stands : (s : Hubbing) (h : List Entry) (ask : HubAsk) → Shaped s → Stands s h → ((query : ℕ) → ask ≢ Clear query) → leaves (record { ask = ask; reply = Memory }) ≡ [] → Stands s (h ++ record { ask = ask; reply = Memory } ∷ [])
memory_stands s h ask shaped stands asks left =
    nought_stands s h (record { ask = ask; reply = Memory }) shaped stands (NoMemory asks refl) (λ query ends asked begun. let bad : false ≡ true = begun in cc) left (λ given. absurd (given refl)) (λ d c. absurd (Contains-none d c))
