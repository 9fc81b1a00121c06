-- Whether a live query could be left, and a hub that is asked so, or left by one.
use Rattle.std.proofs.Common.{◌≡◌, ◌≢◌, ◌<◌, ◌+◌, ◌↔◌, ℕ, zero, suc, List, [], ◌∷◌, ◌++◌, length, map, take, drop, Bool, true, false, cond, ◌==◌, position}
use Rattle.std.proofs.Common.{Option, Some, None, Result, Ok, Err, refl, ap, sym, ◌∙◌, subst, inl, inr, ◌⊎◌, slice_get, get_or, arith}
use Rattle.std.specs.Prelude.{IsTrue, IsSome, OnOk, OnErr, is_some}
use Rattle.std.specs.List.{Contains, AllByRecursion}
use Rattle.std.proofs.lemmas.Bool.{ne_eqb}
use Rattle.std.proofs.lemmas.Bool.Decides.{Decides-eqb}
use Rattle.std.proofs.lemmas.Option.{slice_get_within, slice_get-get_or, get_or_from_slice_get}
use Rattle.ic_base.specs.declared.keys.ConnEnd.{ConnEnd}
use Rattle.ic_base.specs.declared.settings.Settings.{Settings}
use Rattle.ic_conntab.specs.Table.{Table, IsLive as IsLiveIn_, raised, left}
use Rattle.ic_conntab.specs.declared.answer.NotLive.{NotLive as IsNotThere}
use Rattle.ic_conntab.proofs.Entries.{get_taken}
use Rattle.ic_law.specs.declared.history.HubAsk.TheVariants.{Begin, Clear, Leave}
use Rattle.ic_law.specs.declared.history.HubReply.TheVariants.{Cleared, Left}
use Rattle.ic_law.specs.declared.history.Unclear.{Unclear}
use Rattle.ic_law.specs.declared.history.LeaveNo.{LeaveNo}
use Rattle.ic_law.specs.declared.history.Entry.{Entry}
use Rattle.ic_law.specs.Queries.{left_of}
use Rattle.ic_law.specs.Points.{IsClear, IsEnded, IsLive}
use Rattle.ic_law.specs.Arriving.{AreClear, IsFirstUnclear, IsLiveQuery, AnswersClear, AnswersLeave, LeavesNow}
use Rattle.ic_law.proofs.Lists.{Contains-none, head_or_tail}
use Rattle.ic_conntab.specs.declared.slots.Slot.{Slot}
use Rattle.ic_conntab.specs.declared.slots.Slot.TheVariants.{Sender, Receiver}
use Rattle.ic_conntab.specs.Ends.{sending_ends, receiving_ends, keys_of}
use Rattle.ic_conntab.specs.Slots.{slots_of, end_at}
use Rattle.ic_conntab.proofs.Named.{ends_have_their_sides}
use Rattle.ic_conntab.proofs.Counted.{slots_are_their_ends}
use Rattle.ic_receiver.specs.Receiving.{Receiving}
use Rattle.ic_receiver.specs.Standing.{Stands as ReceiverStands, TakesNoMore}
use Rattle.ic_sender.specs.Standing.{IsOverIn}
use Rattle.ic_sender.proofs.Passing.{clock_stays}
use Rattle.ic_timed_sender.specs.Timed.{TimedState}
use Rattle.ic_timed_sender.specs.Standing.{Stands as SenderStands}
use Rattle.ic_hub_laws.specs.Entries.{IsNought, Clears, Leaves}
use Rattle.ic_hub_laws.specs.Laws.{AboutNone}
use Rattle.ic_hub_laws.proofs.Lives.{lives_until, left_tops}
use Rattle.ic_hub_laws.proofs.Ahead.{ahead_goes_on}
use Rattle.ic_hub_laws.proofs.Whole.{law_goes_on, emission_goes_on, still_in_order}
use Rattle.ic_hub_laws.proofs.NoughtPoints.{nought_point}
use Rattle.ic_hub.specs.Hubbing.{Hubbing, Living, IsLiving, IsOfHub, keys_in, Ascend, IsHub, place_in}
use Rattle.ic_hub.specs.Calls.{IsLiveIn}
use Rattle.ic_hub.specs.Entries.{clear_entry, leave_entry}
use Rattle.ic_hub.specs.Standing.{LivingStands, IsTop, Stands}
use Rattle.ic_hub.specs.Leaving.{TellsClear, AreClearUpto}
use Rattle.ic_hub.proofs.Places.{Shaped, all_at, map_at, at_contains, contains_at, apart_or_same}
use Rattle.ic_hub.proofs.Found.{HasKeys, Live, NotLive, has_keys, position_none, position_some}
use Rattle.ic_hub.proofs.Moving.{AllStand, same_queries, ends_keep, nought_living, nought_stands}

-- ---- one end

-- the end of a sender's slot
record IsSent (l : Living) (o : TimedState) (end : ConnEnd) : Type 0 where
  pub is : o.sending.end ≡ end
  pub sends : end.sending ≡ true

is_sent : (l : Living) (place : ℕ) (o : TimedState) (end : ConnEnd) → IsLiving l → slice_get l.senders place ≡ Some o → slice_get (sending_ends l.ends) place ≡ Some end → IsSent l o end
is_sent l place o end living here at =
    let there = ap (λ xs. slice_get xs place) (sym living.senders) ∙ map_at (λ (x : TimedState). x.sending.end) l.senders place o here in
    let both : Some o.sending.end ≡ Some end = sym there ∙ at in
    record { is = cc; sends = ((ends_have_their_sides l.ends end).0.0 (at_contains (sending_ends l.ends) place end at)).1 }

pub sender_tells : (l : Living) (place : ℕ) (o : TimedState) (over : Bool) → IsLiving l → slice_get l.senders place ≡ Some o → ((h : List Entry) → SenderStands o h → IsTrue over ↔ IsOverIn o.sending.end.key h) → TellsClear l (Sender place) over
sender_tells l place o over living here tells =
    record {
      clear = λ sure settings h end stands at.
          let its = is_sent l place o end living here at in
          let is_over = (tells h (stands.senders place o here)).0 sure in
          (λ receives. let bad : true ≡ false = sym its.sends ∙ receives in cc, λ sends. subst (λ (e : ConnEnd). IsOverIn e.key h) its.is is_over);
      unclear = λ off settings h end stands at clear.
          let its = is_sent l place o end living here at in
          let sure = (tells h (stands.senders place o here)).1 (subst (λ (e : ConnEnd). IsOverIn e.key h) (sym its.is) (clear.1 its.sends)) in
          let bad : true ≡ false = sym sure ∙ off in
          cc;
    }

record IsReceived (l : Living) (r : Receiving) (end : ConnEnd) : Type 0 where
  pub is : r.end ≡ end
  pub receives : end.sending ≡ false

is_received : (l : Living) (place : ℕ) (r : Receiving) (end : ConnEnd) → IsLiving l → slice_get l.receivers place ≡ Some r → slice_get (receiving_ends l.ends) place ≡ Some end → IsReceived l r end
is_received l place r end living here at =
    let there = ap (λ xs. slice_get xs place) (sym living.receivers) ∙ map_at (λ (x : Receiving). x.end) l.receivers place r here in
    let both : Some r.end ≡ Some end = sym there ∙ at in
    record { is = cc; receives = ((ends_have_their_sides l.ends end).1.0 (at_contains (receiving_ends l.ends) place end at)).1 }

pub receiver_tells : (l : Living) (place : ℕ) (r : Receiving) (over : Bool) → IsLiving l → slice_get l.receivers place ≡ Some r → (over ≡ true → TakesNoMore r)
    → (over ≡ false → (settings : Settings) (h : List Entry) → ReceiverStands settings r h → IsEnded r.end.key h → ⊥) → TellsClear l (Receiver place) over
receiver_tells l place r over living here ends runs =
    record {
      clear = λ sure settings h end stands at.
          let its = is_received l place r end living here at in
          let ended = ends sure settings h (stands.receivers place r here) in
          (λ receives. subst (λ (e : ConnEnd). IsEnded e.key h) its.is ended, λ sends. let bad : true ≡ false = sym sends ∙ its.receives in cc);
      unclear = λ off settings h end stands at clear.
          let its = is_received l place r end living here at in
          runs off settings h (stands.receivers place r here) (subst (λ (e : ConnEnd). IsEnded e.key h) (sym its.is) (clear.0 its.receives));
    }

-- ---- within the query

length_map : {A B : Type 0} (f : A → B) (xs : List A) → length (map f xs) ≡ length xs
length_map f [] = refl
length_map f (x ∷ xs) = ap suc (length_map f xs)

pub sender_within : (l : Living) (place : ℕ) → IsLiving l → place < length (sending_ends l.ends) → place < length l.senders
sender_within l place living less = subst (λ n. place < n) (ap length (sym living.senders) ∙ length_map (λ (o : TimedState). o.sending.end) l.senders) less

pub receiver_within : (l : Living) (place : ℕ) → IsLiving l → place < length (receiving_ends l.ends) → place < length l.receivers
receiver_within l place living less = subst (λ n. place < n) (ap length (sym living.receivers) ∙ length_map (λ (r : Receiving). r.end) l.receivers) less

-- ---- the first that isn't clear

-- a list cut in front of the element at a place
record CutAt {A : Type 0} (xs : List A) (i : ℕ) (x : A) : Type 0 where
  pub front : List A
  pub back : List A
  pub all : xs ≡ front ++ x ∷ back
  pub each : (y : A) → Contains front y → (k : ℕ) × (k < i) × (slice_get xs k ≡ Some y)

cut_each : {A : Type 0} (y : A) (ys : List A) (i : ℕ) (x : A) (w : CutAt ys i x) (z : A) → Contains (y ∷ w.front) z → (k : ℕ) × (k < suc i) × (slice_get (y ∷ ys) k ≡ Some z)
cut_each y ys i x w z c =
    elim (head_or_tail y w.front z c) [
      | inl same ↦ (0, omega arith, ap Some same)
      | inr c' ↦ (let k = w.each z c' in (suc k.0, (let less = k.1 in omega (arith, less)), k.2))
    ]

cut_here : {A : Type 0} (xs : List A) (i : ℕ) (x : A) → slice_get xs i ≡ Some x → CutAt xs i x
cut_here [] i x h = let bad : None ≡ Some x = h in cc
cut_here (y ∷ ys) zero x h = let same : y ≡ x = cc in record { front = []; back = ys; all = ap (λ z. z ∷ ys) same; each = λ z c. absurd (Contains-none z c) }
cut_here (y ∷ ys) (suc i) x h =
    let w = cut_here ys i x h in
    record { front = y ∷ w.front; back = w.back; all = ap (λ zs. y ∷ zs) w.all; each = λ z c. cut_each y ys i x w z c }

at_or_below : (i place : ℕ) → i < place + 1 → (i < place) ⊎ (i ≡ place)
at_or_below i place less =
    elim (apart_or_same i place) [
      | inl lower ↦ inl lower
      | inr other ↦ elim other [ inl more ↦ absurd (omega (arith, less, more)) | inr same ↦ inr same ]
    ]

below_past : (i place count : ℕ) → (place < count → ⊥) → i < count → i < place
below_past i place count past less =
    elim (apart_or_same i place) [
      | inl lower ↦ lower
      | inr other ↦ elim other [ inl more ↦ absurd (past (omega (arith, less, more))) | inr same ↦ absurd (past (omega (arith, less, same))) ]
    ]

-- where the order of the ends is walked, an end stands at each slot
pub slot_less : (ends es : List ConnEnd) (order : List Slot) (place : ℕ) → es ≡ ends → order ≡ slots_of ends → place < length order → place < length es
slot_less ends es order place same is less =
    let count = (slots_are_their_ends ends).0 in
    let a = ap length is in
    let b = ap length same in
    omega (arith, less, count, a, b)

-- the end at the slot at a place
record EndHere (ends : List ConnEnd) (order : List Slot) (place : ℕ) : Type 0 where
  pub end : ConnEnd
  pub here : slice_get ends place ≡ Some end
  pub at : end_at ends (get_or order place (Sender 0)) ≡ Some end

end_here : (ends : List ConnEnd) (order : List Slot) (place : ℕ) → order ≡ slots_of ends → place < length order → EndHere ends order place
end_here ends order place is less =
    let slot = get_or order place (Sender 0) in
    let there : slice_get (slots_of ends) place ≡ Some slot = ap (λ xs. slice_get xs place) (sym is) ∙ slice_get-get_or order place (Sender 0) less in
    let e = (slots_are_their_ends ends).2 slot place there in
    record { end = e.0; here = e.1; at = e.2 }

pub unclear_here : (l : Living) (ends es : List ConnEnd) (order : List Slot) (place : ℕ) (d : ConnEnd) (over : Bool) → l.ends ≡ ends → es ≡ ends → order ≡ slots_of ends → place < length order → AreClearUpto l place
    → TellsClear l (get_or order place (Sender 0)) over → over ≡ false → (settings : Settings) (h : List Entry) → LivingStands settings l h → IsFirstUnclear l.ends h (get_or es place d).key
unclear_here l ends es order place d over l_is es_is is less upto tells off settings h stands =
    let e = end_here ends order place is less in
    let here : slice_get l.ends place ≡ Some e.end = ap (λ xs. slice_get xs place) l_is ∙ e.here in
    let cut = cut_here l.ends place e.end here in
    record {
      front = cut.front;
      end = e.end;
      back = cut.back;
      all = cut.all;
      clear = λ x c. let k = cut.each x c in upto settings h stands k.0 x k.1 k.2;
      unclear = λ clear. tells.unclear off settings h e.end stands (ap (λ xs. end_at xs (get_or order place (Sender 0))) l_is ∙ e.at) clear;
      is = ap (λ (x : ConnEnd). x.key) (get_or_from_slice_get es place e.end d (ap (λ xs. slice_get xs place) es_is ∙ e.here));
    }

-- one more end is clear
pub clear_more : (l : Living) (ends : List ConnEnd) (order : List Slot) (place : ℕ) (over : Bool) → l.ends ≡ ends → order ≡ slots_of ends → place < length order → AreClearUpto l place → TellsClear l (get_or order place (Sender 0)) over → over ≡ true
    → AreClearUpto l (place + 1)
clear_more l ends order place over l_is is less upto tells sure settings h stands i end below at =
    elim (at_or_below i place below) [
      | inl lower ↦ upto settings h stands i end lower at
      | inr same ↦ (
          let e = end_here ends order place is less in
          let both : Some end ≡ Some e.end = sym at ∙ ap (λ n. slice_get l.ends n) same ∙ ap (λ xs. slice_get xs place) l_is ∙ e.here in
          let is_it : e.end ≡ end = cc in
          subst (λ (x : ConnEnd). IsClear x h) is_it (tells.clear sure settings h e.end stands (ap (λ xs. end_at xs (get_or order place (Sender 0))) l_is ∙ e.at)))
    ]

-- all ends are clear
pub all_clear : (l : Living) (ends : List ConnEnd) (order : List Slot) (place : ℕ) → l.ends ≡ ends → order ≡ slots_of ends → (place < length order → ⊥) → AreClearUpto l place → (settings : Settings) (h : List Entry) → LivingStands settings l h → AreClear l.ends h
all_clear l ends order place l_is is past upto settings h stands end c =
    let at = contains_at l.ends end c in
    let within = slice_get_within l.ends at.0 end at.1 in
    let count = (slots_are_their_ends ends).0 in
    let a = ap length is in
    let b = ap length l_is in
    upto settings h stands at.0 end (below_past at.0 place (length order) past (omega (arith, within, count, a, b))) at.1

-- ---- the hub asked whether a query is clear

-- a query that is found by its number
pub found_by : (live : List Living) (number q : ℕ) (l : Living) → position (λ (x : Living). x.number == number) live ≡ Some q → slice_get live q ≡ Some l → l.number ≡ number
found_by live number q l first here =
    let p = position_some (λ (x : Living). x.number == number) live q first in
    let both : Some l ≡ Some p.0 = sym here ∙ p.1 in
    let same : p.0 ≡ l = cc in
    (Decides-eqb l.number number).0 (ap (λ (x : Living). x.number == number) (sym same) ∙ p.2)

-- where none is found, the query isn't live
pub not_found : (s : Hubbing) (h : List Entry) (query : ℕ) → Stands s h → position (λ (x : Living). x.number == query) s.live ≡ None → IsLiveQuery query h → ⊥
not_found s h query stands none live =
    let a = (stands.live query live.0).0 live.1 in
    position_none (λ (x : Living). x.number == query) s.live none a.at a.living a.here ((Decides-eqb a.living.number query).1 a.number)

pub no_place : (s : Hubbing) (query : ℕ) → IsLiveIn s query → position (λ (x : Living). x.number == query) s.live ≡ None → ⊥
no_place s query live none = position_none (λ (x : Living). x.number == query) s.live none live.at live.living live.here ((Decides-eqb live.living.number query).1 live.number)

-- a query that has a place is live
live_in : (s : Hubbing) (query at : ℕ) → position (λ (l : Living). l.number == query) s.live ≡ Some at → IsLiveIn s query
live_in s query at first =
    let p = position_some (λ (l : Living). l.number == query) s.live at first in
    record { at = at; living = p.0; here = p.1; number = (Decides-eqb p.0.number query).0 p.2 }

-- a query is live if it has a place, and only then
pub live_found : (s : Hubbing) (query : ℕ) (found : Option ℕ) (b : Bool) → found ≡ position (λ (x : Living). x.number == query) s.live → b ≡ is_some found → (IsTrue b → IsLiveIn s query) × (IsLiveIn s query → IsTrue b)
live_found s query None b is test = (
  (λ yes. absurd (let bad : false ≡ true = sym test ∙ yes in cc)),
  (λ live. absurd (no_place s query live (sym is))),
)
live_found s query (Some at) b is test = ((λ yes. live_in s query at (sym is)), (λ live. test))

-- the query at this place is live, with its ends
pub live_there : (s : Hubbing) (h : List Entry) (query q : ℕ) (l : Living) → Stands s h → slice_get s.live q ≡ Some l → l.number ≡ query → IsLive query l.ends h
live_there s h query q l stands here number = (stands.live query l.ends).1 (record { at = q; living = l; here = here; number = number; ends_are = refl })

pub clear_stands : (s : Hubbing) (h : List Entry) (query : ℕ) (result : Result (Unit {0}) Unclear) → Shaped s → Stands s h → IsLiveQuery query h → AnswersClear query h (Cleared result) → Stands s (h ++ clear_entry query result ∷ [])
clear_stands s h query result shaped stands live answers =
    nought_stands s h (clear_entry query result) shaped stands (Clears query refl answers) (λ q ends asked begun. let bad : Clear query ≡ Begin q ends = asked in cc) refl (λ given. live) (λ d c. absurd (Contains-none d c))

-- ---- the hub asked to leave

-- a leave that is refused leaves it standing as it is
pub leave_refused : (s : Hubbing) (h : List Entry) (query : ℕ) (refusal : LeaveNo) → Shaped s → Stands s h → AnswersLeave query h (Left (Err refusal)) → Stands s (h ++ leave_entry query (Err refusal) ∷ [])
leave_refused s h query refusal shaped stands answers =
    nought_stands s h (leave_entry query (Err refusal)) shaped stands (Leaves query refl answers) (λ q ends asked begun. let bad : Leave query ≡ Begin q ends = asked in cc) refl (λ given. tt) (λ d c. absurd (Contains-none d c))

-- the queries but the one at a place
abbrev pub without_query : List Living → ℕ → List Living
without_query [] q = []
without_query (l ∷ live) zero = live
without_query (l ∷ live) (suc q) = l ∷ without_query live q

-- they are what stands in front of it and what stands behind it
pub without_is : (live : List Living) (q : ℕ) → take q live ++ drop (suc q) live ≡ without_query live q
without_is [] zero = refl
without_is [] (suc q) = refl
without_is (l ∷ live) zero = refl
without_is (l ∷ live) (suc q) = ap (λ xs. l ∷ xs) (without_is live q)

-- what stands behind the place moves by one
without_cases : (live : List Living) (q j : ℕ) (x : Living) → slice_get (without_query live q) j ≡ Some x → (k : ℕ) × (k ≢ q) × (slice_get live k ≡ Some x)
without_cases [] q j x h = let bad : None ≡ Some x = h in cc
without_cases (y ∷ ys) zero j x h = (suc j, (λ e. absurd (omega (arith, e))), h)
without_cases (y ∷ ys) (suc q) zero x h = (zero, (λ e. absurd (omega (arith, e))), h)
without_cases (y ∷ ys) (suc q) (suc j) x h = let w = without_cases ys q j x h in (suc w.0, (λ e. w.1 (omega (arith, e))), w.2)

without_on : (live : List Living) (q k : ℕ) (x : Living) → slice_get live k ≡ Some x → k ≢ q → (j : ℕ) × (slice_get (without_query live q) j ≡ Some x)
without_on [] q k x h apart = let bad : None ≡ Some x = h in cc
without_on (y ∷ ys) zero zero x h apart = absurd (apart refl)
without_on (y ∷ ys) zero (suc k) x h apart = (k, h)
without_on (y ∷ ys) (suc q) zero x h apart = (zero, h)
without_on (y ∷ ys) (suc q) (suc k) x h apart = let w = without_on ys q k x h (λ e. apart (ap suc e)) in (suc w.0, w.1)

-- the hub without the query
abbrev pub left_hub : Hubbing → ℕ → ℕ → Hubbing
left_hub s query q = record s { top = Some (raised s.top query); live = without_query s.live q }

top_left : (top : Option ℕ) (query : ℕ) (h now : List Entry) → left_of now ≡ left_of h ++ query ∷ [] → IsTop top h → IsTop (Some (raised top query)) now
top_left None query h now left is = (left_tops query h now left).first is
top_left (Some t) query h now left is = (left_tops query h now left).greater t is

pub left_stands : (s : Hubbing) (h : List Entry) (query q : ℕ) (l : Living) → Shaped s → Stands s h → slice_get s.live q ≡ Some l → l.number ≡ query → AreClear l.ends h → Stands (left_hub s query q) (h ++ leave_entry query (Ok tt) ∷ [])
left_stands s h query q l shaped stands here number clear =
    let e = leave_entry query (Ok tt) in
    let now = h ++ e ∷ [] in
    let live = live_there s h query q l stands here number in
    let about : IsNought (place_in s) h e = Leaves query refl (LeavesNow l.ends live clear refl) in
    let all : AllStand s.settings s.live now = λ i x at. nought_living s h e i x shaped stands at about in
    let keeps = ends_keep s s h e shaped (record { session = refl; at = refl; settings = refl }) (same_queries s.live) stands all in
    let point = nought_point (place_in s) h e about (record { law = stands.goes.law; keeps = keeps; allowed = λ given. tt; formed = λ d c. absurd (Contains-none d c) }) in
    let lives = lives_until query h e refl refl in
    record {
      goes = record {
        law = law_goes_on (place_in s) h e stands.goes.law point;
        emission = emission_goes_on (place_in s) h e stands.goes.emission keeps (still_in_order s.settings h e refl);
        ahead = ahead_goes_on (place_in s) h e (AboutNone about) stands.goes.ahead;
      };
      clock = clock_stays h e refl ∙ stands.clock;
      top = top_left s.top query h now lives.left stands.top;
      live = λ other others. (
        λ is.
            let before = (lives.live other others).0 is in
            let a = (stands.live other others).0 before.0 in
            let apart : a.at ≢ q = λ same.
            let both : Some a.living ≡ Some l = sym a.here ∙ ap (λ n. slice_get s.live n) same ∙ here in
            let is_it : a.living ≡ l = cc in
            before.1 (sym a.number ∙ ap (λ (x : Living). x.number) is_it ∙ number) in
            let w = without_on s.live q a.at a.living a.here apart in
            record { at = w.0; living = a.living; here = w.1; number = a.number; ends_are = a.ends_are },
        λ a.
            let w = without_cases s.live q a.at a.living a.here in
            let apart : other ≢ query = λ same. w.1 (shaped.apart w.0 q a.living l w.2 here (a.number ∙ same ∙ sym number)) in
            (lives.live other others).1 ((stands.live other others).1 (record { at = w.0; living = a.living; here = w.2; number = a.number; ends_are = a.ends_are }), apart),
      );
      each = λ i x at. let w = without_cases s.live q i x at in all w.0 x w.2;
    }

-- ---- what is always true, without the query

all_without : (P : Living → Type 0) (xs : List Living) (q : ℕ) → AllByRecursion P xs → AllByRecursion P (without_query xs q)
all_without P [] q all = tt
all_without P (x ∷ xs) zero all = all.1
all_without P (x ∷ xs) (suc q) all = (all.0, all_without P xs q all.1)

ascend_without : (live : List Living) (q : ℕ) → Ascend live → Ascend (without_query live q)
ascend_without [] q up = tt
ascend_without (x ∷ xs) zero up = up.1
ascend_without (x ∷ xs) (suc q) up = (all_without (λ (y : Living). x.number < y.number) xs q up.0, ascend_without xs q up.1)

-- a query above none of these isn't one of them
keys_above : (live : List Living) (n : ℕ) → AllByRecursion (λ (y : Living). n < y.number) live → keys_in live n ≡ None
keys_above [] n all = refl
keys_above (y ∷ ys) n all =
    let apart : (y.number == n) ≡ false = ne_eqb _ _ (λ same. (let less = all.0 in omega (arith, less, same))) in
    ap (λ b. cond b (Some (keys_of y.ends)) (keys_in ys n)) apart ∙ keys_above ys n all.1

-- without it none has its number, and each other number has what it had
pub keys_without : (live : List Living) (q : ℕ) (l : Living) (query : ℕ) → Ascend live → slice_get live q ≡ Some l → keys_in (without_query live q) query ≡ cond (l.number == query) None (keys_in live query)
keys_without [] q l query up here = let bad : None ≡ Some l = here in cc
keys_without (x ∷ xs) zero l query up here = by (l.number == query) refl (let same : x ≡ l = cc in same)
  where
    by : (b : Bool) → (l.number == query) ≡ b → x ≡ l → keys_in xs query ≡ cond b None (keys_in (x ∷ xs) query)
    by true e same = ap (keys_in xs) (sym ((Decides-eqb l.number query).0 e) ∙ ap (λ (y : Living). y.number) (sym same)) ∙ keys_above xs x.number up.0
    by false e same = sym (ap (λ b. cond b (Some (keys_of x.ends)) (keys_in xs query)) (ap (λ (y : Living). y.number == query) same ∙ e))
keys_without (x ∷ xs) (suc q) l query up here =
    let rest = keys_without xs q l query up.1 here in
    let above : x.number < l.number = all_at (λ (y : Living). x.number < y.number) xs q l up.0 here in
    ap (λ r. cond (x.number == query) (Some (keys_of x.ends)) r) rest ∙ by (l.number == query) refl above
  where
    by : (b : Bool) → (l.number == query) ≡ b → x.number < l.number → cond (x.number == query) (Some (keys_of x.ends)) (cond b None (keys_in xs query)) ≡ cond b None (cond (x.number == query) (Some (keys_of x.ends)) (keys_in xs query))
    by false e above = refl
    by true e above =
        let apart : (x.number == query) ≡ false = ne_eqb _ _ (λ is. (let is_it = (Decides-eqb l.number query).0 e in omega (arith, above, is, is_it))) in
        ap (λ b. cond b (Some (keys_of x.ends)) None) apart

pub hub_without : (s : Hubbing) (table : Table) (query q : ℕ) (l : Living) → IsHub s table → slice_get s.live q ≡ Some l → l.number ≡ query → IsHub (left_hub s query q) (left table query)
hub_without s table query q l is here number =
    record {
      session = is.session;
      top = ap (λ t. Some (raised t query)) is.top;
      tabled = λ other. get_taken table.live query other ∙ ap (λ r. cond (query == other) None r) (is.tabled other) ∙ ap (λ n. cond (n == other) None (keys_in s.live other)) (sym number) ∙ sym (keys_without s.live q l other is.ascend here);
      ascend = ascend_without s.live q is.ascend;
      each = all_without (IsOfHub (place_in s) s.tick) s.live q is.each;
      checked = is.checked;
      last = is.last;
    }

-- the table takes the query out, since it is live there
pub table_left : (s : Hubbing) (table new : Table) (query q : ℕ) (l : Living) (result : Result (Unit {0}) IsNotThere) → IsHub s table → slice_get s.live q ≡ Some l → l.number ≡ query
    → OnOk result (IsLiveIn_ table query × (new ≡ left table query)) → OnErr result ((IsLiveIn_ table query → ⊥) × (new ≡ table)) → new ≡ left table query
table_left s table new query q l result is here number ok err = by result ok err
  where
    live_by : HasKeys s.live query → IsLiveIn_ table query
    live_by (Live i x at n keys) = subst IsSome (sym (is.tabled query ∙ keys)) refl
    live_by (NotLive none keys) = absurd (none q l here number)

    by : (r : Result (Unit {0}) IsNotThere) → OnOk r (IsLiveIn_ table query × (new ≡ left table query)) → OnErr r ((IsLiveIn_ table query → ⊥) × (new ≡ table)) → new ≡ left table query
    by (Ok done) sure off = sure.1
    by (Err e) sure off = absurd (off.0 (live_by (has_keys s.live query)))

-- the hub as it is then
pub left_is : (v s : Hubbing) (table new : Table) (query q : ℕ) (items : List Living) → v ≡ s → v.top ≡ table.top → new ≡ left table query → items ≡ take q v.live ++ drop (suc q) v.live → left_hub s query q ≡ record v { top = new.top; live = items }
left_is v s table new query q items view top new_is items_is =
    ap (λ x. left_hub x query q) (sym view)
    ∙ ap (λ t. record v { top = t; live = without_query v.live q }) (ap (λ t. Some (raised t query)) top ∙ ap (λ (t : Table). t.top) (sym new_is))
    ∙ ap (λ xs. record v { top = new.top; live = xs }) (sym (items_is ∙ without_is v.live q))

pub hub_left : (v s : Hubbing) (table new : Table) (query q : ℕ) (items : List Living) → v ≡ s → v.top ≡ table.top → new ≡ left table query → items ≡ take q v.live ++ drop (suc q) v.live → IsHub (left_hub s query q) (left table query)
    → IsHub (record v { top = new.top; live = items }) new
hub_left v s table new query q items view top new_is items_is is =
    subst (λ x. IsHub x new) (left_is v s table new query q items view top new_is items_is) (subst (IsHub (left_hub s query q)) (sym new_is) is)
