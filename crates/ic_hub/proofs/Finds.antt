-- What a hub finds of a connection.
use Rattle.std.proofs.Common.{◌≡◌, ℕ, List, Bool, true, false, cond, ◌==◌, position, slice_get, get_or, Option, Some, None, refl, ap, sym, ◌∙◌, subst}
use Rattle.std.specs.List.{Contains}
use Rattle.std.proofs.lemmas.Option.{get_or_from_slice_get}
use Rattle.std.proofs.lemmas.Bool.Decides.{Decides-eqb}
use Rattle.ic_base.specs.Keys.{key_eq}
use Rattle.ic_base.specs.declared.keys.ConnKey.{ConnKey}
use Rattle.ic_base.specs.declared.keys.ConnEnd.{ConnEnd}
use Rattle.ic_conntab.specs.declared.answer.Find.TheVariants.{Foreign, Here, Ended, NotBegun}
use Rattle.ic_conntab.specs.Table.{Table, is_past, found, placed}
use Rattle.ic_conntab.specs.Ends.{keys_of, sender_at, receiver_at}
use Rattle.ic_conntab.specs.declared.slots.Sides.{Sides}
use Rattle.ic_conntab.proofs.Named.{ends_have_their_sides, sides_are_found, keys_are_of_ends}
use Rattle.ic_timed_sender.specs.Timed.{TimedState}
use Rattle.ic_receiver.specs.Receiving.{Receiving}
use Rattle.ic_hub.specs.declared.finding.Found.{Found}
use Rattle.ic_hub.specs.declared.finding.Found.TheVariants as says
use Rattle.ic_hub.specs.Hubbing.{Hubbing, Living, IsHub}
use Rattle.ic_hub.specs.Finding.{IsFound, OfOther, NoSuchKey, OfEnded, OfUnbegun, There, SenderIs, ReceiverIs, HasNo}
use Rattle.ic_hub.proofs.Places.{Shaped, at_contains, at_map}
use Rattle.ic_hub.proofs.Shape.{apart_at}
use Rattle.ic_hub.proofs.Found.{Tells, OfLive, OfNone, tells, key_at, no_key, position_none, position_some}
use Rattle.ic_hub.proofs.Found.{OfOther as TellsOther}

-- what was found where the key is at a place: its query, and that it is a key of it
pub record FoundHere (s : Hubbing) (key : ConnKey) (place : ℕ) : Type 0 where
  pub session : key.session ≡ s.session
  pub at : ℕ
  pub living : Living
  pub here : slice_get s.live at ≡ Some living
  pub number : living.number ≡ key.query
  pub key_is : slice_get (keys_of living.ends) place ≡ Some key

not_here : (b : Bool) (place : ℕ) → cond b Ended NotBegun ≡ Here place → ⊥
not_here true place h = let bad : Ended ≡ Here place = h in cc
not_here false place h = let bad : NotBegun ≡ Here place = h in cc

placed_at : (o : Option ℕ) (place : ℕ) → placed o ≡ Here place → o ≡ Some place
placed_at None place h = let bad : Foreign ≡ Here place = h in cc
placed_at (Some n) place h = let same : Here n ≡ Here place = h in cc

pub found_place : (s : Hubbing) (table : Table) (key : ConnKey) (place : ℕ) → IsHub s table → found table key ≡ Here place → FoundHere s key place
found_place s table key place is h = by (tells s table key is)
  where
    by : Tells s key (found table key) → FoundHere s key place
    by (TellsOther other what) = let bad : Foreign ≡ Here place = sym what ∙ h in cc
    by (OfLive session i l at number what) =
        record { session = session; at = i; living = l; here = at; number = number; key_is = key_at (keys_of l.ends) key place (placed_at (position (key_eq key) (keys_of l.ends)) place (sym what ∙ h)) }
    by (OfNone session none what) = absurd (not_here (is_past s.top key.query) place (sym what ∙ h))

placed_not : (o : Option ℕ) → placed o ≡ Foreign → o ≡ None
placed_not None h = refl
placed_not (Some n) h = let bad : Here n ≡ Foreign = h in cc

not_foreign : (b : Bool) → cond b Ended NotBegun ≡ Foreign → ⊥
not_foreign true h = let bad : Ended ≡ Foreign = h in cc
not_foreign false h = let bad : NotBegun ≡ Foreign = h in cc

pub found_foreign : (s : Hubbing) (table : Table) (key : ConnKey) → IsHub s table → found table key ≡ Foreign → IsFound s key says.Foreign
found_foreign s table key is h = by (tells s table key is)
  where
    by : Tells s key (found table key) → IsFound s key says.Foreign
    by (TellsOther other what) = OfOther other refl
    by (OfLive session i l at number what) =
        NoSuchKey session i l at number (λ c. no_key (keys_of l.ends) key (placed_not (position (key_eq key) (keys_of l.ends)) (sym what ∙ h)) c) refl
    by (OfNone session none what) = absurd (not_foreign (is_past s.top key.query) (sym what ∙ h))

not_placed_ended : (o : Option ℕ) → placed o ≡ Ended → ⊥
not_placed_ended None h = let bad : Foreign ≡ Ended = h in cc
not_placed_ended (Some n) h = let bad : Here n ≡ Ended = h in cc

not_placed_unbegun : (o : Option ℕ) → placed o ≡ NotBegun → ⊥
not_placed_unbegun None h = let bad : Foreign ≡ NotBegun = h in cc
not_placed_unbegun (Some n) h = let bad : Here n ≡ NotBegun = h in cc

past_ended : (b : Bool) → cond b Ended NotBegun ≡ Ended → b ≡ true
past_ended true h = refl
past_ended false h = let bad : NotBegun ≡ Ended = h in cc

past_unbegun : (b : Bool) → cond b Ended NotBegun ≡ NotBegun → b ≡ false
past_unbegun true h = let bad : Ended ≡ NotBegun = h in cc
past_unbegun false h = refl

pub found_ended : (s : Hubbing) (table : Table) (key : ConnKey) → IsHub s table → found table key ≡ Ended → IsFound s key says.Ended
found_ended s table key is h = by (tells s table key is)
  where
    by : Tells s key (found table key) → IsFound s key says.Ended
    by (TellsOther other what) = let bad : Foreign ≡ Ended = sym what ∙ h in cc
    by (OfLive session i l at number what) = absurd (not_placed_ended (position (key_eq key) (keys_of l.ends)) (sym what ∙ h))
    by (OfNone session none what) = OfEnded session none (past_ended (is_past s.top key.query) (sym what ∙ h)) refl

pub found_unbegun : (s : Hubbing) (table : Table) (key : ConnKey) → IsHub s table → found table key ≡ NotBegun → IsFound s key says.NotBegun
found_unbegun s table key is h = by (tells s table key is)
  where
    by : Tells s key (found table key) → IsFound s key says.NotBegun
    by (TellsOther other what) = let bad : Foreign ≡ NotBegun = sym what ∙ h in cc
    by (OfLive session i l at number what) = absurd (not_placed_unbegun (position (key_eq key) (keys_of l.ends)) (sym what ∙ h))
    by (OfNone session none what) = OfUnbegun session none (past_unbegun (is_past s.top key.query) (sym what ∙ h)) refl

-- ---- with the place of the query

-- the query that was found stands where its number does
pub found_query : (s : Hubbing) (table : Table) (key : ConnKey) (place query : ℕ) (l : Living) → IsHub s table → found table key ≡ Here place → position (λ (x : Living). x.number == key.query) s.live ≡ Some query
    → slice_get s.live query ≡ Some l → (l.number ≡ key.query) × (slice_get (keys_of l.ends) place ≡ Some key)
found_query s table key place query l is h first here =
    let w = found_place s table key place is h in
    let p = position_some (λ (x : Living). x.number == key.query) s.live query first in
    let number : p.0.number ≡ key.query = (Decides-eqb p.0.number key.query).0 p.2 in
    let at = apart_at s.live query w.at p.0 w.living is.ascend p.1 w.here (number ∙ sym w.number) in
    let same : Some l ≡ Some w.living = sym here ∙ ap (λ n. slice_get s.live n) at ∙ w.here in
    let is_it : l ≡ w.living = cc in
    (ap (λ (x : Living). x.number) is_it ∙ w.number, ap (λ (x : Living). slice_get (keys_of x.ends) place) is_it ∙ w.key_is)

-- there is one
pub query_there : (s : Hubbing) (table : Table) (key : ConnKey) (place : ℕ) → IsHub s table → found table key ≡ Here place → position (λ (x : Living). x.number == key.query) s.live ≡ None → ⊥
query_there s table key place is h none =
    let w = found_place s table key place is h in
    position_none (λ (x : Living). x.number == key.query) s.live none w.at w.living w.here ((Decides-eqb w.living.number key.query).1 w.number)

pub found_there : (s : Hubbing) (table : Table) (key : ConnKey) (place query : ℕ) (l : Living) (sides : Sides) → IsHub s table → found table key ≡ Here place → position (λ (x : Living). x.number == key.query) s.live ≡ Some query
    → slice_get s.live query ≡ Some l → sides.sender ≡ sender_at l.ends key → sides.receiver ≡ receiver_at l.ends key → IsFound s key (says.Here query sides)
found_there s table key place query l sides is h first here sender receiver =
    let w = found_place s table key place is h in
    let q = found_query s table key place query l is h first here in
    There w.session query l here q.0 (at_contains (keys_of l.ends) place key q.1) sides sender receiver refl

-- ---- a query by its number

-- the query that is read at its place is the one that stands there
pub indexed : (live : List Living) (number query : ℕ) (l : Living) → position (λ (x : Living). x.number == number) live ≡ Some query → l ≡ get_or live query l → slice_get live query ≡ Some l
indexed live number query l first is =
    let p = position_some (λ (x : Living). x.number == number) live query first in
    p.1 ∙ ap Some (sym (is ∙ get_or_from_slice_get live query p.0 l p.1))

-- ---- the connections of a key

pub here_is : (i j : ℕ) (a b : Sides) → says.Here i a ≡ says.Here j b → a ≡ b
here_is i j a b h = cc

here_same : (i j : ℕ) (a b : Sides) → says.Here i a ≡ says.Here j b → (i ≡ j) × (a ≡ b)
here_same i j a b h = (cc, cc)

-- the sending connection that is found
pub finds_sender : (s : Hubbing) (key : ConnKey) (query place : ℕ) (sides : Sides) → Shaped s → IsFound s key (says.Here query sides) → sides.sender ≡ Some place → SenderIs s key query place
finds_sender s key query place sides shaped (OfOther other is) h = let bad : says.Here query sides ≡ says.Foreign = is in cc
finds_sender s key query place sides shaped (NoSuchKey session i l at number none is) h = let bad : says.Here query sides ≡ says.Foreign = is in cc
finds_sender s key query place sides shaped (OfEnded session none past is) h = let bad : says.Here query sides ≡ says.Ended = is in cc
finds_sender s key query place sides shaped (OfUnbegun session none past is) h = let bad : says.Here query sides ≡ says.NotBegun = is in cc
finds_sender s key query place sides shaped (There session i l at number has its sender receiver is) h =
    let same = here_same query i sides its is in
    let found : sender_at l.ends key ≡ Some place = sym sender ∙ ap (λ (x : Sides). x.sender) (sym same.1) ∙ h in
    let end = (sides_are_found l.ends).0.some key place found in
    let living = shaped.living i l at in
    let there = at_map (λ (o : TimedState). o.sending.end) l.senders place end.0 (ap (λ xs. slice_get xs place) living.senders ∙ end.1) in
    record {
      living = l;
      sender = there.0;
      live = ap (λ n. slice_get s.live n) same.0 ∙ at;
      number = number;
      here = there.1;
      is = ap (λ (x : ConnEnd). x.key) there.2 ∙ end.2;
    }

-- the receiving connection that is found
pub finds_receiver : (s : Hubbing) (key : ConnKey) (query place : ℕ) (sides : Sides) → Shaped s → IsFound s key (says.Here query sides) → sides.receiver ≡ Some place → ReceiverIs s key query place
finds_receiver s key query place sides shaped (OfOther other is) h = let bad : says.Here query sides ≡ says.Foreign = is in cc
finds_receiver s key query place sides shaped (NoSuchKey session i l at number none is) h = let bad : says.Here query sides ≡ says.Foreign = is in cc
finds_receiver s key query place sides shaped (OfEnded session none past is) h = let bad : says.Here query sides ≡ says.Ended = is in cc
finds_receiver s key query place sides shaped (OfUnbegun session none past is) h = let bad : says.Here query sides ≡ says.NotBegun = is in cc
finds_receiver s key query place sides shaped (There session i l at number has its sender receiver is) h =
    let same = here_same query i sides its is in
    let found : receiver_at l.ends key ≡ Some place = sym receiver ∙ ap (λ (x : Sides). x.receiver) (sym same.1) ∙ h in
    let end = (sides_are_found l.ends).1.some key place found in
    let living = shaped.living i l at in
    let there = at_map (λ (r : Receiving). r.end) l.receivers place end.0 (ap (λ xs. slice_get xs place) living.receivers ∙ end.1) in
    record {
      living = l;
      receiver = there.0;
      live = ap (λ n. slice_get s.live n) same.0 ∙ at;
      number = number;
      here = there.1;
      is = ap (λ (x : ConnEnd). x.key) there.2 ∙ end.2;
    }

-- the end of a live query has its session, its query and its key among the query's
record OfHub (s : Hubbing) (i : ℕ) (l : Living) (end : ConnEnd) : Type 0 where
  pub session : end.key.session ≡ s.session
  pub query : l.number ≡ end.key.query
  pub key : Contains (keys_of l.ends) end.key

of_hub : (s : Hubbing) (i : ℕ) (l : Living) (end : ConnEnd) → Shaped s → slice_get s.live i ≡ Some l → Contains l.ends end → OfHub s i l end
of_hub s i l end shaped at has =
    let its = (shaped.of_hub i l at).ends.each end has in
    record { session = its.session; query = sym its.query_is; key = (keys_are_of_ends l.ends end.key).1 (end, has, refl) }

-- where none is found, no live query has such an end
pub has_no : (s : Hubbing) (key : ConnKey) (side : Bool) (found : Found) → Shaped s → IsFound s key found → ((i : ℕ) (sides : Sides) (l : Living) → found ≡ says.Here i sides → slice_get s.live i ≡ Some l → sides.sender ≡ sender_at l.ends key
    → sides.receiver ≡ receiver_at l.ends key → (end : ConnEnd) → Contains l.ends end → end.key ≡ key → end.sending ≡ side → ⊥) → HasNo side s key
has_no s key side found shaped (OfOther other is) none i l at end has same sending = other (ap (λ (k : ConnKey). k.session) (sym same) ∙ (of_hub s i l end shaped at has).session)
has_no s key side found shaped (NoSuchKey session j m there number without is) none i l at end has same sending =
    let its = of_hub s i l end shaped at has in
    let place = shaped.apart i j l m at there (its.query ∙ ap (λ (k : ConnKey). k.query) same ∙ sym number) in
    let one : Some l ≡ Some m = sym at ∙ ap (λ n. slice_get s.live n) place ∙ there in
    let is_it : l ≡ m = cc in
    without (subst (λ (x : Living). Contains (keys_of x.ends) key) is_it (subst (λ k. Contains (keys_of l.ends) k) same its.key))
has_no s key side found shaped (OfEnded session away past is) none i l at end has same sending = away i l at ((of_hub s i l end shaped at has).query ∙ ap (λ (k : ConnKey). k.query) same)
has_no s key side found shaped (OfUnbegun session away past is) none i l at end has same sending = away i l at ((of_hub s i l end shaped at has).query ∙ ap (λ (k : ConnKey). k.query) same)
has_no s key side found shaped (There session j m there number key_is sides sender receiver is) none i l at end has same sending =
    let its = of_hub s i l end shaped at has in
    let place = shaped.apart i j l m at there (its.query ∙ ap (λ (k : ConnKey). k.query) same ∙ sym number) in
    let one : Some l ≡ Some m = sym at ∙ ap (λ n. slice_get s.live n) place ∙ there in
    let is_it : l ≡ m = cc in
    none j sides m is there sender receiver end (subst (λ (x : Living). Contains x.ends end) is_it has) same sending

-- a sending end is found by its key
pub no_sender : (l : Living) (key : ConnKey) → sender_at l.ends key ≡ None → (end : ConnEnd) → Contains l.ends end → end.key ≡ key → end.sending ≡ true → ⊥
no_sender l key none end has same sends = ((sides_are_found l.ends).0.none key).0 none end ((ends_have_their_sides l.ends end).0.1 (has, sends)) same

pub no_receiver : (l : Living) (key : ConnKey) → receiver_at l.ends key ≡ None → (end : ConnEnd) → Contains l.ends end → end.key ≡ key → end.sending ≡ false → ⊥
no_receiver l key none end has same receives = ((sides_are_found l.ends).1.none key).0 none end ((ends_have_their_sides l.ends end).1.1 (has, receives)) same
