-- A walk over connections, each with what it is at the next tick.
use Rattle.std.proofs.Common.{◌≡◌, ◌≢◌, ◌<◌, ◌≤◌, ◌+◌, ℕ, zero, suc, List, [], ◌∷◌, ◌++◌, set, take, drop, map, length, false, true, cond, ◌==◌, Some, None, Result, Ok, Err, refl, ap, sym, ◌∙◌, subst, arith, inl, inr}
use Rattle.std.proofs.Common.{slice_get, get_or, append_assoc}
use Rattle.std.specs.Result.{IfErr, IsErr, IsErrAnd}
use Rattle.std.specs.List.{AllByRecursion, Contains, flat_map}
use Rattle.std.proofs.lemmas.Option.{slice_get_within, slice_get-get_or, get_or_from_slice_get}
use Rattle.ic_conntab.specs.Table.{Table}
use Rattle.ic_conntab.specs.Ends.{keys_of}
use Rattle.ic_law.specs.Points.{Place}
use Rattle.ic_law.specs.declared.history.Entry.{Entry}
use Rattle.ic_law.specs.declared.history.TickNo.{TickNo}
use Rattle.ic_law.proofs.Lists.{Contains-none, flat_map-push, map-append}
use Rattle.ic_sender.specs.declared.send_no.SendNo.{SendNo}
use Rattle.ic_sender.specs.declared.send_no.SendNo.TheVariants as send
use Rattle.ic_sender.specs.Sending.{Sending, spent_of, copies}
use Rattle.ic_sender.specs.Entries.{IsTicking}
use Rattle.ic_timed_sender.specs.Timed.{TimedState, SameEnd, MayTick, next_tick, is_due_next, numbers_due, datagrams_due, queries_due, ticking}
use Rattle.ic_timed_sender.specs.Standing.{Tells, StandsNext, IsQuiet}
use Rattle.ic_hub.specs.Hubbing.{Hubbing, Living, IsLiving, IsOfHub, keys_in, Ascend, IsHub, place_in}
use Rattle.ic_hub.specs.Ticking.{MayResend, MayAsk, RefusedFor, GivenUp, Roomless, RefusedFirst, Passes, Begins, Leaves, plan_for, tick_no, ticked_query, ticked}
use Rattle.ic_hub.proofs.Places.{apart_or_same}

-- ---- one connection

pub refused_for : (A : Type 0) (Keeps : Sending → List Entry → Type 0) (GivesUp : Sending → ℕ → List Entry → Type 0) (o : TimedState) (no : SendNo) → Tells {A = A} o Keeps GivesUp (Err no) → RefusedFor GivesUp o (tick_no no)
refused_for A Keeps GivesUp o send.Full tells = Roomless refl
refused_for A Keeps GivesUp o send.Stopped tells = Roomless refl
refused_for A Keeps GivesUp o (send.TooLong key) tells = Roomless refl
refused_for A Keeps GivesUp o (send.Spent key seq tries) tells = GivenUp seq (ap (λ k. tick_no (send.Spent k seq tries)) tells.0 ∙ ap (λ n. tick_no (send.Spent o.sending.end.key seq n)) tells.1) tells.2
refused_for A Keeps GivesUp o send.Stray tells = Roomless refl
refused_for A Keeps GivesUp o send.Memory tells = Roomless refl

-- ---- what was walked

-- with one more
take_suc : {A : Type 0} (xs : List A) (i : ℕ) (x : A) → slice_get xs i ≡ Some x → take (suc i) xs ≡ take i xs ++ x ∷ []
take_suc [] i x h = let bad : None ≡ Some x = h in cc
take_suc (y ∷ ys) zero x h = let same : y ≡ x = cc in ap (λ z. z ∷ []) same
take_suc (y ∷ ys) (suc i) x h = ap (λ zs. y ∷ zs) (take_suc ys i x h)

pub take_push : {A : Type 0} (xs : List A) (i : ℕ) (x : A) → slice_get xs i ≡ Some x → take (i + 1) xs ≡ take i xs ++ x ∷ []
take_push xs i x h = let more : i + 1 ≡ suc i = omega arith in ap (λ n. take n xs) more ∙ take_suc xs i x h

pub all_push : {A : Type 0} (P : A → Type 0) (xs : List A) (x : A) → AllByRecursion P xs → P x → AllByRecursion P (xs ++ x ∷ [])
all_push P [] x all here = (here, tt)
all_push P (y ∷ ys) x all here = (all.0, all_push P ys x all.1 here)

-- all those before a place
pub all_taken : {A : Type 0} (P : A → Type 0) (xs : List A) (n i : ℕ) (x : A) → AllByRecursion P (take n xs) → i < n → slice_get xs i ≡ Some x → P x
all_taken P [] n i x all less h = let bad : None ≡ Some x = h in cc
all_taken P (y ∷ ys) zero i x all less h = absurd (omega (arith, less))
all_taken P (y ∷ ys) (suc n) zero x all less h = let same : y ≡ x = cc in subst P same all.0
all_taken P (y ∷ ys) (suc n) (suc i) x all less h = all_taken P ys n i x all.1 (omega (arith, less)) h

pub map_taken : {A B : Type 0} (f : A → B) (xs : List A) (i : ℕ) (x : A) → slice_get xs i ≡ Some x → map f (take (i + 1) xs) ≡ map f (take i xs) ++ f x ∷ []
map_taken f xs i x h = ap (map f) (take_push xs i x h) ∙ map-append f (take i xs) (x ∷ [])

-- what was gathered so far, with what one more gives
pub gathers : {A B : Type 0} (f : A → List B) (xs : List A) (i : ℕ) (x : A) (first so_far now : List B) → slice_get xs i ≡ Some x → so_far ≡ first ++ flat_map f (take i xs) → now ≡ so_far ++ f x → now ≡ first ++ flat_map f (take (i + 1) xs)
gathers f xs i x first so_far now h was more =
    more ∙ ap (λ l. l ++ f x) was ∙ append_assoc first (flat_map f (take i xs)) (f x) ∙ ap (λ l. first ++ l) (sym (flat_map-push f (take i xs) x) ∙ ap (flat_map f) (sym (take_push xs i x h)))

pub all_more : {A : Type 0} (P : A → Type 0) (xs : List A) (i : ℕ) (x : A) → slice_get xs i ≡ Some x → AllByRecursion P (take i xs) → P x → AllByRecursion P (take (i + 1) xs)
all_more P xs i x h all here = subst (AllByRecursion P) (sym (take_push xs i x h)) (all_push P (take i xs) x all here)

-- the first at which a walk stops
pub refused_first : {A : Type 0} (May : A → Type 0) (Refused : A → TickNo → Type 0) (xs : List A) (i : ℕ) (x : A) (refusal : TickNo) → slice_get xs i ≡ Some x → AllByRecursion May (take i xs) → Refused x refusal → RefusedFirst May Refused xs refusal
refused_first May Refused xs i x refusal h all refused =
    record { at = i; first = x; here = h; before = λ j y less at. all_taken May xs i j y all less at; refused = refused }

-- ---- a refusal that is handed on

pub handed_on : {A : Type 0} (P : TickNo → Type 0) (r : Result A TickNo) (refusal : TickNo) → IsErrAnd r (λ e. e ≡ refusal) → P refusal → IfErr r P
handed_on P (Ok a) refusal is here = tt
handed_on P (Err e) refusal is here = subst P (sym is) here

-- ---- a walk that changes each

-- so many of them were changed, and the rest are as they were
pub record Passed {A : Type 0} (f : A → A) (P : A → Type 0) (n : ℕ) (old new : List A) : Type 0 where
  pub count : length new ≡ length old
  pub done : (k : ℕ) (x : A) → k < n → slice_get old k ≡ Some x → slice_get new k ≡ Some (f x)
  pub rest : (k : ℕ) (x : A) → n ≤ k → slice_get old k ≡ Some x → slice_get new k ≡ Some x
  pub known : AllByRecursion P (take n old)

pub passed_none : {A : Type 0} (f : A → A) (P : A → Type 0) (old : List A) → Passed f P 0 old old
passed_none f P old = record { count = refl; done = λ k x less at. absurd (omega (arith, less)); rest = λ k x more at. at; known = tt }

set_here : {A : Type 0} (xs : List A) (i : ℕ) (x y : A) → slice_get xs i ≡ Some x → slice_get (set xs i y) i ≡ Some y
set_here [] i x y h = let bad : None ≡ Some x = h in cc
set_here (z ∷ zs) zero x y h = refl
set_here (z ∷ zs) (suc i) x y h = set_here zs i x y h

set_there : {A : Type 0} (xs : List A) (i j : ℕ) (y : A) → i ≢ j → slice_get (set xs i y) j ≡ slice_get xs j
set_there [] i j y apart = refl
set_there (z ∷ zs) zero zero y apart = absurd (apart refl)
set_there (z ∷ zs) zero (suc j) y apart = refl
set_there (z ∷ zs) (suc i) zero y apart = refl
set_there (z ∷ zs) (suc i) (suc j) y apart = set_there zs i j y (λ e. apart (ap suc e))

length_set : {A : Type 0} (xs : List A) (i : ℕ) (y : A) → length (set xs i y) ≡ length xs
length_set [] i y = refl
length_set (z ∷ zs) zero y = refl
length_set (z ∷ zs) (suc i) y = ap suc (length_set zs i y)

-- one more is changed
pub passed_more : {A : Type 0} (f : A → A) (P : A → Type 0) (n : ℕ) (old new : List A) (x : A) → slice_get old n ≡ Some x → P x → Passed f P n old new → Passed f P (n + 1) old (set new n (f x))
passed_more f P n old new x h here so_far = record {
  count = length_set new n (f x) ∙ so_far.count;
  done = λ k y less at. elim (apart_or_same k n) [
    | inl before ↦ set_there new n k (f x) (λ e. absurd (omega (arith, before, e))) ∙ so_far.done k y before at
    | inr w ↦ elim w [
      | inl behind ↦ absurd (omega (arith, less, behind))
      | inr same ↦ (
          let both : Some y ≡ Some x = sym at ∙ ap (slice_get old) same ∙ h in
          let is : x ≡ y = cc in
          ap (slice_get (set new n (f x))) same ∙ set_here new n x (f x) (so_far.rest n x (omega arith) h) ∙ ap (λ z. Some (f z)) is)
    ]
  ];
  rest = λ k y more at. set_there new n k (f x) (λ e. absurd (omega (arith, more, e))) ∙ so_far.rest k y (omega (arith, more)) at;
  known = all_more P old n x h so_far.known here;
}

-- lists of one length whose elements are one another's are the same
by_places : {A B : Type 0} (f : A → B) (xs : List A) (ys : List B) → length ys ≡ length xs → ((k : ℕ) (x : A) → slice_get xs k ≡ Some x → slice_get ys k ≡ Some (f x)) → ys ≡ map f xs
by_places f [] [] count each = refl
by_places f [] (y ∷ ys) count each = absurd (omega (arith, count))
by_places f (x ∷ xs) [] count each = absurd (omega (arith, count))
by_places f (x ∷ xs) (y ∷ ys) count each =
    let both : Some y ≡ Some (f x) = each zero x refl in
    let first : y ≡ f x = cc in
    ap (λ z. z ∷ ys) first ∙ ap (λ zs. f x ∷ zs) (by_places f xs ys (omega (arith, count)) (λ k z at. each (suc k) z at))

-- all are
pub record PassedAll {A : Type 0} (f : A → A) (P : A → Type 0) (old new : List A) : Type 0 where
  pub are : new ≡ map f old
  pub known : AllByRecursion P old

pub passed_all : {A : Type 0} (f : A → A) (P : A → Type 0) (n : ℕ) (old new : List A) → length new ≤ n → Passed f P n old new → PassedAll f P old new
passed_all {A = A} f P n old new over so_far = record {
  are = by_places f old new so_far.count (λ k x at. so_far.done k x (let within = slice_get_within old k x at in omega (arith, within, so_far.count, over)) at);
  known = known old n (omega (arith, so_far.count, over)) so_far.known;
}
  where
    known : (xs : List A) (m : ℕ) → length xs ≤ m → AllByRecursion P (take m xs) → AllByRecursion P xs
    known [] m less all = tt
    known (x ∷ xs) zero less all = absurd (omega (arith, less))
    known (x ∷ xs) (suc m) less all = (all.0, known xs m (omega (arith, less)) all.1)

-- what stands next is as it was
pub stands_next : {A : Type 0} (f : A → A) (P : A → Type 0) (n : ℕ) (old new : List A) (x : A) → Passed f P n old new → n < length new → x ≡ get_or new n x → slice_get old n ≡ Some x
stands_next f P n old new x so_far less is =
    let at = slice_get-get_or old n x (omega (arith, so_far.count, less)) in
    let now = so_far.rest n (get_or old n x) (omega arith) at in
    at ∙ ap Some (sym (get_or_from_slice_get new n (get_or old n x) x now) ∙ sym is)

-- ---- lists that are taken one after the other

pub plan_none : (o : TimedState) → is_due_next o ≡ false → plan_for o ≡ []
plan_none o none = ap (λ b. cond b (numbers_due o ∷ []) []) none

pub plan_one : (o : TimedState) → is_due_next o ≡ true → plan_for o ≡ numbers_due o ∷ []
plan_one o due = ap (λ b. cond b (numbers_due o ∷ []) []) due

flat_drop_suc : {A B : Type 0} (f : A → List B) (xs : List A) (i : ℕ) (x : A) → slice_get xs i ≡ Some x → flat_map f (drop i xs) ≡ f x ++ flat_map f (drop (suc i) xs)
flat_drop_suc f [] i x h = let bad : None ≡ Some x = h in cc
flat_drop_suc f (y ∷ ys) zero x h = let same : y ≡ x = cc in ap (λ z. f z ++ flat_map f ys) same
flat_drop_suc f (y ∷ ys) (suc i) x h = flat_drop_suc f ys i x h

flat_drop : {A B : Type 0} (f : A → List B) (xs : List A) (i : ℕ) (x : A) → slice_get xs i ≡ Some x → flat_map f (drop i xs) ≡ f x ++ flat_map f (drop (i + 1) xs)
flat_drop f xs i x h = let more : suc i ≡ i + 1 = omega arith in flat_drop_suc f xs i x h ∙ ap (λ n. f x ++ flat_map f (drop n xs)) more

drop_all : {A : Type 0} (xs : List A) (n : ℕ) → length xs ≤ n → drop n xs ≡ []
drop_all [] zero over = refl
drop_all [] (suc n) over = refl
drop_all (x ∷ xs) zero over = absurd (omega (arith, over))
drop_all (x ∷ xs) (suc n) over = drop_all xs n (omega (arith, over))

-- the lists of the first i were taken, and those of the others are left, in front of what comes after all of them
abbrev pub AreLeft : {A B : Type 0} → (A → List B) → List A → ℕ → List B → List B → Type 0
AreLeft {B = B} f xs i plan rest = (tail : List B) → plan ≡ flat_map f xs ++ tail → rest ≡ flat_map f (drop i xs) ++ tail

pub left_begins : {A B : Type 0} (f : A → List B) (xs : List A) (i : ℕ) (x : A) (plan rest : List B) → slice_get xs i ≡ Some x → Begins (flat_map f xs) plan → AreLeft f xs i plan rest → Begins (f x) rest
left_begins f xs i x plan rest h begins left = record {
  rest = flat_map f (drop (i + 1) xs) ++ begins.rest;
  is = left begins.rest begins.is ∙ ap (λ l. l ++ begins.rest) (flat_drop f xs i x h) ∙ append_assoc (f x) (flat_map f (drop (i + 1) xs)) begins.rest;
}

pub left_more : {A B : Type 0} (f : A → List B) (xs : List A) (i : ℕ) (x : A) (plan rest now : List B) → slice_get xs i ≡ Some x → AreLeft f xs i plan rest → Leaves (f x) rest now → AreLeft f xs (i + 1) plan now
left_more f xs i x plan rest now h left leaves = λ tail is.
    leaves (flat_map f (drop (i + 1) xs) ++ tail) (left tail is ∙ ap (λ l. l ++ tail) (flat_drop f xs i x h) ∙ append_assoc (f x) (flat_map f (drop (i + 1) xs)) tail)

pub left_none : {A B : Type 0} (f : A → List B) (xs : List A) (n : ℕ) (plan rest : List B) → length xs ≤ n → AreLeft f xs n plan rest → Leaves (flat_map f xs) plan rest
left_none f xs n plan rest over left = λ tail is. left tail is ∙ ap (λ l. flat_map f l ++ tail) (drop_all xs n over)

-- a sender of which nothing is due passes with no list
pub quiet_may : (o : TimedState) → IsQuiet o → MayResend o → MayAsk o → MayTick o []
quiet_may o quiet packets asks = record { due = sym quiet.numbers; unspent = packets.unspent; answered = asks.answered }

pub quiet_resends : (o : TimedState) → IsQuiet o → MayResend o
quiet_resends o quiet = record {
  unspent = ap (spent_of o.sending) quiet.numbers;
  tells = quiet.keeps;
  formed = λ d c. absurd (Contains-none d (subst (λ ns. Contains (copies o.sending.flights ns) d) quiet.numbers c));
}

pub quiet_gives : (o : TimedState) → IsQuiet o → datagrams_due o ≡ []
quiet_gives o quiet = ap (copies o.sending.flights) quiet.numbers

-- a sender passes by what its half of the tick promises
pub passes : (o now : TimedState) → now ≡ ticking o → SameEnd o now → StandsNext o now (IsTicking o.sending.end.key (datagrams_due o ++ queries_due o)) → Passes o
passes o now is end stands = record {
  end = subst (SameEnd o) is end;
  stands = subst (λ n. StandsNext o n (IsTicking o.sending.end.key (datagrams_due o ++ queries_due o))) is stands;
}

-- a list that was lent whole is what was made of it
pub lent : {A : Type 0} (n : ℕ) (now items : List A) → n ≡ length now → take n (now ++ drop (length now) items) ≡ now
lent {A = A} n now items is = ap (λ k. take k (now ++ drop (length now) items)) is ∙ front now (drop (length now) items)
  where
    front : (xs ys : List A) → take (length xs) (xs ++ ys) ≡ xs
    front [] ys = refl
    front (x ∷ xs) ys = ap (λ zs. x ∷ zs) (front xs ys)

-- ---- what is always true

-- each connection keeps its end
same_ends : (xs : List TimedState) → AllByRecursion Passes xs → map (λ (o : TimedState). o.sending.end) (map ticking xs) ≡ map (λ (o : TimedState). o.sending.end) xs
same_ends [] all = refl
same_ends (o ∷ xs) all = ap (λ e. e ∷ map (λ (x : TimedState). x.sending.end) (map ticking xs)) all.0.end.end ∙ ap (λ es. o.sending.end ∷ es) (same_ends xs all.1)

pub living_ticked : (l : Living) → IsLiving l → AllByRecursion Passes l.senders → IsLiving (ticked_query l)
living_ticked l living all = record { senders = same_ends l.senders all ∙ living.senders; receivers = living.receivers; served = living.served }

all_mapped : {A B : Type 0} (P : B → Type 0) (f : A → B) (xs : List A) → AllByRecursion (λ x. P (f x)) xs → AllByRecursion P (map f xs)
all_mapped P f [] all = tt
all_mapped P f (x ∷ xs) all = (all.0, all_mapped P f xs all.1)

all_both : {A : Type 0} (P Q R : A → Type 0) (xs : List A) → ((x : A) → P x → Q x → R x) → AllByRecursion P xs → AllByRecursion Q xs → AllByRecursion R xs
all_both P Q R [] both ps qs = tt
all_both P Q R (x ∷ xs) both ps qs = (both x ps.0 qs.0, all_both P Q R xs both ps.1 qs.1)

pub of_hub_ticked : (place : Place) (tick : ℕ) (l : Living) → IsOfHub place tick l → AllByRecursion Passes l.senders → IsOfHub place (next_tick tick) (ticked_query l)
of_hub_ticked place tick l of_hub all = record {
  living = living_ticked l of_hub.living all;
  ends = of_hub.ends;
  ours = of_hub.ours;
  settings = all_mapped (λ (o : TimedState). o.sending.settings ≡ place.settings) ticking l.senders
      (all_both (λ (o : TimedState). o.sending.settings ≡ place.settings) Passes (λ o. (ticking o).sending.settings ≡ place.settings) l.senders (λ o is passes. passes.end.settings ∙ is) of_hub.settings all);
  tick_is = all_mapped (λ (o : TimedState). o.now ≡ next_tick tick) ticking l.senders
      (all_both (λ (o : TimedState). o.now ≡ tick) Passes (λ o. (ticking o).now ≡ next_tick tick) l.senders (λ o is passes. ap next_tick is) of_hub.tick_is all);
}

keys_ticked : (live : List Living) (query : ℕ) → keys_in (map ticked_query live) query ≡ keys_in live query
keys_ticked [] query = refl
keys_ticked (l ∷ ls) query = ap (λ r. cond (l.number == query) (Some (keys_of l.ends)) r) (keys_ticked ls query)

ascend_ticked : (live : List Living) → Ascend live → Ascend (map ticked_query live)
ascend_ticked [] up = up
ascend_ticked (l ∷ ls) up = (all_mapped (λ (m : Living). l.number < m.number) ticked_query ls up.0, ascend_ticked ls up.1)

pub hub_ticked : (s : Hubbing) (table : Table) → IsHub s table → AllByRecursion (λ (l : Living). AllByRecursion Passes l.senders) s.live → IsHub (ticked s) table
hub_ticked s table is all = record {
  session = is.session;
  top = is.top;
  tabled = λ query. is.tabled query ∙ sym (keys_ticked s.live query);
  ascend = ascend_ticked s.live is.ascend;
  each = all_mapped (IsOfHub (place_in s) (next_tick s.tick)) ticked_query s.live
      (all_both (IsOfHub (place_in s) s.tick) (λ l. AllByRecursion Passes l.senders) (λ l. IsOfHub (place_in s) (next_tick s.tick) (ticked_query l)) s.live
      (λ l of_hub passes. of_hub_ticked (place_in s) s.tick l of_hub passes) is.each all);
  checked = is.checked;
  last = omega arith;
}

-- so is it of a hub with these queries and this tick
pub hub_then : (s : Hubbing) (table : Table) (tick : ℕ) (live : List Living) → tick ≡ next_tick s.tick → live ≡ map ticked_query s.live → IsHub s table → AllByRecursion (λ (l : Living). AllByRecursion Passes l.senders) s.live
    → IsHub (record s { tick = tick; live = live }) table
hub_then s table tick live tick_is live_is is all =
    subst (λ n. IsHub (record s { tick = n; live = live }) table) (sym tick_is) (subst (λ xs. IsHub (record s { tick = next_tick s.tick; live = xs }) table) (sym live_is) (hub_ticked s table is all))

-- ---- options

pub some_one : {A : Type 0} (a b : A) → Some a ≡ Some b → a ≡ b
some_one a b h = cc

-- what holds of a refusal holds of the answer that hands it on
pub handed_back : {A : Type 0} (P : Result A TickNo → Type 0) (r : Result A TickNo) (refusal : TickNo) → IsErr r → IsErrAnd r (λ e. e ≡ refusal) → P (Err refusal) → P r
handed_back P (Ok a) refusal err is here = absurd (cc)
handed_back P (Err e) refusal err is here = subst (λ x. P (Err x)) (sym is) here
