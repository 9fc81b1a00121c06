-- What a station keeps while its history grows.
use Rattle.std.proofs.Common.{◌≡◌, ℕ, ◌≤◌, ℤ, pos, negsuc, List, [], ◌∷◌, ◌++◌, Bool, true, false, ◌||◌, Result, Ok, Err, OnOk, OnErr, refl, ap, sym, ◌∙◌, subst, append-nil, arith, inl, inr}
use Rattle.std.specs.List.{AllByRecursion, Contains, list_any, slice_index_or}
use Rattle.std.proofs.lemmas.List.Elements.{Contains-append_cases, Contains-append_right}
use Rattle.std.specs.declared.alloc.AllocError.{AllocError}
use Rattle.ic_base.specs.declared.keys.ConnKey.{ConnKey}
use Rattle.ic_base.specs.declared.datagram.Datagram.{Datagram}
use Rattle.ic_law.specs.declared.history.HubAsk.{HubAsk}
use Rattle.ic_law.specs.declared.history.HubAsk.TheVariants.{Begin, Put, Finish, Take, TakeFrom, Halt, Arrive, Tick, Clear, Leave}
use Rattle.ic_law.specs.declared.history.HubReply.{HubReply}
use Rattle.ic_law.specs.declared.history.TickNo.{TickNo}
use Rattle.ic_law.specs.declared.history.TickNo.TheVariants as tick
use Rattle.ic_law.specs.declared.history.Entry.{Entry}
use Rattle.ic_law.specs.History.{arrives}
use Rattle.ic_law.specs.Taking.{takes, parcels_of, is_last_parcel, is_halt, halts, IsHaltAsked, IsWhole}
use Rattle.ic_law.specs.Queries.{leaves, left_of}
use Rattle.ic_law.specs.Points.{place_at}
use Rattle.ic_law.proofs.Lists.{flat_map-append, flat_map-push, list_any-append, Contains-head, Contains-one}
use Rattle.ic_hub.specs.Hubbing.{Hubbing, place_in}
use Rattle.ic_hub.specs.Calls.{SamePlace}
use Rattle.gd_work.specs.Sending.{Scanning, Scans}
use Rattle.gd_work.specs.Taking.{Gathering, Gathers}
use Rattle.gd_work.specs.Taking.{parcels_of as log_parcels}
use Rattle.ic_law.specs.Logs.{logs_by, log_of, IsOf}
use Rattle.ic_law.proofs.LogLemmas.{log_grows}
use Rattle.gd_law.specs.Answers.{gather_key}
use Rattle.gd_law.specs.Playing.{IsFromOne}
use Rattle.ic_port.specs.Noding.{Noding}
use Rattle.ic_port.specs.Calls.{begins, begins_of, Adds, Arrives, TickRefused, Leaves, LeftOrNot}
use Rattle.gd_sim.specs.declared.station.Worker.{Worker}
use Rattle.gd_sim.specs.declared.station.Worker.TheVariants.{Rests, Sends, Takes}
use Rattle.gd_sim.specs.declared.station.Station.{Station}
use Rattle.ic_row.specs.declared.value.Value.{Value}
use Rattle.gd_sim.specs.Stations.{Keeps, Hears}
use Rattle.gd_sim.specs.Playing.{Gather, senders, SendsPart, TakesAll, WorkStands, IsDone, Plays, GrowsOwn}

-- ---- asks of nobody's

-- no worker asks it
abbrev pub IsUnasked : HubAsk → Type 0
IsUnasked (Begin q ends) = Unit {0}
IsUnasked (Put key chunk) = ⊥
IsUnasked (Finish key) = ⊥
IsUnasked (Take q motion) = ⊥
IsUnasked (TakeFrom key) = ⊥
IsUnasked (Halt key) = ⊥
IsUnasked (Arrive d) = Unit {0}
IsUnasked Tick = Unit {0}
IsUnasked (Clear q) = Unit {0}
IsUnasked (Leave q) = Unit {0}

unlogged : (query : ℕ) (asked : HubAsk) (replied : HubReply) → IsUnasked asked → logs_by query asked replied ≡ []
unlogged query (Begin q ends) replied is = refl
unlogged query (Put key chunk) replied is = absurd is
unlogged query (Finish key) replied is = absurd is
unlogged query (Take q motion) replied is = absurd is
unlogged query (TakeFrom key) replied is = absurd is
unlogged query (Halt key) replied is = absurd is
unlogged query (Arrive d) replied is = refl
unlogged query Tick replied is = refl
unlogged query (Clear q) replied is = refl
unlogged query (Leave q) replied is = refl

unhalted : (c : ConnKey) (asked : HubAsk) (replied : HubReply) → IsUnasked asked → is_halt c asked replied ≡ false
unhalted c (Begin q ends) replied is = refl
unhalted c (Put key chunk) replied is = absurd is
unhalted c (Finish key) replied is = absurd is
unhalted c (Take q motion) replied is = absurd is
unhalted c (TakeFrom key) replied is = absurd is
unhalted c (Halt key) replied is = absurd is
unhalted c (Arrive d) replied is = refl
unhalted c Tick replied is = refl
unhalted c (Clear q) replied is = refl
unhalted c (Leave q) replied is = refl

is_of : (query : ℕ) (asked : HubAsk) → IsUnasked asked → IsOf query asked
is_of query (Begin q ends) is = tt
is_of query (Put key chunk) is = absurd is
is_of query (Finish key) is = absurd is
is_of query (Take q motion) is = absurd is
is_of query (TakeFrom key) is = absurd is
is_of query (Halt key) is = absurd is
is_of query (Arrive d) is = tt
is_of query Tick is = tt
is_of query (Clear q) is = tt
is_of query (Leave q) is = tt

-- ---- a history that grew

pub log_same : (query : ℕ) (h more : List Entry) → log_of query more ≡ [] → log_of query (h ++ more) ≡ log_of query h
log_same query h more none = log_grows query h more ∙ ap (λ l. log_of query h ++ l) none ∙ append-nil (log_of query h)

pub whole_on : (c : ConnKey) (h more : List Entry) → IsWhole c h → IsWhole c (h ++ more)
whole_on c h more whole =
    ap (list_any is_last_parcel) (flat_map-append (takes c) h more)
    ∙ list_any-append is_last_parcel (parcels_of c h) (parcels_of c more)
    ∙ ap (λ b. b || list_any is_last_parcel (parcels_of c more)) whole

or_false : (b : Bool) → (b || false) ≡ b
or_false true = refl
or_false false = refl

pub halts_before : (c : ConnKey) (h more : List Entry) → list_any (halts c) more ≡ false → IsHaltAsked c (h ++ more) → IsHaltAsked c h
halts_before c h more none asked =
    sym (or_false (list_any (halts c) h)) ∙ ap (λ b. list_any (halts c) h || b) (sym none) ∙ sym (list_any-append (halts c) h more) ∙ asked

pub left_same : (h more : List Entry) → left_of more ≡ [] → left_of (h ++ more) ≡ left_of h
left_same h more none = flat_map-append leaves h more ∙ ap (λ l. left_of h ++ l) none ∙ append-nil (left_of h)

pub begun_same : (h more : List Entry) → begins_of more ≡ [] → begins_of (h ++ more) ≡ begins_of h
begun_same h more none = flat_map-append begins h more ∙ ap (λ l. begins_of h ++ l) none ∙ append-nil (begins_of h)

-- ---- its work

pub takes_on : (g : Gather) (t : Gathering) (h more : List Entry) → log_of g.query more ≡ [] → ((c : ConnKey) → c.query ≡ g.query → list_any (halts c) more ≡ false)
    → TakesAll g t h → TakesAll g t (h ++ more)
takes_on g t h more none halts_none all =
    let same = sym (log_same g.query h more none) in
    record {
      motion = all.motion;
      gathers = subst (λ l. Gathers t l) same all.gathers;
      from = subst (λ l. AllByRecursion (IsFromOne (senders g)) (log_parcels 1 l)) same all.from;
      no_halt = λ c is asked. all.no_halt c is (halts_before c h more (halts_none c is) asked);
      whole = λ over segment less. whole_on (gather_key g.session g.query segment) h more (all.whole over segment less);
    }

pub sends_on : (g : Gather) (part : List (List Value)) (s : Scanning) (h more : List Entry) → log_of g.query more ≡ [] → SendsPart g part s h → SendsPart g part s (h ++ more)
sends_on g part s h more none sends = record {
  motion = sends.motion;
  to = sends.to;
  packet = sends.packet;
  scans = subst (λ l. Scans part s l) (sym (log_same g.query h more none)) sends.scans;
}

pub work_on : (g : Gather) (segment : ℤ) (w : Worker) (h more : List Entry) → log_of g.query more ≡ [] → ((c : ConnKey) → c.query ≡ g.query → list_any (halts c) more ≡ false)
    → WorkStands g segment w h → WorkStands g segment w (h ++ more)
work_on g (negsuc n) Rests h more none halts_none work = absurd work
work_on g (negsuc n) (Sends s) h more none halts_none work = absurd work
work_on g (negsuc n) (Takes t) h more none halts_none work = takes_on g t h more none halts_none work
work_on g (pos n) Rests h more none halts_none work = work
work_on g (pos n) (Sends s) h more none halts_none work = (work.0, sends_on g (slice_index_or g.parts n []) s h more none work.1)
work_on g (pos n) (Takes t) h more none halts_none work = absurd work

-- so it is with an entry that no worker asked
pub work_on_one : (g : Gather) (segment : ℤ) (w : Worker) (h : List Entry) (e : Entry) → IsUnasked e.ask → WorkStands g segment w h → WorkStands g segment w (h ++ e ∷ [])
work_on_one g segment w h e is work =
    work_on g segment w h (e ∷ []) (ap (λ l. l ++ []) (unlogged g.query e.ask e.reply is)) (λ c of. ap (λ b. b || false) (unhalted c e.ask e.reply is)) work

-- ---- a station

pub place_same : (a b : Hubbing) → SamePlace a b → place_in b ≡ place_in a
place_same a b same = ap (λ x. place_at x b.at b.settings) same.session ∙ ap (λ x. place_at a.session x b.settings) same.at ∙ ap (λ x. place_at a.session a.at x) same.settings

abbrev pub station : Noding → Worker → Bool → Bool → Station
station node worker quiet left = record { node = node; worker = worker; quiet = quiet; left = left }

-- it serves the query with a history that grew, while no query was left with that
pub plays_on : (g : Gather) (segment : ℤ) (a b : Noding) (w v : Worker) (quiet left : Bool) (more : List Entry)
    → SamePlace a.hub b.hub → b.query ≡ a.query → b.ends ≡ a.ends → b.entries ≡ a.entries ++ more → left_of more ≡ [] → begins_of more ≡ []
    → (left ≡ true → IsDone w → IsDone v) → WorkStands g segment v b.entries → Plays g segment (station a w quiet left) → Plays g segment (station b v quiet left)
plays_on g segment a b w v quiet left more place query ends grown none_left none_begun done work plays =
    let lefts : left_of b.entries ≡ left_of a.entries = ap left_of grown ∙ left_same a.entries more none_left in
    let begun : begins_of b.entries ≡ begins_of a.entries = ap begins_of grown ∙ begun_same a.entries more none_begun in
    record {
      placed = record {
        place = place_same a.hub b.hub place ∙ plays.placed.place;
        lefts = λ n at. subst (λ q. n ≤ q) (sym query) (plays.placed.lefts n (subst (λ l. Contains l n) lefts at));
        begun = λ n at. subst (λ q. (1 ≤ n) × (n ≤ q)) (sym query) (plays.placed.begun n (subst (λ l. Contains l n) begun at));
      };
      query = query ∙ plays.query;
      one_sends = plays.one_sends;
      ends = λ stays. ends ∙ plays.ends stays;
      unleft = λ stays at. plays.unleft stays (subst (λ l. Contains l g.query) lefts at);
      done = λ is. done is (plays.done is);
      gone = λ is. subst (λ l. Contains l g.query) (sym lefts) (plays.gone is);
      work = work;
    }

-- with one entry that no worker asked
pub plays_on_one : (g : Gather) (segment : ℤ) (a b : Noding) (w : Worker) (quiet left : Bool) (e : Entry)
    → Adds e a b → IsUnasked e.ask → leaves e ≡ [] → begins e ≡ [] → Plays g segment (station a w quiet left) → Plays g segment (station b w quiet left)
plays_on_one g segment a b w quiet left e adds is none_left none_begun plays =
    plays_on g segment a b w w quiet left (e ∷ []) adds.place adds.query adds.ends adds.entries (ap (λ l. l ++ []) none_left) (ap (λ l. l ++ []) none_begun) (λ h done. done)
    (subst (λ h. WorkStands g segment w h) (sym adds.entries) (work_on_one g segment w a.entries e is plays.work)) plays

-- it left the query, which its worker had done
pub plays_left : (g : Gather) (segment : ℤ) (a b : Noding) (w : Worker) (quiet left : Bool) → Leaves a b → IsDone w → Plays g segment (station a w quiet left) → Plays g segment (station b w quiet true)
plays_left g segment a b w quiet left leaves_it is plays =
    let lefts : left_of b.entries ≡ left_of a.entries ++ a.query ∷ [] = ap left_of leaves_it.entries ∙ flat_map-push leaves a.entries _ in
    let begun : begins_of b.entries ≡ begins_of a.entries = ap begins_of leaves_it.entries ∙ flat_map-push begins a.entries _ ∙ append-nil (begins_of a.entries) in
    record {
      placed = record {
        place = place_same a.hub b.hub leaves_it.place ∙ plays.placed.place;
        lefts = λ n at. subst (λ q. n ≤ q) (sym leaves_it.query) (elim (Contains-append_cases (left_of a.entries) (a.query ∷ []) n (subst (λ l. Contains l n) lefts at)) [
          | inl before ↦ plays.placed.lefts n before
          | inr now ↦ let same : n ≡ a.query = Contains-one a.query n now in omega (arith, same)
        ]);
        begun = λ n at. subst (λ q. (1 ≤ n) × (n ≤ q)) (sym leaves_it.query) (plays.placed.begun n (subst (λ l. Contains l n) begun at));
      };
      query = leaves_it.query ∙ plays.query;
      one_sends = plays.one_sends;
      ends = λ stays. absurd (let bad : true ≡ false = stays in cc);
      unleft = λ stays. absurd (let bad : true ≡ false = stays in cc);
      done = λ h. is;
      gone = λ h. subst (λ l. Contains l g.query) (sym lefts) (Contains-append_right (left_of a.entries) (a.query ∷ []) g.query
          (subst (λ q. Contains (a.query ∷ []) q) plays.query (Contains-head a.query [])));
      work = subst (λ h. WorkStands g segment w h) (sym leaves_it.entries) (work_on_one g segment w a.entries _ tt plays.work);
    }

-- ---- growth

pub grows_one : (query : ℕ) (h now : List Entry) (e : Entry) → now ≡ h ++ e ∷ [] → IsUnasked e.ask → arrives e ≡ [] → GrowsOwn query h now
grows_one query h now e grown is none_came = record { more = e ∷ []; grown = grown; of = (is_of query e.ask is, tt); none_came = ap (λ l. l ++ []) none_came }

pub grows_none : (query : ℕ) (h : List Entry) → GrowsOwn query h h
grows_none query h = record { more = []; grown = sym (append-nil h); of = tt; none_came = refl }

-- where nothing happened
pub plays_same : (g : Gather) (segment : ℤ) (a b : Noding) (w : Worker) (quiet left : Bool) → b ≡ a → Plays g segment (station a w quiet left) → Plays g segment (station b w quiet left)
plays_same g segment a b w quiet left same plays = subst (λ n. Plays g segment (station n w quiet left)) (sym same) plays

pub grows_same : (query : ℕ) (a b : Noding) → b ≡ a → GrowsOwn query a.entries b.entries
grows_same query a b same = subst (λ (n : Noding). GrowsOwn query a.entries n.entries) (sym same) (grows_none query a.entries)

-- ---- a datagram

pub heard_keeps : (d : Datagram) (a b : Noding) (w : Worker) (quiet left : Bool) (result : Result (Unit {0}) AllocError)
    → OnOk result (Arrives d a b) → OnErr result (b ≡ a) → Keeps (station a w quiet left) (station b w quiet left)
heard_keeps d a b w quiet left (Ok u) ok err = λ g segment plays. plays_on_one g segment a b w quiet left _ ok.adds tt refl refl plays
heard_keeps d a b w quiet left (Err e) ok err = λ g segment plays. plays_same g segment a b w quiet left err plays

heard_grows : (d : Datagram) (a b : Noding) (w : Worker) (quiet left : Bool) → Arrives d a b → Hears d (station a w quiet left) (station b w quiet left)
heard_grows d a b w quiet left comes = record { grows = record { more = _; grown = comes.adds.entries; of = (tt, tt) }; came = refl }

pub heard_hears : (d : Datagram) (a b : Noding) (w : Worker) (quiet left : Bool) (result : Result (Unit {0}) AllocError)
    → OnOk result (Arrives d a b) → OnOk result (Hears d (station a w quiet left) (station b w quiet left))
heard_hears d a b w quiet left (Ok u) ok = heard_grows d a b w quiet left ok
heard_hears d a b w quiet left (Err e) ok = tt

-- ---- a tick

pub refused_keeps : (refusal : TickNo) (a b : Noding) (w : Worker) (quiet left : Bool) → TickRefused refusal a b → Keeps (station a w quiet left) (station b w quiet left)
refused_keeps (tick.Spent key seq tries) a b w quiet left is = λ g segment plays. plays_on_one g segment a b w quiet left _ is tt refl refl plays
refused_keeps tick.Memory a b w quiet left is = λ g segment plays. plays_same g segment a b w quiet left is plays

pub refused_acts : (refusal : TickNo) (a b : Noding) → TickRefused refusal a b → GrowsOwn a.query a.entries b.entries
refused_acts (tick.Spent key seq tries) a b is = grows_one a.query a.entries b.entries _ is.entries tt refl
refused_acts tick.Memory a b is = grows_same a.query a b is

-- ---- leaving

pub left_keeps : (answer : Bool) (a b : Noding) (w : Worker) (quiet left : Bool) → left ≡ false → IsDone w → LeftOrNot answer a b → Keeps (station a w quiet left) (station b w quiet answer)
left_keeps true a b w quiet left stays done is = λ g segment plays. plays_left g segment a b w quiet left is done plays
left_keeps false a b w quiet left stays done is =
    λ g segment plays. plays_on_one g segment a b w quiet false _ is.adds tt refl refl (subst (λ l. Plays g segment (station a w quiet l)) stays plays)
