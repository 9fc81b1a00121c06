-- How a session and a query begin and end.
use Rattle.std.proofs.Common.{◌≡◌, ◌≢◌, ◌⊎◌, ℕ, zero, suc, ◌+◌, ◌<◌, ◌≤◌, ◌==◌, cond, ℤ, pos, negsuc, List, [], ◌∷◌, ◌++◌, length, Bool, true, false, ◌&&◌, ◌||◌, Some, Ok, Err, slice_get, slice_index_or, refl, ap, sym, ◌∙◌, subst, arith, inl, inr, append-nil, append_assoc}
use Rattle.std.specs.List.{AllByRecursion, Contains, list_any}
use Rattle.std.specs.Option.{option_map}
use Rattle.std.proofs.lemmas.List.{get_or_past, length-map}
use Rattle.std.proofs.lemmas.List.Elements.{Contains-append_left, Contains-append_cases}
use Rattle.std.proofs.lemmas.Option.{slice_get-map, slice_get_within, slice_get_cases, get_or_from_slice_get}
use Rattle.std.proofs.lemmas.Bool.Decides.{Decides-eqb}
use Rattle.ic_base.specs.declared.keys.ConnKey.{ConnKey}
use Rattle.ic_base.specs.declared.settings.Settings.{Settings}
use Rattle.ic_base.specs.declared.port.PortAsk.{PortAsk}
use Rattle.ic_base.specs.declared.port.PortAsk.TheVariants as ask
use Rattle.ic_base.specs.Keys.{key_eq}
use Rattle.ic_base.proofs.SameKeys.{key_eq-tells}
use Rattle.ic_law.specs.declared.history.HubAsk.{HubAsk}
use Rattle.ic_law.specs.declared.history.HubAsk.TheVariants.{Begin, Put, Finish, Take, TakeFrom, Halt, Arrive, Tick, Clear, Leave}
use Rattle.ic_law.specs.declared.history.HubReply.{HubReply}
use Rattle.ic_law.specs.declared.history.HubReply.TheVariants.{Begun, Gave, Took, Came, Ticked, Cleared, Left, Memory}
use Rattle.ic_law.specs.declared.history.Entry.{Entry}
use Rattle.ic_law.specs.History.{emits, emitted_of, arrives, arrived_of}
use Rattle.ic_law.specs.Putting.{was_given}
use Rattle.ic_law.specs.Taking.{is_halt, halts, IsHaltAsked, IsWhole}
use Rattle.ic_law.specs.Queries.{leaves, left_of}
use Rattle.ic_law.specs.Points.{Place, place_at}
use Rattle.ic_law.specs.Hub.{HubLaw}
use Rattle.ic_law.specs.Emission.{EmissionLaw}
use Rattle.ic_law.specs.Streams.{history_of}
use Rattle.ic_law.proofs.Lists.{Contains-none, Contains-one, flat_map-append, flat_map-push}
use Rattle.ic_law.proofs.Following.{follows}
use Rattle.ic_hub.specs.Hubbing.{Hubbing, place_in}
use Rattle.ic_hub.specs.Calls.{SamePlace}
use Rattle.ic_hub.specs.Entries.{begin_entry}
use Rattle.gd_net.specs.Network.{Net}
use Rattle.gd_work.specs.declared.course.Course.{Course}
use Rattle.gd_work.specs.declared.course.Course.TheVariants.{Going, Done}
use Rattle.gd_work.specs.Sending.{Scans}
use Rattle.gd_work.specs.Taking.{Gathering, Gathers, parcels_of, LetsOut}
use Rattle.ic_law.specs.Logs.{halt_logs, logs_by, logs, log_of, IsOf, IsOurs}
use Rattle.ic_port.specs.Calls.{begins as asked_begins, begins_of}
use Rattle.ic_port.specs.Noding.{Noding, place_of}
use Rattle.gd_law.specs.Sessions.{IsSession}
use Rattle.gd_law.specs.Answers.{gather_key}
use Rattle.gd_law.specs.Playing.{AreAllOurs, IsSent, IsFromOne, IsPlayed, AllGrowPast}
use Rattle.gd_sim.specs.declared.station.Worker.{Worker}
use Rattle.gd_sim.specs.declared.station.Worker.TheVariants.{Rests, Sends, Takes}
use Rattle.gd_sim.specs.declared.station.Station.{Station}
use Rattle.gd_sim.specs.declared.sim.Sim.{Sim}
use Rattle.gd_sim.specs.declared.begin.Beginning.{Beginning}
use Rattle.gd_sim.specs.Playing.{Gather, senders, segment_at, ends_here, ends_at, TakesAll, WorkStands, IsDone, IsPlaced, Plays, entries_in, nodes_of, IsSim, AllPlay, Grows, AllGrow}
use Rattle.gd_sim.specs.Beginning.{ends_of, IsFreshWorker, CanBegin, BegunAt, IsNew, AllBegin}
use Rattle.gd_sim.specs.Stations.{Goes, AreLawful, TellsOver}
use Rattle.gd_sim.specs.Run.{AllLeft, IsUnleft}

-- ---- growth

all_append : {A : Type 0} (P : A → Type 0) (xs ys : List A) → AllByRecursion P xs → AllByRecursion P ys → AllByRecursion P (xs ++ ys)
all_append P [] ys front back = back
all_append P (x ∷ xs) ys front back = (front.0, all_append P xs ys front.1 back)

pub grow_none : (query : ℕ) (s : Sim) → AllGrow query s s
grow_none query s = record {
  count = refl;
  each = λ segment. record { more = []; grown = sym (append-nil (history_of (nodes_of s.stations.items) segment)); of = tt };
}

pub grow_more : (query : ℕ) (a b c : Sim) → AllGrow query a b → AllGrow query b c → AllGrow query a c
grow_more query a b c first second = record {
  count = second.count ∙ first.count;
  each = λ segment.
      let h = history_of (nodes_of a.stations.items) segment in
      let one = first.each segment in
      let other = second.each segment in
      record {
        more = one.more ++ other.more;
        grown = other.grown ∙ ap (λ l. l ++ other.more) one.grown ∙ append_assoc h one.more other.more;
        of = all_append (λ (e : Entry). IsOf query e.ask) one.more other.more one.of other.of;
      };
}

pub grows_past : (query other : ℕ) (a b : Sim) → AllGrow query a b → query ≢ other → AllGrowPast other (nodes_of a.stations.items) (nodes_of b.stations.items)
grows_past query other a b grow differ = λ segment.
    let one = grow.each segment in
    record { other = query; differs = differ; more = one.more; grown = one.grown; of = one.of }

-- ---- histories of stations

pub there : (items : List Station) (k : ℕ) (station : Station) → slice_get items k ≡ Some station → slice_index_or (nodes_of items) k [] ≡ station.node.entries
there items k station at = get_or_from_slice_get (nodes_of items) k station.node.entries [] (slice_get-map entries_in items k ∙ ap (option_map entries_in) at)

past : (items : List Station) (k : ℕ) → length items ≤ k → slice_index_or (nodes_of items) k [] ≡ []
past items k far = let many : length (nodes_of items) ≡ length items = length-map items entries_in in get_or_past (nodes_of items) k [] (omega (arith, far, many))

pub history_there : (items : List Station) (k : ℕ) (station : Station) → slice_get items k ≡ Some station → history_of (nodes_of items) (segment_at k) ≡ station.node.entries
history_there items zero station at = there items 0 station at
history_there items (suc n) station at = let place : n + 1 ≡ suc n = omega arith in ap (λ i. slice_index_or (nodes_of items) i []) place ∙ there items (suc n) station at

-- a segment's history is that of a station at its place
record IsOfOne (items : List Station) (segment : ℤ) : Type 0 where
  pub k : ℕ
  pub station : Station
  pub here : slice_get items k ≡ Some station
  pub is : segment ≡ segment_at k
  pub history : history_of (nodes_of items) segment ≡ station.node.entries

-- there is no station of the segment, among so many
record IsOfNone (items : List Station) (segment : ℤ) : Type 0 where
  pub none : (others : List Station) → length others ≡ length items → history_of (nodes_of others) segment ≡ []

one_or_none : (items : List Station) (segment : ℤ) → IsOfOne items segment ⊎ IsOfNone items segment
one_or_none items (negsuc (suc n)) = inr (record { none = λ others same. refl })
one_or_none items (negsuc zero) =
    elim (slice_get_cases items 0).1 [
      | inl w ↦ inl (record { k = 0; station = w.0; here = w.2; is = refl; history = there items 0 w.0 w.2 })
      | inr w ↦ inr (record { none = λ others same. past others 0 (omega (arith, w.0, same)) })
    ]
one_or_none items (pos n) =
    let place : n + 1 ≡ suc n = omega arith in
    elim (slice_get_cases items (n + 1)).1 [
      | inl w ↦ inl (record { k = suc n; station = w.0; here = ap (slice_get items) (sym place) ∙ w.2; is = refl; history = there items (n + 1) w.0 w.2 })
      | inr w ↦ inr (record { none = λ others same. past others (n + 1) (omega (arith, w.0, same)) })
    ]

-- what is so at each station, and of no entries, is so of each segment
at_each : (session segments : ℕ) (settings : Settings) (s : Sim) → IsSim session segments settings s → (P : Place → List Entry → Type 0)
    → ((k : ℕ) (station : Station) → slice_get s.stations.items k ≡ Some station → P (place_of station.node) station.node.entries) → ((place : Place) → P place [])
    → (segment : ℤ) → P (place_at session segment settings) (history_of (nodes_of s.stations.items) segment)
at_each session segments settings s is P each none segment =
    elim (one_or_none s.stations.items segment) [
      | inl w ↦
          let place : place_of w.station.node ≡ place_at session segment settings = (is.placed w.k w.station w.here).place ∙ ap (λ a. place_at session a settings) (sym w.is) in
          subst (P (place_at session segment settings)) (sym w.history) (subst (λ p. P p w.station.node.entries) place (each w.k w.station w.here))
      | inr w ↦ subst (P (place_at session segment settings)) (sym (w.none s.stations.items refl)) (none (place_at session segment settings))
    ]

-- ---- a session

nothing_yet : (session segments : ℕ) (settings : Settings) (drops : List ℕ) (s : Sim) → IsNew session segments settings drops s → (segment : ℤ) → history_of (nodes_of s.stations.items) segment ≡ []
nothing_yet session segments settings drops s new segment =
    elim (one_or_none s.stations.items segment) [
      | inl w ↦ w.history ∙ ap (λ (n : Noding). n.entries) (new.each w.k w.station w.here)
      | inr w ↦ w.none s.stations.items refl
    ]

-- it is one, and no query was served
pub new_is_sim : (session segments : ℕ) (settings : Settings) (drops : List ℕ) (s : Sim) → IsNew session segments settings drops s
    → IsSim session segments settings s × ((k : ℕ) (station : Station) → slice_get s.stations.items k ≡ Some station → station.node.query ≡ 0)
new_is_sim session segments settings drops s new =
    let none = nothing_yet session segments settings drops s new in (
      record {
        count = new.count;
        placed = λ k station at. record {
          place = ap place_of (new.each k station at);
          lefts = λ n left. absurd (Contains-none n (subst (λ (x : Noding). Contains (left_of x.entries) n) (new.each k station at) left));
          begun = λ n asked. absurd (Contains-none n (subst (λ (x : Noding). Contains (begins_of x.entries) n) (new.each k station at) asked));
        };
        network = λ b d came. absurd (Contains-none d (subst (λ h. Contains (arrived_of h) d) (none b) came));
        kept = λ d kept. absurd (Contains-none d (subst (λ (n : Net). Contains n.kept d) new.network kept));
      },
      λ k station at. ap (λ (n : Noding). n.query) (new.each k station at),
    )

no_entry : (before : List Entry) (e : Entry) (after : List Entry) → [] ≡ before ++ e ∷ after → ⊥
no_entry [] e after at = cc
no_entry (b ∷ before) e after at = let bad : [] ≡ b ∷ (before ++ e ∷ after) = at in cc

pub session_of : (session segments : ℕ) (settings : Settings) (s : Sim) → IsSim session segments settings s → AreLawful s.stations.items
    → IsSession session segments settings (nodes_of s.stations.items) × AreAllOurs session settings (nodes_of s.stations.items)
session_of session segments settings s is lawful =
    let hubs = at_each session segments settings s is HubLaw (λ k station at. (lawful k station at).law) (λ place before e after at. absurd (no_entry before e after at)) in (
      record {
        count = length-map s.stations.items entries_in ∙ is.count;
        network = is.network;
        hubs = hubs;
        emission = at_each session segments settings s is EmissionLaw (λ k station at. (lawful k station at).emission) (λ place before e after at. absurd (no_entry before e after at));
        streams = λ c in_session. follows (nodes_of s.stations.items) session settings is.network hubs c in_session;
      },
      at_each session segments settings s is (λ place h. AllByRecursion (λ (e : Entry). IsOurs place e.ask) h) (λ k station at. (lawful k station at).ours) (λ place. tt),
    )

-- ---- a query begins

-- one entry more at a station, or none
record BeginsMore (query : ℕ) (h now : List Entry) : Type 0 where
  pub more : List Entry
  pub grown : now ≡ h ++ more
  pub of : AllByRecursion (λ e. IsOf query e.ask) more
  pub none_came : arrived_of more ≡ []
  pub none_emitted : emitted_of more ≡ []

begins_more : (b : Beginning) (a c : Sim) → AllBegin b a c → (segment : ℤ) → BeginsMore b.query (history_of (nodes_of a.stations.items) segment) (history_of (nodes_of c.stations.items) segment)
begins_more b a c begin segment =
    elim (one_or_none c.stations.items segment) [
      | inl w ↦
          let begun = begin.each w.k w.station w.here in
          let h = history_of (nodes_of a.stations.items) segment in
          let was : h ≡ begun.was.node.entries = ap (history_of (nodes_of a.stations.items)) w.is ∙ history_there a.stations.items w.k begun.was begun.here in
          let entry : Entry = begin_entry b.query (ends_of b begun.was.node.hub.at) (Ok tt) in
          record { more = entry ∷ []; grown = w.history ∙ begun.begins.begins.entries ∙ ap (λ l. l ++ entry ∷ []) (sym was); of = (tt, tt); none_came = refl; none_emitted = refl }
      | inr w ↦ record {
        more = [];
        grown = w.none c.stations.items refl ∙ sym (w.none a.stations.items (sym begin.count)) ∙ sym (append-nil (history_of (nodes_of a.stations.items) segment));
        of = tt;
        none_came = refl;
        none_emitted = refl;
      }
    ]

came_same : (query : ℕ) (h now : List Entry) → BeginsMore query h now → arrived_of now ≡ arrived_of h
came_same query h now m = ap arrived_of m.grown ∙ flat_map-append arrives h m.more ∙ ap (λ l. arrived_of h ++ l) m.none_came ∙ append-nil (arrived_of h)

emitted_same : (query : ℕ) (h now : List Entry) → BeginsMore query h now → emitted_of now ≡ emitted_of h
emitted_same query h now m = ap emitted_of m.grown ∙ flat_map-append emits h m.more ∙ ap (λ l. emitted_of h ++ l) m.none_emitted ∙ append-nil (emitted_of h)

-- ---- where there is no log, nothing was halted

both_true : (a b : Bool) → (a && b) ≡ true → (a ≡ true) × (b ≡ true)
both_true true true h = (refl, refl)
both_true true false h = let bad : false ≡ true = h in absurd (cc)
both_true false b h = let bad : false ≡ true = h in absurd (cc)

either_true : (a b : Bool) → (a || b) ≡ true → (a ≡ true) ⊎ (b ≡ true)
either_true true b h = inl refl
either_true false b h = inr h

both_none : {A : Type 0} (xs ys : List A) → xs ++ ys ≡ [] → (xs ≡ []) × (ys ≡ [])
both_none [] ys h = (refl, h)
both_none (x ∷ xs) ys h = let bad : x ∷ (xs ++ ys) ≡ [] = h in absurd (cc)

given_logged : (asked : PortAsk) (reply : HubReply) → was_given reply ≡ true → halt_logs asked reply ≡ [] → ⊥
given_logged asked (Gave (Ok ds)) given none = cc
given_logged asked (Gave (Err refusal)) given none = cc
given_logged asked (Begun r) given none = cc
given_logged asked (Took r) given none = cc
given_logged asked (Came how ds) given none = cc
given_logged asked (Ticked r) given none = cc
given_logged asked (Cleared r) given none = cc
given_logged asked (Left r) given none = cc
given_logged asked Memory given none = cc

halt_logged : (c : ConnKey) (query : ℕ) (asked : HubAsk) (reply : HubReply) → c.query ≡ query → is_halt c asked reply ≡ true → logs_by query asked reply ≡ [] → ⊥
halt_logged c query (Begin q ends) reply of halt none = cc
halt_logged c query (Put key chunk) reply of halt none = cc
halt_logged c query (Finish key) reply of halt none = cc
halt_logged c query (Take q motion) reply of halt none = cc
halt_logged c query (TakeFrom key) reply of halt none = cc
halt_logged c query (Halt key) reply of halt none =
    let both = both_true (key_eq key c) (was_given reply) halt in
    let same : key.query ≡ query = ap (λ (k : ConnKey). k.query) (key_eq-tells key c both.0) ∙ of in
    let chosen : (key.query == query) ≡ true = ap (λ n. key.query == n) (sym same) ∙ (Decides-eqb key.query key.query).1 refl in
    let asks : PortAsk = ask.Halt key.motion key.from in
    given_logged asks reply both.1 (sym (ap (λ t. cond t (halt_logs asks reply) []) chosen) ∙ none)
halt_logged c query (Arrive d) reply of halt none = cc
halt_logged c query Tick reply of halt none = cc
halt_logged c query (Clear q) reply of halt none = cc
halt_logged c query (Leave q) reply of halt none = cc

not_halted : (c : ConnKey) (query : ℕ) (h : List Entry) → c.query ≡ query → log_of query h ≡ [] → IsHaltAsked c h → ⊥
not_halted c query [] of none asked = let bad : false ≡ true = asked in cc
not_halted c query (e ∷ h) of none asked =
    let empty = both_none (logs query e) (log_of query h) none in
    elim (either_true (halts c e) (list_any (halts c) h) asked) [
      | inl first ↦ halt_logged c query e.ask e.reply of first empty.0
      | inr later ↦ not_halted c query h of empty.1 later
    ]

-- ---- a query that began

not_done : (c : Course) → c ≡ Going → c ≡ Done → ⊥
not_done c going done = let bad : Going ≡ Done = sym going ∙ done in cc

fresh_work : (g : Gather) (b : Beginning) (at : ℤ) (w : Worker) (h : List Entry) → b.packet ≡ g.settings.packet → b.senders ≡ senders g → log_of g.query h ≡ [] → IsFreshWorker b at w → WorkStands g at w h
fresh_work g b (negsuc n) Rests h packet_is senders_are none fresh = absurd fresh
fresh_work g b (negsuc n) (Sends s) h packet_is senders_are none fresh = absurd fresh
fresh_work g b (negsuc n) (Takes t) h packet_is senders_are none fresh = record {
  motion = fresh.motion;
  gathers = subst (Gathers t) (sym none) fresh.gathers;
  from = subst (λ l. AllByRecursion (IsFromOne (senders g)) (parcels_of 1 l)) (sym none) tt;
  no_halt = λ c of asked. not_halted c g.query h of none asked;
  whole = λ done segment less. absurd (not_done t.course fresh.course done);
}
fresh_work g b (pos n) Rests h packet_is senders_are none fresh = subst (λ m. m ≤ n) senders_are fresh
fresh_work g b (pos n) (Sends s) h packet_is senders_are none fresh = (
  subst (λ m. n < m) senders_are fresh.0,
  record {
    motion = fresh.1.motion;
    to = fresh.1.to;
    packet = fresh.1.packet ∙ packet_is;
    scans = subst (Scans (slice_index_or g.parts n []) s) (sym none) (fresh.1.scans (slice_index_or g.parts n []));
  },
)
fresh_work g b (pos n) (Takes t) h packet_is senders_are none fresh = absurd fresh

same_place : (a b : Hubbing) → SamePlace a b → place_in b ≡ place_in a
same_place a b same = ap (λ x. place_at x b.at b.settings) same.session ∙ ap (λ x. place_at a.session x b.settings) same.at ∙ ap (λ x. place_at a.session a.at x) same.settings

same_ends : (g : Gather) (b : Beginning) (here at : ℤ) → b.session ≡ g.session → b.query ≡ g.query → b.senders ≡ senders g → here ≡ at → ends_of b here ≡ ends_at g at
same_ends g b here at session_is query_is senders_are at_is =
    ap (λ x. ends_here x b.query b.senders here) session_is ∙ ap (λ x. ends_here g.session x b.senders here) query_is ∙ ap (λ x. ends_here g.session g.query x here) senders_are
    ∙ ap (ends_here g.session g.query (senders g)) at_is

pub can_begin : (b : Beginning) (session segments : ℕ) (settings : Settings) (s : Sim) → IsSim session segments settings s → b.session ≡ session
    → ((k : ℕ) (station : Station) → slice_get s.stations.items k ≡ Some station → station.node.query < b.query) → CanBegin b s
can_begin b session segments settings s is session_is later = λ k station at. record {
  session = ap (λ (p : Place). p.session) (is.placed k station at).place ∙ sym session_is;
  later = later k station at;
}

-- at one station
begun_plays : (g : Gather) (b : Beginning) (old : List Station) (k : ℕ) (new : Station) → ((station : Station) → slice_get old k ≡ Some station → IsPlaced g.session (segment_at k) g.settings station)
    → ((station : Station) → slice_get old k ≡ Some station → station.node.query < g.query)
    → b.session ≡ g.session → b.query ≡ g.query → b.packet ≡ g.settings.packet → b.senders ≡ senders g → 0 < senders g → BegunAt b old k new → Plays g (segment_at k) new
begun_plays g b old k new placed_at later session_is query_is packet_is senders_are one_sends begun =
    let was = begun.was in
    let placed = placed_at was begun.here in
    let less : was.node.query < g.query = later was begun.here in
    let begins = begun.begins.begins in
    let query_now : new.node.query ≡ g.query = begins.query_is ∙ query_is in
    let at : was.node.hub.at ≡ segment_at k = ap (λ (p : Place). p.at) placed.place in
    let same_left : left_of new.node.entries ≡ left_of was.node.entries =
    ap left_of begins.entries ∙ flat_map-append leaves was.node.entries (begin_entry b.query (ends_of b was.node.hub.at) (Ok tt) ∷ []) ∙ append-nil (left_of was.node.entries) in
    let begun_now : begins_of new.node.entries ≡ begins_of was.node.entries ++ b.query ∷ [] = ap begins_of begins.entries ∙ flat_map-push asked_begins was.node.entries (begin_entry b.query (ends_of b was.node.hub.at) (Ok tt)) in
    let before : (n : ℕ) → Contains (left_of new.node.entries) n → n ≤ was.node.query = λ n left. placed.lefts n (subst (λ l. Contains l n) same_left left) in
    let none : log_of g.query new.node.entries ≡ [] = ap (λ q. log_of q new.node.entries) (sym query_is) ∙ begins.log in
    record {
      placed = record {
        place = same_place was.node.hub new.node.hub begins.place ∙ placed.place;
        lefts = λ n left. let low : n ≤ was.node.query = before n left in omega (arith, low, less, query_now);
        begun = λ n asked. elim (Contains-append_cases (begins_of was.node.entries) (b.query ∷ []) n (subst (λ l. Contains l n) begun_now asked)) [
          | inl earlier ↦ (let in_it = placed.begun n earlier in let least = in_it.0 in let most = in_it.1 in (least, omega (arith, most, less, query_now)))
          | inr now ↦ (let same : n ≡ b.query = Contains-one b.query n now in (omega (arith, same, less, query_is), omega (arith, same, query_is, query_now)))
        ];
      };
      query = query_now;
      one_sends = one_sends;
      ends = λ stays. begins.ends_are ∙ same_ends g b was.node.hub.at (segment_at k) session_is query_is senders_are at;
      unleft = λ stays left. let low : g.query ≤ was.node.query = before g.query left in omega (arith, low, less);
      done = λ left. let bad : false ≡ true = sym begun.begins.stays ∙ left in absurd (cc);
      gone = λ left. let bad : false ≡ true = sym begun.begins.stays ∙ left in absurd (cc);
      work = subst (λ a. WorkStands g a new.worker new.node.entries) at (fresh_work g b was.node.hub.at new.worker new.node.entries packet_is senders_are none begun.begins.worker);
    }

pub begin_plays : (g : Gather) (b : Beginning) (a c : Sim) → IsSim g.session g.segments g.settings a
    → ((k : ℕ) (station : Station) → slice_get a.stations.items k ≡ Some station → station.node.query < g.query)
    → b.session ≡ g.session → b.query ≡ g.query → b.packet ≡ g.settings.packet → b.senders ≡ senders g
    → 0 < senders g → senders g ≤ g.segments → AllBegin b a c → Goes g a c
begin_plays g b a c is later session_is query_is packet_is senders_are one_sends few begin =
    let more = begins_more b a c begin in
    let old = nodes_of a.stations.items in
    let now = nodes_of c.stations.items in
    let each : (k : ℕ) (station : Station) → slice_get c.stations.items k ≡ Some station → Plays g (segment_at k) station = λ k station at.
    begun_plays g b a.stations.items k station (is.placed k) (later k) session_is query_is packet_is senders_are one_sends (begin.each k station at) in
    let came : (segment : ℤ) → arrived_of (history_of now segment) ≡ arrived_of (history_of old segment) = λ segment. came_same b.query (history_of old segment) (history_of now segment) (more segment) in
    let emitted : (segment : ℤ) → emitted_of (history_of now segment) ≡ emitted_of (history_of old segment) = λ segment. emitted_same b.query (history_of old segment) (history_of now segment) (more segment) in
    record {
      play = record {
        sim = record {
          count = begin.count ∙ is.count;
          placed = λ k station at. (each k station at).placed;
          network = λ segment d there.
              let w = is.network segment d (subst (λ l. Contains l d) (came segment) there) in
              (w.0, subst (λ l. Contains l d) (sym (emitted d.from)) w.1);
          kept = λ d there. subst (λ l. Contains l d) (sym (emitted d.from)) (is.kept d (subst (λ (n : Net). Contains n.kept d) begin.network there));
        };
        one_sends = one_sends;
        few = few;
        each = each;
      };
      grow = record {
        count = begin.count;
        each = λ segment. let m = more segment in record { more = m.more; grown = m.grown; of = subst (λ q. AllByRecursion (λ (e : Entry). IsOf q e.ask) m.more) query_is m.of };
      };
    }

-- ---- a query that is played

pub all_play_queries : (g : Gather) (s : Sim) → AllPlay g s → (k : ℕ) (station : Station) → slice_get s.stations.items k ≡ Some station → station.node.query ≡ g.query
all_play_queries g s play k station at = (play.each k station at).query

taker_there : (g : Gather) (w : Worker) (h : List Entry) → WorkStands g (negsuc 0) w h → (t : Gathering) × (w ≡ Takes t)
taker_there g Rests h work = absurd work
taker_there g (Sends s) h work = absurd work
taker_there g (Takes t) h work = (t, refl)

-- the dispatcher's worker is a gatherer
pub gatherer_there : (g : Gather) (s : Sim) → AllPlay g s → (station : Station) → slice_get s.stations.items 0 ≡ Some station → (t : Gathering) × (station.worker ≡ Takes t)
gatherer_there g s play station at = taker_there g station.worker station.node.entries (play.each 0 station at).work

part_sent : (g : Gather) (n : ℕ) (w : Worker) (h : List Entry) → n < senders g → WorkStands g (pos n) w h → IsSent g.query g.settings.packet (slice_index_or g.parts n []) h
part_sent g n Rests h less work = absurd (omega (arith, less, work))
part_sent g n (Sends s) h less work = record { scanning = s; motion = work.1.motion; to = work.1.to; packet_is = work.1.packet; scans = work.1.scans }
part_sent g n (Takes t) h less work = absurd work

pub played : (g : Gather) (s : Sim) → AllPlay g s → TellsOver s.stations.items true
    → (t : Gathering) (station : Station) → slice_get s.stations.items 0 ≡ Some station → station.worker ≡ Takes t
    → IsPlayed g.session g.query g.settings.packet g.parts (nodes_of s.stations.items) t.rows
played g s play over t station at takes =
    let items = s.stations.items in
    let first = play.each 0 station at in
    let all : TakesAll g t station.node.entries = subst (λ w. WorkStands g (negsuc 0) w station.node.entries) takes first.work in
    let done : t.course ≡ Done = subst IsDone takes (first.done (over 0 station at)) in
    let history : history_of (nodes_of items) (negsuc 0) ≡ station.node.entries = history_there items 0 station at in
    record {
      sent = λ n part part_at.
          let less : n < senders g = slice_get_within g.parts n part part_at in
          let few = play.few in
          let count = play.sim.count in
          elim (slice_get_cases items (suc n)).1 [
            | inl w ↦
                let sends = part_sent g n w.0.worker w.0.node.entries less (play.each (suc n) w.0 w.2).work in
                let is : slice_index_or g.parts n [] ≡ part = get_or_from_slice_get g.parts n part [] part_at in
                subst (IsSent g.query g.settings.packet part) (sym (history_there items (suc n) w.0 w.2)) (subst (λ p. IsSent g.query g.settings.packet p w.0.node.entries) is sends)
            | inr w ↦ absurd (omega (arith, w.0, less, few, count))
          ];
      taken = record {
        lets_out = subst (λ h. LetsOut (parcels_of 1 (log_of g.query h)) t.rows) (sym history)
            (subst (λ m. LetsOut (parcels_of m (log_of g.query station.node.entries)) t.rows) all.motion (all.gathers.lets_out (λ refused. let bad = sym done ∙ refused in cc)));
        from = subst (λ h. AllByRecursion (IsFromOne (senders g)) (parcels_of 1 (log_of g.query h))) (sym history) all.from;
        whole = λ segment less. subst (IsWhole (gather_key g.session g.query segment)) (sym history) (all.whole done segment less);
      };
    }

pub unleft : (g : Gather) (s : Sim) → AllPlay g s → TellsOver s.stations.items false → IsUnleft (nodes_of s.stations.items) g.query
unleft g s play stays =
    let items = s.stations.items in
    let within : stays.0 < length items = slice_get_within items stays.0 stays.1 stays.2 in
    let many : length (nodes_of items) ≡ length items = length-map items entries_in in
    record {
      at = stays.0;
      within = omega (arith, within, many);
      stays = λ left. (play.each stays.0 stays.1 stays.2).unleft stays.3 (subst (λ h. Contains (left_of h) g.query) (there items stays.0 stays.1 stays.2) left);
    }

-- ---- a query that is left

-- where each station has left the query, each node's history says so
pub left_each : (g : Gather) (s : Sim) → AllPlay g s → TellsOver s.stations.items true → AllLeft (nodes_of s.stations.items) g.query
left_each g s play over at within =
    let items = s.stations.items in
    let many : length (nodes_of items) ≡ length items = length-map items entries_in in
    elim (slice_get_cases items at).1 [
      | inl w ↦ subst (λ h. Contains (left_of h) g.query) (sym (there items at w.0 w.2)) ((play.each at w.0 w.2).gone (over at w.0 w.2))
      | inr w ↦ absurd (omega (arith, within, many, w.0))
    ]

-- what was left stays left
left_more : (other query : ℕ) (h now : List Entry) → Grows other h now → Contains (left_of h) query → Contains (left_of now) query
left_more other query h now grows left =
    subst (λ l. Contains (left_of l) query) (sym grows.grown)
    (subst (λ l. Contains l query) (sym (flat_map-append leaves h grows.more)) (Contains-append_left (left_of h) (left_of grows.more) query left))

pub left_on : (other query : ℕ) (a b : Sim) → AllGrow other a b → AllLeft (nodes_of a.stations.items) query → AllLeft (nodes_of b.stations.items) query
left_on other query a b grow left at within = by at (grow.each (segment_at at)) within
  where
    was : List (List Entry)
    was = nodes_of a.stations.items

    now : List (List Entry)
    now = nodes_of b.stations.items

    many : length now ≡ length was
    many = length-map b.stations.items entries_in ∙ grow.count ∙ sym (length-map a.stations.items entries_in)

    by : (at : ℕ) → Grows other (history_of was (segment_at at)) (history_of now (segment_at at)) → at < length now → Contains (left_of (slice_index_or now at [])) query
    by zero grows within = left_more other query (slice_index_or was 0 []) (slice_index_or now 0 []) grows (left 0 (omega (arith, within, many)))
    by (suc n) grows within =
        let place : n + 1 ≡ suc n = omega arith in
        subst (λ i. Contains (left_of (slice_index_or now i [])) query) place
        (left_more other query (slice_index_or was (n + 1) []) (slice_index_or now (n + 1) []) grows (left (n + 1) (omega (arith, within, many))))
