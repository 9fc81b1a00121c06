-- Queries, one behind the other.
use Rattle.std.proofs.Common.{◌≡◌, ◌≢◌, ℕ, zero, suc, ◌+◌, ◌-◌, ◌<◌, ◌≤◌, ℤ, List, [], ◌∷◌, ◌++◌, length, map, set, true, false, Option, Some, None, Result, Ok, Err, slice_get, Contains, option_map, refl, ap, sym, subst, ◌∙◌, arith, inl, inr, ◌⊎◌, length-append, get_or}
use Rattle.std.specs.Prelude.{slice_index_or, IsSome}
use Rattle.std.proofs.lemmas.List.{length-map}
use Rattle.std.proofs.lemmas.Option.{slice_get-map, slice_get_within, slice_get_cases, slice_get-get_or, get_or_from_slice_get}
use Rattle.std.proofs.lemmas.List.FromFn.{length-map-range_with_len, get_or-map-range_with_len}
use Rattle.std.proofs.Math.Seq.{map-set_same}
use Rattle.std.specs.List.{AllByRecursion}
use Rattle.ic_base.specs.declared.settings.Settings.{Settings}
use Rattle.ic_base.specs.Settings.{AreChecked}
use Rattle.ic_row.specs.declared.value.Value.{Value}
use Rattle.pl_ops.specs.declared.loaded.Spread.{Spread}
use Rattle.pl_ops.specs.Placed.{rows_at}
use Rattle.gd_law.specs.Playing.{IsPlayed}
use Rattle.gd_law.proofs.Staying.{played_stays}
use Rattle.gd_law.proofs.Answered.{played_is_answered}
use Rattle.ic_law.specs.Points.{place_at}
use Rattle.ic_law.specs.Queries.{left_of}
use Rattle.ic_law.specs.Streams.{NetworkLaw, history_of}
use Rattle.ic_port.specs.Calls.{begins_of}
use Rattle.ic_port.specs.Noding.{Noding, place_of}
use Rattle.gd_sim.specs.declared.feed.Feed.{Feed}
use Rattle.gd_sim.specs.declared.fault.SimNo.{SimNo}
use Rattle.gd_sim.specs.declared.fault.SimNo.TheVariants as no_of
use Rattle.gd_sim.specs.declared.begin.Beginning.{Beginning}
use Rattle.std.specs.Result.{is_err, OnOk, IsErrAnd}
use Rattle.gd_sim.specs.declared.run.QueryNo.{QueryNo}
use Rattle.gd_sim.specs.declared.run.FirstNo.{FirstNo}
use Rattle.gd_sim.specs.declared.run.FirstNo.TheVariants.{Unfinished, Spent, TooLong}
use Rattle.gd_sim.specs.declared.station.Station.{Station}
use Rattle.gd_sim.specs.declared.sim.Sim.{Sim}
use Rattle.gd_sim.specs.Feeding.{part_of, parts_of, IsFeed}
use Rattle.gd_sim.specs.Run.{AllLeft, HasCause, IsOfQuery, AnswersFeed, IsRun}
use Rattle.gd_sim.specs.Playing.{Gather, segment_at, entries_in, nodes_of, IsSim, WasEmitted, AllGrow, Grows, AreRows}
use Rattle.gd_sim.specs.Stations.{Goes, PlayGoes, CanPlay, HasFault, TellsOver, AreLawful}
use Rattle.gd_sim.specs.Beginning.{AllBegin, IsNew}
use Rattle.gd_sim.specs.Runs.{query_fault, AllServe, Starts, CanStart, Ran, RanOver, RanInto, Ends, IsOver, AreOver, Stands, GoesOn, EndAll, GivesRows}
use Rattle.gd_sim.proofs.Ending.{grow_more, grows_past, begin_plays, all_play_queries, gatherer_there, played, unleft, left_each, left_on, there, new_is_sim, session_of}
use Rattle.gd_sim.proofs.Faulting.{Alone, spent_is_of, used_is_of}

-- ---- one query

-- once it began they serve it
pub began : (g : Gather) (b : Beginning) (rows : ℤ → List (List Value)) (a c : Sim) → Starts g b rows a → AllBegin b a c → Goes g a c
began g b rows a c starts begin = begin_plays g b a c starts.sim starts.before starts.session starts.query starts.packet starts.count starts.one_sends starts.few begin

pub may_go_on : (b : Beginning) (rows : ℤ → List (List Value)) (a c : Sim) → CanStart b rows a → AllBegin b a c → CanPlay rows c
may_go_on b rows a c can begin = record { gather = can.gather; play = (began can.gather b rows a c can.starts begin).play; rows_are = can.starts.rows_are }

-- what it did from its beginning on
pub went : (g : Gather) (b : Beginning) (rows : ℤ → List (List Value)) (a c d : Sim) → Starts g b rows a → AllBegin b a c → PlayGoes rows c d → Goes g a d
went g b rows a c d starts begin goes =
    let first = began g b rows a c starts begin in
    let then_ = goes g first.play starts.rows_are in
    record { play = then_.play; grow = grow_more g.query a c d first.grow then_.grow }

pub ran : (g : Gather) (a b : Sim) → Goes g a b → Ran g a b
ran g a b goes = record { sim = goes.play.sim; serve = all_play_queries g b goes.play; grow = goes.grow }

-- a refusal ends it
pub faulty : (rounds : ℕ) (g : Gather) (a b : Sim) (refusal : SimNo) → Ran g a b → HasFault (nodes_of b.stations.items) refusal → Ends rounds g a b (Err (query_fault refusal))
faulty rounds g a b (no_of.Spent key seq tries) is fault = record { ran = is; cause = fault }
faulty rounds g a b (no_of.TooLong key) is fault = record { ran = is; cause = fault }
faulty rounds g a b no_of.Memory is fault = tt

-- it was begun, where that wasn't refused
pub was_ok : {P : Type 0} (r : Result (Unit {0}) SimNo) → is_err r ≡ false → OnOk r P → P
was_ok (Ok u) is p = p
was_ok (Err e) is p = absurd (true_false is)
  where
    true_false : true ≡ false → ⊥
    true_false e = cc

-- a refusal that is handed on ends it
pub handed_on : (rounds : ℕ) (g : Gather) (a b : Sim) (refusal : SimNo) (r : Result (List (List Value)) QueryNo) → Ends rounds g a b (Err (query_fault refusal))
    → IsErrAnd r (λ e. e ≡ query_fault refusal) → Ends rounds g a b r
handed_on rounds g a b refusal (Ok rows) ends is = absurd is
handed_on rounds g a b refusal (Err e) ends is = subst (λ x. Ends rounds g a b (Err x)) (sym is) ends

-- so does the last round
pub too_late : (rounds : ℕ) (g : Gather) (a b : Sim) → Goes g a b → TellsOver b.stations.items false → RanInto rounds g a b (Unfinished rounds)
too_late rounds g a b goes stays = record { ran = ran g a b goes; cause = (refl, unleft g b goes.play stays) }

-- ---- rows that are taken out

abbrev pub node_in : Station → Noding
node_in s = s.node

-- what is known of the node at each place is known where the nodes are the same
pub by_node : (P : ℕ → Noding → Type 0) (xs ys : List Station) → map node_in xs ≡ map node_in ys
    → ((k : ℕ) (s : Station) → slice_get xs k ≡ Some s → P k s.node) → (k : ℕ) (s : Station) → slice_get ys k ≡ Some s → P k s.node
by_node P xs ys same each k s at =
    let there : slice_get (map node_in xs) k ≡ Some s.node = ap (λ l. slice_get l k) same ∙ slice_get-map node_in ys k ∙ ap (option_map node_in) at in
    by (slice_get xs k) refl (sym (slice_get-map node_in xs k) ∙ there)
  where
    by : (o : Option Station) → slice_get xs k ≡ o → option_map node_in o ≡ Some s.node → P k s.node
    by None is e = absurd (none_some e)
      where
        none_some : None ≡ Some s.node → ⊥
        none_some e = cc
    by (Some x) is e = subst (P k) (some_inj e) (each k x is)
      where
        some_inj : Some x.node ≡ Some s.node → x.node ≡ s.node
        some_inj e = cc

pub same_histories : (xs ys : List Station) → map node_in xs ≡ map node_in ys → nodes_of xs ≡ nodes_of ys
same_histories xs ys same = through xs ∙ ap (map (λ (n : Noding). n.entries)) same ∙ sym (through ys)
  where
    through : (zs : List Station) → nodes_of zs ≡ map (λ (n : Noding). n.entries) (map node_in zs)
    through [] = refl
    through (z ∷ zs) = ap (λ l. z.node.entries ∷ l) (through zs)

-- what a node's place in the session says
abbrev Placed : ℕ → Settings → ℕ → Noding → Type 0
Placed session settings k n =
    (place_of n ≡ place_at session (segment_at k) settings) × ((q : ℕ) → Contains (left_of n.entries) q → q ≤ n.query)
    × ((q : ℕ) → Contains (begins_of n.entries) q → (1 ≤ q) × (q ≤ n.query))

-- the session is the one it was
pub same_sim : (session segments : ℕ) (settings : Settings) (a b : Sim) → map node_in a.stations.items ≡ map node_in b.stations.items → length b.stations.items ≡ length a.stations.items
    → b.network ≡ a.network → IsSim session segments settings a → IsSim session segments settings b
same_sim session segments settings a b same count network is =
    let nodes : nodes_of a.stations.items ≡ nodes_of b.stations.items = same_histories a.stations.items b.stations.items same in
    record {
      count = count ∙ is.count;
      placed = λ k s at. let it = by_node (λ k n. Placed session settings k n) a.stations.items b.stations.items same (λ k s at. let p = is.placed k s at in (p.place, p.lefts, p.begun)) k s at in
          record { place = it.0; lefts = it.1; begun = it.2 };
      network = subst (λ h. NetworkLaw h) nodes is.network;
      kept = subst (λ n. WasEmitted (nodes_of b.stations.items) n) (sym network) (subst (λ h. WasEmitted h a.network) nodes is.kept);
    }

-- the dispatcher's worker is another now
pub over : (g : Gather) (a b c : Sim) (old new : Station) (rows : List (List Value)) → Goes g a b → TellsOver b.stations.items true
    → slice_get b.stations.items 0 ≡ Some old → new.node ≡ old.node → GivesRows old.worker rows
    → c.stations.items ≡ set b.stations.items 0 new → c.network ≡ b.network → RanOver g a c rows
over g a b c old new rows goes all_left at same gives set_is network =
    let nodes : map node_in b.stations.items ≡ map node_in c.stations.items =
    sym (ap (map node_in) set_is ∙ map-set_same node_in b.stations.items 0 new old (same ∙ ap node_in (sym (get_or_from_slice_get b.stations.items 0 old old at)))) in
    let count : length c.stations.items ≡ length b.stations.items = sym (length-map c.stations.items node_in) ∙ ap length (sym nodes) ∙ length-map b.stations.items node_in in
    let histories : nodes_of b.stations.items ≡ nodes_of c.stations.items = same_histories b.stations.items c.stations.items nodes in
    let t = gatherer_there g b goes.play old at in
    record {
      ran = record {
        sim = same_sim g.session g.segments g.settings b c nodes count network goes.play.sim;
        serve = λ k s here. by_node (λ k n. n.query ≡ g.query) b.stations.items c.stations.items nodes (all_play_queries g b goes.play) k s here;
        grow = record {
          count = count ∙ goes.grow.count;
          each = subst (λ h. (segment : ℤ) → Grows g.query (history_of (nodes_of a.stations.items) segment) (history_of h segment)) histories goes.grow.each;
        };
      };
      played = subst (λ h. IsPlayed g.session g.query g.settings.packet g.parts h rows) histories
          (subst (λ r. IsPlayed g.session g.query g.settings.packet g.parts (nodes_of b.stations.items) r) (sym (gives t.0 t.1)) (played g b goes.play all_left t.0 old at t.1));
      left = subst (λ h. AllLeft h g.query) histories (left_each g b goes.play all_left);
    }

-- ---- one query more

-- the gather of a feed
abbrev pub gather_of : (session segments : ℕ) (settings : Settings) (loaded : List Spread) (feed : Feed) (query : ℕ) → Gather
gather_of session segments settings loaded feed query = record { session = session; segments = segments; settings = settings; query = query; parts = parts_of loaded feed }

pub sender_count : (loaded : List Spread) (feed : Feed) → length (parts_of loaded feed) ≡ feed.senders
sender_count loaded feed = length-map-range_with_len (part_of loaded feed) 0 feed.senders

-- the rows by segment are its parts
pub rows_of_feed : (session segments : ℕ) (settings : Settings) (loaded : List Spread) (feed : Feed) (query : ℕ) → IsFeed segments loaded feed
    → AreRows (gather_of session segments settings loaded feed query) (rows_at loaded feed.table)
rows_of_feed session segments settings loaded feed query is =
    let less = λ (n : ℕ) (h : n < length (parts_of loaded feed)). subst (λ c. n < c) (sender_count loaded feed) h in
    record {
      parts = λ n h. get_or-map-range_with_len (part_of loaded feed) 0 feed.senders n n [] (less n h) (omega arith);
      lengths = λ n h. is.lengths n (less n h);
    }

all_at : {A : Type 0} (P : A → Type 0) (xs : List A) (i : ℕ) (x : A) → AllByRecursion P xs → slice_get xs i ≡ Some x → P x
all_at P [] i x all is = absurd (none_some is)
  where
    none_some : None ≡ Some x → ⊥
    none_some e = cc
all_at P (y ∷ ys) zero x all is = subst P (some_inj is) all.0
  where
    some_inj : Some y ≡ Some x → y ≡ x
    some_inj e = cc
all_at P (y ∷ ys) (suc i) x all is = all_at P ys i x all.1 is

later : (place n : ℕ) → place ≡ n → (q : ℕ) → q ≡ n → q < place + 1
later place n same q is = omega (arith, same, is)

-- the query of the feed at this place may start
pub next_starts : (session segments : ℕ) (settings : Settings) (loaded : List Spread) (feeds : List Feed) (s : Sim) (lists : List (List (List Value))) (place : ℕ) (feed : Feed)
    → Stands session segments settings loaded feeds s lists → place ≡ length lists → slice_get feeds place ≡ Some feed → AllByRecursion (IsFeed segments loaded) feeds
    → Starts (gather_of session segments settings loaded feed (place + 1)) (record { session = session; query = place + 1; packet = settings.packet; senders = feed.senders }) (rows_at loaded feed.table) s
next_starts session segments settings loaded feeds s lists place feed stands next here all =
    let is = all_at (IsFeed segments loaded) feeds place feed all here in
    record {
      sim = stands.over.sim;
      before = λ k station at. later place (length lists) next station.node.query (stands.serve k station at);
      session = refl;
      query = refl;
      packet = refl;
      count = sym (sender_count loaded feed);
      one_sends = subst (λ c. 0 < c) (sym (sender_count loaded feed)) is.least;
      few = subst (λ c. c ≤ segments) (sym (sender_count loaded feed)) is.most;
      rows_are = rows_of_feed session segments settings loaded feed (place + 1) is;
    }

-- an answer stays while a later query runs
stays : (session segments : ℕ) (settings : Settings) (loaded : List Spread) (feeds : List Feed) (a b : Sim) (query place : ℕ) (rows : List (List Value))
    → AllGrow query a b → query ≢ place + 1 → IsOver session settings loaded feeds a place rows → IsOver session settings loaded feeds b place rows
stays session segments settings loaded feeds a b query place rows grow differ is = record {
  feed = is.feed;
  here = is.here;
  played = played_stays session (place + 1) settings.packet (parts_of loaded is.feed) (nodes_of a.stations.items) (nodes_of b.stations.items) rows is.played (grows_past query (place + 1) a b grow differ);
  left = left_on query (place + 1) a b grow is.left;
}

-- the answers stay, while the query behind them runs
pub all_stay : (session segments : ℕ) (settings : Settings) (loaded : List Spread) (feeds : List Feed) (a b : Sim) (place : ℕ) (feed : Feed) (lists : List (List (List Value)))
    → AreOver session segments settings loaded feeds a lists → place ≡ length lists → Ran (gather_of session segments settings loaded feed (place + 1)) a b
    → AreOver session segments settings loaded feeds b lists
all_stay session segments settings loaded feeds a b place feed lists are next is = record {
  sim = is.sim;
  each = λ k rows at. stays session segments settings loaded feeds a b (place + 1) k rows is.grow (differs k (slice_get_within lists k rows at)) (are.each k rows at);
}
  where
    differs : (k : ℕ) → k < length lists → (place + 1 ≡ k + 1) → ⊥
    differs k within same = omega (arith, next, within, same)

at_pushed : {A : Type 0} (xs : List A) (x : A) (i : ℕ) (y : A) → slice_get (xs ++ x ∷ []) i ≡ Some y → (slice_get xs i ≡ Some y) ⊎ ((i ≡ length xs) × (x ≡ y))
at_pushed [] x zero y at = inr (refl, some_inj at)
  where
    some_inj : Some x ≡ Some y → x ≡ y
    some_inj e = cc
at_pushed [] x (suc i) y at = absurd (none_some at)
  where
    none_some : None ≡ Some y → ⊥
    none_some e = cc
at_pushed (z ∷ xs) x zero y at = inl at
at_pushed (z ∷ xs) x (suc i) y at = by (at_pushed xs x i y at)
  where
    by : ((slice_get xs i ≡ Some y) ⊎ ((i ≡ length xs) × (x ≡ y))) → ((slice_get xs i ≡ Some y) ⊎ ((suc i ≡ suc (length xs)) × (x ≡ y)))
    by (inl h) = inl h
    by (inr h) = inr (ap suc h.0, h.1)

-- one more is over
pub one_more : (session segments : ℕ) (settings : Settings) (loaded : List Spread) (feeds : List Feed) (a b : Sim) (place : ℕ) (feed : Feed) (lists : List (List (List Value))) (rows : List (List Value))
    → AreOver session segments settings loaded feeds a lists → place ≡ length lists → slice_get feeds place ≡ Some feed
    → RanOver (gather_of session segments settings loaded feed (place + 1)) a b rows
    → Stands session segments settings loaded feeds b (lists ++ rows ∷ [])
one_more session segments settings loaded feeds a b place feed lists rows are next here is =
    let others = all_stay session segments settings loaded feeds a b place feed lists are next is.ran in
    record {
      over = record { sim = is.ran.sim; each = λ k r at. by k r (at_pushed lists rows k r at) };
      serve = λ k station at. is.ran.serve k station at ∙ counts;
    }
  where
    counts : place + 1 ≡ length (lists ++ rows ∷ [])
    counts = ap (λ n. n + 1) next ∙ sym (length-append lists (rows ∷ []))

    by : (k : ℕ) (r : List (List Value)) → ((slice_get lists k ≡ Some r) ⊎ ((k ≡ length lists) × (rows ≡ r))) → IsOver session settings loaded feeds b k r
    by k r (inl at) = (all_stay session segments settings loaded feeds a b place feed lists are next is.ran).each k r at
    by k r (inr last) = subst (λ x. IsOver session settings loaded feeds b k x) last.1
        (subst (λ n. IsOver session settings loaded feeds b n rows) (next ∙ sym last.0) (record { feed = feed; here = here; played = is.played; left = is.left }))

-- the query behind them isn't over
pub none_more : (session segments rounds : ℕ) (settings : Settings) (loaded : List Spread) (feeds : List Feed) (a b : Sim) (place : ℕ) (feed : Feed) (lists : List (List (List Value))) (fault : FirstNo)
    → AreOver session segments settings loaded feeds a lists → place ≡ length lists
    → RanInto rounds (gather_of session segments settings loaded feed (place + 1)) a b fault
    → GoesOn session segments rounds settings loaded feeds b lists lists (Some fault)
none_more session segments rounds settings loaded feeds a b place feed lists fault are next is = (
  all_stay session segments settings loaded feeds a b place feed lists are next is.ran,
  refl,
  subst (λ n. HasCause rounds (n + 1) (nodes_of b.stations.items) fault) next is.cause,
  λ k station at. is.ran.serve k station at ∙ ap (λ n. n + 1) next,
)

-- ---- all queries

-- before the first none is over
pub first_stands : (session segments : ℕ) (settings : Settings) (loaded : List Spread) (feeds : List Feed) (drops : List ℕ) (s : Sim) → IsNew session segments settings drops s
    → Stands session segments settings loaded feeds s []
first_stands session segments settings loaded feeds drops s new =
    let is = new_is_sim session segments settings drops s new in
    record { over = record { sim = is.0; each = λ k rows at. absurd (none_some rows at) }; serve = is.1 }
  where
    none_some : (rows : List (List Value)) → None ≡ Some rows → ⊥
    none_some rows e = cc

-- each query that is over was answered
answers : (session segments : ℕ) (settings : Settings) (loaded : List Spread) (feeds : List Feed) (s : Sim) (lists : List (List (List Value)))
    → AreChecked settings → AreLawful s.stations.items → AreOver session segments settings loaded feeds s lists
    → (place : ℕ) (rows : List (List Value)) → slice_get lists place ≡ Some rows → AnswersFeed session settings loaded feeds (nodes_of s.stations.items) place rows
answers session segments settings loaded feeds s lists checked lawful are place rows at =
    let is = are.each place rows at in
    let session_is = session_of session segments settings s are.sim lawful in
    record {
      feed = is.feed;
      here = is.here;
      answered = played_is_answered session segments (place + 1) settings (parts_of loaded is.feed) (nodes_of s.stations.items) rows session_is.0 session_is.1 checked.least_packet checked.greatest_packet is.played;
      left = is.left;
    }

-- all end with the first fault
pub end_with : (session segments rounds : ℕ) (settings : Settings) (loaded : List Spread) (feeds : List Feed) (new : Sim) (lists more : List (List (List Value))) (fault : Option FirstNo)
    → GoesOn session segments rounds settings loaded feeds new lists more fault → IsSome fault → length lists < length feeds → EndAll session segments rounds settings loaded feeds new more fault
end_with session segments rounds settings loaded feeds new lists more None goes some less = let bad : false ≡ true = some in absurd cc
end_with session segments rounds settings loaded feeds new lists more (Some fault) goes some less = (
  goes.0,
  subst (λ l. length l < length feeds) (sym goes.1) less,
  subst (λ l. HasCause rounds (length l + 1) (nodes_of new.stations.items) fault) (sym goes.1) goes.2,
  subst (λ l. AllServe (length l + 1) new.stations.items) (sym goes.1) goes.3,
)

-- the history of the node at a place, once the queries before this one are over
alone_at : (session segments : ℕ) (settings : Settings) (loaded : List Spread) (feeds : List Feed) (s : Sim) (lists : List (List (List Value))) (at : ℕ) (station : Station)
    → AreLawful s.stations.items → AreOver session segments settings loaded feeds s lists → AllServe (length lists + 1) s.stations.items → at < length (nodes_of s.stations.items)
    → slice_get s.stations.items at ≡ Some station → slice_index_or (nodes_of s.stations.items) at [] ≡ station.node.entries → Alone (place_of station.node) (length lists + 1) station.node.entries
alone_at session segments settings loaded feeds s lists at station lawful are serve within here is =
    record {
      law = (lawful at station here).law;
      begun = λ n asked. let w = (are.sim.placed at station here).begun n asked in (w.0, subst (λ q. n ≤ q) (serve at station here) w.1);
      left = λ n least less.
          let k = n - 1 in
          let same : k + 1 ≡ n = omega (arith, least) in
          let there : slice_get lists k ≡ Some (get_or lists k []) = slice_get-get_or lists k [] (omega (arith, least, less)) in
          subst (λ h. Contains (left_of h) n) is (subst (λ q. Contains (left_of (slice_index_or (nodes_of s.stations.items) at [])) q) same ((are.each k (get_or lists k []) there).left at within));
    }

-- the connection of a fault is of the query that isn't over
of_query : (session segments rounds : ℕ) (settings : Settings) (loaded : List Spread) (feeds : List Feed) (s : Sim) (lists : List (List (List Value))) (fault : FirstNo)
    → AreLawful s.stations.items → AreOver session segments settings loaded feeds s lists → AllServe (length lists + 1) s.stations.items → HasCause rounds (length lists + 1) (nodes_of s.stations.items) fault
    → IsOfQuery (length lists + 1) fault
of_query session segments rounds settings loaded feeds s lists (Unfinished n) lawful are serve cause = tt
of_query session segments rounds settings loaded feeds s lists (Spent key seq tries) lawful are serve cause =
    let items = s.stations.items in
    let many : length (nodes_of items) ≡ length items = length-map items entries_in in
    elim (slice_get_cases items cause.at).1 [
      | inl w ↦ (
          let is = there items cause.at w.0 w.2 in
          spent_is_of (place_of w.0.node) (length lists + 1) w.0.node.entries cause.before key seq tries
          (alone_at session segments settings loaded feeds s lists cause.at w.0 lawful are serve cause.within w.2 is) (sym is ∙ cause.history))
      | inr w ↦ (let within = cause.within in absurd (omega (arith, within, many, w.0)))
    ]
of_query session segments rounds settings loaded feeds s lists (TooLong key) lawful are serve cause =
    let items = s.stations.items in
    let last = cause.last in
    let many : length (nodes_of items) ≡ length items = length-map items entries_in in
    elim (slice_get_cases items last.at).1 [
      | inl w ↦ (
          let is = there items last.at w.0 w.2 in
          used_is_of (place_of w.0.node) (length lists + 1) w.0.node.entries last.before cause.entry key cause.which
          (alone_at session segments settings loaded feeds s lists last.at w.0 lawful are serve last.within w.2 is) (sym is ∙ last.history) cause.ask cause.reply)
      | inr w ↦ (let within = last.within in absurd (omega (arith, within, many, w.0)))
    ]

-- a run that ended
pub is_run : (session segments rounds : ℕ) (settings : Settings) (loaded : List Spread) (feeds : List Feed) (s : Sim) (lists : List (List (List Value))) (fault : Option FirstNo)
    → AreChecked settings → AreLawful s.stations.items → EndAll session segments rounds settings loaded feeds s lists fault
    → IsRun session segments rounds settings loaded feeds (record { rows = lists; histories = nodes_of s.stations.items; fault = fault })
is_run session segments rounds settings loaded feeds s lists None checked lawful ends = record {
  session_is = (session_of session segments settings s ends.0.sim lawful).0;
  answers = answers session segments settings loaded feeds s lists checked lawful ends.0;
  ends = ends.1;
}
is_run session segments rounds settings loaded feeds s lists (Some fault) checked lawful ends = record {
  session_is = (session_of session segments settings s ends.0.sim lawful).0;
  answers = answers session segments settings loaded feeds s lists checked lawful ends.0;
  ends = (ends.1, ends.2, of_query session segments rounds settings loaded feeds s lists fault lawful ends.0 ends.3 ends.2);
}
