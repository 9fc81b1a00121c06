-- One call of one station, seen from all stations.
use Rattle.std.proofs.Common.{◌≡◌, ◌⊎◌, ℕ, zero, suc, ◌<◌, ℤ, Bool, pos, negsuc, List, [], ◌∷◌, ◌++◌, length, set, get_or, drop, Some, Result, Ok, Err, IfErr, slice_get, refl, ap, sym, ◌∙◌, subst, arith, inl, inr, append_assoc, append-nil, length-set, get_or-set_same, get_or-set_other}
use Rattle.std.proofs.Math.Seq.{drop-append_seam}
use Rattle.std.proofs.lemmas.List.{map-set, length-map}
use Rattle.std.proofs.lemmas.List.Elements.{Contains-append_left, Contains-append_right, Contains-append_cases}
use Rattle.std.proofs.lemmas.Option.{slice_get-get_or, slice_get_within, get_or_from_slice_get, slice_get_read}
use Rattle.std.proofs.lemmas.Bool.Decides.{eqb_tells}
use Rattle.std.specs.List.{All, AllByRecursion, Contains}
use Rattle.ic_base.specs.declared.datagram.Datagram.{Datagram}
use Rattle.ic_row.specs.Spelling.{HasLengths}
use Rattle.ic_row.specs.declared.value.Value.{Value}
use Rattle.ic_law.specs.declared.history.Entry.{Entry}
use Rattle.ic_law.specs.Points.{Place, place_at}
use Rattle.ic_law.specs.History.{emits, arrives, emitted_of, arrived_of}
use Rattle.ic_law.specs.Streams.{NetworkLaw, history_of}
use Rattle.ic_law.proofs.Lists.{flat_map-append, Contains-flat_map, Contains-none, Contains-one, Contains-middle, Contains-tail}
use Rattle.gd_net.specs.declared.network.Received.TheVariants.{Came}
use Rattle.gd_net.specs.Network.{Net, with_hand, Receives}
use Rattle.gd_work.specs.declared.course.Turned.{Turned}
use Rattle.ic_law.specs.Logs.{IsOf}
use Rattle.ic_port.specs.Noding.{Noding, place_of, IsLawful}
use Rattle.gd_sim.specs.declared.station.Station.{Station}
use Rattle.gd_sim.specs.declared.sim.Sim.{Sim}
use Rattle.gd_sim.specs.declared.fault.SimNo.{SimNo}
use Rattle.gd_sim.specs.declared.fault.SimNo.TheVariants as sim
use Rattle.gd_sim.specs.Playing.{Gather, segment_at, Plays, IsPlaced, AllPlay, WasEmitted, AllGrow, Grows, AreRows, entries_in, nodes_of}
use Rattle.gd_sim.specs.Run.{IsLast}
use Rattle.gd_sim.specs.Stations.{Acts, Hears, Keeps, TurnKeeps, AreRowsAt, CanTurn, CanPlay, PlayGoes, AllGoes, KeepsOrEmitted, Goes, IsLawfulAt, EndsWith, EndsSo, HasFault}

-- ---- lists

-- what a list that was written to has at a place
pub at_written : {X : Type 0} (xs : List X) (i j : ℕ) (y x : X) → slice_get (set xs i y) j ≡ Some x → ((j ≡ i) × (x ≡ y)) ⊎ (slice_get xs j ≡ Some x)
at_written xs i j y x is =
    let within : j < length xs = omega (arith, slice_get_within _ j x is, length-set xs i y) in
    let read : get_or (set xs i y) j x ≡ x = get_or_from_slice_get _ j x x is in
    elim (eqb_tells j i) [
      | inl w ↦ inl (w.1, sym read ∙ ap (λ k. get_or (set xs i y) k x) w.1 ∙ get_or-set_same xs i y x (subst (λ k. k < length xs) w.1 within))
      | inr w ↦ inr (slice_get-get_or xs j x within ∙ ap Some (sym (get_or-set_other xs i j y x w.1) ∙ read))
    ]

pub written_here : {X : Type 0} (xs : List X) (i : ℕ) (x y : X) → slice_get xs i ≡ Some x → slice_get (set xs i y) i ≡ Some y
written_here xs i x y at =
    let within : i < length xs = slice_get_within xs i x at in
    slice_get-get_or (set xs i y) i y (omega (arith, within, length-set xs i y)) ∙ ap Some (get_or-set_same xs i y y within)

-- ---- histories by place

pub history-at : (nodes : List (List Entry)) (k : ℕ) → history_of nodes (segment_at k) ≡ get_or nodes k []
history-at nodes zero = refl
history-at nodes (suc k) = ap (λ n. get_or nodes n []) (omega arith)

-- a number is the segment of a place, or has no history
segment_cases : (at : ℤ) → ((k : ℕ) × (at ≡ segment_at k)) ⊎ ((nodes : List (List Entry)) → history_of nodes at ≡ [])
segment_cases (pos n) = inl (suc n, refl)
segment_cases (negsuc zero) = inl (zero, refl)
segment_cases (negsuc (suc n)) = inr (λ nodes. refl)

-- the history of the station at a place
pub node-at : (stations : List Station) (k : ℕ) (s : Station) → slice_get stations k ≡ Some s → get_or (nodes_of stations) k [] ≡ s.node.entries
node-at [] k s at = cc
node-at (t ∷ ts) zero s at = let same : t ≡ s = cc in ap (λ (x : Station). x.node.entries) same
node-at (t ∷ ts) (suc k) s at = node-at ts k s at

pub history-station : (stations : List Station) (k : ℕ) (s : Station) → slice_get stations k ≡ Some s → history_of (nodes_of stations) (segment_at k) ≡ s.node.entries
history-station stations k s at = history-at (nodes_of stations) k ∙ node-at stations k s at

-- ---- one station is another now

-- the station at this place was old and is new, and the others are as they were
pub record Changes (k : ℕ) (old new : Station) (a b : List Station) : Type 0 where
  pub here : slice_get a k ≡ Some old
  pub written : b ≡ set a k new

-- by what the code read and wrote there
pub changes_at : (k : ℕ) (old new : Station) (a b : List Station) → k < length a → old ≡ get_or a k old → b ≡ set a k new → Changes k old new a b
changes_at k old new a b lt is written = record { here = slice_get_read a (length a) k old refl lt is; written = written }

-- a station at this place
pub station_at : (k : ℕ) (s : Station) (a : List Station) → k < length a → s ≡ get_or a k s → slice_get a k ≡ Some s
station_at k s a lt is = slice_get_read a (length a) k s refl lt is

pub new_here : (k : ℕ) (old new : Station) (a b : List Station) → Changes k old new a b → slice_get b k ≡ Some new
new_here k old new a b w = ap (λ l. slice_get l k) w.written ∙ written_here a k old new w.here

pub count_stays : (k : ℕ) (old new : Station) (a b : List Station) → Changes k old new a b → length b ≡ length a
count_stays k old new a b w = ap length w.written ∙ length-set a k new

-- what holds at each place
pub each_stays : (P : ℕ → Station → Type 0) (k : ℕ) (old new : Station) (a b : List Station) → Changes k old new a b
    → ((j : ℕ) (s : Station) → slice_get a j ≡ Some s → P j s) → P k new → (j : ℕ) (s : Station) → slice_get b j ≡ Some s → P j s
each_stays P k old new a b w each now j s at =
    elim (at_written a k j new s (sym (ap (λ l. slice_get l j) w.written) ∙ at)) [
      | inl here ↦ subst (λ i. P i s) (sym here.0) (subst (P k) (sym here.1) now)
      | inr there ↦ each j s there
    ]

-- a segment is the one here, or its history is as it was
history_cases : (k : ℕ) (old new : Station) (a b : List Station) → Changes k old new a b → (at : ℤ) → (at ≡ segment_at k) ⊎ (history_of (nodes_of b) at ≡ history_of (nodes_of a) at)
history_cases k old new a b w at =
    elim (segment_cases at) [
      | inl at_place ↦
          let j = at_place.0 in
          elim (eqb_tells j k) [
            | inl same ↦ inl (at_place.1 ∙ ap segment_at same.1)
            | inr other ↦ inr (
                ap (history_of (nodes_of b)) at_place.1 ∙ history-at (nodes_of b) j
                ∙ ap (λ l. get_or (nodes_of l) j []) w.written ∙ ap (λ l. get_or l j []) (map-set entries_in a k new)
                ∙ get_or-set_other (nodes_of a) k j (entries_in new) [] other.1
                ∙ sym (history-at (nodes_of a) j) ∙ ap (history_of (nodes_of a)) (sym at_place.1))
          ]
      | inr past ↦ inr (past (nodes_of b) ∙ sym (past (nodes_of a)))
    ]

-- each history grew, where that of the station did
pub all_grow : (query : ℕ) (k : ℕ) (old new : Station) (a b : Sim) → Changes k old new a.stations.items b.stations.items → Grows query old.node.entries new.node.entries → AllGrow query a b
all_grow query k old new a b w grows = record {
  count = count_stays k old new a.stations.items b.stations.items w;
  each = λ at. elim (history_cases k old new a.stations.items b.stations.items w at) [
    | inl same ↦
        subst (λ s. Grows query (history_of (nodes_of a.stations.items) s) (history_of (nodes_of b.stations.items) s)) (sym same)
        (subst (λ h. Grows query h (history_of (nodes_of b.stations.items) (segment_at k))) (sym (history-station a.stations.items k old w.here))
        (subst (Grows query old.node.entries) (sym (history-station b.stations.items k new (new_here k old new a.stations.items b.stations.items w))) grows))
    | inr same ↦ record { more = []; grown = same ∙ sym (append-nil (history_of (nodes_of a.stations.items) at)); of = tt }
  ];
}

-- what was emitted stays emitted
pub emitted_stays : (query : ℕ) (a b : Sim) → AllGrow query a b → (at : ℤ) (d : Datagram) → Contains (emitted_of (history_of (nodes_of a.stations.items) at)) d → Contains (emitted_of (history_of (nodes_of b.stations.items) at)) d
emitted_stays query a b grow at d stands =
    let w = grow.each at in
    let h = history_of (nodes_of a.stations.items) at in
    subst (λ l. Contains (emitted_of l) d) (sym w.grown) (subst (λ l. Contains l d) (sym (flat_map-append emits h w.more)) (Contains-append_left (emitted_of h) (emitted_of w.more) d stands))

-- what is emitted with the entries of a node is from there
pub emitted_from : (n : Noding) (place : Place) (h more : List Entry) (d : Datagram) → IsLawful n → place_of n ≡ place → n.entries ≡ h ++ more → Contains (emitted_of more) d → d.from ≡ place.at
emitted_from n place h more d lawful is grown stands =
    let w = Contains-flat_map emits more d stands in
    let point = lawful.law (h ++ w.0) w.1 w.2 (grown ∙ ap (λ l. h ++ l) w.3 ∙ sym (append_assoc h w.0 (w.1 ∷ w.2))) in
    (point.formed d w.4).from ∙ ap (λ (p : Place). p.at) is

-- ---- all stations

-- each datagram that came was to the station and emitted before
abbrev pub CameEmitted : Sim → ℕ → List Entry → Type 0
CameEmitted a k more = (d : Datagram) → Contains (arrived_of more) d → (d.to ≡ segment_at k) × Contains (emitted_of (history_of (nodes_of a.stations.items) d.from)) d

-- what is kept was kept before, or was emitted with these entries from here
abbrev pub KeptEmitted : Sim → Sim → ℕ → List Entry → Type 0
KeptEmitted a b k more = (d : Datagram) → Contains b.network.kept d → Contains a.network.kept d ⊎ ((d.from ≡ segment_at k) × Contains (emitted_of more) d)

-- the station serves the query on, what came was emitted, and what is kept was
pub changes_goes : (g : Gather) (k : ℕ) (old new : Station) (a b : Sim) (more : List Entry) → AllPlay g a → Changes k old new a.stations.items b.stations.items → Plays g (segment_at k) new
    → new.node.entries ≡ old.node.entries ++ more → AllByRecursion (λ e. IsOf g.query e.ask) more → CameEmitted a k more → KeptEmitted a b k more → Goes g a b
changes_goes g k old new a b more play w plays grown of came kept =
    let xs = a.stations.items in
    let ys = b.stations.items in
    let grow : AllGrow g.query a b = all_grow g.query k old new a b w (record { more = more; grown = grown; of = of }) in
    let now : history_of (nodes_of ys) (segment_at k) ≡ old.node.entries ++ more = history-station ys k new (new_here k old new xs ys w) ∙ grown in
    let stays = emitted_stays g.query a b grow in
    let network : NetworkLaw (nodes_of ys) = λ at d arrived.
    elim (history_cases k old new xs ys w at) [
      | inl same ↦
          let here : Contains (arrived_of (old.node.entries ++ more)) d = subst (λ h. Contains (arrived_of h) d) (ap (history_of (nodes_of ys)) same ∙ now) arrived in
          elim (Contains-append_cases (arrived_of old.node.entries) (arrived_of more) d (subst (λ l. Contains l d) (flat_map-append arrives old.node.entries more) here)) [
            | inl before ↦
                let old_law = play.sim.network (segment_at k) d (subst (λ h. Contains (arrived_of h) d) (sym (history-station xs k old w.here)) before) in
                (old_law.0 ∙ sym same, stays d.from d old_law.1)
            | inr later ↦ ((came d later).0 ∙ sym same, stays d.from d (came d later).1)
          ]
      | inr same ↦
          let old_law = play.sim.network at d (subst (λ h. Contains (arrived_of h) d) same arrived) in
          (old_law.0, stays d.from d old_law.1)
    ] in
    let was : WasEmitted (nodes_of ys) b.network = λ d stands.
    elim (kept d stands) [
      | inl before ↦ stays d.from d (play.sim.kept d before)
      | inr more_of ↦
          subst (λ s. Contains (emitted_of (history_of (nodes_of ys) s)) d) (sym more_of.0)
          (subst (λ h. Contains (emitted_of h) d) (sym now)
          (subst (λ l. Contains l d) (sym (flat_map-append emits old.node.entries more)) (Contains-append_right (emitted_of old.node.entries) (emitted_of more) d more_of.1)))
    ] in
    record {
      play = record {
        sim = record {
          count = count_stays k old new xs ys w ∙ play.sim.count;
          placed = each_stays (λ j s. IsPlaced g.session (segment_at j) g.settings s) k old new xs ys w play.sim.placed plays.placed;
          network = network;
          kept = was;
        };
        one_sends = play.one_sends;
        few = play.few;
        each = each_stays (λ j s. Plays g (segment_at j) s) k old new xs ys w play.each plays;
      };
      grow = grow;
    }

-- ---- calls

-- the network keeps a part of what it kept
abbrev pub KeepsPart : Net → Net → Type 0
KeepsPart a b = (d : Datagram) → Contains b.kept d → Contains a.kept d

none_came : (a : Sim) (k : ℕ) (more : List Entry) → arrived_of more ≡ [] → CameEmitted a k more
none_came a k more none_is d came = absurd (Contains-none d (subst (λ l. Contains l d) none_is came))

query_of : (g : Gather) (k : ℕ) (old : Station) (a : Sim) → AllPlay g a → slice_get a.stations.items k ≡ Some old → old.node.query ≡ g.query
query_of g k old a play here = (play.each k old here).query

-- the segment of the place is the station's
pub segment_of : (g : Gather) (k : ℕ) (s : Station) → Plays g (segment_at k) s → s.node.hub.at ≡ segment_at k
segment_of g k s plays = ap (λ (p : Place). p.at) plays.placed.place

of_query : (q query : ℕ) (more : List Entry) → q ≡ query → AllByRecursion (λ e. IsOf q e.ask) more → AllByRecursion (λ e. IsOf query e.ask) more
of_query q query more is of = subst (λ n. AllByRecursion (λ e. IsOf n e.ask) more) is of

-- what lies behind the entries that were there
behind : (seen : ℕ) (h now more : List Entry) → seen ≡ length h → now ≡ h ++ more → drop seen now ≡ more
behind seen h now more is grown = ap (λ n. drop n now) is ∙ ap (drop (length h)) grown ∙ drop-append_seam h more

-- what is emitted with the newest entries of the station is from here
kept_here : (g : Gather) (k seen : ℕ) (old new : Station) (a b : Sim) (net : Net) (more : List Entry) → Plays g (segment_at k) new → IsLawful new.node → seen ≡ length old.node.entries → new.node.entries ≡ old.node.entries ++ more
    → KeepsPart a.network net → KeepsOrEmitted (drop seen new.node.entries) net b.network → KeptEmitted a b k more
kept_here g k seen old new a b net more plays lawful is grown part kept d stands =
    elim (kept d stands) [
      | inl before ↦ inl (part d before)
      | inr sent ↦
          let now = subst (λ l. Contains (emitted_of l) d) (behind seen old.node.entries new.node.entries more is grown) sent in
          inr (emitted_from new.node (place_at g.session (segment_at k) g.settings) old.node.entries more d lawful plays.placed.place grown now, now)
    ]

-- The station at this place was old and is new. So many entries it had, and what it emitted behind these was sent.
pub record Sent (k seen : ℕ) (old new : Station) (xs ys : List Station) (a b : Net) : Type 0 where
  pub changes : Changes k old new xs ys
  pub lawful : IsLawful new.node
  pub seen_is : seen ≡ length old.node.entries
  pub kept : KeepsOrEmitted (drop seen new.node.entries) a b

-- by what the code read, wrote and sent
pub sent : (k seen : ℕ) (old new : Station) (xs ys : List Station) (a b : Net) → k < length xs → old ≡ get_or xs k old → seen ≡ length old.node.entries → ys ≡ set xs k new → IsLawfulAt (set xs k new) k
    → KeepsOrEmitted (drop seen (get_or (nodes_of (set xs k new)) k [])) a b → Sent k seen old new xs ys a b
sent k seen old new xs ys a b lt is seen_is written lawful kept =
    let here : slice_get (set xs k new) k ≡ Some new = written_here xs k old new (station_at k old xs lt is) in
    record {
      changes = changes_at k old new xs ys lt is written;
      lawful = lawful new here;
      seen_is = seen_is;
      kept = subst (λ l. KeepsOrEmitted (drop seen l) a b) (node-at (set xs k new) k new here) kept;
    }

-- the station did something of its own accord, and what it emitted was sent
pub acts_goes : (g : Gather) (k seen : ℕ) (old new : Station) (a b : Sim) → AllPlay g a → Sent k seen old new a.stations.items b.stations.items a.network b.network → Plays g (segment_at k) new → Acts old new → Goes g a b
acts_goes g k seen old new a b play w plays acts =
    changes_goes g k old new a b acts.more play w.changes plays acts.grown (of_query old.node.query g.query acts.more (query_of g k old a play w.changes.here) acts.of)
    (none_came a k acts.more acts.none_came)
    (kept_here g k seen old new a b a.network acts.more plays w.lawful w.seen_is acts.grown (λ d stands. stands) w.kept)

-- the station did something of its own accord, and nothing was sent
pub part_goes : (g : Gather) (k : ℕ) (old new : Station) (a b : Sim) → AllPlay g a → Changes k old new a.stations.items b.stations.items → Plays g (segment_at k) new → Acts old new → KeepsPart a.network b.network → Goes g a b
part_goes g k old new a b play w plays acts part =
    changes_goes g k old new a b acts.more play w plays acts.grown (of_query old.node.query g.query acts.more (query_of g k old a play w.here) acts.of)
    (none_came a k acts.more acts.none_came) (λ d stands. inl (part d stands))

-- the datagram that came was kept
came_kept : (at : ℤ) (net mid : Net) (d : Datagram) → Receives at net (Came d) mid → Contains net.kept d
came_kept at net mid d (left, first, is) = subst (λ l. Contains l d) (sym first.all) (Contains-middle first.before d first.after)

-- the others stay
pub came_part : (at : ℤ) (net mid : Net) (d : Datagram) → Receives at net (Came d) mid → KeepsPart net mid
came_part at net mid d (left, first, is) x stands =
    let there : Contains (first.before ++ first.after) x = subst (λ l. Contains l x) (ap (λ (n : Net). n.kept) is ∙ first.others) stands in
    subst (λ l. Contains l x) (sym first.all)
    (elim (Contains-append_cases first.before first.after x there) [
      | inl front ↦ Contains-append_left first.before (d ∷ first.after) x front
      | inr back ↦ Contains-append_right first.before (d ∷ first.after) x (Contains-tail d first.after x back)
    ])

-- the next datagram came to the station, and what it emitted was sent
pub hears_goes : (g : Gather) (k seen : ℕ) (at : ℤ) (d : Datagram) (old new : Station) (a b : Sim) (mid : Net) → AllPlay g a → Sent k seen old new a.stations.items b.stations.items mid b.network → Plays g (segment_at k) new
    → Hears d old new → at ≡ old.node.hub.at → Receives at a.network (Came d) mid → Goes g a b
hears_goes g k seen at d old new a b mid play w plays hears at_is receives =
    let here = w.changes.here in
    let more = hears.grows.more in
    let was_kept : Contains a.network.kept d = came_kept at a.network mid d receives in
    let to : d.to ≡ segment_at k = receives.1.to ∙ at_is ∙ segment_of g k old (play.each k old here) in
    let came : CameEmitted a k more = λ x arrived.
    let same : x ≡ d = Contains-one d x (subst (λ l. Contains l x) hears.came arrived) in
    subst (λ y. (y.to ≡ segment_at k) × Contains (emitted_of (history_of (nodes_of a.stations.items) y.from)) y) (sym same) (to, play.sim.kept d was_kept) in
    changes_goes g k old new a b more play w.changes plays hears.grows.grown (of_query old.node.query g.query more (query_of g k old a play here) hears.grows.of) came
    (kept_here g k seen old new a b mid more plays w.lawful w.seen_is hears.grows.grown (came_part at a.network mid d receives) w.kept)

-- ---- clauses of the calls

pub same_goes : (a : Sim) → AllGoes a a
same_goes a g play = record {
  play = play;
  grow = record { count = refl; each = λ at. record { more = []; grown = sym (append-nil (history_of (nodes_of a.stations.items) at)); of = tt } };
}

pub quiet_plays : (g : Gather) (segment : ℤ) (s : Station) (quiet : Bool) → Plays g segment s → Plays g segment (record s { quiet = quiet })
quiet_plays g segment s quiet plays = record {
  placed = record { place = plays.placed.place; lefts = plays.placed.lefts; begun = plays.placed.begun };
  query = plays.query;
  one_sends = plays.one_sends;
  ends = plays.ends;
  unleft = plays.unleft;
  done = plays.done;
  gone = plays.gone;
  work = plays.work;
}

-- nothing but whether the station is quiet is another, and the network keeps a part
pub quiet_goes : (k : ℕ) (old : Station) (quiet : Bool) (a b : Sim) → Changes k old (record old { quiet = quiet }) a.stations.items b.stations.items → KeepsPart a.network b.network → AllGoes a b
quiet_goes k old quiet a b w part g play =
    part_goes g k old (record old { quiet = quiet }) a b play w (quiet_plays g (segment_at k) old quiet (play.each k old w.here))
    (record { more = []; grown = sym (append-nil old.node.entries); of = tt; none_came = refl }) part

pub leave_goes : (k : ℕ) (old new : Station) (a b : Sim) → Changes k old new a.stations.items b.stations.items → Keeps old new → Acts old new → KeepsPart a.network b.network → AllGoes a b
leave_goes k old new a b w keeps acts part g play = part_goes g k old new a b play w (keeps g (segment_at k) (play.each k old w.here)) acts part

pub tick_goes : (k seen : ℕ) (old new : Station) (a b : Sim) → Sent k seen old new a.stations.items b.stations.items a.network b.network → Keeps old new → Acts old new → AllGoes a b
tick_goes k seen old new a b w keeps acts g play = acts_goes g k seen old new a b play w (keeps g (segment_at k) (play.each k old w.changes.here)) acts

pub receive_goes : (k seen : ℕ) (at : ℤ) (d : Datagram) (old new : Station) (a b : Sim) (mid : Net) → Sent k seen old new a.stations.items b.stations.items mid b.network → Keeps old new → Hears d old new
    → at ≡ old.node.hub.at → Receives at a.network (Came d) mid → AllGoes a b
receive_goes k seen at d old new a b mid w keeps hears at_is receives g play =
    hears_goes g k seen at d old new a b mid play w (keeps g (segment_at k) (play.each k old w.changes.here)) hears at_is receives

-- nothing came to it
pub idle_part : (at : ℤ) (has : Bool) (a b : Net) → b ≡ with_hand at has a → KeepsPart a b
idle_part at has a b is d stands = subst (λ (n : Net). Contains n.kept d) is stands

rows_here : (g : Gather) (k : ℕ) (at : ℤ) (rows : List (List Value)) (rows_at : ℤ → List (List Value)) → AreRows g rows_at → at ≡ segment_at k → rows ≡ rows_at at → AreRowsAt g (segment_at k) rows
rows_here g zero at rows rows_at are is same = tt
rows_here g (suc n) at rows rows_at are is same = λ lt.
    let here : rows_at (pos n) ≡ rows = ap rows_at (sym is) ∙ sym same in
    (are.parts n lt ∙ here, subst (All HasLengths) here (are.lengths n lt))

pub can_turn : (k : ℕ) (old : Station) (a : Sim) (rows : List (List Value)) (rows_at : ℤ → List (List Value)) → slice_get a.stations.items k ≡ Some old → rows ≡ rows_at old.node.hub.at → CanPlay rows_at a → CanTurn rows old
can_turn k old a rows rows_at here same can =
    let plays = can.play.each k old here in
    record {
      gather = can.gather;
      segment = segment_at k;
      plays = plays;
      rows_are = rows_here can.gather k old.node.hub.at rows rows_at can.rows_are (segment_of can.gather k old plays) same;
    }

pub turn_goes : (rows : List (List Value)) (rows_at : ℤ → List (List Value)) (k seen : ℕ) (old new : Station) (a b : Sim) → Sent k seen old new a.stations.items b.stations.items a.network b.network → rows ≡ rows_at old.node.hub.at
    → TurnKeeps rows old new → Acts old new → PlayGoes rows_at a b
turn_goes rows rows_at k seen old new a b w same keeps acts g play are =
    let plays = play.each k old w.changes.here in
    acts_goes g k seen old new a b play w (keeps g (segment_at k) plays (rows_here g k old.node.hub.at rows rows_at are (segment_of g k old plays) same)) acts

-- ---- refusals

last_here : (stations : List Station) (k : ℕ) (s : Station) (e : Entry) → slice_get stations k ≡ Some s → EndsWith s.node.entries e → IsLast (nodes_of stations) e
last_here stations k s e here ends = record {
  at = k;
  within = omega (arith, slice_get_within stations k s here, length-map stations entries_in);
  before = ends.0;
  history = node-at stations k s here ∙ ends.1;
}

-- what the last entry of the station here tells of a refusal, that of some node tells
pub fault_here : (stations : List Station) (k : ℕ) (s : Station) (refusal : SimNo) → slice_get stations k ≡ Some s → EndsSo s.node.entries refusal → HasFault (nodes_of stations) refusal
fault_here stations k s (sim.Spent key seq tries) here ends = last_here stations k s _ here ends
fault_here stations k s (sim.TooLong key) here ends = record { entry = ends.entry; last = last_here stations k s ends.entry here ends.last; ask = ends.ask; which = ends.which; reply = ends.reply }
fault_here stations k s sim.Memory here ends = tt

-- a turn that moved or not was refused so
pub turn_fault : (stations : List Station) (k : ℕ) (s : Station) (moved : Result Bool SimNo) (turned : Result Turned SimNo) → slice_get stations k ≡ Some s
    → IfErr moved (λ refusal. turned ≡ Err refusal) → IfErr turned (EndsSo s.node.entries) → IfErr moved (HasFault (nodes_of stations))
turn_fault stations k s (Ok b) turned here is ends = tt
turn_fault stations k s (Err refusal) turned here is ends = fault_here stations k s refusal here (subst (λ r. IfErr r (EndsSo s.node.entries)) is ends)

-- a tick was refused so
pub tick_fault : (stations : List Station) (k : ℕ) (s : Station) (ticked : Result (Unit {0}) SimNo) → slice_get stations k ≡ Some s → IfErr ticked (EndsSo s.node.entries) → IfErr ticked (HasFault (nodes_of stations))
tick_fault stations k s (Ok u) here ends = tt
tick_fault stations k s (Err refusal) here ends = fault_here stations k s refusal here ends
