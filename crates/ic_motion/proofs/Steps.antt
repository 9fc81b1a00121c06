-- How a receiving end matches the steps after one more.
use Rattle.std.proofs.Common.{◌≡◌, ℕ, zero, suc, length, ℤ, List, [], ◌∷◌, ◌++◌, map, Bool, true, false, ◌||◌, ◌&&◌, cond, Option, Some, None, refl, ap, sym, ◌∙◌, subst, append-nil}
use Rattle.std.specs.List.{flat_map, list_all, list_any, AllByRecursion}
use Rattle.std.specs.Prelude.{slice_get, slice_set, ◌<ℤ◌}
use Rattle.std.specs.Ordering.{int_eq}
use Rattle.std.proofs.lemmas.Bool.Decides.{Decides-int_eq}
use Rattle.ic_base.specs.declared.datagram.Parcel.{Parcel}
use Rattle.ic_base.specs.declared.port.PortNo.{PortNo}
use Rattle.ic_base.specs.declared.port.PortNo.TheVariants.{Empty}
use Rattle.ic_base.specs.declared.port.PortAsk.{PortAsk}
use Rattle.ic_base.specs.declared.port.PortReply.TheVariants.{Refused}
use Rattle.ic_row.specs.declared.value.Kind.{Kind}
use Rattle.ic_row.specs.declared.order.Key.{Key}
use Rattle.pl_ops.specs.Rows.{Line}
use Rattle.pl_ops.specs.Merging.{sorts_before, merge_stream}
use Rattle.pl_mean.specs.Outputs.{rows_in, came_from, stream_from, received}
use Rattle.pl_runs.specs.Steps.{Step, input_of, parcels_in, parcels_by, takes_of, came_in, came_by, is_ended, is_take, is_take_from, halts_from}
use Rattle.pl_runs.specs.Logs.{payloads_from}
use Rattle.ic_motion.specs.Hearing.{has_ended, heard_of, HasKinds, Lane, Listener, senders_of, streams_of, rows_of, Ascends, Merged, Left, LaneHears, Hears}
use Rattle.ic_motion.specs.Feeding.{Grows, place_of}
use Rattle.ic_motion.proofs.Lists.{or_none, all_append, get_all}
use Rattle.ic_motion.proofs.Readings.{ends_in, ended_more, took_more, rows_more, TookOne, rows_here, came_own, ends_own, no_halt}
use Rattle.ic_motion.proofs.Picks.{IsOpen, none_held, one_held}
use Rattle.ic_motion.proofs.Merges.{grow, merged_grows}
use Rattle.ic_motion.proofs.Lanes.{IsQuiet, lane_other, lanes_grow, senders_set, streams_grow, open_start, took_of, starts_grow, starts_same}

-- ---- a step that says nothing of the motion

-- it takes no parcel of the motion, and says of no sender that nothing more comes, and halts none
pub record IsSilent (motion : ℕ) (s : Step) : Type 0 where
  pub parcels : parcels_in motion s ≡ []
  pub ends : (a : ℤ) → ends_in motion s a ≡ false
  pub halts : (a : ℤ) → halts_from motion a s.entry.ask ≡ false

no_came : (motion : ℕ) (s : Step) → parcels_in motion s ≡ [] → came_in motion s ≡ []
no_came motion s none = ap (flat_map (came_by s.rows)) none

pub silent_quiet : (motion : ℕ) (s : Step) (a : ℤ) → parcels_in motion s ≡ [] → IsQuiet motion s a
silent_quiet motion s a none = record { payloads = ap (payloads_from a) none; came = ap (came_from a) (no_came motion s none) }

lanes_pass : (motion : ℕ) (kinds : List Kind) (steps : List Step) (s : Step) (lanes : List Lane) → IsSilent motion s → AllByRecursion (LaneHears motion kinds steps) lanes → AllByRecursion (LaneHears motion kinds (steps ++ s ∷ [])) lanes
lanes_pass motion kinds steps s [] silent h = tt
lanes_pass motion kinds steps s (l ∷ lanes) silent h =
    (lane_other motion kinds steps s l (silent_quiet motion s l.sender silent.parcels) (silent.ends l.sender) (silent.halts l.sender) h.0, lanes_pass motion kinds steps s lanes silent h.1)

pub took_same : (motion : ℕ) (steps : List Step) (s : Step) → parcels_in motion s ≡ [] → (input_of motion (steps ++ s ∷ [])).took ≡ (input_of motion steps).took
took_same motion steps s none = took_more motion steps s ∙ ap (λ l. (input_of motion steps).took ++ l) (no_came motion s none) ∙ append-nil (input_of motion steps).took

left_pass : (order : Option (List Key)) (motion : ℕ) (steps : List Step) (s : Step) (lanes : List Lane) (given : List Line) → IsSilent motion s → Left order lanes (heard_of motion steps) given → Left order lanes (heard_of motion (steps ++ s ∷ [])) given
left_pass None motion steps s lanes given silent left = ap rows_in (took_same motion steps s silent.parcels) ∙ left
left_pass (Some keys) motion steps s lanes given silent left =
    subst (λ start. Merged (sorts_before keys) start given (streams_of lanes)) (sym (starts_same motion steps s (senders_of lanes) (λ a. (silent_quiet motion s a silent.parcels, silent.ends a)))) left

all_same : (motion : ℕ) (steps : List Step) (s : Step) (as_ : List ℤ) → IsSilent motion s → list_all (has_ended motion (steps ++ s ∷ [])) as_ ≡ list_all (has_ended motion steps) as_
all_same motion steps s [] silent = refl
all_same motion steps s (a ∷ as_) silent =
    ap (λ b. b && list_all (has_ended motion (steps ++ s ∷ [])) as_) (ended_more motion steps s a ∙ ap (λ b. has_ended motion steps a || b) (silent.ends a) ∙ or_none (has_ended motion steps a))
    ∙ ap (λ b. has_ended motion steps a && b) (all_same motion steps s as_ silent)

-- what the motion has given is the same
pub received_pass : (order : Option (List Key)) (motion : ℕ) (steps : List Step) (s : Step) (as_ : List ℤ) → IsSilent motion s → received order as_ (heard_of motion (steps ++ s ∷ [])) ≡ received order as_ (heard_of motion steps)
received_pass None motion steps s as_ silent =
    ap (λ t. record { rows = rows_in t; ended = list_all (has_ended motion (steps ++ s ∷ [])) as_ }) (took_same motion steps s silent.parcels)
    ∙ ap (λ b. record { rows = rows_in (input_of motion steps).took; ended = b }) (all_same motion steps s as_ silent)
received_pass (Some keys) motion steps s as_ silent =
    ap (λ t. merge_stream (sorts_before keys) (suc (length t)) (map (stream_from (heard_of motion (steps ++ s ∷ []))) as_)) (took_same motion steps s silent.parcels)
    ∙ ap (merge_stream (sorts_before keys) (suc (length (input_of motion steps).took))) (starts_same motion steps s as_ (λ a. (silent_quiet motion s a silent.parcels, silent.ends a)))

pub hears_pass : (m : Listener) (steps : List Step) (s : Step) (given : List Line) → IsSilent m.end.motion s → Hears m steps given → Hears m (steps ++ s ∷ []) given
hears_pass m steps s given silent h = record {
  ascend = h.ascend;
  each = lanes_pass m.end.motion m.kinds steps s m.lanes silent h.each;
  left = left_pass m.order m.end.motion steps s m.lanes given silent h.left;
  fit = subst (λ t. AllByRecursion (HasKinds m.kinds) (rows_in t)) (sym (took_same m.end.motion steps s silent.parcels)) h.fit;
}

-- the state is the same but for why it goes no further
pub hears_as : (m new : Listener) (steps : List Step) (given : List Line) → new.end ≡ m.end → new.order ≡ m.order → new.kinds ≡ m.kinds → new.lanes ≡ m.lanes → Hears m steps given → Hears new steps given
hears_as m new steps given end order kinds lanes h = record {
  ascend = subst (λ ls. Ascends (senders_of ls)) (sym lanes) h.ascend;
  each = subst (λ ls. AllByRecursion (LaneHears new.end.motion new.kinds steps) ls) (sym lanes)
      (subst (λ ks. AllByRecursion (LaneHears new.end.motion ks steps) m.lanes) (sym kinds) (subst (λ e. AllByRecursion (LaneHears e.motion m.kinds steps) m.lanes) (sym end) h.each));
  left = subst (λ ls. Left new.order ls (heard_of new.end.motion steps) given) (sym lanes)
      (subst (λ o. Left o m.lanes (heard_of new.end.motion steps) given) (sym order) (subst (λ e. Left m.order m.lanes (heard_of e.motion steps) given) (sym end) h.left));
  fit = subst (λ ks. AllByRecursion (HasKinds ks) (rows_in (input_of new.end.motion steps).took)) (sym kinds)
      (subst (λ e. AllByRecursion (HasKinds m.kinds) (rows_in (input_of e.motion steps).took)) (sym end) h.fit);
}

-- ---- a refusal

refused_none : (motion : ℕ) (ask : PortAsk) (no_ : PortNo) → parcels_in motion (record { entry = record { ask = ask; reply = Refused no_ }; rows = [] }) ≡ []
refused_none motion ask no_ = by (takes_of motion ask)
  where
    by : (b : Bool) → cond b (parcels_by (Refused no_)) [] ≡ []
    by true = refl
    by false = refl

ends_refused : (motion : ℕ) (ask : PortAsk) (no_ : PortNo) (a : ℤ)
    → ends_in motion (record { entry = record { ask = ask; reply = Refused no_ }; rows = [] }) a ≡ ((is_ended (Refused no_) && is_take motion ask) || (is_ended (Refused no_) && is_take_from motion a ask))
unfolding ends_in
ends_refused motion ask no_ a =
    ap (λ ps. list_any (λ (p : Parcel). p.last && int_eq p.from a) ps || ((is_ended (Refused no_) && is_take motion ask) || (is_ended (Refused no_) && is_take_from motion a ask))) (refused_none motion ask no_)

pub empty_silent : (motion : ℕ) (ask : PortAsk) → takes_of motion ask ≡ true → IsSilent motion (record { entry = record { ask = ask; reply = Refused Empty }; rows = [] })
empty_silent motion ask takes = record { parcels = refused_none motion ask Empty; ends = λ a. ends_refused motion ask Empty a; halts = λ a. no_halt motion a ask takes }

pub after_first : (a : ℤ) (as_ : List ℤ) (k : ℕ) (b : ℤ) → AllByRecursion (λ x. a <ℤ x) as_ → slice_get as_ k ≡ Some b → a <ℤ b
after_first a [] k b lt at = cc
after_first a (x ∷ as_) zero b lt at = let one : x ≡ b = cc in subst (λ y. a <ℤ y) one lt.0
after_first a (x ∷ as_) (suc k) b lt at = after_first a as_ k b lt.1 at

-- ---- a parcel

-- where a parcel may come: without an order if no row is held, with one from a sender that hasn't ended
pub data MayCome (order : Option (List Key)) (lanes : List Lane) (from : ℤ) : Type 0 where
  any : order ≡ None → AllByRecursion (λ (l : Lane). l.rows ≡ []) lanes → MayCome order lanes from
  one : (keys : List Key) → order ≡ Some keys → IsOpen (place_of lanes from) (streams_of lanes) → MayCome order lanes from

pub place_sender : (lanes : List Lane) (a : ℤ) (was : Lane) → slice_get lanes (place_of lanes a) ≡ Some was → (was.sender ≡ a) × (slice_get (senders_of lanes) (place_of lanes a) ≡ Some a)
place_sender [] a was at = cc
place_sender (l ∷ lanes) a was at = by (int_eq l.sender a) refl (place_sender lanes a was) at
  where
    by : (b : Bool) → int_eq l.sender a ≡ b → (slice_get lanes (place_of lanes a) ≡ Some was → (was.sender ≡ a) × (slice_get (senders_of lanes) (place_of lanes a) ≡ Some a))
        → slice_get (l ∷ lanes) (cond b zero (suc (place_of lanes a))) ≡ Some was → (was.sender ≡ a) × (slice_get (senders_of (l ∷ lanes)) (cond b zero (suc (place_of lanes a))) ≡ Some a)
    by true is next w =
        let one : l ≡ was = cc in
        let same = (Decides-int_eq l.sender a).0 is in
        (ap (λ (x : Lane). x.sender) (sym one) ∙ same, ap Some same)
    by false is next w = next w

left_grows : (order : Option (List Key)) (motion : ℕ) (kinds : List Kind) (steps : List Step) (s : Step) (p : Parcel) (rows given : List Line) (lanes : List Lane) (was lane : Lane) → TookOne motion s p rows → Grows kinds was lane p rows
    → Ascends (senders_of lanes) → AllByRecursion (LaneHears motion kinds steps) lanes → slice_get lanes (place_of lanes p.from) ≡ Some was → MayCome order lanes p.from → Left order lanes (heard_of motion steps) given
    → Left order (slice_set lanes (place_of lanes p.from) lane) (heard_of motion (steps ++ s ∷ [])) given
left_grows None motion kinds steps s p rows given lanes was lane t g up each at (any plain none) left =
    let held : flat_map rows_of (slice_set lanes (place_of lanes p.from) lane) ≡ rows = one_held lanes (place_of lanes p.from) was lane none at ∙ ap (λ (x : Lane). x.rows) g.new_is ∙ ap (λ r. r ++ rows) (get_all (λ (l : Lane). l.rows ≡ []) lanes (place_of lanes p.from) was none at) in
    let before : rows_in (input_of motion steps).took ≡ given = left ∙ ap (λ r. given ++ r) (none_held lanes none) ∙ append-nil given in
    ap rows_in (took_more motion steps s) ∙ rows_more (input_of motion steps).took (came_in motion s) ∙ ap (λ r. r ++ rows_in (came_in motion s)) before ∙ ap (λ r. given ++ r) (rows_here motion s p rows t ∙ sym held)
left_grows None motion kinds steps s p rows given lanes was lane t g up each at (one keys ordered going) left = cc
left_grows (Some ks) motion kinds steps s p rows given lanes was lane t g up each at (any plain none) left = cc
left_grows (Some ks) motion kinds steps s p rows given lanes was lane t g up each at (one keys ordered going) left =
    let k = place_of lanes p.from in
    let before = sorts_before ks in
    let of = place_sender lanes p.from was at in
    let start = starts_grow motion steps s p.from rows p.last (senders_of lanes) k (took_of motion s p rows t) (came_own motion s p rows p.from t refl) (ends_own motion s p rows p.from t refl) up of.1 in
    let grown = merged_grows before (map (stream_from (heard_of motion steps)) (senders_of lanes)) given (streams_of lanes) k rows p.last left (open_start motion kinds steps lanes k each going) in
    let streams = streams_grow lanes k was lane rows p.last at (ap (λ (x : Lane). x.rows) g.new_is) (ap (λ (x : Lane). x.over) g.new_is) in
    let senders = senders_set lanes k was lane at (ap (λ (x : Lane). x.sender) g.new_is) in
    subst (λ as_. Merged before (map (stream_from (heard_of motion (steps ++ s ∷ []))) as_) given (streams_of (slice_set lanes k lane))) (sym senders)
    (subst (λ x. Merged before x given (streams_of (slice_set lanes k lane))) (sym start) (subst (Merged before (grow k rows p.last (map (stream_from (heard_of motion steps)) (senders_of lanes))) given) (sym streams) grown.0))

pub hears_grows : (m : Listener) (steps : List Step) (s : Step) (p : Parcel) (rows given : List Line) (was lane : Lane) → TookOne m.end.motion s p rows → Grows m.kinds was lane p rows
    → slice_get m.lanes (place_of m.lanes p.from) ≡ Some was → MayCome m.order m.lanes p.from → Hears m steps given
    → Hears (record m { lanes = slice_set m.lanes (place_of m.lanes p.from) lane }) (steps ++ s ∷ []) given × (senders_of (slice_set m.lanes (place_of m.lanes p.from) lane) ≡ senders_of m.lanes)
hears_grows m steps s p rows given was lane t g at may h =
    let k = place_of m.lanes p.from in
    let senders = senders_set m.lanes k was lane at (ap (λ (x : Lane). x.sender) g.new_is) in
    let took : rows_in (input_of m.end.motion (steps ++ s ∷ [])).took ≡ rows_in (input_of m.end.motion steps).took ++ rows =
    ap rows_in (took_more m.end.motion steps s) ∙ rows_more (input_of m.end.motion steps).took (came_in m.end.motion s) ∙ ap (λ r. rows_in (input_of m.end.motion steps).took ++ r) (rows_here m.end.motion s p rows t) in (
      record {
        ascend = subst Ascends (sym senders) h.ascend;
        each = lanes_grow m.end.motion m.kinds steps s p rows m.lanes was lane t g h.ascend h.each at;
        left = left_grows m.order m.end.motion m.kinds steps s p rows given m.lanes was lane t g h.ascend h.each at may h.left;
        fit = subst (AllByRecursion (HasKinds m.kinds)) (sym took) (all_append (HasKinds m.kinds) (rows_in (input_of m.end.motion steps).took) rows h.fit g.fit);
      },
      senders,
    )
