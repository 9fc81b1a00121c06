-- How the lanes match the steps after one more step.
use Rattle.std.proofs.Common.{◌≡◌, ℕ, zero, suc, ℤ, List, [], ◌∷◌, ◌++◌, map, Bool, true, false, ◌||◌, cond, Some, refl, ap, sym, ◌∙◌, subst, append-nil}
use Rattle.std.specs.List.{AllByRecursion}
use Rattle.std.specs.Prelude.{slice_get, slice_set, ◌<ℤ◌}
use Rattle.std.specs.Ordering.{int_eq}
use Rattle.std.proofs.lemmas.Bool.Decides.{Decides-int_eq}
use Rattle.ic_base.specs.declared.datagram.Parcel.{Parcel}
use Rattle.ic_row.specs.declared.value.Kind.{Kind}
use Rattle.ic_chunk.specs.Joining.{Stands}
use Rattle.pl_ops.specs.Rows.{Line}
use Rattle.pl_mean.specs.Outputs.{came_from, stream_from}
use Rattle.pl_runs.specs.Steps.{Step, input_of, parcels_of, parcels_in, came_in, halted_from, halts_from}
use Rattle.pl_runs.specs.Logs.{payloads_from}
use Rattle.ic_motion.specs.Hearing.{has_ended, heard_of, HasKinds, Lane, senders_of, stream_of, streams_of, Ascends, LaneHears}
use Rattle.ic_motion.specs.Feeding.{Grows, place_of}
use Rattle.ic_motion.proofs.Lists.{or_none, int_same, int_differ, int_apart, below_apart, all_append}
use Rattle.ic_motion.proofs.Readings.{ends_in, parcels_more, took_more, payloads_more, came_more, ended_more, halted_more, TookOne, payloads_own, came_own, ends_own, payloads_else, came_else, ends_else, no_halt}
use Rattle.ic_motion.proofs.Picks.{IsOpen}
use Rattle.ic_motion.proofs.Merges.{grow}

-- ---- one lane

payloads_then : (motion : ℕ) (steps : List Step) (s : Step) (a : ℤ) (more : List (List ℕ)) → payloads_from a (parcels_in motion s) ≡ more
    → payloads_from a (parcels_of motion (steps ++ s ∷ [])) ≡ payloads_from a (parcels_of motion steps) ++ more
payloads_then motion steps s a more is =
    ap (payloads_from a) (parcels_more motion steps s) ∙ payloads_more a (parcels_of motion steps) (parcels_in motion s) ∙ ap (λ l. payloads_from a (parcels_of motion steps) ++ l) is

came_then : (motion : ℕ) (steps : List Step) (s : Step) (a : ℤ) (more : List Line) → came_from a (came_in motion s) ≡ more
    → came_from a (input_of motion (steps ++ s ∷ [])).took ≡ came_from a (input_of motion steps).took ++ more
came_then motion steps s a more is =
    ap (came_from a) (took_more motion steps s) ∙ came_more a (input_of motion steps).took (came_in motion s) ∙ ap (λ l. came_from a (input_of motion steps).took ++ l) is

-- the step says nothing of the sender but perhaps that nothing more comes, and perhaps that it is halted
pub record IsQuiet (motion : ℕ) (s : Step) (a : ℤ) : Type 0 where
  pub payloads : payloads_from a (parcels_in motion s) ≡ []
  pub came : came_from a (came_in motion s) ≡ []

pub lane_quiet : (motion : ℕ) (kinds : List Kind) (steps : List Step) (s : Step) (l new : Lane) → IsQuiet motion s l.sender
    → new ≡ record l { over = new.over; halted = new.halted } → new.over ≡ (l.over || ends_in motion s l.sender) → new.halted ≡ (l.halted || halts_from motion l.sender s.entry.ask)
    → LaneHears motion kinds steps l → LaneHears motion kinds (steps ++ s ∷ []) new
lane_quiet motion kinds steps s l new quiet is over halted h =
    let payloads = payloads_then motion steps s l.sender [] quiet.payloads ∙ append-nil (payloads_from l.sender (parcels_of motion steps)) in
    let came = came_then motion steps s l.sender [] quiet.came ∙ append-nil (came_from l.sender (input_of motion steps).took) in
    let made : LaneHears motion kinds (steps ++ s ∷ []) (record l { over = new.over; halted = new.halted }) = record {
      stands = subst (λ p. Stands l.stream p (came_from l.sender (input_of motion (steps ++ s ∷ [])).took)) (sym payloads)
          (subst (Stands l.stream (payloads_from l.sender (parcels_of motion steps))) (sym came) h.stands);
      over = over ∙ ap (λ b. b || ends_in motion s l.sender) h.over ∙ sym (ended_more motion steps s l.sender);
      halted = halted ∙ ap (λ b. b || halts_from motion l.sender s.entry.ask) h.halted ∙ sym (halted_more motion l.sender steps s);
      fit = h.fit;
    } in
    subst (LaneHears motion kinds (steps ++ s ∷ [])) (sym is) made

-- a step that isn't of the lane
pub lane_other : (motion : ℕ) (kinds : List Kind) (steps : List Step) (s : Step) (l : Lane) → IsQuiet motion s l.sender → ends_in motion s l.sender ≡ false → halts_from motion l.sender s.entry.ask ≡ false
    → LaneHears motion kinds steps l → LaneHears motion kinds (steps ++ s ∷ []) l
lane_other motion kinds steps s l quiet ends halts h =
    lane_quiet motion kinds steps s l l quiet refl (sym (or_none l.over) ∙ ap (λ b. l.over || b) (sym ends)) (sym (or_none l.halted) ∙ ap (λ b. l.halted || b) (sym halts)) h

-- a parcel of another sender
else_quiet : (motion : ℕ) (s : Step) (p : Parcel) (rows : List Line) (a : ℤ) → TookOne motion s p rows → (p.from ≡ a → ⊥) → IsQuiet motion s a
else_quiet motion s p rows a t ne = record { payloads = payloads_else motion s p rows a t ne; came = came_else motion s p rows a t ne }

lane_else : (motion : ℕ) (kinds : List Kind) (steps : List Step) (s : Step) (p : Parcel) (rows : List Line) (l : Lane) → TookOne motion s p rows → (p.from ≡ l.sender → ⊥)
    → LaneHears motion kinds steps l → LaneHears motion kinds (steps ++ s ∷ []) l
lane_else motion kinds steps s p rows l t ne h =
    lane_other motion kinds steps s l (else_quiet motion s p rows l.sender t ne) (ends_else motion s p rows l.sender t ne) (no_halt motion l.sender s.entry.ask t.takes) h

-- its own parcel
pub lane_grows : (motion : ℕ) (kinds : List Kind) (steps : List Step) (s : Step) (p : Parcel) (rows : List Line) (was lane : Lane) → TookOne motion s p rows → p.from ≡ was.sender → Grows kinds was lane p rows
    → LaneHears motion kinds steps was → LaneHears motion kinds (steps ++ s ∷ []) lane
lane_grows motion kinds steps s p rows was lane t is g h =
    let payloads = payloads_then motion steps s was.sender (p.payload ∷ []) (payloads_own motion s p rows was.sender t is) in
    let came = came_then motion steps s was.sender rows (came_own motion s p rows was.sender t is) in
    let made : LaneHears motion kinds (steps ++ s ∷ []) (record was { stream = lane.stream; rows = was.rows ++ rows; over = was.over || p.last }) = record {
      stands = subst (λ q. Stands lane.stream q (came_from was.sender (input_of motion (steps ++ s ∷ [])).took)) (sym payloads)
          (subst (Stands lane.stream (payloads_from was.sender (parcels_of motion steps) ++ p.payload ∷ [])) (sym came) (g.feeds (payloads_from was.sender (parcels_of motion steps)) (came_from was.sender (input_of motion steps).took) h.stands));
      over = ap (λ b. b || p.last) h.over ∙ ap (λ b. has_ended motion steps was.sender || b) (sym (ends_own motion s p rows was.sender t is)) ∙ sym (ended_more motion steps s was.sender);
      halted = h.halted ∙ sym (or_none (halted_from motion was.sender steps)) ∙ ap (λ b. halted_from motion was.sender steps || b) (sym (no_halt motion was.sender s.entry.ask t.takes)) ∙ sym (halted_more motion was.sender steps s);
      fit = all_append (HasKinds kinds) was.rows rows h.fit g.fit;
    } in
    subst (LaneHears motion kinds (steps ++ s ∷ [])) (sym g.new_is) made

-- ---- all lanes

-- the lanes after a sender with a lesser number
lanes_else : (motion : ℕ) (kinds : List Kind) (steps : List Step) (s : Step) (p : Parcel) (rows : List Line) (lanes : List Lane) → TookOne motion s p rows → AllByRecursion (λ b. p.from <ℤ b) (senders_of lanes)
    → AllByRecursion (LaneHears motion kinds steps) lanes → AllByRecursion (LaneHears motion kinds (steps ++ s ∷ [])) lanes
lanes_else motion kinds steps s p rows [] t lt h = tt
lanes_else motion kinds steps s p rows (l ∷ lanes) t lt h =
    (lane_else motion kinds steps s p rows l t (below_apart p.from l.sender lt.0) h.0, lanes_else motion kinds steps s p rows lanes t lt.1 h.1)

lanes_at : (motion : ℕ) (kinds : List Kind) (steps : List Step) (s : Step) (p : Parcel) (rows : List Line) (l : Lane) (lanes : List Lane) (was lane : Lane) (b : Bool) → int_eq l.sender p.from ≡ b → TookOne motion s p rows
    → Grows kinds was lane p rows → Ascends (senders_of (l ∷ lanes)) → AllByRecursion (LaneHears motion kinds steps) (l ∷ lanes)
    → slice_get (l ∷ lanes) (cond b zero (suc (place_of lanes p.from))) ≡ Some was
    → (slice_get lanes (place_of lanes p.from) ≡ Some was → AllByRecursion (LaneHears motion kinds (steps ++ s ∷ [])) (slice_set lanes (place_of lanes p.from) lane))
    → AllByRecursion (LaneHears motion kinds (steps ++ s ∷ [])) (slice_set (l ∷ lanes) (cond b zero (suc (place_of lanes p.from))) lane)
lanes_at motion kinds steps s p rows l lanes was lane true is t g up h at next =
    let one : l ≡ was = cc in
    let from : l.sender ≡ p.from = (Decides-int_eq l.sender p.from).0 is in (
      lane_grows motion kinds steps s p rows was lane t (sym from ∙ ap (λ (x : Lane). x.sender) one) g (subst (LaneHears motion kinds steps) one h.0),
      lanes_else motion kinds steps s p rows lanes t (subst (λ a. AllByRecursion (λ b. a <ℤ b) (senders_of lanes)) from up.0) h.1,
    )
lanes_at motion kinds steps s p rows l lanes was lane false is t g up h at next =
    (lane_else motion kinds steps s p rows l t (λ same. int_apart l.sender p.from is (sym same)) h.0, next at)

pub lanes_grow : (motion : ℕ) (kinds : List Kind) (steps : List Step) (s : Step) (p : Parcel) (rows : List Line) (lanes : List Lane) (was lane : Lane) → TookOne motion s p rows → Grows kinds was lane p rows
    → Ascends (senders_of lanes) → AllByRecursion (LaneHears motion kinds steps) lanes → slice_get lanes (place_of lanes p.from) ≡ Some was
    → AllByRecursion (LaneHears motion kinds (steps ++ s ∷ [])) (slice_set lanes (place_of lanes p.from) lane)
lanes_grow motion kinds steps s p rows [] was lane t g up h at = cc
lanes_grow motion kinds steps s p rows (l ∷ lanes) was lane t g up h at =
    lanes_at motion kinds steps s p rows l lanes was lane (int_eq l.sender p.from) refl t g up h at (lanes_grow motion kinds steps s p rows lanes was lane t g up.1 h.1)

-- senders stay
pub senders_set : (lanes : List Lane) (k : ℕ) (was lane : Lane) → slice_get lanes k ≡ Some was → lane.sender ≡ was.sender → senders_of (slice_set lanes k lane) ≡ senders_of lanes
senders_set [] k was lane at is = refl
senders_set (l ∷ lanes) zero was lane at is = let one : l ≡ was = cc in ap (λ a. a ∷ senders_of lanes) (is ∙ ap (λ (x : Lane). x.sender) (sym one))
senders_set (l ∷ lanes) (suc k) was lane at is = ap (λ as_. l.sender ∷ as_) (senders_set lanes k was lane at is)

-- ---- places

not_first : (a : ℤ) (as_ : List ℤ) (k : ℕ) (b : ℤ) → AllByRecursion (λ x. a <ℤ x) as_ → slice_get as_ k ≡ Some b → a <ℤ b
not_first a [] k b lt at = cc
not_first a (x ∷ as_) zero b lt at = let one : x ≡ b = cc in subst (λ y. a <ℤ y) one lt.0
not_first a (x ∷ as_) (suc k) b lt at = not_first a as_ k b lt.1 at

pub get_sender : (lanes : List Lane) (k : ℕ) (l : Lane) → slice_get lanes k ≡ Some l → slice_get (senders_of lanes) k ≡ Some l.sender
get_sender [] k l at = cc
get_sender (x ∷ lanes) zero l at = let one : x ≡ l = cc in ap (λ (y : Lane). Some y.sender) one
get_sender (x ∷ lanes) (suc k) l at = get_sender lanes k l at

pub place_at : (lanes : List Lane) (k : ℕ) (l : Lane) (a : ℤ) → Ascends (senders_of lanes) → slice_get lanes k ≡ Some l → a ≡ l.sender → place_of lanes a ≡ k
place_at [] k l a up at is = cc
place_at (x ∷ lanes) zero l a up at is =
    let one : x ≡ l = cc in
    ap (λ b. cond b zero (suc (place_of lanes a))) (int_same x.sender a (ap (λ (y : Lane). y.sender) one ∙ sym is))
place_at (x ∷ lanes) (suc k) l a up at is =
    let lt : x.sender <ℤ l.sender = not_first x.sender (senders_of lanes) k l.sender up.0 (get_sender lanes k l at) in
    ap (λ b. cond b zero (suc (place_of lanes a))) (int_differ x.sender a (λ same. below_apart x.sender l.sender lt (same ∙ is))) ∙ ap suc (place_at lanes k l a up.1 at is)

-- ---- streams

pub streams_grow : (lanes : List Lane) (k : ℕ) (was lane : Lane) (more : List Line) (end : Bool) → slice_get lanes k ≡ Some was → lane.rows ≡ was.rows ++ more → lane.over ≡ (was.over || end)
    → streams_of (slice_set lanes k lane) ≡ grow k more end (streams_of lanes)
unfolding grow
streams_grow [] k was lane more end at rows over = cc
streams_grow (l ∷ lanes) zero was lane more end at rows over =
    let one : was ≡ l = cc in
    ap (λ r. record { rows = r; ended = lane.over } ∷ streams_of lanes) (rows ∙ ap (λ (x : Lane). x.rows ++ more) one)
    ∙ ap (λ b. record { rows = l.rows ++ more; ended = b } ∷ streams_of lanes) (over ∙ ap (λ (x : Lane). x.over || end) one)
streams_grow (l ∷ lanes) (suc k) was lane more end at rows over = ap (λ ss. stream_of l ∷ ss) (streams_grow lanes k was lane more end at rows over)

pub open_start : (motion : ℕ) (kinds : List Kind) (steps : List Step) (lanes : List Lane) (k : ℕ) → AllByRecursion (LaneHears motion kinds steps) lanes → IsOpen k (streams_of lanes)
    → IsOpen k (map (stream_from (heard_of motion steps)) (senders_of lanes))
unfolding IsOpen
open_start motion kinds steps [] k h going = absurd going
open_start motion kinds steps (l ∷ lanes) zero h going = sym h.0.over ∙ going
open_start motion kinds steps (l ∷ lanes) (suc k) h going = open_start motion kinds steps lanes k h.1 going

-- what came of a sender is the same, or more
same_start : (motion : ℕ) (steps : List Step) (s : Step) (a : ℤ) → IsQuiet motion s a → ends_in motion s a ≡ false → stream_from (heard_of motion (steps ++ s ∷ [])) a ≡ stream_from (heard_of motion steps) a
same_start motion steps s a quiet ends =
    ap (λ r. record { rows = r; ended = has_ended motion (steps ++ s ∷ []) a }) (came_then motion steps s a [] quiet.came ∙ append-nil (came_from a (input_of motion steps).took))
    ∙ ap (λ b. record { rows = came_from a (input_of motion steps).took; ended = b }) (ended_more motion steps s a ∙ ap (λ b. has_ended motion steps a || b) ends ∙ or_none (has_ended motion steps a))

more_start : (motion : ℕ) (steps : List Step) (s : Step) (a : ℤ) (rows : List Line) (end : Bool) → came_from a (came_in motion s) ≡ rows → ends_in motion s a ≡ end
    → stream_from (heard_of motion (steps ++ s ∷ [])) a ≡ record { rows = (stream_from (heard_of motion steps) a).rows ++ rows; ended = (stream_from (heard_of motion steps) a).ended || end }
more_start motion steps s a rows end came ends =
    ap (λ r. record { rows = r; ended = has_ended motion (steps ++ s ∷ []) a }) (came_then motion steps s a rows came)
    ∙ ap (λ b. record { rows = came_from a (input_of motion steps).took ++ rows; ended = b }) (ended_more motion steps s a ∙ ap (λ b. has_ended motion steps a || b) ends)

pub starts_same : (motion : ℕ) (steps : List Step) (s : Step) (as_ : List ℤ) → ((a : ℤ) → IsQuiet motion s a × (ends_in motion s a ≡ false)) → map (stream_from (heard_of motion (steps ++ s ∷ []))) as_ ≡ map (stream_from (heard_of motion steps)) as_
starts_same motion steps s [] of = refl
starts_same motion steps s (a ∷ as_) of =
    let w = of a in
    ap (λ x. x ∷ map (stream_from (heard_of motion (steps ++ s ∷ []))) as_) (same_start motion steps s a w.0 w.1)
    ∙ ap (λ xs. stream_from (heard_of motion steps) a ∷ xs) (starts_same motion steps s as_ of)

-- the step is of one sender alone
unfoldable pub IsOf : ℕ → Step → ℤ → Type 0
IsOf motion s from = (a : ℤ) → (from ≡ a → ⊥) → IsQuiet motion s a × (ends_in motion s a ≡ false)

pub took_of : (motion : ℕ) (s : Step) (p : Parcel) (rows : List Line) → TookOne motion s p rows → IsOf motion s p.from
unfolding IsOf
took_of motion s p rows t = λ a ne. (else_quiet motion s p rows a t ne, ends_else motion s p rows a t ne)

starts_else : (motion : ℕ) (steps : List Step) (s : Step) (from : ℤ) (as_ : List ℤ) → IsOf motion s from → AllByRecursion (λ b. from <ℤ b) as_
    → map (stream_from (heard_of motion (steps ++ s ∷ []))) as_ ≡ map (stream_from (heard_of motion steps)) as_
unfolding IsOf
starts_else motion steps s from [] of lt = refl
starts_else motion steps s from (a ∷ as_) of lt =
    let w = of a (below_apart from a lt.0) in
    ap (λ x. x ∷ map (stream_from (heard_of motion (steps ++ s ∷ []))) as_) (same_start motion steps s a w.0 w.1)
    ∙ ap (λ xs. stream_from (heard_of motion steps) a ∷ xs) (starts_else motion steps s from as_ of lt.1)

pub starts_grow : (motion : ℕ) (steps : List Step) (s : Step) (from : ℤ) (rows : List Line) (end : Bool) (as_ : List ℤ) (k : ℕ) → IsOf motion s from → came_from from (came_in motion s) ≡ rows → ends_in motion s from ≡ end
    → Ascends as_ → slice_get as_ k ≡ Some from
    → map (stream_from (heard_of motion (steps ++ s ∷ []))) as_ ≡ grow k rows end (map (stream_from (heard_of motion steps)) as_)
unfolding IsOf grow
starts_grow motion steps s from rows end [] k of came ends up at = cc
starts_grow motion steps s from rows end (a ∷ as_) zero of came ends up at =
    let one : from ≡ a = cc in
    let start = map (stream_from (heard_of motion steps)) as_ in
    ap (λ xs. stream_from (heard_of motion (steps ++ s ∷ [])) a ∷ xs) (starts_else motion steps s from as_ of (subst (λ x. AllByRecursion (λ b. x <ℤ b) as_) (sym one) up.0))
    ∙ ap (λ x. x ∷ start) (more_start motion steps s a rows end (subst (λ x. came_from x (came_in motion s) ≡ rows) one came) (subst (λ x. ends_in motion s x ≡ end) one ends))
starts_grow motion steps s from rows end (a ∷ as_) (suc k) of came ends up at =
    let lt : a <ℤ from = not_first a as_ k from up.0 at in
    let w = of a (λ same. below_apart a from lt (sym same)) in
    ap (λ x. x ∷ map (stream_from (heard_of motion (steps ++ s ∷ []))) as_) (same_start motion steps s a w.0 w.1)
    ∙ ap (λ xs. stream_from (heard_of motion steps) a ∷ xs) (starts_grow motion steps s from rows end as_ k of came ends up.1 at)
