-- What a pull does to a receiving end that matches the steps of its worker.
use Rattle.std.proofs.Common.{◌≡◌, ℕ, zero, suc, ℤ, List, [], ◌∷◌, ◌++◌, Bool, true, false, ◌||◌, ◌&&◌, cond, Option, Some, None, Result, Ok, Err, ◌⊎◌, inl, inr, refl, ap, sym, ◌∙◌, subst, append-nil}
use Rattle.std.specs.List.{list_all, AllByRecursion, Contains}
use Rattle.std.specs.Prelude.{slice_get, slice_set, IfErr, IfOk}
use Rattle.std.specs.Ordering.{int_eq}
use Rattle.std.proofs.lemmas.Bool.Decides.{Decides-eqb}
use Rattle.std.proofs.lemmas.Option.{slice_get_within, get_or_from_slice_get}
use Rattle.ic_base.specs.declared.datagram.Parcel.{Parcel}
use Rattle.ic_base.specs.declared.keys.ConnEnd.{ConnEnd}
use Rattle.ic_base.specs.declared.port.PortNo.{PortNo}
use Rattle.ic_base.specs.declared.port.PortNo.TheVariants.{Full, Empty, Stopped, Ended, TooLong, Busy, Memory}
use Rattle.ic_base.specs.declared.port.PortAsk.{PortAsk}
use Rattle.ic_base.specs.declared.port.PortAsk.TheVariants.{Put, Finish, Take, TakeFrom, Halt}
use Rattle.ic_base.specs.declared.port.PortReply.{PortReply}
use Rattle.ic_base.specs.declared.port.PortReply.TheVariants.{Gave, Refused}
use Rattle.ic_base.specs.declared.port.PortEntry.{PortEntry}
use Rattle.ic_base.specs.Ports.{gave, logged, MayRefuseTake}
use Rattle.ic_chunk.specs.Assembly.{Assembles, IsStream}
use Rattle.ic_chunk.specs.Joining.{Stands}
use Rattle.ic_chunk.proofs.OneWay.{one_assembly}
use Rattle.ic_chunk.proofs.Fronts.{front_assembles}
use Rattle.ic_row.specs.declared.value.Kind.{Kind}
use Rattle.ic_row.specs.declared.order.Key.{Key}
use Rattle.pl_ops.specs.Rows.{Line}
use Rattle.pl_mean.specs.Outputs.{Came, rows_in, came_from, received}
use Rattle.pl_runs.specs.Steps.{Step, calls_of, input_of, parcels_of, parcels_in, takes_of, is_ended, is_take, is_take_from, ended_by}
use Rattle.pl_runs.specs.Wanting.{FromOne}
use Rattle.pl_runs.specs.Logs.{payloads_from, Completes, LetsOut, completes, spoils, IsRead}
use Rattle.ic_motion.specs.declared.answers.Got.{Got}
use Rattle.ic_motion.specs.declared.answers.Got.TheVariants as got
use Rattle.ic_motion.specs.declared.answers.MotionNo.{MotionNo}
use Rattle.ic_motion.specs.declared.answers.MotionNo.TheVariants as why
use Rattle.ic_motion.specs.declared.picking.Pick.{Pick}
use Rattle.ic_motion.specs.declared.picking.Pick.TheVariants.{Row, Any, One, Nothing}
use Rattle.ic_motion.specs.Answers.{row_in, refused_by}
use Rattle.ic_motion.specs.Hearing.{has_ended, heard_of, HasKinds, Lane, Listener, senders_of, streams_of, Ascends, LaneHears, Hears}
use Rattle.ic_motion.specs.Picking.{pick_of, answer_of, kept_by, row_or_more}
use Rattle.ic_motion.specs.Feeding.{Spoilt, no_stream, wrong_mark, wrong_kinds, Grows, place_of, Feeds, Lacks, Takes}
use Rattle.ic_motion.specs.Pulling.{Pulls, given_of, IsTake, AtMostOne, Tells, Answers, IsSound, IsFromSender, Leaves, Pulled}
use Rattle.ic_motion.proofs.Lists.{or_end, map_append, get_all}
use Rattle.ic_motion.proofs.Readings.{TookOne, eqb_same, parcels_more, payloads_more, payloads_own}
use Rattle.ic_motion.proofs.Picks.{IsOpen}
use Rattle.ic_motion.proofs.Places.{contains_at}
use Rattle.ic_motion.proofs.Lanes.{lane_grows, get_sender, place_at}
use Rattle.ic_motion.proofs.Shown.{Says, says, shown}
use Rattle.ic_motion.proofs.Steps.{hears_pass, hears_as, empty_silent, MayCome, any, one, place_sender, hears_grows}

-- ---- the log

pub calls_more : (steps : List Step) (s : Step) (log now : List PortEntry) → calls_of steps ≡ log → now ≡ log ++ s.entry ∷ [] → now ≡ calls_of (steps ++ s ∷ [])
calls_more steps s log now is w = w ∙ ap (λ l. l ++ s.entry ∷ []) (sym is) ∙ sym (map_append (λ (x : Step). x.entry) steps (s ∷ []))

pub calls_same : (steps : List Step) (log now : List PortEntry) → calls_of steps ≡ log → now ≡ log → now ≡ calls_of (steps ++ [])
calls_same steps log now is w = w ∙ sym is ∙ ap calls_of (sym (append-nil steps))

-- the step of a call that was answered so
abbrev pub step_of : PortAsk → PortReply → List Line → Step
step_of ask reply rows = record { entry = record { ask = ask; reply = reply }; rows = rows }

and_off : (a b : Bool) → b ≡ false → (a && b) ≡ false
and_off true b is = is
and_off false b is = refl

pub or_left : (a b : Bool) → (a || b) ≡ false → a ≡ false
or_left true b is = cc
or_left false b is = refl

pub or_right : (a b : Bool) → (a || b) ≡ false → b ≡ false
or_right true b is = cc
or_right false b is = is

-- Ended wasn't answered to a take of any sender, if one of them hasn't ended
no_end_yet : (motion : ℕ) (steps : List Step) (as_ : List ℤ) → list_all (has_ended motion steps) as_ ≡ false → ended_by (is_take motion) steps ≡ false
no_end_yet motion steps as_ is = by (ended_by (is_take motion) steps) refl
  where
    all : ended_by (is_take motion) steps ≡ true → (bs : List ℤ) → list_all (has_ended motion steps) bs ≡ true
    all e [] = refl
    all e (b ∷ bs) =
        ap (λ t. ((input_of motion steps).whole b || (t || ended_by (is_take_from motion b) steps)) && list_all (has_ended motion steps) bs) e ∙ ap (λ t. t && list_all (has_ended motion steps) bs) (or_end ((input_of motion steps).whole b)) ∙ all e bs

    by : (b : Bool) → ended_by (is_take motion) steps ≡ b → ended_by (is_take motion) steps ≡ false
    by true e = let bad : true ≡ false = sym (all e as_) ∙ is in cc
    by false e = e

open_sender : (motion : ℕ) (kinds : List Kind) (steps : List Step) (lanes : List Lane) (k : ℕ) (a : ℤ) → AllByRecursion (LaneHears motion kinds steps) lanes → IsOpen k (streams_of lanes) → slice_get (senders_of lanes) k ≡ Some a → has_ended motion steps a ≡ false
unfolding IsOpen
open_sender motion kinds steps [] k a h going at = absurd going
open_sender motion kinds steps (l ∷ lanes) zero a h going at = let one : l.sender ≡ a = cc in ap (has_ended motion steps) (sym one) ∙ sym h.0.over ∙ going
open_sender motion kinds steps (l ∷ lanes) (suc k) a h going at = open_sender motion kinds steps lanes k a h.1 going at

-- ---- one parcel

-- a parcel with the payloads of its sender before it
with_payload : (motion : ℕ) (steps : List Step) (s : Step) (p : Parcel) (rows : List Line) → TookOne motion s p rows → payloads_from p.from (parcels_of motion (steps ++ s ∷ [])) ≡ payloads_from p.from (parcels_of motion steps) ++ p.payload ∷ []
with_payload motion steps s p rows t =
    ap (payloads_from p.from) (parcels_more motion steps s) ∙ payloads_more p.from (parcels_of motion steps) (parcels_in motion s) ∙ ap (λ l. payloads_from p.from (parcels_of motion steps) ++ l) (payloads_own motion s p rows p.from t refl)

same_motion : (motion m : ℕ) (ask : PortAsk) → takes_of motion ask ≡ true → takes_of m ask ≡ true → motion ≡ m
same_motion motion m (Take n) a b = sym ((Decides-eqb n motion).0 a) ∙ (Decides-eqb n m).0 b
same_motion motion m (TakeFrom n x) a b = sym ((Decides-eqb n motion).0 a) ∙ (Decides-eqb n m).0 b
same_motion motion m (Put n to chunk) a b = cc
same_motion motion m (Finish n to) a b = cc
same_motion motion m (Halt n x) a b = cc

one_parcel : (p q : Parcel) → p ∷ [] ≡ q ∷ [] → p ≡ q
one_parcel p q is = cc

-- a step with a parcel is read so
read_took : (motion : ℕ) (steps : List Step) (ask : PortAsk) (p : Parcel) (rows : List Line) → takes_of motion ask ≡ true → LetsOut motion steps p rows → IsRead steps (step_of ask (Gave p) rows)
read_took motion steps ask p rows takes lets = record {
  took = λ m q t is. subst (λ x. LetsOut m steps x rows) (one_parcel p q is) (subst (λ n. LetsOut n steps p rows) (same_motion motion m ask takes t) lets);
  none = λ is. cc;
}

read_refused : (steps : List Step) (ask : PortAsk) (no_ : PortNo) → IsRead steps (step_of ask (Refused no_) [])
read_refused steps ask no_ = record { took = λ m q t is. cc; none = λ is. refl }

lets_grow : (motion : ℕ) (steps : List Step) (p : Parcel) (rows : List Line) (kinds : List Kind) (was lane : Lane) → p.from ≡ was.sender → LaneHears motion kinds steps was → Grows kinds was lane p rows → LetsOut motion steps p rows
lets_grow motion steps p rows kinds was lane from h g =
    let payloads = payloads_from was.sender (parcels_of motion steps) in
    let done = came_from was.sender (input_of motion steps).took in
    let made : Completes payloads p.payload rows = record {
      done = done;
      rest = was.stream.rest;
      ended = was.stream.ended;
      rest_now = lane.stream.rest;
      ended_now = lane.stream.ended;
      was = h.stands;
      is = g.feeds payloads done h.stands;
    } in
    completes rows (subst (λ a. Completes (payloads_from a (parcels_of motion steps)) p.payload rows) (sym from) made)

fit_from : (kinds : List Kind) (a : ℤ) (took : List Came) → AllByRecursion (HasKinds kinds) (rows_in took) → AllByRecursion (HasKinds kinds) (came_from a took)
fit_from kinds a [] h = tt
fit_from kinds a (c ∷ took) h = by (int_eq c.from a) (fit_from kinds a took h.1)
  where
    by : (b : Bool) → AllByRecursion (HasKinds kinds) (came_from a took) → AllByRecursion (HasKinds kinds) (cond b (c.row ∷ came_from a took) (came_from a took))
    by true rest = (h.0, rest)
    by false rest = rest

-- it isn't spoilt
not_spoilt : (kinds : List Kind) (payloads : List (List ℕ)) (last : Bool) (rows : List Line) (rest : List ℕ) → Assembles payloads rows rest last → AllByRecursion (HasKinds kinds) rows → Spoilt kinds payloads last → ⊥
not_spoilt kinds payloads last rows rest a fit (no_stream f) = f (record { rows = rows; rest = rest; ended = last; assemble = a })
not_spoilt kinds payloads last rows rest a fit (wrong_mark others left ended b ne) = ne (one_assembly payloads others rows left rest ended last b a).2
not_spoilt kinds payloads last rows rest a fit (wrong_kinds others left ended b no_) = no_ (subst (AllByRecursion (HasKinds kinds)) (one_assembly payloads rows others rest left last ended a b).0 fit)

sound_grow : (m : Listener) (steps : List Step) (ask : PortAsk) (p : Parcel) (rows : List Line) (was lane : Lane) → TookOne m.end.motion (step_of ask (Gave p) rows) p rows → p.from ≡ was.sender
    → LaneHears m.end.motion m.kinds steps was → Grows m.kinds was lane p rows → AllByRecursion (HasKinds m.kinds) (rows_in (input_of m.end.motion (steps ++ step_of ask (Gave p) rows ∷ [])).took)
    → IsSound m steps (step_of ask (Gave p) rows)
sound_grow m steps ask p rows was lane t from h g fit =
    λ q is bad.
    let s : Step = step_of ask (Gave p) rows in
    let motion = m.end.motion in
    let same : p ≡ q = one_parcel p q is in
    let l = lane_grows motion m.kinds steps s p rows was lane t from g h in
    let sender : lane.sender ≡ p.from = ap (λ (x : Lane). x.sender) g.new_is ∙ sym from in
    let stands : Assembles (payloads_from p.from (parcels_of motion (steps ++ s ∷ []))) (came_from p.from (input_of motion (steps ++ s ∷ [])).took) lane.stream.rest lane.stream.ended =
    subst (λ a. Assembles (payloads_from a (parcels_of motion (steps ++ s ∷ []))) (came_from a (input_of motion (steps ++ s ∷ [])).took) lane.stream.rest lane.stream.ended) sender l.stands in
    not_spoilt m.kinds (payloads_from p.from (parcels_of motion (steps ++ s ∷ []))) p.last (came_from p.from (input_of motion (steps ++ s ∷ [])).took) lane.stream.rest
    (subst (Assembles (payloads_from p.from (parcels_of motion (steps ++ s ∷ []))) (came_from p.from (input_of motion (steps ++ s ∷ [])).took) lane.stream.rest) g.mark stands)
    (fit_from m.kinds p.from (input_of motion (steps ++ s ∷ [])).took fit)
    (subst (λ x. Spoilt m.kinds (payloads_from x.from (parcels_of motion (steps ++ s ∷ []))) x.last) (sym same) bad)

lets_of : (payloads : List (List ℕ)) (payload : List ℕ) (done : List Line) (rest : List ℕ) (ended : Bool) → Assembles payloads done rest ended → (all : List Line) (left : List ℕ) (end : Bool) → Assembles (payloads ++ payload ∷ []) all left end
    → (rows : List Line) × (Completes payloads payload rows ⊎ ((IsStream (payloads ++ payload ∷ []) → ⊥) × (rows ≡ [])))
lets_of payloads payload done rest ended a all left end b =
    let f = front_assembles payloads (payload ∷ []) all left end b in
    let first : f.0 ≡ done = (one_assembly payloads f.0 done f.2 rest f.3 ended f.4 a).0 in
    (f.1, inl (record { done = done; rest = rest; ended = ended; rest_now = left; ended_now = end; was = a; is = subst (λ x. Assembles (payloads ++ payload ∷ []) x left end) (f.5 ∙ ap (λ l. l ++ f.1) first) b }))

-- a parcel that spoils its sender's stream completes some rows too, or none
lets_spoilt : (kinds : List Kind) (payloads : List (List ℕ)) (payload : List ℕ) (last : Bool) (done : List Line) (rest : List ℕ) (ended : Bool) → Assembles payloads done rest ended → Spoilt kinds (payloads ++ payload ∷ []) last
    → (rows : List Line) × (Completes payloads payload rows ⊎ ((IsStream (payloads ++ payload ∷ []) → ⊥) × (rows ≡ [])))
lets_spoilt kinds payloads payload last done rest ended a (no_stream f) = ([], inr (f, refl))
lets_spoilt kinds payloads payload last done rest ended a (wrong_mark all left end b ne) = lets_of payloads payload done rest ended a all left end b
lets_spoilt kinds payloads payload last done rest ended a (wrong_kinds all left end b no_) = lets_of payloads payload done rest ended a all left end b

lets_out : (motion : ℕ) (steps : List Step) (p : Parcel) (rows : List Line) → Completes (payloads_from p.from (parcels_of motion steps)) p.payload rows ⊎ ((IsStream (payloads_from p.from (parcels_of motion steps) ++ p.payload ∷ []) → ⊥) × (rows ≡ []))
    → LetsOut motion steps p rows
lets_out motion steps p rows (inl w) = completes rows w
lets_out motion steps p rows (inr w) = subst (LetsOut motion steps p) (sym w.1) (spoils w.0)

-- ---- a parcel

-- the parcel of the step is from a sender of the motion
from_one : (m : Listener) (ask : PortAsk) (p : Parcel) (rows : List Line) → Contains (senders_of m.lanes) p.from → IsFromSender m (step_of ask (Gave p) rows)
from_one m ask p rows came q is = let same : p ≡ q = one_parcel p q is in subst (λ (x : Parcel). Contains (senders_of m.lanes) x.from) same came

no_parcel : (m : Listener) (ask : PortAsk) (no_ : PortNo) → IsFromSender m (step_of ask (Refused no_) [])
no_parcel m ask no_ = λ q is. cc

pub fed : (m : Listener) (new : List Lane) (steps : List Step) (given : List Line) (ask : PortAsk) (p : Parcel) (log now : List PortEntry) (result : Result Got MotionNo) → calls_of steps ≡ log → Hears m steps given
    → ((rows : List Line) → IsTake m steps given (step_of ask (Gave p) rows)) → takes_of m.end.motion ask ≡ true → MayCome m.order m.lanes p.from → Contains (senders_of m.lanes) p.from
    → now ≡ log ++ record { ask = ask; reply = Gave p } ∷ [] → Feeds m.end m.kinds p m.lanes new result → Pulled m (record m { lanes = new; refused = refused_by result }) steps given now result
fed m new steps given ask p log now (Ok answer) calls h take takes may came entry (was, lane, rows, at, grows, is, more) =
    let s : Step = step_of ask (Gave p) rows in
    let t : TookOne m.end.motion s p rows = record { takes = takes; gave = refl; rows_are = refl } in
    let g = hears_grows m steps s p rows given was lane t grows at may h in
    let from : p.from ≡ was.sender = sym (place_sender m.lanes p.from was at).0 in
    let l = get_all (LaneHears m.end.motion m.kinds steps) m.lanes (place_of m.lanes p.from) was h.each at in
    subst (λ a. Pulled m (record m { lanes = new; refused = None }) steps given now (Ok a)) (sym more)
    (record {
      more = s ∷ [];
      log = calls_more steps s log now calls entry;
      makes = take rows;
      from = from_one m ask p rows came;
      leaves = (
        hears_as (record m { lanes = slice_set m.lanes (place_of m.lanes p.from) lane }) (record m { lanes = new; refused = None }) (steps ++ s ∷ []) (given ++ []) refl refl refl is
            (subst (Hears (record m { lanes = slice_set m.lanes (place_of m.lanes p.from) lane }) (steps ++ s ∷ [])) (sym (append-nil given)) g.0),
        (take rows).all,
        (s, p, refl, refl),
        read_took m.end.motion steps ask p rows takes (lets_grow m.end.motion steps p rows m.kinds was lane from l grows),
        sound_grow m steps ask p rows was lane t from l grows g.0.fit,
      );
    })
fed m new steps given ask p log now (Err (why.Malformed key)) calls h take takes may came entry (was, at, key_is, bad) =
    let from : p.from ≡ was.sender = sym (place_sender m.lanes p.from was at).0 in
    let l = get_all (LaneHears m.end.motion m.kinds steps) m.lanes (place_of m.lanes p.from) was h.each at in
    let payloads = payloads_from p.from (parcels_of m.end.motion steps) in
    let done = came_from p.from (input_of m.end.motion steps).took in
    let stands : Stands was.stream payloads done = subst (λ a. Stands was.stream (payloads_from a (parcels_of m.end.motion steps)) (came_from a (input_of m.end.motion steps).took)) (sym from) l.stands in
    let sp : Spoilt m.kinds (payloads ++ p.payload ∷ []) p.last = bad payloads done stands in
    let lets = lets_spoilt m.kinds payloads p.payload p.last done was.stream.rest was.stream.ended stands sp in
    let s : Step = step_of ask (Gave p) lets.0 in
    let t : TookOne m.end.motion s p lets.0 = record { takes = takes; gave = refl; rows_are = refl } in
    record {
      more = s ∷ [];
      log = calls_more steps s log now calls entry;
      makes = take lets.0;
      from = from_one m ask p lets.0 came;
      leaves = (
        s,
        refl,
        read_took m.end.motion steps ask p lets.0 takes (lets_out m.end.motion steps p lets.0 lets.1),
        record { p = p; is = refl; key_is = key_is; spoils = subst (λ x. Spoilt m.kinds x p.last) (sym (with_payload m.end.motion steps s p lets.0 t)) sp },
      );
    }
fed m new steps given ask p log now (Err (why.TooLong key)) calls h take takes may came entry w = absurd w
fed m new steps given ask p log now (Err why.Memory) calls h take takes may came entry w = record {
  more = step_of ask (Gave p) [] ∷ [];
  log = calls_more steps (step_of ask (Gave p) []) log now calls entry;
  makes = take [];
  from = from_one m ask p [] came;
  leaves = tt;
}

-- ---- a refusal

no_sound : (m : Listener) (steps : List Step) (ask : PortAsk) (no_ : PortNo) → IsSound m steps (step_of ask (Refused no_) [])
no_sound m steps ask no_ = λ q is. cc

waited : (m : Listener) (new : List Lane) (steps : List Step) (given : List Line) (result : Result Got MotionNo) (no_ : PortNo) (more : List Step) → result ≡ Ok (got.Wait no_) → new ≡ m.lanes → Hears m (steps ++ more) given
    → (given_of m steps).rows ≡ given → Answers (got.Wait no_) more → AtMostOne (IsRead steps) more → AtMostOne (IsSound m steps) more → Leaves m (record m { lanes = new; refused = refused_by result }) steps more given result
waited m new steps given result no_ more is kept h all answers read sound =
    subst (λ r. Leaves m (record m { lanes = new; refused = refused_by r }) steps more given r) (sym is)
    (hears_as m (record m { lanes = new; refused = None }) (steps ++ more) (given ++ []) refl refl refl kept (subst (Hears m (steps ++ more)) (sym (append-nil given)) h), all, answers, read, sound)

failed : (m : Listener) (new : List Lane) (steps : List Step) (given : List Line) (log now : List PortEntry) (result : Result Got MotionNo) → calls_of steps ≡ log → now ≡ log → result ≡ Err why.Memory
    → Pulled m (record m { lanes = new; refused = refused_by result }) steps given now result
failed m new steps given log now result calls entry is =
    subst (λ r. Pulled m (record m { lanes = new; refused = refused_by r }) steps given now r) (sym is) (record { more = []; log = calls_same steps log now calls entry; makes = tt; from = tt; leaves = tt })

pub lost : (m : Listener) (new : List Lane) (steps : List Step) (given : List Line) (ask : PortAsk) (no_ : PortNo) (log now : List PortEntry) (result : Result Got MotionNo) → calls_of steps ≡ log → Hears m steps given
    → ((reply : PortReply) (rows : List Line) → IsTake m steps given (step_of ask reply rows)) → takes_of m.end.motion ask ≡ true
    → now ≡ logged ask (Refused no_) log → MayRefuseTake no_ → Lacks no_ m.lanes new result → Pulled m (record m { lanes = new; refused = refused_by result }) steps given now result
lost m new steps given ask Full log now result calls h take takes entry may w = absurd may
lost m new steps given ask Empty log now result calls h take takes entry may (is, kept) =
    let s : Step = step_of ask (Refused Empty) [] in
    let silent = empty_silent m.end.motion ask takes in
    record {
      more = s ∷ [];
      log = calls_more steps s log now calls entry;
      makes = take (Refused Empty) [];
      from = no_parcel m ask Empty;
      leaves = waited m new steps given result Empty (s ∷ []) is kept (hears_pass m steps s given silent h) (take (Refused Empty) []).all (s, refl, refl) (read_refused steps ask Empty) (no_sound m steps ask Empty);
    }
lost m new steps given ask Stopped log now result calls h take takes entry may w = absurd may
lost m new steps given ask Ended log now result calls h take takes entry may (is, kept) =
    let s : Step = step_of ask (Refused Ended) [] in
    subst (λ r. Pulled m (record m { lanes = new; refused = refused_by r }) steps given now r) (sym is)
    (record { more = s ∷ []; log = calls_more steps s log now calls entry; makes = take (Refused Ended) []; from = no_parcel m ask Ended; leaves = tt })
lost m new steps given ask (TooLong key) log now result calls h take takes entry may w = absurd may
lost m new steps given ask Busy log now result calls h take takes entry may (is, kept) = record {
  more = [];
  log = calls_same steps log now calls (entry ∙ append-nil log);
  makes = tt;
  from = tt;
  leaves = waited m new steps given result Busy [] is kept (subst (λ x. Hears m x given) (sym (append-nil steps)) h) (take (Refused Busy) []).all refl tt tt;
}
lost m new steps given ask Memory log now result calls h take takes entry may (is, kept) = failed m new steps given log now result calls (entry ∙ append-nil log) is

-- ---- a take

took : (m : Listener) (new : List Lane) (steps : List Step) (given : List Line) (ask : PortAsk) (answer : Result Parcel PortNo) (log now : List PortEntry) (result : Result Got MotionNo) → calls_of steps ≡ log → Hears m steps given
    → ((reply : PortReply) (rows : List Line) → IsTake m steps given (step_of ask reply rows)) → takes_of m.end.motion ask ≡ true → IfOk answer (λ p. MayCome m.order m.lanes p.from) → IfOk answer (λ p. Contains (senders_of m.lanes) p.from)
    → now ≡ logged ask (gave answer) log → IfErr answer MayRefuseTake → Takes m.end m.kinds m.lanes new result answer → Pulled m (record m { lanes = new; refused = refused_by result }) steps given now result
took m new steps given ask (Ok p) log now result calls h take takes may came entry why_ w = fed m new steps given ask p log now result calls h (take (Gave p)) takes may came entry w
took m new steps given ask (Err no_) log now result calls h take takes may came entry why_ w = lost m new steps given ask no_ log now result calls h take takes entry why_ w

may_any : (order : Option (List Key)) (lanes : List Lane) (answer : Result Parcel PortNo) → order ≡ None → AllByRecursion (λ (l : Lane). l.rows ≡ []) lanes → IfOk answer (λ p. MayCome order lanes p.from)
may_any order lanes (Ok p) plain none = any plain none
may_any order lanes (Err no_) plain none = tt

may_one : (order : Option (List Key)) (keys : List Key) (lanes : List Lane) (k : ℕ) (l : Lane) (answer : Result Parcel PortNo) → order ≡ Some keys → Ascends (senders_of lanes) → slice_get lanes k ≡ Some l → IsOpen k (streams_of lanes)
    → IfOk answer (λ p. p.from ≡ l.sender) → IfOk answer (λ p. MayCome order lanes p.from)
may_one order keys lanes k l (Ok p) ordered up at going from = one keys ordered (subst (λ n. IsOpen n (streams_of lanes)) (sym (place_at lanes k l p.from up at from)) going)
may_one order keys lanes k l (Err no_) ordered up at going from = tt

get_contains : (lanes : List Lane) (k : ℕ) (l : Lane) → slice_get lanes k ≡ Some l → Contains (senders_of lanes) l.sender
get_contains lanes k l at = contains_at lanes k l (slice_get_within lanes k l at) (sym (get_or_from_slice_get lanes k l l at))

from_at : (lanes : List Lane) (k : ℕ) (l : Lane) (answer : Result Parcel PortNo) → slice_get lanes k ≡ Some l → IfOk answer (λ p. p.from ≡ l.sender) → IfOk answer (λ p. Contains (senders_of lanes) p.from)
from_at lanes k l (Ok p) at from = subst (Contains (senders_of lanes)) (sym from) (get_contains lanes k l at)
from_at lanes k l (Err no_) at from = tt

-- ---- the pull

pulled_by : (pick : Pick) (keys : List ConnEnd) (m : Listener) (new : List Lane) (steps : List Step) (given : List Line) (log now : List PortEntry) (result : Result Got MotionNo) → calls_of steps ≡ log → Hears m steps given
    → Says m.order m.end.motion (senders_of m.lanes) (heard_of m.end.motion steps) given m.lanes pick → pick_of m.order (streams_of m.lanes) ≡ pick
    → Pulls pick keys m.end m.kinds m.lanes new log now result → Pulled m (record m { lanes = new; refused = refused_by result }) steps given now result
unfolding Says
pulled_by (Row k) keys m new steps given log now result calls h (row, rest, first, all, left) pick (is, kept, entry) =
    let sh = shown m steps given h in
    let answer : answer_of (pick_of m.order (streams_of m.lanes)) m.lanes ≡ got.Row row = ap (λ x. answer_of x m.lanes) pick ∙ ap row_or_more first in
    let same = append-nil steps in
    let hears = subst (λ a. Hears (record m { lanes = kept_by (pick_of m.order (streams_of m.lanes)) m.lanes }) steps (given ++ row_in a)) answer sh.hears in
    let tells = subst (Tells m (given_of m steps) given) answer sh.tells in
    subst (λ r. Pulled m (record m { lanes = new; refused = refused_by r }) steps given now r) (sym (is ∙ ap (λ o. Ok (row_or_more o)) first))
    (record {
      more = [];
      log = calls_same steps log now calls entry;
      makes = tt;
      from = tt;
      leaves = (
        hears_as (record m { lanes = kept_by (pick_of m.order (streams_of m.lanes)) m.lanes }) (record m { lanes = new; refused = None }) (steps ++ []) (given ++ row ∷ []) refl refl refl (kept ∙ ap (λ x. kept_by x m.lanes) (sym pick))
            (subst (λ x. Hears (record m { lanes = kept_by (pick_of m.order (streams_of m.lanes)) m.lanes }) x (given ++ row ∷ [])) (sym same) hears),
        tells,
        refl,
        tt,
        tt,
      );
    })
pulled_by Nothing keys m new steps given log now result calls h (all, ended) pick (is, kept, entry) =
    let same = append-nil steps in
    subst (λ r. Pulled m (record m { lanes = new; refused = refused_by r }) steps given now r) (sym is)
    (record {
      more = [];
      log = calls_same steps log now calls entry;
      makes = tt;
      from = tt;
      leaves = (
        hears_as m (record m { lanes = new; refused = None }) (steps ++ []) (given ++ []) refl refl refl kept (subst (λ x. Hears m x (given ++ [])) (sym same) (subst (Hears m steps) (sym (append-nil given)) h)),
        (all, ended),
        refl,
        tt,
        tt,
      );
    })
pulled_by Any keys m new steps given log now result calls h (plain, all, wants, none, open_) pick (answer, entry, why_, from, makes) =
    let motion = m.end.motion in
    let waits : list_all (has_ended motion steps) (senders_of m.lanes) ≡ false = subst (λ o. (received o (senders_of m.lanes) (heard_of motion steps)).ended ≡ false) plain open_ in
    let once = no_end_yet motion steps (senders_of m.lanes) waits in
    took m new steps given (Take motion) answer log now result calls h
    (λ reply rows. record { goes_on = open_; all = all; wanted = sym wants; takes = eqb_same motion; once = and_off (is_ended reply) (ended_by (is_take motion) steps) once })
    (eqb_same motion) (may_any m.order m.lanes answer plain none) from entry why_ makes
pulled_by (One k) keys m new steps given log now result calls h (ks, a, ordered, all, at_a, wants, going, open_) pick (l, at, answer, entry, why_, from, makes) =
    let motion = m.end.motion in
    let same : a ≡ l.sender = some_same (sym at_a ∙ get_sender m.lanes k l at) in
    let once = or_right (ended_by (is_take motion) steps) (ended_by (is_take_from motion l.sender) steps)
    (or_right ((input_of motion steps).whole l.sender) (ended_by (is_take motion) steps || ended_by (is_take_from motion l.sender) steps) (open_sender motion m.kinds steps m.lanes k l.sender h.each going (get_sender m.lanes k l at))) in
    took m new steps given (TakeFrom motion l.sender) answer log now result calls h
    (λ reply rows. record { goes_on = open_; all = all; wanted = ap (λ x. Some (FromOne motion x)) (sym same) ∙ sym wants; takes = eqb_same motion; once = and_off (is_ended reply) (ended_by (is_take_from motion l.sender) steps) once })
    (eqb_same motion) (may_one m.order ks m.lanes k l answer ordered h.ascend at going from) (from_at m.lanes k l answer at from) entry why_ makes
  where
    some_same : {A : Type 0} {x y : A} → Some x ≡ Some y → x ≡ y
    some_same e = cc

pub pulled : (keys : List ConnEnd) (m : Listener) (new : List Lane) (steps : List Step) (given : List Line) (log now : List PortEntry) (result : Result Got MotionNo) → calls_of steps ≡ log → Hears m steps given
    → Pulls (pick_of m.order (streams_of m.lanes)) keys m.end m.kinds m.lanes new log now result → Pulled m (record m { lanes = new; refused = refused_by result }) steps given now result
pulled keys m new steps given log now result calls h w = pulled_by (pick_of m.order (streams_of m.lanes)) keys m new steps given log now result calls h (says m steps given h) refl w
