-- How a halt leaves a receiving end.
use Rattle.std.proofs.Common.{◌≡◌, ℕ, zero, suc, ℤ, List, [], ◌∷◌, ◌++◌, map, Bool, true, false, ◌||◌, ◌&&◌, Option, Some, None, Result, Ok, Err, refl, ap, sym, ◌∙◌, subst, append-nil}
use Rattle.std.specs.List.{flat_map, AllByRecursion}
use Rattle.std.specs.Prelude.{slice_get, ◌<ℤ◌, IfErr}
use Rattle.std.specs.Ordering.{int_eq}
use Rattle.ic_base.specs.declared.port.PortNo.{PortNo}
use Rattle.ic_base.specs.declared.port.PortNo.TheVariants.{Full, Empty, Stopped, Ended, TooLong, Busy, Memory}
use Rattle.ic_base.specs.declared.port.PortAsk.TheVariants.{Halt}
use Rattle.ic_base.specs.declared.port.PortReply.TheVariants.{Did}
use Rattle.ic_base.specs.declared.port.PortEntry.{PortEntry}
use Rattle.ic_base.specs.Ports.{did, logged, MayRefuseHalt}
use Rattle.ic_row.specs.declared.value.Kind.{Kind}
use Rattle.ic_row.specs.declared.order.Key.{Key}
use Rattle.pl_ops.specs.Rows.{Line}
use Rattle.pl_ops.specs.Merging.{sorts_before}
use Rattle.pl_mean.specs.Outputs.{rows_in, stream_from}
use Rattle.pl_runs.specs.Steps.{Step, calls_of, parcels_in, halts_from}
use Rattle.ic_motion.specs.declared.answers.Sent.{Sent}
use Rattle.ic_motion.specs.declared.answers.Sent.TheVariants as sent
use Rattle.ic_motion.specs.declared.answers.MotionNo.{MotionNo}
use Rattle.ic_motion.specs.declared.answers.MotionNo.TheVariants as why
use Rattle.ic_motion.specs.Answers.{refused_by, done_or_more}
use Rattle.ic_motion.specs.Hearing.{heard_of, HasKinds, Lane, Listener, senders_of, stream_of, streams_of, rows_of, Ascends, Merged, Left, LaneHears, Hears}
use Rattle.ic_motion.specs.Halting.{is_heard, all_heard, halt_at, HaltsBy, Halting, all_were, halts, LeavesHalt, Halted}
use Rattle.ic_motion.proofs.Lists.{or_end, or_none, int_same, int_differ, below_apart, get_all}
use Rattle.ic_motion.proofs.Readings.{eqb_same, ends_in}
use Rattle.ic_motion.proofs.Lanes.{lane_quiet, lane_other, get_sender, starts_same}
use Rattle.ic_motion.proofs.Steps.{silent_quiet, took_same, hears_as, after_first}
use Rattle.ic_motion.proofs.Pulled.{calls_more, calls_same, or_left, or_right}

step : ℕ → ℤ → Step
step motion b = record { entry = record { ask = Halt motion b; reply = Did }; rows = [] }

-- the step takes nothing, ends nothing, and halts one sender
no_parcel : (motion : ℕ) (b : ℤ) → parcels_in motion (step motion b) ≡ []
unfolding step
no_parcel motion b = refl

no_end : (motion : ℕ) (b a : ℤ) → ends_in motion (step motion b) a ≡ false
unfolding step ends_in
no_end motion b a = refl

halts_one : (motion : ℕ) (b a : ℤ) → halts_from motion a (step motion b).entry.ask ≡ int_eq b a
unfolding step
halts_one motion b a = ap (λ t. t && int_eq b a) (eqb_same motion)

lanes_after : (motion : ℕ) (kinds : List Kind) (steps : List Step) (b : ℤ) (lanes : List Lane) → AllByRecursion (λ x. b <ℤ x) (senders_of lanes) → AllByRecursion (LaneHears motion kinds steps) lanes
    → AllByRecursion (LaneHears motion kinds (steps ++ step motion b ∷ [])) lanes
lanes_after motion kinds steps b [] lt h = tt
lanes_after motion kinds steps b (l ∷ lanes) lt h = (
  lane_other motion kinds steps (step motion b) l (silent_quiet motion (step motion b) l.sender (no_parcel motion b)) (no_end motion b l.sender) (halts_one motion b l.sender ∙ int_differ b l.sender (below_apart b l.sender lt.0)) h.0,
  lanes_after motion kinds steps b lanes lt.1 h.1,
)

halt_one : Lane → Lane
halt_one l = record l { halted = true }

lane_halt : (motion : ℕ) (kinds : List Kind) (steps : List Step) (b : ℤ) (l : Lane) → b ≡ l.sender → LaneHears motion kinds steps l → LaneHears motion kinds (steps ++ step motion b ∷ []) (record l { halted = true })
lane_halt motion kinds steps b l is h =
    lane_quiet motion kinds steps (step motion b) l (record l { halted = true }) (silent_quiet motion (step motion b) l.sender (no_parcel motion b)) refl
    (sym (or_none l.over) ∙ ap (λ x. l.over || x) (sym (no_end motion b l.sender)))
    (sym (or_end l.halted) ∙ ap (λ x. l.halted || x) (sym (halts_one motion b l.sender ∙ int_same b l.sender is))) h

lanes_halt : (motion : ℕ) (kinds : List Kind) (steps : List Step) (b : ℤ) (k : ℕ) (lanes : List Lane) → Ascends (senders_of lanes) → slice_get (senders_of lanes) k ≡ Some b → AllByRecursion (LaneHears motion kinds steps) lanes
    → AllByRecursion (LaneHears motion kinds (steps ++ step motion b ∷ [])) (halt_at k lanes)
lanes_halt motion kinds steps b k [] up at h = tt
lanes_halt motion kinds steps b zero (l ∷ lanes) up at h =
    let one : l.sender ≡ b = cc in
    (lane_halt motion kinds steps b l (sym one) h.0, lanes_after motion kinds steps b lanes (subst (λ y. AllByRecursion (λ x. y <ℤ x) (senders_of lanes)) one up.0) h.1)
lanes_halt motion kinds steps b (suc k) (l ∷ lanes) up at h =
    let lt : l.sender <ℤ b = after_first l.sender (senders_of lanes) k b up.0 at in (
      lane_other motion kinds steps (step motion b) l (silent_quiet motion (step motion b) l.sender (no_parcel motion b)) (no_end motion b l.sender)
          (halts_one motion b l.sender ∙ int_differ b l.sender (λ same. below_apart l.sender b lt (sym same))) h.0,
      lanes_halt motion kinds steps b k lanes up.1 at h.1,
    )

pub senders_halt : (k : ℕ) (lanes : List Lane) → senders_of (halt_at k lanes) ≡ senders_of lanes
senders_halt k [] = refl
senders_halt zero (l ∷ lanes) = refl
senders_halt (suc k) (l ∷ lanes) = ap (λ as_. l.sender ∷ as_) (senders_halt k lanes)

streams_halt : (k : ℕ) (lanes : List Lane) → streams_of (halt_at k lanes) ≡ streams_of lanes
streams_halt k [] = refl
streams_halt zero (l ∷ lanes) = refl
streams_halt (suc k) (l ∷ lanes) = ap (λ ss. stream_of l ∷ ss) (streams_halt k lanes)

rows_halt : (k : ℕ) (lanes : List Lane) → flat_map rows_of (halt_at k lanes) ≡ flat_map rows_of lanes
rows_halt k [] = refl
rows_halt zero (l ∷ lanes) = refl
rows_halt (suc k) (l ∷ lanes) = ap (λ r. l.rows ++ r) (rows_halt k lanes)

left_halt : (order : Option (List Key)) (motion : ℕ) (steps : List Step) (b : ℤ) (k : ℕ) (lanes : List Lane) (given : List Line) → Left order lanes (heard_of motion steps) given → Left order (halt_at k lanes) (heard_of motion (steps ++ step motion b ∷ [])) given
left_halt None motion steps b k lanes given left = ap rows_in (took_same motion steps (step motion b) (no_parcel motion b)) ∙ left ∙ ap (λ r. given ++ r) (sym (rows_halt k lanes))
left_halt (Some keys) motion steps b k lanes given left =
    let s = step motion b in
    subst (λ as_. Merged (sorts_before keys) (map (stream_from (heard_of motion (steps ++ s ∷ []))) as_) given (streams_of (halt_at k lanes))) (sym (senders_halt k lanes))
    (subst (λ start. Merged (sorts_before keys) start given (streams_of (halt_at k lanes))) (sym (starts_same motion steps s (senders_of lanes) (λ a. (silent_quiet motion s a (no_parcel motion b), no_end motion b a))))
    (subst (Merged (sorts_before keys) (map (stream_from (heard_of motion steps)) (senders_of lanes)) given) (sym (streams_halt k lanes)) left))

hears_halt : (m : Listener) (steps : List Step) (given : List Line) (k : ℕ) (b : ℤ) → slice_get (senders_of m.lanes) k ≡ Some b → Hears m steps given → Hears (record m { lanes = halt_at k m.lanes }) (steps ++ step m.end.motion b ∷ []) given
hears_halt m steps given k b at h = record {
  ascend = subst Ascends (sym (senders_halt k m.lanes)) h.ascend;
  each = lanes_halt m.end.motion m.kinds steps b k m.lanes h.ascend at h.each;
  left = left_halt m.order m.end.motion steps b k m.lanes given h.left;
  fit = subst (λ t. AllByRecursion (HasKinds m.kinds) (rows_in t)) (sym (took_same m.end.motion steps (step m.end.motion b) (no_parcel m.end.motion b))) h.fit;
}

-- ---- what it says

same_end : (m : Listener) (lanes : List Lane) (r : Option MotionNo) (steps : List Step) (given : List Line) → lanes ≡ m.lanes → Hears m steps given → Hears (record m { lanes = lanes; refused = r }) steps given
same_end m lanes r steps given same h = hears_as m (record m { lanes = lanes; refused = r }) steps given refl refl refl same h

done : (m : Listener) (after : List Lane) (steps more : List Step) (given : List Line) (b : Bool) → all_heard after ≡ b → ((s : Step) × (more ≡ s ∷ []) × (s.entry.reply ≡ Did)) → Hears (record m { lanes = after; refused = None }) (steps ++ more) given
    → LeavesHalt (record m { lanes = after; refused = None }) steps more given (Ok (done_or_more b))
done m after steps more given true all did_ h = (h, all)
done m after steps more given false all did_ h = (h, (all, did_))

quiet : (m : Listener) (steps : List Step) (given : List Line) (after : List Lane) (log now : List PortEntry) (result answer : Result Sent MotionNo) → calls_of steps ≡ log → Hears m steps given → now ≡ log → after ≡ m.lanes → result ≡ answer
    → ((h : Hears (record m { lanes = after; refused = refused_by answer }) (steps ++ []) given) → LeavesHalt (record m { lanes = after; refused = refused_by answer }) steps [] given answer) → Halted m (record m { lanes = after; refused = refused_by result }) steps given now result
quiet m steps given after log now result answer calls h entry same told leaves =
    subst (λ r. Halted m (record m { lanes = after; refused = refused_by r }) steps given now r) (sym told) (record {
      more = [];
      log = calls_same steps log now calls entry;
      makes = tt;
      leaves = leaves (subst (λ x. Hears (record m { lanes = after; refused = refused_by answer }) x given) (sym (append-nil steps)) (same_end m after (refused_by answer) steps given same h));
    })

halted_by : (m : Listener) (steps : List Step) (given : List Line) (after : List Lane) (log now : List PortEntry) (result : Result Sent MotionNo) (k : ℕ) (l : Lane) (answer : Result (Unit {0}) PortNo) → calls_of steps ≡ log → Hears m steps given
    → slice_get m.lanes k ≡ Some l → is_heard l ≡ false → now ≡ logged (Halt m.end.motion l.sender) (did answer) log → IfErr answer MayRefuseHalt → HaltsBy m.lanes after k result answer
    → Halted m (record m { lanes = after; refused = refused_by result }) steps given now result
unfolding step
halted_by m steps given after log now result k l (Ok _) calls h at going entry may (made, told) =
    let motion = m.end.motion in
    let s : Step = record { entry = record { ask = Halt motion l.sender; reply = Did }; rows = [] } in
    let lane = get_all (LaneHears motion m.kinds steps) m.lanes k l h.each at in
    let h1 = hears_halt m steps given k l.sender (get_sender m.lanes k l at) h in
    let h2 = hears_as (record m { lanes = halt_at k m.lanes }) (record m { lanes = after; refused = None }) (steps ++ s ∷ []) given refl refl refl made h1 in
    subst (λ r. Halted m (record m { lanes = after; refused = refused_by r }) steps given now r) (sym told) (record {
      more = s ∷ [];
      log = calls_more steps s log now calls entry;
      makes = record {
        place = k;
        l = l;
        at = at;
        ask = refl;
        going = sym lane.over ∙ or_left l.over l.halted going;
        once = sym lane.halted ∙ or_right l.over l.halted going;
        read = record { took = λ n p takes is. cc; none = λ _. refl };
      };
      leaves = done m after steps (s ∷ []) given (all_heard after) refl (s, refl, refl) h2;
    })
halted_by m steps given after log now result k l (Err Busy) calls h at going entry may (same, told) =
    quiet m steps given after log now result (Ok (sent.Wait Busy)) calls h (entry ∙ append-nil log) same told (λ x. (x, refl))
halted_by m steps given after log now result k l (Err Memory) calls h at going entry may (same, told) =
    quiet m steps given after log now result (Err why.Memory) calls h (entry ∙ append-nil log) same told (λ x. (refl, x))
halted_by m steps given after log now result k l (Err Full) calls h at going entry may w = absurd may
halted_by m steps given after log now result k l (Err Empty) calls h at going entry may w = absurd may
halted_by m steps given after log now result k l (Err Stopped) calls h at going entry may w = absurd may
halted_by m steps given after log now result k l (Err Ended) calls h at going entry may w = absurd may
halted_by m steps given after log now result k l (Err (TooLong key)) calls h at going entry may w = absurd may

pub halted : (m : Listener) (steps : List Step) (given : List Line) (after : List Lane) (log now : List PortEntry) (result : Result Sent MotionNo) → calls_of steps ≡ log → Hears m steps given → Halting m.end.motion m.lanes after log now result
    → Halted m (record m { lanes = after; refused = refused_by result }) steps given now result
halted m steps given after log now result calls h (all_were all same entry told) =
    quiet m steps given after log now result (Ok sent.Done) calls h entry same told (λ x. (x, ap all_heard same ∙ all))
halted m steps given after log now result calls h (halts k l answer at going entry may by) = halted_by m steps given after log now result k l answer calls h at going entry may by
