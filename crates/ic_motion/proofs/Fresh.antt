-- What matches before the first call.
use Rattle.std.proofs.Common.{◌≡◌, ℕ, ℤ, List, [], ◌∷◌, map, false, Option, Some, None, refl, ap, sym, ◌∙◌, subst}
use Rattle.std.specs.List.{flat_map, AllByRecursion}
use Rattle.ic_row.specs.declared.value.Kind.{Kind}
use Rattle.ic_row.specs.declared.order.Key.{Key}
use Rattle.ic_chunk.specs.Assembly.{Assembles}
use Rattle.ic_chunk.specs.Joining.{Held, Stands}
use Rattle.pl_ops.specs.Merging.{sorts_before}
use Rattle.pl_mean.specs.Outputs.{rows_in, came_from, stream_from}
use Rattle.pl_runs.specs.Steps.{Step, input_of}
use Rattle.pl_runs.specs.Logs.{payloads_from}
use Rattle.ic_motion.specs.declared.answers.MotionEnd.{MotionEnd}
use Rattle.ic_motion.specs.Hearing.{has_ended, heard_of, HasKinds, Lane, senders_of, stream_of, streams_of, rows_of, fresh_lane, Ascends, IsUnheard, Merged, begins, Left, LaneHears, Hears}

nothing_assembles : Assembles [] [] [] false
nothing_assembles = record {
  chunks = [];
  are = refl;
  front = record { parts = []; groups = []; pending = []; all = refl; each = tt; read = refl; whole = tt; spell = tt; begun = tt; left = refl; between = λ _. refl };
}

same_senders : (as_ : List ℤ) → senders_of (map fresh_lane as_) ≡ as_
same_senders [] = refl
same_senders (a ∷ as_) = ap (λ bs. a ∷ bs) (same_senders as_)

no_rows : (as_ : List ℤ) → flat_map rows_of (map fresh_lane as_) ≡ []
no_rows [] = refl
no_rows (a ∷ as_) = no_rows as_

fresh_hears_lane : (motion : ℕ) (kinds : List Kind) (steps : List Step) (a : ℤ) → IsUnheard motion steps → LaneHears motion kinds steps (fresh_lane a)
fresh_hears_lane motion kinds steps a (parcels, took, ends) =
    let held : Held = record { rest = []; ended = false } in
    let quiet = ends a in
    record {
      stands = subst (λ p. Stands held p (came_from a (input_of motion steps).took)) (sym (ap (payloads_from a) parcels)) (subst (Stands held []) (sym (ap (came_from a) took)) nothing_assembles);
      over = sym quiet.0;
      halted = sym quiet.1;
      fit = tt;
    }

fresh_each : (motion : ℕ) (kinds : List Kind) (steps : List Step) (as_ : List ℤ) → IsUnheard motion steps → AllByRecursion (LaneHears motion kinds steps) (map fresh_lane as_)
fresh_each motion kinds steps [] none = tt
fresh_each motion kinds steps (a ∷ as_) none = (fresh_hears_lane motion kinds steps a none, fresh_each motion kinds steps as_ none)

fresh_streams : (motion : ℕ) (steps : List Step) (as_ : List ℤ) → IsUnheard motion steps → map (stream_from (heard_of motion steps)) as_ ≡ streams_of (map fresh_lane as_)
fresh_streams motion steps [] none = refl
fresh_streams motion steps (a ∷ as_) (parcels, took, ends) =
    let quiet = ends a in
    ap (λ s. s ∷ map (stream_from (heard_of motion steps)) as_) (ap (λ r. record { rows = r; ended = has_ended motion steps a }) (ap (came_from a) took) ∙ ap (λ b. record { rows = []; ended = b }) quiet.0)
    ∙ ap (λ ss. stream_of (fresh_lane a) ∷ ss) (fresh_streams motion steps as_ (parcels, took, ends))

fresh_left : (order : Option (List Key)) (motion : ℕ) (steps : List Step) (as_ : List ℤ) → IsUnheard motion steps → Left order (map fresh_lane as_) (heard_of motion steps) []
fresh_left None motion steps as_ (parcels, took, ends) = ap rows_in took ∙ sym (no_rows as_)
fresh_left (Some keys) motion steps as_ none =
    subst (λ bs. Merged (sorts_before keys) (map (stream_from (heard_of motion steps)) bs) [] (streams_of (map fresh_lane as_))) (sym (same_senders as_))
    (subst (λ start. Merged (sorts_before keys) start [] (streams_of (map fresh_lane as_))) (sym (fresh_streams motion steps as_ none)) begins)

pub fresh_hears : (end : MotionEnd) (senders : List ℤ) (order : Option (List Key)) (kinds : List Kind) (lanes : List Lane) (steps : List Step) → Ascends senders → lanes ≡ map fresh_lane senders → IsUnheard end.motion steps
    → Hears (record { end = end; order = order; kinds = kinds; lanes = lanes; refused = None }) steps []
fresh_hears end senders order kinds lanes steps up are (parcels, took, ends) =
    subst (λ ls. Hears (record { end = end; order = order; kinds = kinds; lanes = ls; refused = None }) steps []) (sym are) (record {
      ascend = subst Ascends (sym (same_senders senders)) up;
      each = fresh_each end.motion kinds steps senders (parcels, took, ends);
      left = fresh_left order end.motion steps senders (parcels, took, ends);
      fit = subst (λ t. AllByRecursion (HasKinds kinds) (rows_in t)) (sym took) tt;
    })
