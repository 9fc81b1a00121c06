-- What a motion has given by the ends that were taken, and by all that says that no more come.
use Rattle.std.proofs.Common.{◌≡◌, ℕ, suc, ℤ, Bool, true, false, cond, List, [], ◌∷◌, ◌++◌, length, map, Option, Some, None, refl, sym, ap, ◌∙◌, append-nil}
use Rattle.std.specs.Prelude.{pos, ◌||◌, ◌&&◌}
use Rattle.std.specs.List.{list_all, list_any, flat_map}
use Rattle.ic_row.specs.declared.order.Key.{Key}
use Rattle.pl_ops.specs.Streams.{Stream}
use Rattle.pl_ops.specs.Merging.{sorts_before, merge_stream}
use Rattle.pl_mean.specs.Outputs.{Input, Came, received, rows_in, came_from, stream_from}
use Rattle.pl_mean.specs.Merging.{left_after}
use Rattle.pl_runs.specs.Steps.{Step, input_of, parcels_of, parcels_in, ends_stream, is_ended, ended_by, is_take, is_take_from}
use Rattle.pl_runs.specs.Wanting.{Want, FromAny, wants_of, first_unknown}
use Rattle.ic_motion.specs.Hearing.{Listener, senders_of, has_ended, heard_of}
use Rattle.ic_motion.specs.Pulling.{given_of}
use Rattle.ic_motion.proofs.Lists.{any_push}
use Rattle.ic_motion.proofs.Readings.{ends_in, parcels_more}
use Rattle.ic_motion.proofs.Steps.{IsSilent, took_same}
use Rattle.ex_tree.specs.Parts.{came}
use Rattle.ex_tree.specs.Running.{IsUncut, source_of}

or_none : (b : Bool) → (b || false) ≡ b
or_none true = refl
or_none false = refl

pub ended_is : (motion : ℕ) (steps : List Step) → IsUncut motion steps → (a : ℤ) → has_ended motion steps a ≡ (input_of motion steps).whole a
ended_is motion steps u a =
    let whole = (input_of motion steps).whole a in
    ap (λ b. whole || (b || ended_by (is_take_from motion a) steps)) u.any ∙ ap (λ b. whole || (false || b)) (u.one a) ∙ or_none whole

all_same : (p q : ℤ → Bool) (as_ : List ℤ) → ((a : ℤ) → p a ≡ q a) → list_all p as_ ≡ list_all q as_
all_same p q [] f = refl
all_same p q (a ∷ as_) f = ap (λ b. b && list_all p as_) (f a) ∙ ap (λ b. q a && b) (all_same p q as_ f)

starts_same : (t : List Came) (p q : ℤ → Bool) (as_ : List ℤ) → ((a : ℤ) → p a ≡ q a) → map (stream_from (record { took = t; whole = p })) as_ ≡ map (stream_from (record { took = t; whole = q })) as_
starts_same t p q [] f = refl
starts_same t p q (a ∷ as_) f =
    ap (λ b. record { rows = came_from a t; ended = b } ∷ map (stream_from (record { took = t; whole = p })) as_) (f a)
    ∙ ap (λ l. record { rows = came_from a t; ended = q a } ∷ l) (starts_same t p q as_ f)

received_same : (order : Option (List Key)) (as_ : List ℤ) (t : List Came) (p q : ℤ → Bool) → ((a : ℤ) → p a ≡ q a) → received order as_ (record { took = t; whole = p }) ≡ received order as_ (record { took = t; whole = q })
received_same None as_ t p q f = ap (λ b. record { rows = rows_in t; ended = b }) (all_same p q as_ f)
received_same (Some keys) as_ t p q f = ap (merge_stream (sorts_before keys) (suc (length t))) (starts_same t p q as_ f)

wants_same : (motion : ℕ) (order : Option (List Key)) (as_ : List ℤ) (t : List Came) (p q : ℤ → Bool) → ((a : ℤ) → p a ≡ q a) → wants_of motion order as_ (record { took = t; whole = p }) ≡ wants_of motion order as_ (record { took = t; whole = q })
wants_same motion None as_ t p q f = ap (λ b. cond b None (Some (FromAny motion))) (all_same p q as_ f)
wants_same motion (Some keys) as_ t p q f = ap (λ s. first_unknown motion as_ (left_after (sorts_before keys) (suc (length t)) s)) (starts_same t p q as_ f)

pub came_heard : (m : Listener) (steps : List Step) → IsUncut m.end.motion steps → given_of m steps ≡ came (source_of m) steps
came_heard m steps u = received_same m.order (senders_of m.lanes) (input_of m.end.motion steps).took (has_ended m.end.motion steps) (input_of m.end.motion steps).whole (ended_is m.end.motion steps u)

pub wants_heard : (m : Listener) (steps : List Step) → IsUncut m.end.motion steps
    → wants_of m.end.motion m.order (senders_of m.lanes) (heard_of m.end.motion steps) ≡ wants_of m.end.motion m.order (senders_of m.lanes) (input_of m.end.motion steps)
wants_heard m steps u = wants_same m.end.motion m.order (senders_of m.lanes) (input_of m.end.motion steps).took (has_ended m.end.motion steps) (input_of m.end.motion steps).whole (ended_is m.end.motion steps u)

-- ---- one more step

pub input_pass : (motion : ℕ) (steps : List Step) (s : Step) → parcels_in motion s ≡ [] → input_of motion (steps ++ s ∷ []) ≡ input_of motion steps
input_pass motion steps s none =
    ap (λ t. record { took = t; whole = λ sender. list_any (ends_stream sender) (parcels_of motion (steps ++ s ∷ [])) }) (took_same motion steps s none)
    ∙ ap (λ ps. record { took = (input_of motion steps).took; whole = λ sender. list_any (ends_stream sender) ps }) (parcels_more motion steps s ∙ ap (λ ps. parcels_of motion steps ++ ps) none ∙ append-nil (parcels_of motion steps))

pub uncut_by : (motion : ℕ) (steps : List Step) (s : Step) → (is_ended s.entry.reply && is_take motion s.entry.ask) ≡ false → ((a : ℤ) → (is_ended s.entry.reply && is_take_from motion a s.entry.ask) ≡ false)
    → IsUncut motion steps → IsUncut motion (steps ++ s ∷ [])
uncut_by motion steps s f g u = record {
  any = any_push (λ t. is_ended t.entry.reply && is_take motion t.entry.ask) steps s ∙ ap (λ b. b || (is_ended s.entry.reply && is_take motion s.entry.ask)) u.any ∙ f;
  one = λ a. any_push (λ t. is_ended t.entry.reply && is_take_from motion a t.entry.ask) steps s ∙ ap (λ b. b || (is_ended s.entry.reply && is_take_from motion a s.entry.ask)) (u.one a) ∙ g a;
}

or_left : (a b c : Bool) → (a || (b || c)) ≡ false → b ≡ false
or_left true b c e = absurd (cc)
or_left false true c e = absurd (cc)
or_left false false c e = refl

or_right : (a b c : Bool) → (a || (b || c)) ≡ false → c ≡ false
or_right true b c e = absurd (cc)
or_right false true c e = absurd (cc)
or_right false false c e = e

some_any : (motion : ℕ) (s : Step) (a : ℤ) → ends_in motion s a ≡ false → ((is_ended s.entry.reply && is_take motion s.entry.ask) ≡ false) × ((is_ended s.entry.reply && is_take_from motion a s.entry.ask) ≡ false)
unfolding ends_in
some_any motion s a e =
    let given = list_any (ends_stream a) (parcels_in motion s) in (
      or_left given (is_ended s.entry.reply && is_take motion s.entry.ask) (is_ended s.entry.reply && is_take_from motion a s.entry.ask) e,
      or_right given (is_ended s.entry.reply && is_take motion s.entry.ask) (is_ended s.entry.reply && is_take_from motion a s.entry.ask) e,
    )

pub uncut_pass : (motion : ℕ) (steps : List Step) (s : Step) → IsSilent motion s → IsUncut motion steps → IsUncut motion (steps ++ s ∷ [])
uncut_pass motion steps s silent u = uncut_by motion steps s (some_any motion s (pos 0) (silent.ends (pos 0))).0 (λ a. (some_any motion s a (silent.ends a)).1) u

-- a call that wasn't answered Ended
pub uncut_more : (motion : ℕ) (steps : List Step) (s : Step) → is_ended s.entry.reply ≡ false → IsUncut motion steps → IsUncut motion (steps ++ s ∷ [])
uncut_more motion steps s e u = uncut_by motion steps s (ap (λ b. b && is_take motion s.entry.ask) e) (λ a. ap (λ b. b && is_take_from motion a s.entry.ask) e) u
