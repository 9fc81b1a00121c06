-- Calls for other motions are mute for a sending end, and silent for a receiving one.
use Rattle.std.proofs.Common.{◌≡◌, ℕ, ℤ, List, [], ◌∷◌, Bool, true, false, ◌&&◌, ◌||◌, cond, refl, ap, ◌∙◌}
use Rattle.std.specs.List.{list_any}
use Rattle.std.specs.Ordering.{int_eq}
use Rattle.ic_base.specs.declared.port.PortAsk.{PortAsk}
use Rattle.ic_base.specs.declared.port.PortAsk.TheVariants.{Put, Finish, Take, TakeFrom, Halt}
use Rattle.pl_runs.specs.Steps.{Step, sends_on, ends_on, chunk_of, takes_of, parcels_in, parcels_by, is_done, is_stopped, is_ended, is_take, is_take_from, ends_stream}
use Rattle.ic_motion.specs.Passing.{HearsElsewhere, SendsPass, HearsPass}
use Rattle.ic_motion.proofs.Readings.{ends_in}
use Rattle.ic_motion.proofs.Sending.{IsMute, sends_pass}
use Rattle.ic_motion.proofs.Steps.{IsSilent, hears_pass}

and_false : (a : Bool) → (a && false) ≡ false
and_false true = refl
and_false false = refl

no_chunk : (motion : ℕ) (to : ℤ) (ask : PortAsk) → sends_on motion to ask ≡ false → chunk_of motion to ask ≡ []
no_chunk motion to (Put m t chunk) none = ap (λ b. cond b (chunk ∷ []) []) none
no_chunk motion to (Finish m t) none = refl
no_chunk motion to (Take m) none = refl
no_chunk motion to (TakeFrom m a) none = refl
no_chunk motion to (Halt m a) none = refl

no_finish : (motion : ℕ) (to : ℤ) (ask : PortAsk) → sends_on motion to ask ≡ false → ends_on motion to ask ≡ false
no_finish motion to (Put m t chunk) none = refl
no_finish motion to (Finish m t) none = none
no_finish motion to (Take m) none = refl
no_finish motion to (TakeFrom m a) none = refl
no_finish motion to (Halt m a) none = refl

abbrev no_list : List (List ℕ)
no_list = []

either : (b : Bool) → cond b no_list [] ≡ []
either true = refl
either false = refl

mute : (motion : ℕ) (to : ℤ) (s : Step) → sends_on motion to s.entry.ask ≡ false → IsMute motion to s
mute motion to s none = record {
  chunk = ap (λ l. cond (is_done s.entry.reply) l []) (no_chunk motion to s.entry.ask none) ∙ either (is_done s.entry.reply);
  stop = ap (λ b. is_stopped s.entry.reply && b) none ∙ and_false (is_stopped s.entry.reply);
  finish = ap (λ b. is_done s.entry.reply && b) (no_finish motion to s.entry.ask none) ∙ and_false (is_done s.entry.reply);
}

pub sends_passed : SendsPass
sends_passed m steps s rows elsewhere h = sends_pass m steps s rows (λ to. mute m.motion to s (elsewhere to)) h

no_take : (motion : ℕ) (ask : PortAsk) → takes_of motion ask ≡ false → is_take motion ask ≡ false
no_take motion (Put m t chunk) none = refl
no_take motion (Finish m t) none = refl
no_take motion (Take m) none = none
no_take motion (TakeFrom m a) none = refl
no_take motion (Halt m a) none = refl

no_take_from : (motion : ℕ) (sender : ℤ) (ask : PortAsk) → takes_of motion ask ≡ false → is_take_from motion sender ask ≡ false
no_take_from motion sender (Put m t chunk) none = refl
no_take_from motion sender (Finish m t) none = refl
no_take_from motion sender (Take m) none = refl
no_take_from motion sender (TakeFrom m a) none = ap (λ b. b && int_eq a sender) none
no_take_from motion sender (Halt m a) none = refl

no_parcels : (motion : ℕ) (s : Step) → takes_of motion s.entry.ask ≡ false → parcels_in motion s ≡ []
no_parcels motion s none = ap (λ b. cond b (parcels_by s.entry.reply) []) none

no_end : (motion : ℕ) (sender : ℤ) (s : Step) → takes_of motion s.entry.ask ≡ false → ends_in motion s sender ≡ false
unfolding ends_in
no_end motion sender s none =
    ap (λ l. list_any (ends_stream sender) l || ((is_ended s.entry.reply && is_take motion s.entry.ask) || (is_ended s.entry.reply && is_take_from motion sender s.entry.ask))) (no_parcels motion s none)
    ∙ ap (λ b. (is_ended s.entry.reply && b) || (is_ended s.entry.reply && is_take_from motion sender s.entry.ask)) (no_take motion s.entry.ask none)
    ∙ ap (λ b. b || (is_ended s.entry.reply && is_take_from motion sender s.entry.ask)) (and_false (is_ended s.entry.reply))
    ∙ ap (λ b. is_ended s.entry.reply && b) (no_take_from motion sender s.entry.ask none) ∙ and_false (is_ended s.entry.reply)

silent : (motion : ℕ) (s : Step) → HearsElsewhere motion s → IsSilent motion s
silent motion s elsewhere = record { parcels = no_parcels motion s elsewhere.takes; ends = λ a. no_end motion a s elsewhere.takes; halts = elsewhere.halts }

pub hears_passed : HearsPass
hears_passed m steps s given elsewhere h = hears_pass m steps s given (silent m.end.motion s elsewhere) h
