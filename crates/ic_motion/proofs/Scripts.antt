-- The worker of this crate's tests sends to both segments in motion 1, and hears both in motion 2.
use Rattle.std.proofs.Common.{◌≡◌, ℕ, zero, suc, ℤ, pos, List, [], ◌∷◌, true, false, refl, ap, sym, ◌∙◌, subst, arith}
use Rattle.std.specs.List.{Contains}
use Rattle.ic_base.specs.declared.keys.ConnEnd.{ConnEnd}
use Rattle.ic_base.specs.Ports.{SendsTo, HearsFrom}
use Rattle.ic_motion.specs.Sending.{Sender, receivers_of, SendsToEach}
use Rattle.ic_motion.specs.Sent.{SameOut}
use Rattle.ic_motion.specs.declared.answers.MotionEnd.{MotionEnd}
use Rattle.ic_motion.specs.Hearing.{Listener, senders_of}
use Rattle.ic_motion.specs.Pulling.{Listens, SameIn}
use Rattle.ic_motion.specs.Scripts.{end_of, script_ends}

abbrev both : List ℤ
both = pos 0 ∷ pos 1 ∷ []

sends_0 : SendsTo script_ends 1 (pos 0)
sends_0 = (0, end_of 1 (pos 0) (pos 0) true, omega arith, refl, (refl, refl, refl))

sends_1 : SendsTo script_ends 1 (pos 1)
sends_1 = (1, end_of 1 (pos 0) (pos 1) true, omega arith, refl, (refl, refl, refl))

pub hears_0 : HearsFrom script_ends 2 (pos 0)
hears_0 = (2, end_of 2 (pos 0) (pos 0) false, omega arith, refl, (refl, refl, refl))

pub hears_1 : HearsFrom script_ends 2 (pos 1)
hears_1 = (3, end_of 2 (pos 1) (pos 0) false, omega arith, refl, (refl, refl, refl))

one_of : (P : ℤ → Type 0) (a : ℤ) → P (pos 0) → P (pos 1) → Contains both a → P a
one_of P a p q (zero, lt, at) = subst P at p
one_of P a p q (suc zero, lt, at) = subst P at q
one_of P a p q (suc (suc n), lt, at) = absurd (omega (arith, lt))

pub sends_both : SendsToEach script_ends 1 both
sends_both to among = one_of (SendsTo script_ends 1) to sends_0 sends_1 among

among : (a : ℤ) → HearsFrom script_ends 2 a → Contains both a
among a (zero, e, lt, at, (receives, motion, from)) = let bad : true ≡ false = ap (λ (x : ConnEnd). x.sending) at ∙ receives in cc
among a (suc zero, e, lt, at, (receives, motion, from)) = let bad : true ≡ false = ap (λ (x : ConnEnd). x.sending) at ∙ receives in cc
among a (suc (suc zero), e, lt, at, (receives, motion, from)) = (0, omega arith, ap (λ (x : ConnEnd). x.key.from) at ∙ from)
among a (suc (suc (suc zero)), e, lt, at, (receives, motion, from)) = (1, omega arith, ap (λ (x : ConnEnd). x.key.from) at ∙ from)
among a (suc (suc (suc (suc n))), e, lt, at, (receives, motion, from)) = absurd (omega (arith, lt))

pub hears_both : Listens script_ends 2 both
hears_both = record {
  some_ = (2, end_of 2 (pos 0) (pos 0) false, omega arith, refl, (refl, refl));
  each = among;
  heard = λ a heard. one_of (HearsFrom script_ends 2) a hears_0 hears_1 heard;
}

-- the same motion and receivers
pub keeps : (old new : Sender) → SameOut old new → SendsToEach script_ends old.motion (receivers_of old.targets) → SendsToEach script_ends new.motion (receivers_of new.targets)
keeps old new same sends =
    subst (λ (n : ℕ). SendsToEach script_ends n (receivers_of new.targets)) (sym same.motion) (subst (SendsToEach script_ends old.motion) (sym same.receivers) sends)

pub hears_at : (motion : ℕ) (from at : ℤ) → motion ≡ 2 → from ≡ at → HearsFrom script_ends 2 at → HearsFrom script_ends motion from
hears_at motion from at is there heard = subst (λ n. HearsFrom script_ends n from) (sym is) (subst (HearsFrom script_ends 2) (sym there) heard)

pub listens : (old new : Listener) → SameIn old new → senders_of new.lanes ≡ senders_of old.lanes → Listens script_ends old.end.motion (senders_of old.lanes) → Listens script_ends new.end.motion (senders_of new.lanes)
listens old new same senders heard =
    subst (λ (n : ℕ). Listens script_ends n (senders_of new.lanes)) (sym (ap (λ (e : MotionEnd). e.motion) same.end)) (subst (Listens script_ends old.end.motion) (sym senders) heard)
