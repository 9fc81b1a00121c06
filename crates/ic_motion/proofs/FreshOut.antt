-- What a sending end matches before its first call.
use Rattle.std.proofs.Common.{◌≡◌, ℕ, zero, suc, length, ℤ, List, [], ◌∷◌, ◌++◌, map, false, Some, None, refl, ap, sym, ◌∙◌, subst}
use Rattle.std.specs.Prelude.{slice_get}
use Rattle.ic_law.specs.Points.{IsPrefix}
use Rattle.pl_ops.specs.Routing.{Route, routed}
use Rattle.pl_runs.specs.Steps.{Step}
use Rattle.pl_runs.specs.Slices.{cut}
use Rattle.ic_motion.specs.declared.answers.MotionKind.{MotionKind}
use Rattle.ic_motion.specs.Hearing.{Ascends}
use Rattle.ic_motion.specs.Sending.{route_by, Target, Work, receivers_of, fresh_target, no_work, left_at, Sends}
use Rattle.ic_motion.specs.Sent.{IsUnsent}
use Rattle.ic_motion.proofs.Sending.{idle_left}

fresh_get : (as_ : List ℤ) (place : ℕ) (t : Target) → slice_get (map fresh_target as_) place ≡ Some t → (t.stopped ≡ false) × (t.finished ≡ false)
fresh_get [] place t at = cc
fresh_get (a ∷ as_) zero t at = let one : fresh_target a ≡ t = cc in (ap (λ (x : Target). x.stopped) (sym one), ap (λ (x : Target). x.finished) (sym one))
fresh_get (a ∷ as_) (suc place) t at = fresh_get as_ place t at

same_receivers : (as_ : List ℤ) → receivers_of (map fresh_target as_) ≡ as_
same_receivers [] = refl
same_receivers (a ∷ as_) = ap (λ bs. a ∷ bs) (same_receivers as_)

no_routed : (route : Route) (count place packet : ℕ) → cut packet (routed route count place []) ≡ []
unfolding routed
no_routed route count place packet = refl

pub fresh_sends : (motion : ℕ) (kind : MotionKind) (packet : ℕ) (receivers : List ℤ) (targets : List Target) (work : Work) (steps : List Step) → Ascends receivers → targets ≡ map fresh_target receivers → work ≡ no_work → IsUnsent motion steps
    → Sends (record { motion = motion; kind = kind; packet = packet; targets = targets; work = work; ending = false; refused = None }) steps []
fresh_sends motion kind packet receivers targets work steps up are idle unsent =
    subst (λ w. Sends (record { motion = motion; kind = kind; packet = packet; targets = targets; work = w; ending = false; refused = None }) steps []) (sym idle)
    (subst (λ ts. Sends (record { motion = motion; kind = kind; packet = packet; targets = ts; work = no_work; ending = false; refused = None }) steps []) (sym are) (record {
      ascend = subst Ascends (sym (same_receivers receivers)) up;
      each = λ place t at.
          let f = fresh_get receivers place t at in
          let u = unsent t.to in
          let none = no_routed (route_by kind) (length (map fresh_target receivers)) place packet in
          record {
            stopped = f.0 ∙ sym u.1;
            finished = f.1 ∙ sym u.2;
            front = subst (λ l. IsPrefix l (cut packet (routed (route_by kind) (length (map fresh_target receivers)) place []))) (sym u.0) (cut packet (routed (route_by kind) (length (map fresh_target receivers)) place []), refl);
            all = λ _. ap (λ l. l ++ left_at place no_work) u.0 ∙ idle_left place no_work refl ∙ sym none;
          };
      open_ = λ _ place t at. (fresh_get receivers place t at).1;
    }))
