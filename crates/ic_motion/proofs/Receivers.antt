-- Receivers at places, as code meets them.
use Rattle.std.proofs.Common.{◌≡◌, ℕ, zero, suc, ◌<◌, ◌≤◌, ◌+◌, length, List, [], ◌∷◌, drop, get_or, set, true, false, ◌&&◌, Some, refl, ap, sym, ◌∙◌, arith}
use Rattle.std.specs.Prelude.{slice_get}
use Rattle.ic_motion.specs.Sending.{Target, is_over, all_over}
use Rattle.ic_motion.specs.Putting.{IsOpen, stop_at, finish_at}
use Rattle.ic_motion.proofs.Places.{drop_all, drop-at}

pub target_there : (targets : List Target) (k : ℕ) (was : Target) → k < length targets → was ≡ get_or targets k was → slice_get targets k ≡ Some was
target_there [] k was lt at = absurd (omega (arith, lt))
target_there (t ∷ targets) zero was lt at = ap Some (sym at)
target_there (t ∷ targets) (suc k) was lt at = target_there targets k was (omega (arith, lt)) at

pub stopped_there : (targets : List Target) (k : ℕ) (was new : Target) → k < length targets → was ≡ get_or targets k was → new ≡ record was { stopped = true } → set targets k new ≡ stop_at k targets
stopped_there [] k was new lt at is = refl
stopped_there (t ∷ targets) zero was new lt at is = ap (λ x. x ∷ targets) (is ∙ ap (λ (x : Target). record x { stopped = true }) at)
stopped_there (t ∷ targets) (suc k) was new lt at is = ap (λ ts. t ∷ ts) (stopped_there targets k was new (omega (arith, lt)) at is)

pub finished_there : (targets : List Target) (k : ℕ) (was new : Target) → k < length targets → was ≡ get_or targets k was → new ≡ record was { finished = true } → set targets k new ≡ finish_at k targets
finished_there [] k was new lt at is = refl
finished_there (t ∷ targets) zero was new lt at is = ap (λ x. x ∷ targets) (is ∙ ap (λ (x : Target). record x { finished = true }) at)
finished_there (t ∷ targets) (suc k) was new lt at is = ap (λ ts. t ∷ ts) (finished_there targets k was new (omega (arith, lt)) at is)

pub over_drop : (targets : List Target) (k : ℕ) → length targets ≤ k → all_over (drop k targets) ≡ true
over_drop targets k le = ap all_over (drop_all targets k le)

pub over_next : (targets : List Target) (k : ℕ) (t : Target) → k < length targets → t ≡ get_or targets k t → is_over t ≡ true → all_over (drop k targets) ≡ all_over (drop (k + 1) targets)
over_next targets k t lt at over = ap all_over (drop-at targets k t lt at) ∙ ap (λ b. b && all_over (drop (k + 1) targets)) over

-- ---- receivers that want more

pub open_there : (targets : List Target) (k : ℕ) (t : Target) → k < length targets → t ≡ get_or targets k t → t.stopped ≡ false → IsOpen targets k
open_there targets k t lt at going = (t, target_there targets k t lt at, going)

pub shut_there : (targets : List Target) (k : ℕ) (t : Target) → k < length targets → t ≡ get_or targets k t → t.stopped ≡ true → IsOpen targets k → ⊥
shut_there targets k t lt at stopped (u, is, going) =
    let e : Some u ≡ Some t = sym is ∙ target_there targets k t lt at in
    let one : u ≡ t = cc in
    let bad : true ≡ false = sym stopped ∙ ap (λ (x : Target). x.stopped) (sym one) ∙ going in
    cc

pub shut_past : (targets : List Target) (k : ℕ) → length targets ≤ k → IsOpen targets k → ⊥
shut_past [] k le (t, is, going) = cc
shut_past (u ∷ targets) zero le w = absurd (omega (arith, le))
shut_past (u ∷ targets) (suc k) le (t, is, going) = shut_past targets k (omega (arith, le)) (t, is, going)
