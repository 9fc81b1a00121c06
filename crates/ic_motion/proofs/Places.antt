-- Lanes and receivers at places, as code meets them.
use Rattle.std.proofs.Common.{◌≡◌, ℕ, zero, suc, ◌<◌, ◌≤◌, ◌+◌, length, ℤ, List, [], ◌∷◌, drop, get_or, set, Bool, true, false, ◌&&◌, cond, Some, None, Result, Ok, Err, IfOk, refl, ap, sym, ◌∙◌, subst, arith}
use Rattle.std.specs.List.{Contains}
use Rattle.std.specs.Prelude.{slice_get}
use Rattle.std.specs.Ordering.{int_eq}
use Rattle.ic_base.specs.declared.datagram.Parcel.{Parcel}
use Rattle.ic_base.specs.declared.port.PortNo.{PortNo}
use Rattle.ic_chunk.specs.Joining.{Held}
use Rattle.pl_ops.specs.Rows.{Line}
use Rattle.ic_motion.specs.Hearing.{Lane, fresh_lane, senders_of, streams_of}
use Rattle.ic_motion.specs.Picking.{first_in, first_at, without_first, pop_at}
use Rattle.ic_motion.specs.Feeding.{place_of}
use Rattle.ic_motion.specs.Halting.{is_heard, all_heard, halt_at}
use Rattle.ic_motion.proofs.Lists.{int_same, int_differ}

-- ---- lanes

pub new_lane : (a : ℤ) (h : Held) (rows : List Line) → h ≡ record { rest = []; ended = false } → rows ≡ [] → record { sender = a; stream = h; rows = rows; over = false; halted = false } ≡ fresh_lane a
new_lane a h rows held none =
    let lane : Held → List Line → Lane = λ x r. record { sender = a; stream = x; rows = r; over = false; halted = false } in
    ap (λ x. lane x rows) held ∙ ap (lane (record { rest = []; ended = false })) none

pub lane_there : (lanes : List Lane) (k : ℕ) (was : Lane) → k < length lanes → was ≡ get_or lanes k was → slice_get lanes k ≡ Some was
lane_there [] k was lt at = absurd (omega (arith, lt))
lane_there (l ∷ lanes) zero was lt at = ap Some (sym at)
lane_there (l ∷ lanes) (suc k) was lt at = lane_there lanes k was (omega (arith, lt)) at

pub first_there : (lanes : List Lane) (k : ℕ) (was : Lane) → slice_get lanes k ≡ Some was → first_at k (streams_of lanes) ≡ first_in was.rows
first_there [] k was at = cc
first_there (l ∷ lanes) zero was at = let one : l ≡ was = cc in ap (λ (x : Lane). first_in x.rows) one
first_there (l ∷ lanes) (suc k) was at = first_there lanes k was at

pub first_none : (lanes : List Lane) (k : ℕ) → slice_get lanes k ≡ None → first_at k (streams_of lanes) ≡ None
first_none [] k at = refl
first_none (l ∷ lanes) zero at = cc
first_none (l ∷ lanes) (suc k) at = first_none lanes k at

pub popped : (lanes : List Lane) (k : ℕ) (was new : Lane) → slice_get lanes k ≡ Some was → new ≡ record was { rows = without_first was.rows } → set lanes k new ≡ pop_at k lanes
popped [] k was new at is = refl
popped (l ∷ lanes) zero was new at is = let one : was ≡ l = cc in ap (λ x. x ∷ lanes) (is ∙ ap (λ (x : Lane). record x { rows = without_first x.rows }) one)
popped (l ∷ lanes) (suc k) was new at is = ap (λ ls. l ∷ ls) (popped lanes k was new at is)

pub contains_at : (lanes : List Lane) (k : ℕ) (was : Lane) → k < length lanes → was ≡ get_or lanes k was → Contains (senders_of lanes) was.sender
contains_at [] k was lt at = absurd (omega (arith, lt))
contains_at (l ∷ lanes) zero was lt at = (0, omega arith, ap (λ (x : Lane). x.sender) (sym at))
contains_at (l ∷ lanes) (suc k) was lt at = let w = contains_at lanes k was (omega (arith, lt)) at in (suc w.0, omega (arith, w.1), w.2)

got_there : (lanes : List Lane) (k : ℕ) (l : Lane) → slice_get lanes k ≡ Some l → (k < length lanes) × (l ≡ get_or lanes k l)
got_there [] k l at = cc
got_there (x ∷ lanes) zero l at = let one : x ≡ l = cc in (omega arith, sym one)
got_there (x ∷ lanes) (suc k) l at = let r = got_there lanes k l at in (omega (arith, r.0), r.1)

pub contains_got : (lanes : List Lane) (k : ℕ) (l : Lane) → slice_get lanes k ≡ Some l → Contains (senders_of lanes) l.sender
contains_got lanes k l at = let r = got_there lanes k l at in contains_at lanes k l r.0 r.1

pub among_from : (r : Result Parcel PortNo) (as_ : List ℤ) (a : ℤ) → Contains as_ a → IfOk r (λ p. p.from ≡ a) → IfOk r (λ p. Contains as_ p.from)
among_from (Ok p) as_ a among is = subst (Contains as_) (sym is) among
among_from (Err no_) as_ a among is = tt

-- ---- the place of a sender

pub drop-at : {X : Type 0} (xs : List X) (k : ℕ) (x : X) → k < length xs → x ≡ get_or xs k x → drop k xs ≡ x ∷ drop (k + 1) xs
drop-at [] k x lt at = absurd (omega (arith, lt))
drop-at (y ∷ xs) zero x lt at = ap (λ z. z ∷ xs) (sym at) ∙ ap (λ n. x ∷ drop n (y ∷ xs)) (one 0)
  where
    one : (n : ℕ) → suc n ≡ n + 1
    one n = omega arith
drop-at (y ∷ xs) (suc k) x lt at = drop-at xs k x (omega (arith, lt)) at ∙ ap (λ n. x ∷ drop n (y ∷ xs)) (more k)
  where
    more : (n : ℕ) → suc (n + 1) ≡ suc n + 1
    more n = omega arith

pub place_here : (lanes : List Lane) (a : ℤ) (k : ℕ) (l : Lane) → k < length lanes → l ≡ get_or lanes k l → l.sender ≡ a → place_of lanes a ≡ k + place_of (drop k lanes) a → place_of lanes a ≡ k
place_here lanes a k l lt at is e =
    let here : place_of (drop k lanes) a ≡ zero = ap (λ ls. place_of ls a) (drop-at lanes k l lt at) ∙ ap (λ b. cond b zero (suc (place_of (drop (k + 1) lanes) a))) (int_same l.sender a is) in
    omega (arith, e, here)

pub place_next : (lanes : List Lane) (a : ℤ) (k : ℕ) (l : Lane) → k < length lanes → l ≡ get_or lanes k l → (l.sender ≡ a → ⊥) → place_of lanes a ≡ k + place_of (drop k lanes) a → place_of lanes a ≡ (k + 1) + place_of (drop (k + 1) lanes) a
place_next lanes a k l lt at ne e =
    let here : place_of (drop k lanes) a ≡ suc (place_of (drop (k + 1) lanes) a) = ap (λ ls. place_of ls a) (drop-at lanes k l lt at) ∙ ap (λ b. cond b zero (suc (place_of (drop (k + 1) lanes) a))) (int_differ l.sender a ne) in
    omega (arith, e, here)

pub drop_all : {X : Type 0} (xs : List X) (k : ℕ) → length xs ≤ k → drop k xs ≡ []
drop_all [] zero le = refl
drop_all [] (suc k) le = refl
drop_all (x ∷ xs) zero le = absurd (omega (arith, le))
drop_all (x ∷ xs) (suc k) le = drop_all xs k (omega (arith, le))

pub place_end : (lanes : List Lane) (a : ℤ) (k : ℕ) → length lanes ≤ k → place_of lanes a ≡ k + place_of (drop k lanes) a → place_of lanes a ≡ k
place_end lanes a k le e = let none = ap (λ ls. place_of ls a) (drop_all lanes k le) in omega (arith, e, none)

pub place_among : (lanes : List Lane) (a : ℤ) → Contains (senders_of lanes) a → place_of lanes a < length lanes
place_among [] a (k, lt, is) = absurd (omega (arith, lt))
place_among (l ∷ lanes) a (zero, lt, is) = subst (λ n. n < suc (length lanes)) (sym (ap (λ b. cond b zero (suc (place_of lanes a))) (int_same l.sender a is))) (omega arith)
place_among (l ∷ lanes) a (suc k, lt, is) = by (int_eq l.sender a) (place_among lanes a (k, omega (arith, lt), is))
  where
    by : (b : Bool) → place_of lanes a < length lanes → cond b zero (suc (place_of lanes a)) < suc (length lanes)
    by true w = omega arith
    by false w = omega (arith, w)

-- ---- halts

pub heard_drop : (lanes : List Lane) (k : ℕ) → length lanes ≤ k → all_heard (drop k lanes) ≡ true
heard_drop lanes k le = ap all_heard (drop_all lanes k le)

pub heard_next : (lanes : List Lane) (k : ℕ) (l : Lane) → k < length lanes → l ≡ get_or lanes k l → is_heard l ≡ true → all_heard (drop k lanes) ≡ all_heard (drop (k + 1) lanes)
heard_next lanes k l lt at heard = ap all_heard (drop-at lanes k l lt at) ∙ ap (λ b. b && all_heard (drop (k + 1) lanes)) heard

pub halted_there : (lanes : List Lane) (k : ℕ) (was new : Lane) → k < length lanes → was ≡ get_or lanes k was → new ≡ record was { halted = true } → set lanes k new ≡ halt_at k lanes
halted_there [] k was new lt at is = refl
halted_there (l ∷ lanes) zero was new lt at is = ap (λ x. x ∷ lanes) (is ∙ ap (λ (x : Lane). record x { halted = true }) at)
halted_there (l ∷ lanes) (suc k) was new lt at is = ap (λ ls. l ∷ ls) (halted_there lanes k was new (omega (arith, lt)) at is)
