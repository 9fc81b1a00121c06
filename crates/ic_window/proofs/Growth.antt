-- Freed packets add up, and each further try waits longer.
use Rattle.std.proofs.Common.{◌≡◌, ℕ, zero, suc, ◌+◌, ◌*◌, ◌≤◌, refl, ap, ◌∙◌, arith, Option}
use Rattle.ic_base.specs.declared.settings.Flow.{Flow}
use Rattle.ic_base.specs.declared.settings.Flow.TheVariants.{Loss, Capacity}
use Rattle.ic_window.specs.declared.round_trip.RoundTrip.{RoundTrip}
use Rattle.ic_window.specs.Window.{times, widest, wider}
use Rattle.ic_window.specs.Waiting.{time_of}
use Rattle.ic_window.specs.State.{grown}
use Rattle.ic_window.specs.Laws.{GrowthAdds, GrowthKeeps, WaitsRise}
use Rattle.ic_window.proofs.Steps.{wider_greatest}

times_add : (m n : ℕ) (step : ℕ → ℕ) (x : ℕ) → times n step (times m step x) ≡ times (m + n) step x
unfolding times
times_add zero n step x =
    let none : 0 + n ≡ n = omega arith in
    rw none refl
times_add (suc m) n step x =
    let more : suc m + n ≡ suc (m + n) = omega arith in
    rw more (times_add m n step (step x))

adds : (m n depth : ℕ) (flow : Flow) (window threshold : ℕ) (r : Option RoundTrip) → grown n (grown m (record { depth = depth; flow = flow; window = window; threshold = threshold; round_trip = r })) ≡ grown (m + n) (record { depth = depth; flow = flow; window = window; threshold = threshold; round_trip = r })
adds m n depth Loss window threshold r = ap (λ x. record { depth = depth; flow = Loss; window = x; threshold = threshold; round_trip = r }) (times_add m n (wider depth threshold) window)
adds m n depth Capacity window threshold r = refl

pub growth_adds : GrowthAdds
growth_adds m n w = adds m n w.depth w.flow w.window w.threshold w.round_trip

rises : (n depth threshold window : ℕ) → window ≤ widest depth → window ≤ times n (wider depth threshold) window
unfolding times
rises zero depth threshold window le = omega arith
rises (suc n) depth threshold window le =
    let next : window ≤ wider depth threshold window = omega (arith, le) in
    omega (arith, next, rises n depth threshold (wider depth threshold window) (wider_greatest depth threshold window))

keeps : (n depth : ℕ) (flow : Flow) (window threshold : ℕ) (r : Option RoundTrip) → window ≤ widest depth → window ≤ (grown n (record { depth = depth; flow = flow; window = window; threshold = threshold; round_trip = r })).window
keeps n depth Loss window threshold r le = rises n depth threshold window le
keeps n depth Capacity window threshold r le = omega arith

pub growth_keeps : GrowthKeeps
growth_keeps n w h = keeps n w.depth w.flow w.window w.threshold w.round_trip h.greatest

twice_behind : (k n : ℕ) → times (suc k) (λ m. 2 * m) n ≡ 2 * times k (λ m. 2 * m) n
unfolding times
twice_behind zero n = refl
twice_behind (suc k) n = twice_behind k (2 * n)

pub waits_rise : WaitsRise
waits_rise tries r =
    let next : tries + 1 ≡ suc tries = omega arith in
    let twice : times (tries + 1) (λ m. 2 * m) (time_of r) ≡ 2 * times tries (λ m. 2 * m) (time_of r) = ap (λ k. times k (λ m. 2 * m) (time_of r)) next ∙ twice_behind tries (time_of r) in
    (omega (arith, twice), omega (arith, twice))
