-- How long one sender waits for an answer, in ticks.
use Rattle.std.specs.Prelude.{ℕ, ◌+◌, ◌-◌, ◌*◌, ◌/◌, min, max, Option, None, Some}
use Rattle.ic_window.specs.declared.round_trip.RoundTrip.{RoundTrip}
use Rattle.ic_window.specs.Window.{times}

-- the difference of two numbers, whichever is greater
abbrev pub apart : ℕ → ℕ → ℕ
apart a b = (a - b) + (b - a)

-- a sample counts as at most 64 ticks
abbrev pub cut : ℕ → ℕ
cut ticks = min ticks 64

-- the estimates after the first sample: the sample itself, and half of it as the mean deviation
abbrev pub first_of : ℕ → RoundTrip
first_of t = record { smoothed = 8 * t; deviation = 2 * t }

-- The estimates after a later sample. The error is the sample less the smoothed time, in whole ticks. An eighth of the
-- error is added to the smoothed time. The deviation moves a quarter of the way to the error's size.
abbrev pub later_of : ℕ → RoundTrip → RoundTrip
later_of t r =
    record {
      smoothed = (r.smoothed + t) - r.smoothed / 8;
      deviation = (r.deviation + apart t (r.smoothed / 8)) - r.deviation / 4;
    }

abbrev pub sampled_of : ℕ → Option RoundTrip → RoundTrip
sampled_of t None = first_of t
sampled_of t (Some r) = later_of t r

-- how long to wait: the smoothed time and four deviations, kept within 2..=64 ticks; 4 ticks before a sample
abbrev pub time_of : Option RoundTrip → ℕ
time_of None = 4
time_of (Some r) = max 2 (min 64 (r.smoothed / 8 + r.deviation))

-- the time, doubled this many times, but at most 64 ticks
abbrev pub wait_of : ℕ → Option RoundTrip → ℕ
wait_of tries r = min 64 (times tries (λ n. 2 * n) (time_of r))
