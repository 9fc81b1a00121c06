-- Laws of windows and waiting times.
use Rattle.std.specs.Prelude.{◌≡◌, ℕ, ◌+◌, ◌*◌, ◌≤◌, Option}
use Rattle.ic_window.specs.declared.round_trip.RoundTrip.{RoundTrip}
use Rattle.ic_window.specs.Waiting.{wait_of}
use Rattle.ic_window.specs.State.{WindowState, IsWindow, grown}

-- freeing packets one after another gives the same window as freeing them together
abbrev pub GrowthAdds : Type 0
GrowthAdds = (m n : ℕ) (w : WindowState) → grown n (grown m w) ≡ grown (m + n) w

-- freeing packets never makes a window smaller
abbrev pub GrowthKeeps : Type 0
GrowthKeeps = (n : ℕ) (w : WindowState) → IsWindow w → w.window ≤ (grown n w).window

-- each further try waits at least as long as the one before, and at most twice as long
abbrev pub WaitsRise : Type 0
WaitsRise = (tries : ℕ) (r : Option RoundTrip) → (wait_of tries r ≤ wait_of (tries + 1) r) × (wait_of (tries + 1) r ≤ 2 * wait_of tries r)
