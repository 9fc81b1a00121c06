-- What a sender keeps of its window and its waiting time, and what each event does to it.
use Rattle.std.specs.Prelude.{◌≡◌, ℕ, ◌≤◌, Option, None, Some, IfSome}
use Rattle.ic_base.specs.declared.settings.Flow.{Flow}
use Rattle.ic_base.specs.declared.settings.Flow.TheVariants.{Loss, Capacity}
use Rattle.ic_window.specs.declared.round_trip.RoundTrip.{RoundTrip}
use Rattle.ic_window.specs.Window.{times, widest, wider, halved}
use Rattle.ic_window.specs.Waiting.{cut, sampled_of}

pub record WindowState : Type 0 where
  -- the receive depth, in packets
  pub depth : ℕ
  pub flow : Flow
  -- in 1/256 packet
  pub window : ℕ
  -- slow start ends here, in 1/256 packet
  pub threshold : ℕ
  -- none before the first sample
  pub round_trip : Option RoundTrip

-- ---- events

-- what the event does with flow loss; with flow capacity the window stays as it was
abbrev pub by_flow : Flow → WindowState → WindowState → WindowState
by_flow Loss moved still = moved
by_flow Capacity moved still = still

abbrev pub fresh_window : ℕ → Flow → ℕ
fresh_window depth Loss = 256
fresh_window depth Capacity = widest depth

-- one packet with flow loss, the whole depth with flow capacity
abbrev pub fresh : ℕ → Flow → WindowState
fresh depth flow = record { depth = depth; flow = flow; window = fresh_window depth flow; threshold = widest depth; round_trip = None }

-- packets were freed
abbrev pub grown : ℕ → WindowState → WindowState
grown packets w = by_flow w.flow (record w { window = times packets (wider w.depth w.threshold) w.window }) w

-- packets were lost
abbrev pub lost : WindowState → WindowState
lost w = by_flow w.flow (record w { window = 256; threshold = halved w.window }) w

-- a packet was answered after this many ticks
abbrev pub sampled : ℕ → WindowState → WindowState
sampled ticks w = record w { round_trip = Some (sampled_of (cut ticks) w.round_trip) }

-- ---- what holds after each event

pub record IsRoundTrip (r : RoundTrip) : Type 0 where
  pub smoothed : r.smoothed ≤ 512
  pub deviation : r.deviation ≤ 256

-- The window is from one packet to the depth. With flow capacity it is the depth.
pub record IsWindow (w : WindowState) : Type 0 where
  pub one : 1 ≤ w.depth
  pub most : w.depth ≤ 256
  pub least : 256 ≤ w.window
  pub greatest : w.window ≤ widest w.depth
  pub least_threshold : 256 ≤ w.threshold
  pub greatest_threshold : w.threshold ≤ widest w.depth
  pub whole : w.flow ≡ Capacity → w.window ≡ widest w.depth
  pub timed : IfSome w.round_trip IsRoundTrip
