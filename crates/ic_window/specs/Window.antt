-- How many packets one sender may have in flight, in 1/256 packet.
use Rattle.std.specs.Prelude.{ℕ, zero, suc, ◌+◌, ◌-◌, ◌*◌, ◌/◌, min, max, nat_lt, if◌then◌else◌}

-- a step repeated this many times
unfoldable pub times : ℕ → (ℕ → ℕ) → ℕ → ℕ
times zero step n = n
times (suc k) step n = times k step (step n)

-- the greatest window: the receive depth
abbrev pub widest : ℕ → ℕ
widest depth = 256 * depth

-- One packet was freed. Below the threshold (slow start) the window grows by one packet. From there on (congestion
-- avoidance) it grows by one packet for each window of packets freed.
abbrev pub wider : (depth threshold window : ℕ) → ℕ
wider depth threshold window = min (widest depth) (window + (if nat_lt window threshold then 256 else 65536 / window))

-- the threshold after a loss: half the window, but at least one packet
abbrev pub halved : ℕ → ℕ
halved window = max (window / 2) 256

-- how many more packets may be emitted now
abbrev pub room_of : (window in_flight capacity : ℕ) → ℕ
room_of window in_flight capacity = min capacity (window / 256 - in_flight)
