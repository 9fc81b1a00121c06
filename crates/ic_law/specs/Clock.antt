-- The ticks of a history.
use Rattle.std.specs.Prelude.{ℕ, List, [], ◌∷◌, Ok, Err, ◌+◌, min}
use Rattle.ic_law.specs.declared.history.HubReply.{HubReply}
use Rattle.ic_law.specs.declared.history.HubReply.TheVariants.{Begun, Gave, Took, Came, Ticked, Cleared, Left, Memory}
use Rattle.ic_law.specs.declared.history.Entry.{Entry}

abbrev pub ticks_by : HubReply → ℕ
ticks_by (Begun r) = 0
ticks_by (Gave r) = 0
ticks_by (Took r) = 0
ticks_by (Came how ds) = 0
ticks_by (Ticked (Ok ds)) = 1
ticks_by (Ticked (Err refusal)) = 0
ticks_by (Cleared r) = 0
ticks_by (Left r) = 0
ticks_by Memory = 0

abbrev pub ticks_of : List Entry → ℕ
ticks_of [] = 0
ticks_of (e ∷ es) = ticks_by e.reply + ticks_of es

-- the greatest value of the clock, at which it stays
unfoldable pub last_tick : ℕ
last_tick = 18446744073709551488

-- how many ticks weren't refused, up to the greatest value
abbrev pub clock_of : List Entry → ℕ
clock_of h = min last_tick (ticks_of h)

-- the clock after the next tick
abbrev pub next_clock : List Entry → ℕ
next_clock before = min last_tick (ticks_of before + 1)
