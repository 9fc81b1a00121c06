-- Listed numbers that increase.
use Rattle.std.specs.Prelude.{ℕ, List}
use Rattle.ic_law.specs.Numbers.{IsIncreasingFrom}

-- each is greater than the one before it
abbrev pub Rises : List ℕ → Type 0
Rises numbers = (least : ℕ) × IsIncreasingFrom least numbers
