-- What a call to the outside says of its faults.
use Rattle.std.specs.Prelude.{ℕ, ◌+◌, ◌-◌, ◌^◌, ◌<◌, ◌≤◌, min, List, length, take, Result, OnErr}
use Rattle.std.specs.declared.option.Option.{Option}
use Rattle.std.specs.Io.KnownBytes.{Appends, Consumes}

-- one more, up to the greatest u64
abbrev pub one_more : ℕ → ℕ
one_more n = min (n + 1) (2 ^ 64 - 1)

-- the count rose by at least one, or is the greatest u64
abbrev pub Rose : ℕ → ℕ → Type 0
Rose before now = one_more before ≤ now

-- the count never falls, and if there is an error, it rose
pub record HasCause {T E : Type 0} (before now : ℕ) (result : Result T E) : Type 0 where
  pub later : before ≤ now
  pub failed : OnErr result (Rose before now)

-- some bytes from the front of the piece were taken, but not all
abbrev pub TakesAFront : Option (List ℕ) → Option (List ℕ) → List ℕ → Type 0
TakesAFront old new piece = (n : ℕ) × (n < length piece) × Appends old new (take n piece)

-- bytes from the front of those that were left are gone, perhaps none, and no others
abbrev pub LosesAFront : Option (List ℕ) → Option (List ℕ) → Type 0
LosesAFront old new = (front : List ℕ) × Consumes old new front
