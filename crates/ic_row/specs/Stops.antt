-- A reader's answer compared with what reading gives.
use Rattle.std.specs.Prelude.{◌≡◌, ℕ, Result, Ok, Err}
use Rattle.ic_row.specs.declared.stop.Stop.{Stop}
use Rattle.ic_row.specs.declared.stop.Stop.TheVariants.{Left, NoMemory}

-- it stopped at the byte at which reading stops, unless memory ran out
abbrev pub Fails : {Y : Type 0} → Stop → Result Y ℕ → Type 0
Fails NoMemory read = Unit {0}
Fails (Left left) read = read ≡ Err left

-- its answer, seen through view, is what reading gives, unless memory ran out
abbrev pub Gives : {X Y : Type 0} → (X → Y) → Result X Stop → Result Y ℕ → Type 0
Gives view (Ok x) read = read ≡ Ok (view x)
Gives view (Err e) read = Fails e read
