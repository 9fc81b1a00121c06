-- What holds of the fields of an aggregate.
use Rattle.std.specs.Prelude.{◌≡◌, ℕ, ◌+◌, ◌<◌, ◌^◌, false, length}
use Rattle.ex_agg.specs.declared.agg.Agg.TheInside.{Inside}

pub record IsSound (g : Inside) : Type 0 where
  -- each column of a partial's rows has a number of 32 bits
  pub narrow : g.first + length g.calls < 2 ^ 32
  -- no row is answered before the input has ended
  pub start : g.ended ≡ false → g.next ≡ 0
