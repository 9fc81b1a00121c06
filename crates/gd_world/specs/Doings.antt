-- What is noted of a step that was done.
use Rattle.std.specs.Prelude.{ℕ, ℤ, Option, Result}
use Rattle.ex_slice.specs.declared.stage.Turned.{Turned}
use Rattle.ex_slice.specs.declared.stage.SliceNo.{SliceNo}
use Rattle.gd_world.specs.declared.step.Step.{Step}
use Rattle.gd_world.specs.declared.step.Step.TheVariants.{Begin, Turn, Deliver, Tick, Leave}

-- what a turn is answered
abbrev pub Answer : Type 0
Answer = Result Turned SliceNo

-- a step, of a turn its answer, and the place in its node's history of the entry that it added, if it added one
pub record Doing : Type 0 where
  pub step : Step
  pub turned : Option Answer
  pub entry : Option ℕ

-- the segment at which a step is done
abbrev pub at_of : Step → ℤ
at_of (Begin at) = at
at_of (Turn slice at) = at
at_of (Deliver number to) = to
at_of (Tick at) = at
at_of (Leave at) = at
