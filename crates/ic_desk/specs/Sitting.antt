-- What one worker's call makes of its node, and of the logs of the others.
use Rattle.std.specs.Prelude.{◌≡◌, ℕ, true, false, List}
use Rattle.ic_base.specs.declared.keys.ConnKey.{ConnKey}
use Rattle.ic_base.specs.declared.keys.ConnEnd.{ConnEnd}
use Rattle.pl_runs.specs.Logs.{sends_by, hears_by, hears_motion, log_of}
use Rattle.ic_port.specs.Noding.{Noding}
use Rattle.ic_port.specs.Calls.{Works}

-- what goes by the ones goes by none of the others
pub record AreApart (own others : List ConnEnd) : Type 0 where
  pub sent : (key : ConnKey) → sends_by own key ≡ true → sends_by others key ≡ false
  pub heard : (key : ConnKey) → hears_by own key ≡ true → hears_by others key ≡ false
  pub taken : (query motion : ℕ) → hears_motion own query motion ≡ true → hears_motion others query motion ≡ false

-- a call of the worker with these ends: at most one entry more, and the log of whoever has ends apart from these stays
pub record Sits (own : List ConnEnd) (a b : Noding) : Type 0 where
  pub works : Works a b
  pub others : (others : List ConnEnd) → AreApart own others → log_of others b.entries ≡ log_of others a.entries
