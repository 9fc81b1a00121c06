-- The workers of two slices at one node have no connection end in common.
use Rattle.std.specs.Prelude.{◌≡◌, ℕ, true, false}
use Rattle.ic_base.specs.declared.keys.ConnKey.{ConnKey}
use Rattle.pl_runs.specs.Slices.{Worker}
use Rattle.pl_runs.specs.Logs.{ends_of, sends_by, hears_by, hears_motion}

-- the worker of this slice at the same node
abbrev pub of_slice : Worker → ℕ → Worker
of_slice w slice = record w { slice = slice }

-- what goes by the ends of one goes by no end of the other: no put or finish, no halt or take from one sender, no take of a motion
pub record ShareNothing (w : Worker) (slice session query : ℕ) : Type 0 where
  pub sent : (key : ConnKey) → sends_by (ends_of w session query) key ≡ true → sends_by (ends_of (of_slice w slice) session query) key ≡ false
  pub heard : (key : ConnKey) → hears_by (ends_of w session query) key ≡ true → hears_by (ends_of (of_slice w slice) session query) key ≡ false
  pub taken : (asked motion : ℕ) → hears_motion (ends_of w session query) asked motion ≡ true → hears_motion (ends_of (of_slice w slice) session query) asked motion ≡ false

abbrev pub SlicesAreApart : Type 0
SlicesAreApart = (w : Worker) (slice session query : ℕ) → (w.slice ≡ slice → ⊥) → ShareNothing w slice session query
