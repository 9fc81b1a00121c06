-- The calls of a source or sink in memory, some of which are to fail.
use Rattle.std.specs.Prelude.{◌≡◌, ℕ, ◌+◌, ◌<◌, List, length, Any, None, Ok, Err, Result}
use Rattle.ic_edge.specs.Causes.{one_more}
use Rattle.ic_edge.specs.declared.fails.Fail.{Fail}

-- the list says that the object's call with this number, from 1, is to fail
abbrev pub IsListed : ℕ → List Fail → Type 0
IsListed nth fails = Any (λ fail. (fail.worker ≡ None) × (fail.nth ≡ nth)) fails

-- the calls that are to fail, how many came, and how many failed
pub record Calls : Type 0 where
  pub fails : List Fail
  pub came : ℕ
  pub failed : ℕ

-- before the first call
abbrev pub no_calls : List Fail → Calls
no_calls fails = record { fails = fails; came = 0; failed = 0 }

-- a call that was counted has failed
abbrev pub one_failed : Calls → Calls
one_failed c = record c { failed = one_more c.failed }

-- one more call came, and failed if its answer is an error
abbrev pub after_call : {T E : Type 0} → Result T E → Calls → Calls
after_call (Ok _) c = record c { came = one_more c.came }
after_call (Err _) c = record c { came = one_more c.came; failed = one_more c.failed }

-- the next call is to fail
abbrev pub IsNextListed : Calls → Type 0
IsNextListed c = IsListed (one_more c.came) c.fails

-- a source in memory: the bytes that are left, and its calls
pub record Reading : Type 0 where
  pub left : List ℕ
  pub calls : Calls

-- a sink in memory: the bytes that it took, the bytes that it has room for, and its calls
pub record Writing : Type 0 where
  pub wrote : List ℕ
  pub room : ℕ
  pub calls : Calls

-- the piece is longer than the room that is left
abbrev pub HasNoRoom : Writing → List ℕ → Type 0
HasNoRoom s piece = s.room < length s.wrote + length piece
