-- What desks serve, and what adds to a worker's log.
use Rattle.std.specs.Prelude.{◌≡◌, ℕ, List, [], ◌∷◌, ◌++◌}
use Rattle.std.specs.List.{AllByRecursion}
use Rattle.ic_base.specs.declared.keys.ConnEnd.{ConnEnd}
use Rattle.ic_law.specs.declared.history.HubAsk.{HubAsk}
use Rattle.ic_law.specs.declared.history.HubAsk.TheVariants.{Begin, Put, Finish, Take, TakeFrom, Halt, Arrive, Tick, Clear, Leave}
use Rattle.ic_law.specs.declared.history.Entry.{Entry}
use Rattle.ic_law.specs.Logs.{log_of as log_of_query}
use Rattle.pl_plan.specs.Ends.{ends_in}
use Rattle.pl_runs.specs.Slices.{Worker}
use Rattle.pl_runs.specs.Logs.{ends_of, log_of}
use Rattle.ic_desk.specs.Own.{own_ends}

-- at a node with the ends of a plan a desk serves the ends of the slice's worker
abbrev pub OwnAreThePlans : Type 0
OwnAreThePlans = (w : Worker) (session query : ℕ) → own_ends (ends_in w.site.schemas w.site.segments w.tree session query w.at) w.slice ≡ ends_of w session query

-- a worker's ends are of its query
abbrev pub AreOf : ℕ → List ConnEnd → Type 0
AreOf query ends = AllByRecursion (λ (e : ConnEnd). e.key.query ≡ query) ends

-- while no call was made for a query, none of its workers has a log
abbrev pub NoneHasALog : Type 0
NoneHasALog = (query : ℕ) (ends : List ConnEnd) (h : List Entry) → AreOf query ends → log_of_query query h ≡ [] → log_of ends h ≡ []

-- no worker made the call
abbrev pub IsDrivers : HubAsk → Type 0
IsDrivers (Begin q ends) = Unit {0}
IsDrivers (Put key chunk) = ⊥
IsDrivers (Finish key) = ⊥
IsDrivers (Take q motion) = ⊥
IsDrivers (TakeFrom key) = ⊥
IsDrivers (Halt key) = ⊥
IsDrivers (Arrive d) = Unit {0}
IsDrivers Tick = Unit {0}
IsDrivers (Clear q) = Unit {0}
IsDrivers (Leave q) = Unit {0}

-- a call of the node's driver adds to no worker's log
abbrev pub DriversLogNone : Type 0
DriversLogNone = (ends : List ConnEnd) (h : List Entry) (e : Entry) → IsDrivers e.ask → log_of ends (h ++ e ∷ []) ≡ log_of ends h
