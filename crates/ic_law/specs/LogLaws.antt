-- Laws of logs, for every history.
use Rattle.std.specs.Prelude.{◌≡◌, ◌≢◌, ℕ, ◌<◌, List, [], ◌++◌}
use Rattle.std.specs.List.{AllByRecursion}
use Rattle.ic_law.specs.declared.history.Entry.{Entry}
use Rattle.ic_law.specs.Logs.{log_of, IsOf, IsUpto}

-- entries added to a history add their own log
abbrev pub LogGrows : Type 0
LogGrows = (query : ℕ) (h more : List Entry) → log_of query (h ++ more) ≡ log_of query h ++ log_of query more

-- if all calls of workers are for earlier queries, a query has no log
abbrev pub NoneYet : Type 0
NoneYet = (last query : ℕ) (h : List Entry) → AllByRecursion (λ e. IsUpto last e.ask) h → last < query → log_of query h ≡ []

-- calls of another query's worker add nothing to a query's log
abbrev pub OthersPass : Type 0
OthersPass = (other query : ℕ) (h more : List Entry) → AllByRecursion (λ e. IsOf other e.ask) more → other ≢ query → log_of query (h ++ more) ≡ log_of query h
