-- Worked runs that are unlawful, each for one reason.
use Rattle.std.specs.Prelude.{pos, false, [], ◌∷◌, None}
use Rattle.ic_base.specs.declared.port.PortNo.TheVariants.{Stopped}
use Rattle.ic_base.specs.declared.port.PortAsk.TheVariants.{Take, TakeFrom}
use Rattle.pl_tree.specs.Trees.{Tree, Scan, Join, Gather, Redistribute, Broadcast}
use Rattle.pl_runs.specs.Slices.{Worker}
use Rattle.pl_runs.specs.Runs.{Course, SliceRun}
use Rattle.pl_runs.specs.Worked.{int, letter, one, two, t, dispatcher, worker, finally, so_far, put, put_refused, finish, finish_stopped, take, take_from, nothing_yet, halt}
use Rattle.pl_runs.specs.Lawful.{eight, limited, lettered, merging, pairs, joining, match}

-- it is no run of the worker's slice
abbrev pub IsNoRun : Worker → Course → Type 0
IsNoRun w c = SliceRun w c → ⊥

-- ---- ends

-- done at once, at a segment and at the root
abbrev pub DoneAtOnce : Type 0
DoneAtOnce = IsNoRun (worker eight (limited 2) 1 (pos 0)) (finally [] []) × IsNoRun (worker eight (limited 2) 0 dispatcher) (finally [] [])

-- a limit is satisfied and no sender was halted, or one takes on
abbrev pub LimitGoesOn : Type 0
LimitGoesOn =
    IsNoRun (worker eight (limited 2) 0 dispatcher) (finally (take 1 (pos 0) (one 0 ∷ one 2 ∷ []) false ∷ []) (one 0 ∷ one 2 ∷ []))
    × IsNoRun (worker eight (limited 2) 0 dispatcher) (so_far (take 1 (pos 0) (one 0 ∷ one 2 ∷ []) false ∷ nothing_yet (Take 1) ∷ []) (one 0 ∷ one 2 ∷ []))
    × IsNoRun (worker eight (limited 2) 0 dispatcher) (so_far (take 1 (pos 0) (one 0 ∷ one 2 ∷ one 4 ∷ []) false ∷ []) (one 0 ∷ one 2 ∷ one 4 ∷ []))

-- a halt while rows are wanted
abbrev pub HaltsEarly : Type 0
HaltsEarly = IsNoRun (worker eight (limited 2) 0 dispatcher) (so_far (take 1 (pos 0) (one 0 ∷ []) false ∷ halt 1 (pos 1) ∷ []) (one 0 ∷ []))

-- a sender is halted twice; a receiver that stopped is sent to again
abbrev pub AsksAgain : Type 0
AsksAgain =
    IsNoRun (worker eight (limited 0) 0 dispatcher) (so_far (halt 1 (pos 0) ∷ halt 1 (pos 0) ∷ []) [])
    × IsNoRun (worker eight (limited 2) 1 (pos 0)) (so_far (put_refused 1 dispatcher (one 0) Stopped ∷ finish_stopped 1 dispatcher ∷ []) [])

-- ---- sending

-- one row twice to one receiver; a row that isn't the next
abbrev pub PutsOtherRows : Type 0
PutsOtherRows =
    IsNoRun (worker eight (limited 2) 1 (pos 0)) (so_far (put 1 dispatcher (one 0) ∷ put 1 dispatcher (one 0) ∷ []) [])
    × IsNoRun (worker eight (limited 2) 1 (pos 0)) (so_far (put 1 dispatcher (one 2) ∷ []) [])

-- finished before all was put; something put after the end
abbrev pub FinishesEarly : Type 0
FinishesEarly =
    IsNoRun (worker eight (limited 2) 1 (pos 0)) (so_far (put 1 dispatcher (one 0) ∷ finish 1 dispatcher ∷ []) [])
    × IsNoRun (worker eight (limited 2) 1 (pos 0)) (so_far (put 1 dispatcher (one 0) ∷ put 1 dispatcher (one 2) ∷ put 1 dispatcher (one 4) ∷ put 1 dispatcher (one 6) ∷ finish 1 dispatcher ∷ finish 1 dispatcher ∷ []) [])

abbrev pub spread : Tree
spread = Gather None (Join [] (Scan t) (Broadcast (Scan t)))

-- a broadcast leaves a row out for all receivers, since the first of them stopped
abbrev pub LeavesOut : Type 0
LeavesOut = IsNoRun (worker eight spread 2 (pos 0)) (so_far (put_refused 2 (pos 0) (one 0) Stopped ∷ put 2 (pos 1) (one 2) ∷ []) [])

abbrev pub gathered_by_hash : Tree
gathered_by_hash = Redistribute (0 ∷ []) (Scan t)

-- rows are hashed over all segments, not over the gang that receives: the dispatcher gets none; nor does segment 1 a row of 0
abbrev pub RoutesByGang : Type 0
RoutesByGang =
    IsNoRun (worker eight gathered_by_hash 1 (pos 0)) (so_far (put 1 dispatcher (one 0) ∷ []) [])
    × IsNoRun (worker pairs joining 2 (pos 0)) (so_far (put 2 (pos 0) (two (int 1) (letter 112)) ∷ []) [])

-- ---- taking

-- an ordered gather lets out the least row that it knows while the head of segment 1 isn't known
abbrev pub GivesOnEmpty : Type 0
GivesOnEmpty =
    IsNoRun (worker lettered merging 0 dispatcher) (so_far (take_from 1 (pos 0) (two (int 1) (letter 122) ∷ []) false ∷ nothing_yet (TakeFrom 1 (pos 1)) ∷ []) (two (int 1) (letter 122) ∷ []))

-- it takes from a sender whose head it knows, or from any
abbrev pub TakesUnwanted : Type 0
TakesUnwanted =
    IsNoRun (worker lettered merging 0 dispatcher) (so_far (take_from 1 (pos 0) (two (int 1) (letter 122) ∷ []) false ∷ nothing_yet (TakeFrom 1 (pos 0)) ∷ []) [])
    × IsNoRun (worker lettered merging 0 dispatcher) (so_far (nothing_yet (Take 1) ∷ []) [])

-- a take while a match of the rows taken so far isn't put
abbrev pub TakesEarly : Type 0
TakesEarly =
    IsNoRun (worker pairs joining 1 (pos 1)) (so_far (
    take 2 (pos 0) (two (int 1) (letter 112) ∷ []) false ∷ put 1 dispatcher (match 112 100) ∷ nothing_yet (Take 2) ∷ []
    ) [])
