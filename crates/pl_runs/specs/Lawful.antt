-- Worked runs that are lawful: a limit, a limit of none, an ordered gather, a join over a redistribute.
use Rattle.std.specs.Prelude.{ℕ, pos, true, false, List, [], ◌∷◌, Some, None}
use Rattle.ic_base.specs.declared.port.PortNo.TheVariants.{Full}
use Rattle.ic_base.specs.declared.port.PortAsk.TheVariants.{Take, TakeFrom}
use Rattle.ic_row.specs.declared.value.Kind.TheVariants as kind
use Rattle.ic_row.specs.declared.value.Value.TheVariants.{Null}
use Rattle.pl_tree.specs.declared.schema.Schema.{Schema}
use Rattle.pl_tree.specs.declared.schema.Placing.TheVariants.{Dealt, Keyed}
use Rattle.pl_tree.specs.Trees.{Tree, Scan, Limit, Sort, Join, Gather, Redistribute}
use Rattle.pl_ops.specs.declared.loaded.Spread.TheVariants.{Apart}
use Rattle.pl_ops.specs.Rows.{Line}
use Rattle.pl_mean.specs.Parts.{Site}
use Rattle.pl_runs.specs.Runs.{SliceRun}
use Rattle.pl_runs.specs.Worked.{int, letter, one, two, t, ints, site_with, by_first, dispatcher, worker, finally, put, put_refused, finish, finish_stopped, take, take_from, nothing_yet, halt}

-- ---- a limit over a gather

abbrev pub eight : Site
eight = site_with ints (one 0 ∷ one 2 ∷ one 4 ∷ one 6 ∷ []) (one 1 ∷ one 3 ∷ one 5 ∷ one 7 ∷ [])

abbrev pub limited : ℕ → Tree
limited n = Limit n (Gather None (Scan t))

-- The root took a parcel of three rows, and let out two. It halts both senders, of which segment 1 wasn't heard at all. Segment
-- 0 had put all its rows; it learns of the halt as it finishes.
abbrev pub LimitRuns : Type 0
LimitRuns =
    SliceRun (worker eight (limited 2) 0 dispatcher) (finally (nothing_yet (Take 1) ∷ take 1 (pos 0) (one 0 ∷ one 2 ∷ one 4 ∷ []) false ∷ halt 1 (pos 0) ∷ halt 1 (pos 1) ∷ []) (one 0 ∷ one 2 ∷ []))
    × SliceRun (worker eight (limited 2) 1 (pos 0)) (finally (put 1 dispatcher (one 0) ∷ put 1 dispatcher (one 2) ∷ put 1 dispatcher (one 4) ∷ put_refused 1 dispatcher (one 6) Full ∷ put 1 dispatcher (one 6) ∷ finish_stopped 1 dispatcher ∷ []) [])

-- a limit of none is satisfied before anything was taken
abbrev pub EmptyLimitRuns : Type 0
EmptyLimitRuns = SliceRun (worker eight (limited 0) 0 dispatcher) (finally (halt 1 (pos 0) ∷ halt 1 (pos 1) ∷ []) [])

-- ---- an ordered gather over sorts

abbrev pub texts : Schema
texts = record { name = t; kinds = kind.Int ∷ kind.Chars ∷ []; place = Dealt }

abbrev pub lettered : Site
lettered = site_with texts (two (int 2) (letter 120) ∷ two (int 1) (letter 122) ∷ []) (two Null (letter 121) ∷ two (int 2) (letter 119) ∷ [])

abbrev pub merging : Tree
merging = Gather (Some by_first) (Sort by_first (Scan t))

-- the root takes from the least sender whose head it doesn't know; each segment puts its rows in order
abbrev pub MergeRuns : Type 0
MergeRuns =
    SliceRun (worker lettered merging 0 dispatcher) (finally (
    nothing_yet (TakeFrom 1 (pos 0)) ∷ take_from 1 (pos 0) (two (int 1) (letter 122) ∷ two (int 2) (letter 120) ∷ []) true
    ∷ take_from 1 (pos 1) (two (int 2) (letter 119) ∷ []) false ∷ take_from 1 (pos 1) (two Null (letter 121) ∷ []) true ∷ []
    ) (two (int 1) (letter 122) ∷ two (int 2) (letter 120) ∷ two (int 2) (letter 119) ∷ two Null (letter 121) ∷ []))
    × SliceRun (worker lettered merging 1 (pos 0)) (finally (put 1 dispatcher (two (int 1) (letter 122)) ∷ put 1 dispatcher (two (int 2) (letter 120)) ∷ finish 1 dispatcher ∷ []) [])

-- ---- a join over a redistribute

abbrev pub l : List ℕ
l = 108 ∷ []

abbrev pub r : List ℕ
r = 114 ∷ []

abbrev pub pairs : Site
pairs = record {
  schemas = record { name = l; kinds = kind.Int ∷ kind.Chars ∷ []; place = Dealt } ∷ record { name = r; kinds = kind.Int ∷ kind.Int ∷ []; place = Keyed (0 ∷ []) } ∷ [];
  tables =
      Apart ((two (int 1) (letter 112) ∷ two (int 1) (letter 114) ∷ []) ∷ (two Null (letter 113) ∷ two (int 2) (letter 115) ∷ []) ∷ [])
      ∷ Apart ([] ∷ (two (int 1) (int 100) ∷ two (int 1) (int 101) ∷ two Null (int 102) ∷ two (int 3) (int 103) ∷ []) ∷ []) ∷ [];
  segments = 2;
}

abbrev pub joining : Tree
joining = Gather None (Join (record { left = 0; right = 0 } ∷ []) (Redistribute (0 ∷ []) (Scan l)) (Scan r))

abbrev pub match : ℕ → ℕ → Line
match code n = int 1 ∷ letter code ∷ int 1 ∷ int n ∷ []

-- segment 0 has no row for itself, and finishes both connections; segment 1 takes its rows, and puts all matches of those that
-- it took before it takes on
abbrev pub JoinRuns : Type 0
JoinRuns =
    SliceRun (worker pairs joining 2 (pos 0)) (finally (put 2 (pos 1) (two (int 1) (letter 112)) ∷ put 2 (pos 1) (two (int 1) (letter 114)) ∷ finish 2 (pos 0) ∷ finish 2 (pos 1) ∷ []) [])
    × SliceRun (worker pairs joining 1 (pos 1)) (finally (
    take 2 (pos 0) (two (int 1) (letter 112) ∷ two (int 1) (letter 114) ∷ []) true
    ∷ put 1 dispatcher (match 112 100) ∷ put 1 dispatcher (match 112 101) ∷ put 1 dispatcher (match 114 100) ∷ put 1 dispatcher (match 114 101)
    ∷ take 2 (pos 1) (two Null (letter 113) ∷ []) true ∷ finish 1 dispatcher ∷ []
    ) [])
    × SliceRun (worker pairs joining 0 dispatcher) (finally (take 1 (pos 0) [] true ∷ take 1 (pos 1) (match 112 100 ∷ match 112 101 ∷ match 114 100 ∷ match 114 101 ∷ []) true ∷ []) (match 112 100 ∷ match 112 101 ∷ match 114 100 ∷ match 114 101 ∷ []))
