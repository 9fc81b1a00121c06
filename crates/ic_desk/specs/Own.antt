-- Which ends of a node are those of one slice's worker.
use Rattle.std.specs.Prelude.{ℕ, Bool, not, ◌&&◌, ◌||◌, ◌==◌, List, filter}
use Rattle.std.specs.List.{list_any}
use Rattle.ic_base.specs.declared.keys.ConnEnd.{ConnEnd}
use Rattle.pl_runs.specs.Logs.{is_of_slice}

-- an end at which another slice hears this motion
abbrev pub is_heard_otherwise : ℕ → ℕ → ConnEnd → Bool
is_heard_otherwise slice motion e = not e.sending && ((e.key.motion == motion) && not (e.recv_slice == slice))

-- An end of this slice. Of a motion that several slices of this node hear, none has it; the ends of a plan have no such
-- motion.
abbrev pub is_own : List ConnEnd → ℕ → ConnEnd → Bool
is_own ends slice e = is_of_slice slice e && (e.sending || not (list_any (is_heard_otherwise slice e.key.motion) ends))

-- of the ends of a node those of a slice's worker
abbrev pub own_ends : List ConnEnd → ℕ → List ConnEnd
own_ends ends slice = filter (is_own ends slice) ends
