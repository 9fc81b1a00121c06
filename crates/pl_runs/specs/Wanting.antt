-- What a worker takes next, and when a limit lets it halt.
use Rattle.std.specs.Prelude.{ℕ, suc, ◌+◌, ℤ, Bool, true, false, not, ◌&&◌, ◌||◌, nat_le, if◌then◌else◌, List, [], ◌∷◌, map, length, Option, Some, None}
use Rattle.std.specs.List.{list_all}
use Rattle.ic_base.specs.declared.port.PortAsk.{PortAsk}
use Rattle.ic_base.specs.declared.port.PortAsk.TheVariants.{Take, TakeFrom}
use Rattle.ic_row.specs.declared.order.Key.{Key}
use Rattle.pl_tree.specs.Trees.{Tree, Scan, Filter, Project, Limit, Sort, Join, Single, Partial, Final, Gather, Redistribute, Broadcast, motions_in}
use Rattle.pl_tree.specs.Loci.{locus_of}
use Rattle.pl_plan.specs.Motions.{gang_at}
use Rattle.pl_ops.specs.Rows.{Line}
use Rattle.pl_ops.specs.Streams.{Stream}
use Rattle.pl_ops.specs.Merging.{sorts_before}
use Rattle.pl_mean.specs.Merging.{left_after}
use Rattle.pl_mean.specs.Parts.{Site}
use Rattle.pl_mean.specs.Outputs.{Input, Inputs, stream_from, steps_in, out}
use Rattle.pl_runs.specs.Steps.{Step, inputs_of}
use Rattle.pl_runs.specs.Slices.{Worker, top_of}

-- a take of a motion, from any sender or from one
pub data Want : Type 0 where
  FromAny : ℕ → Want
  FromOne : ℕ → ℤ → Want

abbrev pub want_in : PortAsk → Option Want
want_in (Take motion) = Some (FromAny motion)
want_in (TakeFrom motion sender) = Some (FromOne motion sender)
want_in _ = None

-- ---- the motion that is wanted

abbrev pub is_none : List Line → Bool
is_none [] = true
is_none (row ∷ rows) = false

abbrev pub lacks_head : Stream → Bool
lacks_head s = not s.ended && is_none s.rows

-- the first sender whose head isn't known
abbrev pub first_unknown : ℕ → List ℤ → List Stream → Option Want
first_unknown motion (a ∷ senders) (s ∷ streams) = if lacks_head s then Some (FromOne motion a) else first_unknown motion senders streams
first_unknown motion _ _ = None

-- nothing once each sender is whole
abbrev pub wants_of : ℕ → Option (List Key) → List ℤ → Input → Option Want
wants_of motion None senders input = if list_all input.whole senders then None else Some (FromAny motion)
wants_of motion (Some keys) senders input = first_unknown motion senders (left_after (sorts_before keys) (steps_in input) (map (stream_from input) senders))

-- From the top node down, at each operator to the side whose rows it wants: a join takes its right side to the end before
-- its left one, and a limit that is satisfied wants nothing.
abbrev pub wanted : Site → Inputs → ℕ → Tree → ℤ → Option Want
wanted s inputs n (Scan t) at = None
wanted s inputs n (Filter e c) at = wanted s inputs n c at
wanted s inputs n (Project cols c) at = wanted s inputs n c at
wanted s inputs n (Limit k c) at = if nat_le k (length (out s inputs n c at).rows) then None else wanted s inputs n c at
wanted s inputs n (Sort ks c) at = wanted s inputs n c at
wanted s inputs n (Join on l r) at = if (out s inputs (n + motions_in l) r at).ended then wanted s inputs n l at else wanted s inputs (n + motions_in l) r at
wanted s inputs n (Single g cs c) at = wanted s inputs n c at
wanted s inputs n (Partial g cs c) at = wanted s inputs n c at
wanted s inputs n (Final c) at = wanted s inputs n c at
wanted s inputs n (Gather o c) at = wants_of n o (gang_at s.segments (locus_of s.schemas c)) (inputs n at)
wanted s inputs n (Redistribute ks c) at = wants_of n None (gang_at s.segments (locus_of s.schemas c)) (inputs n at)
wanted s inputs n (Broadcast c) at = wants_of n None (gang_at s.segments (locus_of s.schemas c)) (inputs n at)

abbrev pub wanted_by : Worker → List Step → Option Want
wanted_by w steps = wanted w.site (inputs_of steps) (suc w.slice) (top_of w.tree w.slice) w.at

-- ---- limits

-- some limit of the slice has all rows that it gives
abbrev pub is_satisfied : Site → Inputs → ℕ → Tree → ℤ → Bool
is_satisfied s inputs n (Scan t) at = false
is_satisfied s inputs n (Filter e c) at = is_satisfied s inputs n c at
is_satisfied s inputs n (Project cols c) at = is_satisfied s inputs n c at
is_satisfied s inputs n (Limit k c) at = nat_le k (length (out s inputs n c at).rows) || is_satisfied s inputs n c at
is_satisfied s inputs n (Sort ks c) at = is_satisfied s inputs n c at
is_satisfied s inputs n (Join on l r) at = is_satisfied s inputs n l at || is_satisfied s inputs (n + motions_in l) r at
is_satisfied s inputs n (Single g cs c) at = is_satisfied s inputs n c at
is_satisfied s inputs n (Partial g cs c) at = is_satisfied s inputs n c at
is_satisfied s inputs n (Final c) at = is_satisfied s inputs n c at
is_satisfied s inputs n (Gather o c) at = false
is_satisfied s inputs n (Redistribute ks c) at = false
is_satisfied s inputs n (Broadcast c) at = false

abbrev pub has_its_limit : Worker → List Step → Bool
has_its_limit w steps = is_satisfied w.site (inputs_of steps) (suc w.slice) (top_of w.tree w.slice) w.at
