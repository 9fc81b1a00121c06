-- The plan of one slice at one segment as its worker runs it: cut at the motions that it hears, with the rows of its tables in
-- their places.
use Rattle.std.specs.Prelude.{◌≡◌, ◌⊎◌, ℕ, ℤ, Bool, true, false, ◌||◌, nat_le, if◌then◌else◌, List, [], length, Option, None}
use Rattle.ic_row.specs.declared.value.Kind.{Kind}
use Rattle.ic_row.specs.declared.order.Key.{Key}
use Rattle.pl_expr.specs.declared.expr.Expr.{Expr}
use Rattle.pl_tree.specs.declared.node.Pair.{Pair}
use Rattle.pl_tree.specs.declared.node.Call.{Call}
use Rattle.pl_ops.specs.Rows.{Line}
use Rattle.pl_ops.specs.Streams.{Stream, at_end, filter_stream, project_stream, limit_stream, sort_stream, join_stream}
use Rattle.pl_ops.specs.Overflow.{Overflows}
use Rattle.pl_mean.specs.Outputs.{received}
use Rattle.pl_runs.specs.Steps.{Step, input_of}
use Rattle.pl_runs.specs.Wanting.{Want, wants_of}
use Rattle.ic_motion.specs.declared.answers.MotionEnd.{MotionEnd}
use Rattle.ex_basic.specs.Scans.{scan_stream}
use Rattle.ex_agg.specs.Aggs as aggs

-- ---- operators with one input

pub data Single : Type 0 where
  Filters : Expr → Single
  Projects : List ℕ → Single
  Limits : ℕ → Single
  Sorts : List Key → Single
  -- an aggregate, by its node's number in preorder: whether it takes the rows of a partial, its group and its calls
  Groups : ℕ → Bool → List ℕ → List Call → Single
  -- a final over no partial, which no sound plan has: it gives nothing
  Blank : Single

abbrev pub nothing : List Line → List Line
nothing rows = []

-- what the operator gives of its input so far
abbrev pub one_stream : Single → Stream → Stream
one_stream (Filters test) s = filter_stream test s
one_stream (Projects columns) s = project_stream columns s
one_stream (Limits count) s = limit_stream count s
one_stream (Sorts keys) s = sort_stream keys s
one_stream (Groups node final group calls) s = aggs.out final group calls s
one_stream Blank s = at_end nothing s

-- it is a limit that has all rows that it gives
abbrev pub is_full : Single → Stream → Bool
is_full (Filters test) s = false
is_full (Projects columns) s = false
is_full (Limits count) s = nat_le count (length s.rows)
is_full (Sorts keys) s = false
is_full (Groups node final group calls) s = false
is_full Blank s = false

-- it is the aggregate of this number, and after some of the first of these rows a result of some group is too great
abbrev pub IsTooMuch : Single → List Line → ℕ → Type 0
IsTooMuch (Filters test) rows node = ⊥
IsTooMuch (Projects columns) rows node = ⊥
IsTooMuch (Limits count) rows node = ⊥
IsTooMuch (Sorts keys) rows node = ⊥
IsTooMuch (Groups number final group calls) rows node = (number ≡ node) × Overflows (aggs.rows_of final group calls) rows
IsTooMuch Blank rows node = ⊥

-- ---- parts

-- a motion that the slice hears: its end at the worker's segment, the order in which it gives rows, if any, the kinds of its
-- columns, and its senders
pub record Source : Type 0 where
  pub end : MotionEnd
  pub order : Option (List Key)
  pub kinds : List Kind
  pub senders : List ℤ

pub data Part : Type 0 where
  Rows : List Line → Part
  Hears : Source → Part
  Over : Single → Part → Part
  Joins : List Pair → Part → Part → Part

-- the motion is heard in it
abbrev pub Has : Part → Source → Type 0
Has (Rows rows) source = ⊥
Has (Hears heard) source = heard ≡ source
Has (Over op c) source = Has c source
Has (Joins on l r) source = Has l source ⊎ Has r source

-- no motion is heard in both
abbrev pub AreApart : Part → Part → Type 0
AreApart l r = (a b : Source) → Has l a → Has r b → a.end.motion ≡ b.end.motion → ⊥

-- ---- what it gives, by the worker's steps

-- what came of a motion
abbrev pub came : Source → List Step → Stream
came source steps = received source.order source.senders (input_of source.end.motion steps)

abbrev pub out : Part → List Step → Stream
out (Rows rows) steps = scan_stream rows
out (Hears source) steps = came source steps
out (Over op c) steps = one_stream op (out c steps)
out (Joins on l r) steps = join_stream on (out r steps) (out l steps)

-- ---- what it wants

-- From the top down, at each operator of the side whose rows it wants: a join takes its right side to the end before its left
-- one, and a limit that is satisfied wants nothing.
abbrev pub wants : Part → List Step → Option Want
wants (Rows rows) steps = None
wants (Hears source) steps = wants_of source.end.motion source.order source.senders (input_of source.end.motion steps)
wants (Over op c) steps = if is_full op (out c steps) then None else wants c steps
wants (Joins on l r) steps = if (out r steps).ended then wants l steps else wants r steps

-- some limit of it has all rows that it gives
abbrev pub is_satisfied : Part → List Step → Bool
is_satisfied (Rows rows) steps = false
is_satisfied (Hears source) steps = false
is_satisfied (Over op c) steps = is_full op (out c steps) || is_satisfied c steps
is_satisfied (Joins on l r) steps = is_satisfied l steps || is_satisfied r steps

-- an aggregate of it has this number, and by its input so far a result of some group is too great
abbrev pub Overflowed : Part → List Step → ℕ → Type 0
Overflowed (Rows rows) steps node = ⊥
Overflowed (Hears source) steps node = ⊥
Overflowed (Over op c) steps node = IsTooMuch op (out c steps).rows node ⊎ Overflowed c steps node
Overflowed (Joins on l r) steps node = Overflowed l steps node ⊎ Overflowed r steps node
