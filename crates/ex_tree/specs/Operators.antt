-- An operator with one input, of whichever kind: what it has answered of what it was given.
use Rattle.std.specs.Prelude.{◌≡◌, ◌<◌, ◌≤◌, ℕ, ◌+◌, Bool, List, [], ◌∷◌, ◌++◌, None}
use Rattle.ic_row.specs.declared.order.Key.{Key}
use Rattle.pl_expr.specs.declared.expr.Expr.{Expr}
use Rattle.pl_tree.specs.declared.node.Call.{Call}
use Rattle.pl_ops.specs.declared.words.Side.TheVariants.{Left}
use Rattle.pl_ops.specs.Rows.{Line}
use Rattle.pl_ops.specs.Streams.{Stream}
use Rattle.ex_basic.specs.Filters as filters
use Rattle.ex_basic.specs.Projects as projects
use Rattle.ex_basic.specs.Limits as limits
use Rattle.ex_basic.specs.Sorts as sorts
use Rattle.ex_agg.specs.Aggs as aggs
use Rattle.ex_tree.specs.declared.op.Op.{Op}
use Rattle.ex_tree.specs.declared.op.Op.TheVariants as ops
use Rattle.ex_tree.specs.declared.answers.TreeNo.{TreeNo}
use Rattle.ex_tree.specs.declared.answers.TreeNo.TheVariants as why
use Rattle.ex_tree.specs.Parts.{Single, Filters, Projects, Limits, Sorts, Groups, IsTooMuch}

-- it is of this kind, wasn't refused, was given this stream, and has answered these rows
abbrev pub Gives : Single → Op → Stream → List Line → Type 0
Gives p (ops.Filter o) s a = (test : Expr) × (p ≡ Filters test) × filters.Gives test o s a
Gives p (ops.Project o) s a = (columns : List ℕ) × (p ≡ Projects columns) × projects.Gives columns o s a
Gives p (ops.Limit o) s a = (count : ℕ) × (p ≡ Limits count) × limits.Gives count o s a
Gives p (ops.Sort o) s a = (keys : List Key) × (p ≡ Sorts keys) × sorts.Gives keys o s a
Gives p (ops.Agg o node) s a = (final : Bool) × (group : List ℕ) × (calls : List Call) × (o.refused ≡ None) × (p ≡ Groups node final group calls) × aggs.Gives final group calls o s a

-- it wants a row
abbrev pub IsWanting : Op → Type 0
IsWanting (ops.Filter o) = filters.IsWanting Left o
IsWanting (ops.Project o) = projects.IsWanting Left o
IsWanting (ops.Limit o) = limits.IsWanting Left o
IsWanting (ops.Sort o) = sorts.IsWanting Left o
IsWanting (ops.Agg o node) = aggs.IsWanting Left o

-- how many more steps it can make
abbrev pub op_work : Op → ℕ
op_work (ops.Filter o) = filters.work o
op_work (ops.Project o) = projects.work o
op_work (ops.Limit o) = limits.work o
op_work (ops.Sort o) = sorts.work o
op_work (ops.Agg o node) = aggs.work o

-- why it refuses this row: with it a result of some group is too great, or out of memory
abbrev pub RefusesRow : Op → Line → TreeNo → Type 0
RefusesRow op row (why.Malformed key) = ⊥
RefusesRow op row (why.Overflow node) = (p : Single) (s : Stream) (a : List Line) → Gives p op s a → IsTooMuch p (s.rows ++ row ∷ []) node
RefusesRow op row why.Memory = Unit {0}
