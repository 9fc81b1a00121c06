-- One step of one operator, whatever stands below it. Only the crate's own functions cite these.
use Rattle.std.specs.Prelude.{◌≡◌, ◌<◌, ◌≤◌, ℕ, ◌+◌, Bool, false, List, [], ◌∷◌, ◌++◌, Result, Ok, Err}
use Rattle.ic_base.specs.declared.port.PortEntry.{PortEntry}
use Rattle.pl_tree.specs.declared.node.Pair.{Pair}
use Rattle.pl_ops.specs.declared.words.Side.{Side}
use Rattle.pl_ops.specs.declared.words.Side.TheVariants.{Left, Right}
use Rattle.pl_ops.specs.declared.words.Next.TheVariants.{Wants}
use Rattle.pl_ops.specs.Rows.{Line}
use Rattle.pl_ops.specs.Streams.{Stream}
use Rattle.pl_ops.specs.Giving.{IsAll, IsOver}
use Rattle.ex_basic.specs.Scans.{Scanning, scan_stream}
use Rattle.ex_basic.specs.Scans as scans
use Rattle.ex_basic.specs.Single.{Answers}
use Rattle.ex_join.specs.Tables.{total}
use Rattle.ex_join.specs.Joins.{Joining}
use Rattle.ex_join.specs.Joins as joins
use Rattle.ex_tree.specs.declared.op.Op.{Op}
use Rattle.ex_tree.specs.declared.tree.Asking.{Asking}
use Rattle.ex_tree.specs.declared.tree.Asking.TheVariants.{Gave, Needs}
use Rattle.ex_tree.specs.declared.answers.Pulled.{Pulled}
use Rattle.ex_tree.specs.declared.answers.Pulled.TheVariants.{Row, Step, More, Wait, End}
use Rattle.ex_tree.specs.declared.answers.TreeNo.{TreeNo}
use Rattle.ex_tree.specs.declared.answers.TreeNo.TheVariants as why
use Rattle.ex_tree.specs.Parts.{Single, one_stream}
use Rattle.ex_tree.specs.Operators.{Gives, IsWanting}
use Rattle.ex_tree.specs.Running.{State, One, Two}
use Rattle.ex_tree.specs.Pulling.{PullsAny, asks}
use Rattle.ex_tree.specs.Working.{Falls}

-- ---- a scan

abbrev pub ScanPulls : Scanning → Scanning → Result Pulled TreeNo → Type 0
ScanPulls old new (Ok (Row row)) = (rows a : List Line) → scans.Gives rows old a → scans.Gives rows new (a ++ row ∷ [])
ScanPulls old new (Ok End) = (rows a : List Line) → scans.Gives rows old a → IsOver (scan_stream rows) a × scans.Gives rows new a
ScanPulls old new (Ok Step) = ⊥
ScanPulls old new (Ok More) = ⊥
ScanPulls old new (Ok (Wait no_)) = ⊥
ScanPulls old new (Err (why.Malformed key)) = ⊥
ScanPulls old new (Err (why.Overflow node)) = ⊥
ScanPulls old new (Err why.Memory) = Unit {0}

-- ---- any node

-- how a child's answer becomes its node's
abbrev pub Becomes : Pulled → Result Pulled TreeNo → Type 0
Becomes (Row row) (Ok Step) = Unit {0}
Becomes (Row row) (Err no_) = Unit {0}
Becomes Step (Ok Step) = Unit {0}
Becomes More (Ok More) = Unit {0}
Becomes (Wait no_) (Ok (Wait again)) = no_ ≡ again
Becomes End (Ok Step) = Unit {0}
Becomes _ _ = ⊥

abbrev pub AskingFalls : ℕ → ℕ → Asking → Type 0
AskingFalls old new (Gave got) = Falls got old new
AskingFalls old new (Needs side) = new ≤ old

-- ---- one input

-- it wants a row, whatever it was before
abbrev pub Wanted : Single → Op → Op → Type 0
Wanted p old new = Answers (Gives p) (one_stream p) old new (Wants Left)

-- it answers by itself, or wants a row
abbrev pub Turns : Op → Op → Asking → Type 0
Turns old new (Gave got) = ((x : State) (log : List PortEntry) → PullsAny (One old x) (One new x) log log (Ok got)) × (asks got ≡ false)
Turns old new (Needs side) = IsWanting new × ((p : Single) → Wanted p old new)

-- what its child gave was handed to it
abbrev pub Passed : Op → Op → Pulled → Result Pulled TreeNo → Type 0
Passed old new got result = (x y : State) (log now : List PortEntry) (was : Op) → ((p : Single) → Wanted p was old) → PullsAny x y log now (Ok got)
    → PullsAny (One was x) (One new y) log now result

abbrev pub PassedWork : ℕ → ℕ → Pulled → Type 0
PassedWork old new (Row row) = new ≤ old + 1
PassedWork old new Step = new ≤ old
PassedWork old new More = Unit {0}
PassedWork old new (Wait no_) = Unit {0}
PassedWork old new End = new < old

-- ---- two inputs

abbrev pub Wanted2 : Side → List Pair → Joining → Joining → Type 0
Wanted2 side on old new = joins.Answers on old new (Wants side)

abbrev pub Turns2 : Joining → Joining → Asking → Type 0
Turns2 old new (Gave got) = ((x y : State) (log : List PortEntry) → PullsAny (Two old x y) (Two new x y) log log (Ok got)) × (asks got ≡ false)
Turns2 old new (Needs side) = joins.IsWanting side new × ((on : List Pair) → Wanted2 side on old new)

abbrev pub Passed2 : Side → Joining → Joining → Pulled → Result Pulled TreeNo → Type 0
Passed2 Left old new got result = (x y z : State) (log now : List PortEntry) (was : Joining) → ((on : List Pair) → Wanted2 Left on was old) → PullsAny x z log now (Ok got)
    → PullsAny (Two was x y) (Two new z y) log now result
Passed2 Right old new got result = (x y z : State) (log now : List PortEntry) (was : Joining) → ((on : List Pair) → Wanted2 Right on was old) → PullsAny y z log now (Ok got)
    → PullsAny (Two was x y) (Two new x z) log now result

-- a left row adds no more steps than there are right rows, and a right row adds none
abbrev pub PassedWork2 : Side → Joining → Joining → Pulled → Type 0
PassedWork2 Left old new (Row row) = (joins.work new ≤ joins.work old + total old.table) × (total new.table ≡ total old.table)
PassedWork2 Right old new (Row row) = (joins.work new ≤ joins.work old) × (total new.table ≤ total old.table + 1)
PassedWork2 side old new Step = (joins.work new ≤ joins.work old) × (total new.table ≡ total old.table)
PassedWork2 side old new More = Unit {0}
PassedWork2 side old new (Wait no_) = Unit {0}
PassedWork2 side old new End = (joins.work new < joins.work old) × (total new.table ≡ total old.table)
