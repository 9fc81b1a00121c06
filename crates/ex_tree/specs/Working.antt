-- How many steps and rows a tree can give before it asks its port, at most.
use Rattle.std.specs.Prelude.{ℕ, ◌+◌, ◌*◌, ◌<◌, ◌≤◌}
use Rattle.ic_motion.specs.Hearing.{rows_held}
use Rattle.ex_basic.specs.Scans as scans
use Rattle.ex_join.specs.Tables.{total}
use Rattle.ex_join.specs.Joins as joins
use Rattle.ex_tree.specs.declared.answers.Pulled.{Pulled}
use Rattle.ex_tree.specs.declared.answers.Pulled.TheVariants.{Row, Step, More, Wait, End}
use Rattle.ex_tree.specs.Operators.{op_work}
use Rattle.ex_tree.specs.Running.{State, Scans, Ears, One, Two}

-- of both children, if so many right rows are held
abbrev pub both_work : ℕ → ℕ → ℕ → ℕ
both_work rights left right = 2 * right + (rights + right + 2) * left

abbrev pub work : State → ℕ
work (Scans scan) = scans.work scan
work (Ears m) = rows_held m.lanes
work (One op x) = op_work op + 2 * work x
work (Two join x y) = joins.work join + both_work (total join.table) (work x) (work y)

-- each step and each row makes it less
abbrev pub Falls : Pulled → ℕ → ℕ → Type 0
Falls (Row row) old new = new < old
Falls Step old new = new < old
Falls More old new = Unit {0}
Falls (Wait no_) old new = Unit {0}
Falls End old new = new ≤ old
