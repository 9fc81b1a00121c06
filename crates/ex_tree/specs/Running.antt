-- A running tree: how it matches the steps of its worker, of which rows it gave.
use Rattle.std.specs.Prelude.{◌≡◌, ℕ, ℤ, true, false, List, [], ◌∷◌, ◌++◌, None}
use Rattle.ic_base.specs.declared.keys.ConnEnd.{ConnEnd}
use Rattle.pl_tree.specs.declared.node.Pair.{Pair}
use Rattle.pl_ops.specs.Rows.{Line}
use Rattle.pl_ops.specs.Streams.{Stream}
use Rattle.pl_ops.specs.Giving.{IsOver}
use Rattle.pl_runs.specs.Steps.{Step, ended_by, is_take, is_take_from}
use Rattle.ic_motion.specs.Hearing.{Listener, senders_of}
use Rattle.ic_motion.specs.Hearing as hearing
use Rattle.ic_motion.specs.Pulling.{Listens}
use Rattle.ex_basic.specs.Scans.{Scanning}
use Rattle.ex_basic.specs.Scans as scans
use Rattle.ex_join.specs.Joins.{Joining}
use Rattle.ex_join.specs.Joins as joins
use Rattle.ex_tree.specs.declared.op.Op.{Op}
use Rattle.ex_tree.specs.declared.tree.Tree.{Tree, fold-Tree}
use Rattle.ex_tree.specs.declared.tree.Tree.TheOpen.{Tree-F}
use Rattle.ex_tree.specs.Parts.{Single, Source, Part, Rows, Hears, Over, Joins, AreApart, out}
use Rattle.ex_tree.specs.Operators.{Gives}

-- ---- the program's trees

pub data State : Type 0 where
  Scans : Scanning → State
  Ears : Listener → State
  One : Op → State → State
  Two : Joining → State → State → State

abbrev pub state_step : Tree-F State → State
state_step (Tree-F.Rows scan) = Scans scan
state_step (Tree-F.Hears m) = Ears m
state_step (Tree-F.One op c) = One op c.value
state_step (Tree-F.Two join l r) = Two join l.value r.value

-- what contracts see of a tree
abbrev pub state_of : Tree → State
state_of = fold-Tree State state_step

-- the worker hears each motion of it, from just its senders
abbrev pub AreHeard : List ConnEnd → State → Type 0
AreHeard keys (Scans scan) = Unit {0}
AreHeard keys (Ears m) = Listens keys m.end.motion (senders_of m.lanes)
AreHeard keys (One op c) = AreHeard keys c
AreHeard keys (Two join l r) = AreHeard keys l × AreHeard keys r

-- it hears no motion
abbrev pub IsStill : State → Type 0
IsStill (Scans scan) = Unit {0}
IsStill (Ears m) = ⊥
IsStill (One op c) = IsStill c
IsStill (Two join l r) = IsStill l × IsStill r

-- ---- how it matches the steps

-- the motion that a receiving end hears
abbrev pub source_of : Listener → Source
source_of m = record { end = m.end; order = m.order; kinds = m.kinds; senders = senders_of m.lanes }

-- no take of the motion was answered Ended
pub record IsUncut (motion : ℕ) (steps : List Step) : Type 0 where
  pub any : ended_by (is_take motion) steps ≡ false
  pub one : (sender : ℤ) → ended_by (is_take_from motion sender) steps ≡ false

-- a receiving end that goes on matches the steps, having given these rows
pub record Holds (m : Listener) (steps : List Step) (a : List Line) : Type 0 where
  pub going : m.refused ≡ None
  pub uncut : IsUncut m.end.motion steps
  pub hears : hearing.Hears m steps a

-- a child has given these rows, and its parent was told that it has ended only if it has, and gave all
pub record Asked (Child : List Line → Type 0) (all : Stream) (given : Stream) : Type 0 where
  pub runs : Child given.rows
  pub over : given.ended ≡ true → IsOver all given.rows

pub record RunsOne (Child : List Line → Type 0) (all : Stream) (G : Stream → Type 0) : Type 0 where
  pub given : Stream
  pub child : Asked Child all given
  pub gives : G given

pub record RunsTwo (L R : List Line → Type 0) (left right : Stream) (G : Stream → Stream → Type 0) (Apart : Type 0) : Type 0 where
  pub from_left : Stream
  pub from_right : Stream
  pub left_child : Asked L left from_left
  pub right_child : Asked R right from_right
  pub gives : G from_left from_right
  pub apart : Apart

-- a tree of this part matches the steps, having given these rows
abbrev pub Runs : Part → State → List Step → List Line → Type 0
Runs part (Scans scan) steps a = (rows : List Line) × (part ≡ Rows rows) × scans.Gives rows scan a
Runs part (Ears m) steps a = (part ≡ Hears (source_of m)) × Holds m steps a
Runs part (One op x) steps a = (p : Single) × (c : Part) × (part ≡ Over p c) × RunsOne (Runs c x steps) (out c steps) (λ s. Gives p op s a)
Runs part (Two join x y) steps a =
    (on : List Pair) × (l : Part) × (r : Part) × (part ≡ Joins on l r)
    × RunsTwo (Runs l x steps) (Runs r y steps) (out l steps) (out r steps) (λ s t. joins.Gives on join s t a) (AreApart l r)
