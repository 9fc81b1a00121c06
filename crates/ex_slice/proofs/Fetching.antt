-- Pulls until the port was called, a row comes or the output has ended.
use Rattle.std.proofs.Common.{◌≡◌, ℕ, ◌≤◌, List, Result, Ok, sym, ◌∙◌, arith}
use Rattle.ic_base.specs.declared.port.PortEntry.{PortEntry}
use Rattle.pl_ops.specs.Rows.{Line}
use Rattle.pl_runs.specs.Steps.{Step, calls_of}
use Rattle.ex_tree.specs.declared.answers.Pulled.{Pulled}
use Rattle.ex_tree.specs.declared.answers.Pulled.TheVariants.{Row, Step as Went, More, Wait, End}
use Rattle.ex_tree.specs.declared.answers.TreeNo.{TreeNo}
use Rattle.ex_tree.specs.Parts.{Part}
use Rattle.ex_tree.specs.Running.{State, Runs}
use Rattle.ex_tree.specs.Working.{Falls}
use Rattle.ex_tree.specs.Pulling.{PullsAny}

-- whatever was given is given still
abbrev pub StaysAs : State → State → List PortEntry → Type 0
StaysAs x y log = (part : Part) (steps : List Step) (given : List Line) → calls_of steps ≡ log → Runs part x steps given → Runs part y steps given

pub pulled_after : (x mid y : State) (log now : List PortEntry) (result : Result Pulled TreeNo) → StaysAs x mid log → PullsAny mid y log now result → PullsAny x y log now result
pulled_after x mid y log now result stays f part steps given calls r = f part steps given calls (stays part steps given calls r)

pub stepped : (x mid y : State) (log now : List PortEntry) → StaysAs x mid log → PullsAny mid y log now (Ok Went) → StaysAs x y log
stepped x mid y log now stays f part steps given calls r = (f part steps given calls (stays part steps given calls r)).leaves.1

pub falls_after : (got : Pulled) (a b c : ℕ) → b ≤ a → Falls got b c → Falls got a c
falls_after (Row row) a b c less f = omega (arith, less, f)
falls_after Went a b c less f = omega (arith, less, f)
falls_after More a b c less f = tt
falls_after (Wait no_) a b c less f = tt
falls_after End a b c less f = omega (arith, less, f)

pub ok_same : (a b : Pulled) (e : Result Pulled TreeNo) → e ≡ Ok a → e ≡ Ok b → a ≡ b
ok_same a b e x y = let z : Ok a ≡ Ok b = sym x ∙ y in cc
