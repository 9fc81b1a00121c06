-- Reading that gives a value, or the first fault.
use Rattle.std.specs.Prelude.{◌≡◌, ℕ, List, Option, Some, None, Result, Ok, Err}
use Rattle.pl_read.specs.declared.fault.DocFault.{DocFault}
use Rattle.pl_read.specs.declared.fault.DocNo.{DocNo}
use Rattle.pl_read.specs.declared.fault.DocNo.TheVariants as answer
use Rattle.pl_read.specs.declared.fault.Flaw.{Flaw}
use Rattle.pl_read.specs.declared.fault.Flaw.TheVariants.{NoJson, Unknown, Missing, Kind, Range, Repeated, Width}
use Rattle.pl_read.specs.Paths.{Step, text_of}

abbrev pub code_of : Flaw → ℕ
code_of NoJson = 1
code_of Unknown = 2
code_of Missing = 3
code_of Kind = 4
code_of Range = 5
code_of Repeated = 6
code_of Width = 7

abbrev pub fault_at : List Step → Flaw → DocFault
fault_at path flaw = record { code = code_of flaw; path = text_of path }

abbrev pub refused : {A : Type 0} → List Step → Flaw → Result A DocFault
refused path flaw = Err (fault_at path flaw)

-- what is there, or else this is wrong at the path
abbrev pub or_refused : {A : Type 0} → Option A → List Step → Flaw → Result A DocFault
or_refused None path flaw = refused path flaw
or_refused (Some x) path flaw = Ok x

-- what comes next is read if nothing was wrong before
infixl 10 ◌>>=◌
abbrev pub ◌>>=◌ : {A B : Type 0} → Result A DocFault → (A → Result B DocFault) → Result B DocFault
(Ok x) >>= f = f x
(Err fault) >>= f = Err fault

-- ---- what the program answers

-- it names this fault, unless memory ran out
abbrev pub Tells : DocNo → DocFault → Type 0
Tells answer.Memory fault = Unit {0}
Tells (answer.Fault named) fault = named ≡ fault

-- What a function returned, seen by view, is what reading gives, unless memory ran out.
abbrev pub Fails : {Y : Type 0} → DocNo → Result Y DocFault → Type 0
Fails answer.Memory read = Unit {0}
Fails (answer.Fault fault) read = read ≡ Err fault

abbrev pub Gives : {X Y : Type 0} → (X → Y) → Result X DocNo → Result Y DocFault → Type 0
Gives view (Ok x) read = read ≡ Ok (view x)
Gives view (Err e) read = Fails e read
