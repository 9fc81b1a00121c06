-- Entries in turn, with the place after the last one or the first flaw.
use Rattle.std.specs.Prelude.{ℕ, ◌+◌, Bool, if◌then◌else◌, List, [], ◌∷◌, Option, Some, None, Result, Ok, Err}
use Rattle.ic_row.specs.declared.value.Kind.{Kind}
use Rattle.pl_expr.specs.declared.typing.ExprFlaw.{ExprFlaw}
use Rattle.pl_expr.specs.declared.typing.ExprFault.{ExprFault}
use Rattle.pl_expr.specs.Entries.{Entry}
use Rattle.pl_expr.specs.Typing.{flaw_of}

abbrev pub fault_at : ExprFlaw → ℕ → ExprFault
fault_at what place = record { what = what; place = place }

abbrev pub stepped : Bool → ExprFlaw → ℕ → Result ℕ ExprFault
stepped fine what place = if fine then Ok (place + 1) else Err (fault_at what place)

abbrev pub passed : Option ExprFlaw → ℕ → Result ℕ ExprFault → Result ℕ ExprFault
passed None place others = others
passed (Some what) place others = Err (fault_at what place)

abbrev pub walked : List Kind → ℕ → List Entry → Result ℕ ExprFault
walked kinds place [] = Ok place
walked kinds place (entry ∷ entries) = passed (flaw_of kinds entry) place (walked kinds (place + 1) entries)
