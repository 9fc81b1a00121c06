-- Three truth values, with `and`, `or` and `not` as in SQL (Kleene's strong logic).
use Rattle.std.specs.Prelude.{Bool, true, false, List, [], ◌∷◌}
use Rattle.pl_expr.specs.declared.truths.Truth.{Truth}
use Rattle.pl_expr.specs.declared.truths.Truth.TheVariants.{False, Unknown, True}

-- a truth value that is known
abbrev pub known : Bool → Truth
known true = True
known false = False

-- unknown isn't true
abbrev pub is_true : Truth → Bool
is_true True = true
is_true _ = false

-- unknown stays unknown
abbrev pub negation : Truth → Truth
negation False = True
negation Unknown = Unknown
negation True = False

-- false if either is false, true if both are true, else unknown
abbrev pub conjunction : Truth → Truth → Truth
conjunction False b = False
conjunction Unknown False = False
conjunction Unknown Unknown = Unknown
conjunction Unknown True = Unknown
conjunction True b = b

-- true if either is true, false if both are false, else unknown
abbrev pub disjunction : Truth → Truth → Truth
disjunction False b = b
disjunction Unknown False = Unknown
disjunction Unknown Unknown = Unknown
disjunction Unknown True = True
disjunction True b = True

-- of no parts true
abbrev pub all_of : List Truth → Truth
all_of [] = True
all_of (t ∷ ts) = conjunction t (all_of ts)

-- of no parts false
abbrev pub any_of : List Truth → Truth
any_of [] = False
any_of (t ∷ ts) = disjunction t (any_of ts)
