-- Which predicates have a meaning over columns of some kinds, and what is wrong first of the others.
use Rattle.std.specs.Prelude.{◌≡◌, Bool, true, false, ◌&&◌, ◌||◌, not, nat_lt, if◌then◌else◌, List, Option, Some, None, slice_get, take, length}
use Rattle.std.specs.List.{AllByRecursion}
use Rattle.ic_row.specs.declared.value.Kind.{Kind}
use Rattle.ic_row.specs.declared.value.Kind.TheVariants as kind
use Rattle.pl_expr.specs.declared.expr.Operand.{Operand}
use Rattle.pl_expr.specs.declared.expr.Operand.TheVariants.{Col, Int, Chars, Null}
use Rattle.pl_expr.specs.declared.expr.Expr.{Expr}
use Rattle.pl_expr.specs.declared.typing.ExprFlaw.{ExprFlaw}
use Rattle.pl_expr.specs.declared.typing.ExprFlaw.TheVariants as flaw
use Rattle.pl_expr.specs.declared.typing.ExprFault.{ExprFault}
use Rattle.pl_expr.specs.Entries.{Entry, Comparison, Other, Read, entries_of}

abbrev pub same_kind : Kind → Kind → Bool
same_kind kind.Int kind.Int = true
same_kind kind.Wide kind.Wide = true
same_kind kind.Chars kind.Chars = true
same_kind _ _ = false

-- what isn't a column has no kind that could differ: that is a flaw of its own
abbrev pub column_takes : Option Kind → Kind → Bool
column_takes None k = true
column_takes (Some own) k = same_kind own k

-- the kinds that an operand can have: an integer is an int or a wide, and a null is anything
abbrev pub takes : List Kind → Operand → Kind → Bool
takes kinds (Col c) k = column_takes (slice_get kinds c) k
takes kinds (Int n) k = not (same_kind k kind.Chars)
takes kinds (Chars text) k = same_kind k kind.Chars
takes kinds Null k = true

abbrev pub both_take : List Kind → Operand → Operand → Kind → Bool
both_take kinds left right k = takes kinds left k && takes kinds right k

-- some kind can be that of both operands
abbrev pub have_one_kind : List Kind → Operand → Operand → Bool
have_one_kind kinds left right = both_take kinds left right kind.Int || (both_take kinds left right kind.Wide || both_take kinds left right kind.Chars)

abbrev pub is_there : List Kind → Operand → Bool
is_there kinds (Col c) = nat_lt c (length kinds)
is_there kinds _ = true

abbrev pub unless : Bool → ExprFlaw → Option ExprFlaw
unless fine f = if fine then None else Some f

-- what is wrong with one entry: a column that doesn't exist, or a comparison of two kinds
abbrev pub flaw_of : List Kind → Entry → Option ExprFlaw
flaw_of kinds (Comparison left right) = unless (have_one_kind kinds left right) flaw.Kind
flaw_of kinds Other = None
flaw_of kinds (Read x) = unless (is_there kinds x) flaw.Column

abbrev pub is_flaw : ExprFlaw → Option ExprFlaw → Bool
is_flaw what None = false
is_flaw flaw.Column (Some flaw.Column) = true
is_flaw flaw.Column (Some flaw.Kind) = false
is_flaw flaw.Kind (Some flaw.Column) = false
is_flaw flaw.Kind (Some flaw.Kind) = true

-- whether this is what is wrong with the entry
abbrev pub is_flawed : List Kind → ExprFlaw → Entry → Bool
is_flawed kinds what entry = is_flaw what (flaw_of kinds entry)

abbrev pub AreFine : List Kind → List Entry → Type 0
AreFine kinds entries = AllByRecursion (λ entry. flaw_of kinds entry ≡ None) entries

-- nothing is wrong with any entry
abbrev pub IsTyped : List Kind → Expr → Type 0
IsTyped kinds expr = AreFine kinds (entries_of expr)

-- the entry at this place, from 0, is the first with something wrong, and this is what
pub record IsFirstFlaw (kinds : List Kind) (entries : List Entry) (fault : ExprFault) : Type 0 where
  pub entry : Entry
  pub stands : slice_get entries fault.place ≡ Some entry
  pub has : flaw_of kinds entry ≡ Some fault.what
  pub before : AreFine kinds (take fault.place entries)
