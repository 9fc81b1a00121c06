-- Predicates.
use Rattle.std.specs.Prelude.{ℕ, ◌+◌, ◌^◌, ℤ, pos, List, [], ◌∷◌, codes, nat_lt, if◌then◌else◌, Option, Some, None, Result, Ok}
use Rattle.std.specs.Str.{bytes_eq}
use Rattle.serde_json.specs.Data.{Num, unsigned, negative, float, Data, null, boolean, number, string, array, object, Items, no_items, item}
use Rattle.pl_expr.specs.declared.expr.CompareOp.{CompareOp}
use Rattle.pl_expr.specs.declared.expr.CompareOp.TheVariants.{Eq, Ne, Lt, Le, Gt, Ge}
use Rattle.pl_expr.specs.declared.expr.Operand.{Operand}
use Rattle.pl_expr.specs.declared.expr.Operand.TheVariants as operand
use Rattle.pl_expr.specs.declared.expr.Expr.{Expr}
use Rattle.pl_expr.specs.declared.expr.Expr as expr
use Rattle.pl_read.specs.declared.fault.DocFault.{DocFault}
use Rattle.pl_read.specs.declared.fault.Flaw.TheVariants.{Kind, Range}
use Rattle.pl_read.specs.declared.expr.Operator.{Operator}
use Rattle.pl_read.specs.declared.expr.Operator.TheVariants.{Compare, And, Or, Not, IsNull}
use Rattle.pl_read.specs.Paths.{Step, member, index}
use Rattle.pl_read.specs.Faults.{refused, or_refused, ◌>>=◌}
use Rattle.pl_read.specs.Members.{object_at, only, required}
use Rattle.pl_read.specs.Values.{position_at, text_at}

abbrev pub operator_of : List ℕ → Option Operator
operator_of word =
    if bytes_eq word (codes "=") then Some (Compare Eq) else
    (if bytes_eq word (codes "<>") then Some (Compare Ne) else
    (if bytes_eq word (codes "<") then Some (Compare Lt) else
    (if bytes_eq word (codes "<=") then Some (Compare Le) else
    (if bytes_eq word (codes ">") then Some (Compare Gt) else
    (if bytes_eq word (codes ">=") then Some (Compare Ge) else
    (if bytes_eq word (codes "and") then Some And else
    (if bytes_eq word (codes "or") then Some Or else
    (if bytes_eq word (codes "not") then Some Not else
    (if bytes_eq word (codes "null") then Some IsNull else None)))))))))

abbrev pub operator_at : List Step → Data → Result Operator DocFault
operator_at path d = text_at path d >>= λ word. or_refused (operator_of word) path Kind

-- ---- operands

-- a number of 64 bits with its sign; a float is another kind of value
abbrev pub integer_in : List Step → Num → Result ℤ DocFault
integer_in path (unsigned n) = if nat_lt n (2 ^ 63) then Ok (pos n) else refused path Range
integer_in path (negative z) = Ok z
integer_in path (float x) = refused path Kind

-- `{"col": position}`
abbrev pub column_at : List Step → Data → Result ℕ DocFault
column_at path d =
    object_at path d >>= λ ms.
    only path (codes "col" ∷ []) ms >>= λ _.
    required path (codes "col") d >>= position_at (member (codes "col") ∷ path)

abbrev pub operand_at : List Step → Data → Result Operand DocFault
operand_at path null = Ok operand.Null
operand_at path (boolean b) = refused path Kind
operand_at path (number n) = integer_in path n >>= λ z. Ok (operand.Int z)
operand_at path (string text) = Ok (operand.Chars text)
operand_at path (array ds) = refused path Kind
operand_at path (object ms) = column_at path (object ms) >>= λ c. Ok (operand.Col c)

-- ---- expressions

-- two operands
abbrev pub compared_at : CompareOp → List Step → Items → Result Expr DocFault
compared_at op path no_items = refused path Range
compared_at op path (item a no_items) = refused path Range
compared_at op path (item a (item b no_items)) =
    operand_at (index 1 ∷ path) a >>= λ left. operand_at (index 2 ∷ path) b >>= λ right. Ok (expr.Compare op left right)
compared_at op path (item a (item b (item c ds))) = refused path Range

-- one operand
abbrev pub tested_at : List Step → Items → Result Expr DocFault
tested_at path no_items = refused path Range
tested_at path (item a no_items) = operand_at (index 1 ∷ path) a >>= λ x. Ok (expr.IsNull x)
tested_at path (item a (item b ds)) = refused path Range

-- what a word makes of the items after it, read as one expression and as at least one
abbrev pub applied : Operator → List Step → Items → Result Expr DocFault → Result (List Expr) DocFault → Result Expr DocFault
applied (Compare op) path ds one some = compared_at op path ds
applied And path ds one some = some >>= λ parts. Ok (expr.And parts)
applied Or path ds one some = some >>= λ parts. Ok (expr.Or parts)
applied Not path ds one some = one >>= λ part. Ok (expr.Not part)
applied IsNull path ds one some = tested_at path ds

abbrev mutual
  -- a word, and then what goes with it
  pub expr_at : List Step → Data → Result Expr DocFault
  expr_at path null = refused path Kind
  expr_at path (boolean b) = refused path Kind
  expr_at path (number n) = refused path Kind
  expr_at path (string text) = refused path Kind
  expr_at path (array no_items) = refused path Range
  expr_at path (array (item word ds)) =
      operator_at (index 0 ∷ path) word >>= λ operator. applied operator path ds (one_at path ds) (some_at path ds)
  expr_at path (object ms) = refused path Kind

  -- one expression
  pub one_at : List Step → Items → Result Expr DocFault
  one_at path no_items = refused path Range
  one_at path (item a no_items) = expr_at (index 1 ∷ path) a
  one_at path (item a (item b ds)) = refused path Range

  -- at least one expression
  pub some_at : List Step → Items → Result (List Expr) DocFault
  some_at path no_items = refused path Range
  some_at path (item a ds) = expr_at (index 1 ∷ path) a >>= λ part. parts_from path 2 ds >>= λ parts. Ok (part ∷ parts)

  -- the parts from number i on
  pub parts_from : List Step → ℕ → Items → Result (List Expr) DocFault
  parts_from path i no_items = Ok []
  parts_from path i (item d ds) = expr_at (index i ∷ path) d >>= λ part. parts_from path (i + 1) ds >>= λ parts. Ok (part ∷ parts)

abbrev pub applied_at : Operator → List Step → Items → Result Expr DocFault
applied_at operator path ds = applied operator path ds (one_at path ds) (some_at path ds)
