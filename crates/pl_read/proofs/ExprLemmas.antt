-- Expressions of a wrong length.
use Rattle.std.proofs.Common.{◌≡◌, ◌≢◌, List, [], ◌∷◌, length, get_or, ◌≤◌, ◌<◌, arith, refl, ap, sym, ◌∙◌, Ok}
use Rattle.serde_json.specs.View.{view, items_view}
use Rattle.serde_json.specs.declared.value.Value.{Value}
use Rattle.serde_json.specs.Data.{Data, array}
use Rattle.pl_read.specs.declared.expr.Operator.{Operator}
use Rattle.pl_expr.specs.declared.expr.CompareOp.{CompareOp}
use Rattle.pl_read.specs.declared.fault.Flaw.TheVariants.{Range}
use Rattle.pl_read.specs.Paths.{Step, index}
use Rattle.pl_read.specs.Faults.{refused, ◌>>=◌}
use Rattle.pl_read.specs.Exprs.{operator_at, compared_at, tested_at, applied, one_at, some_at, parts_from, expr_at}

pub compared_none : (op : CompareOp) (path : List Step) (vs : List Value) → length vs ≢ 2 → compared_at op path (items_view vs) ≡ refused path Range
compared_none op path [] ne = refl
compared_none op path (a ∷ []) ne = refl
compared_none op path (a ∷ b ∷ []) ne = absurd (ne refl)
compared_none op path (a ∷ b ∷ c ∷ vs) ne = refl

pub tested_none : (path : List Step) (vs : List Value) → length vs ≢ 1 → tested_at path (items_view vs) ≡ refused path Range
tested_none path [] ne = refl
tested_none path (a ∷ []) ne = absurd (ne refl)
tested_none path (a ∷ b ∷ vs) ne = refl

pub one_none : (path : List Step) (vs : List Value) → length vs ≢ 1 → one_at path (items_view vs) ≡ refused path Range
one_none path [] ne = refl
one_none path (a ∷ []) ne = absurd (ne refl)
one_none path (a ∷ b ∷ vs) ne = refl

pub some_is : (path : List Step) (vs : List Value) → length vs ≢ 0 → some_at path (items_view vs) ≡ parts_from path 1 (items_view vs)
some_is path [] ne = absurd (ne refl)
some_is path (v ∷ vs) ne = refl

pub expr_is : (path : List Step) (d : Data) (vs parts : List Value) (word : Value) (operator : Operator) → d ≡ array (items_view vs) → vs ≡ word ∷ parts → operator_at (index 0 ∷ path) (view word) ≡ Ok operator → expr_at path d ≡ applied operator path (items_view parts) (one_at path (items_view parts)) (some_at path (items_view parts))
expr_is path d vs parts word operator is cut found =
    ap (expr_at path) (is ∙ ap (λ xs. array (items_view xs)) cut)
    ∙ ap (λ r. r >>= λ o. applied o path (items_view parts) (one_at path (items_view parts)) (some_at path (items_view parts))) found

pub one_is : (path : List Step) (vs : List Value) (v : Value) → 1 ≤ length vs → length vs < 2 → v ≡ get_or vs 0 v → one_at path (items_view vs) ≡ expr_at (index 1 ∷ path) (view v)
one_is path [] v ge lt is = absurd (omega (arith, ge))
one_is path (a ∷ []) v ge lt is = ap (λ x. expr_at (index 1 ∷ path) (view x)) (sym is)
one_is path (a ∷ b ∷ vs) v ge lt is = absurd (omega (arith, lt))
