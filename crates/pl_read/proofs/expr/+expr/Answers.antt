use Rattle.std.proofs.Common.{rules, ◌≡◌, ◌∷◌, Ok, ap, subst, sym, ◌∙◌}
use Rattle.serde_json.specs.Data.{array}
use Rattle.serde_json.specs.View.{view, items_view}
use Rattle.serde_json.proofs.Views.{view-Array}
use Rattle.pl_read.specs.Paths.{path_of, index}
use Rattle.pl_read.specs.Faults.{Gives}
use Rattle.pl_read.specs.Exprs as spec
use Rattle.pl_read.proofs.ExprLemmas.{one_is, some_is, expr_is}
use Rattle.pl_read.proofs.expr.+expr.Goals as goal

pub expr_at-returns : goal.expr_at-returns
expr_at-returns t c =
    let e1 : view c.args.value.now ≡ array (items_view c.in-Array.items.items) = ap view c.in-Array.is ∙ view-Array c.in-Array.items in
    let e2 : c.in-Array.items.items ≡ c.in-Some.word.now ∷ c.in-Some.parts.now = search rules in
    let e3 : spec.operator_at (index 0 ∷ path_of c.args.place) (view c.in-Some.word.now) ≡ Ok c.in_ok-operator.operator = search rules in
    subst (λ r. Gives (λ x. x) c.applied_at.result r) (sym (expr_is (path_of c.args.place) (view c.args.value.now) c.in-Array.items.items c.in-Some.parts.now c.in-Some.word.now c.in_ok-operator.operator e1 e2 e3)) c.applied_at.ensures

pub one_at-returns : goal.one_at-returns
one_at-returns t c =
    let e = one_is (path_of c.args.place) c.args.parts.now c.part-item.result c.in-len1.len_at_least c.in-len1.len_below c.part-item.is in
    subst (λ r. Gives (λ x. x) c.expr_at.result r) (sym e) (search rules)

pub some_at-returns : goal.some_at-returns
some_at-returns t c =
    subst (λ r. Gives (λ x. x) c.parts_at.result r) (sym (some_is (path_of c.args.place) c.args.parts.now (search rules))) c.parts_at.ensures
