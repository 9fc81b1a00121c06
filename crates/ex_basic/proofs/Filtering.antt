-- What a filter gives of its rows, row by row.
use Rattle.std.proofs.Common.{◌≡◌, List, [], ◌∷◌, ◌++◌, refl, sym, ap, ◌∙◌, append-nil}
use Rattle.std.proofs.lemmas.List.Elements.{filter-append}
use Rattle.pl_expr.specs.declared.expr.Expr.{Expr}
use Rattle.pl_expr.specs.Holding.{keeps}
use Rattle.pl_ops.specs.declared.words.Side.{Side}
use Rattle.pl_ops.specs.declared.words.Side.TheVariants.{Left, Right}
use Rattle.pl_ops.specs.Rows.{Line, filter_rows}
use Rattle.ex_basic.specs.Single.{Given}
use Rattle.ex_basic.specs.Filters.{Filtering, Gives, IsWanting}

pub filtered_nothing : (test : Expr) → filter_rows test [] ≡ []
unfolding filter_rows
filtered_nothing test = refl

filtered_both : (test : Expr) (xs ys : List Line) → filter_rows test (xs ++ ys) ≡ filter_rows test xs ++ filter_rows test ys
unfolding filter_rows
filtered_both test xs ys = filter-append (keeps test) xs ys

none_pending : (side : Side) (f : Filtering) → IsWanting side f → f.pending ≡ []
none_pending Left f w = w.1
none_pending Right f w = absurd w

pub row_given : (test : Expr) (f : Filtering) (side : Side) (row : Line) (pending : List Line) → IsWanting side f → pending ≡ filter_rows f.test (row ∷ [])
    → Given (Gives test) f (record { test = f.test; pending = pending; ended = f.ended }) row
row_given test f side row pending w h = λ s a e g. record {
  test_is = g.test_is;
  told = g.told;
  rows =
      ap (λ l. l ++ pending) (sym (append-nil a) ∙ ap (λ l. a ++ l) (sym (none_pending side f w)) ∙ g.rows)
      ∙ ap (λ l. filter_rows test s.rows ++ l) (h ∙ ap (λ t. filter_rows t (row ∷ [])) g.test_is)
      ∙ sym (filtered_both test s.rows (row ∷ []));
}
