-- What a project gives of its rows, row by row.
use Rattle.std.proofs.Common.{◌≡◌, ℕ, List, [], ◌∷◌, ◌++◌, refl, sym, ap, ◌∙◌, append-nil}
use Rattle.std.proofs.lemmas.List.{map-append}
use Rattle.ic_row.specs.Values.{key_of}
use Rattle.pl_ops.specs.declared.words.Side.{Side}
use Rattle.pl_ops.specs.declared.words.Side.TheVariants.{Left, Right}
use Rattle.pl_ops.specs.Rows.{Line, project_rows}
use Rattle.ex_basic.specs.Single.{Given}
use Rattle.ex_basic.specs.Projects.{Projecting, Gives, IsWanting}

pub projected_nothing : (columns : List ℕ) → project_rows columns [] ≡ []
unfolding project_rows
projected_nothing columns = refl

projected_more : (columns : List ℕ) (rows : List Line) (row : Line) → project_rows columns (rows ++ row ∷ []) ≡ project_rows columns rows ++ key_of columns row ∷ []
unfolding project_rows
projected_more columns rows row = map-append (key_of columns) rows (row ∷ [])

none_pending : (side : Side) (p : Projecting) → IsWanting side p → p.pending ≡ []
none_pending Left p w = w.1
none_pending Right p w = absurd w

pub row_given : (columns : List ℕ) (p : Projecting) (side : Side) (row chosen : Line) → IsWanting side p → chosen ≡ key_of p.columns row
    → Given (Gives columns) p (record { columns = p.columns; pending = chosen ∷ []; ended = p.ended; failed = p.failed }) row
row_given columns p side row chosen w h = λ s a e g. record {
  columns_are = g.columns_are;
  told = g.told;
  rows =
      ap (λ l. l ++ chosen ∷ []) (sym (append-nil a) ∙ ap (λ l. a ++ l) (sym (none_pending side p w)) ∙ g.rows)
      ∙ ap (λ l. project_rows columns s.rows ++ l ∷ []) (h ∙ ap (λ l. key_of l row) g.columns_are)
      ∙ sym (projected_more columns s.rows row);
}
