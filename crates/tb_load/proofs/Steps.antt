-- One row more, in the parts of a table.
use Rattle.std.proofs.Common.{◌≡◌, ℕ, ◌<◌, ◌%◌, List, [], ◌∷◌, ◌++◌, length, set, get_or, replicate, zero, suc, refl, ap, arith}
use Rattle.std.proofs.lemmas.List.FromFn.{length-map-range_with_len}
use Rattle.ic_row.specs.Hash.{segment_for}
use Rattle.pl_tree.specs.declared.schema.Placing.{Placing}
use Rattle.pl_tree.specs.declared.schema.Placing.TheVariants.{Keyed, Dealt, Everywhere}
use Rattle.pl_ops.specs.declared.loaded.Spread.TheVariants as spread
use Rattle.pl_ops.specs.Rows.{Line}
use Rattle.pl_ops.specs.Fitting.{placed_at}
use Rattle.tb_load.specs.Kept.{parts_of, kept_by}
use Rattle.tb_load.proofs.Parts.{parts_of_one_more, parts_of_none}

pub keyed_none : (columns : List ℕ) (n : ℕ) → replicate n [] ≡ parts_of (Keyed columns) n []
unfolding parts_of
keyed_none columns n = parts_of_none {R = Line} (λ row. segment_for columns row.1 n) n

pub keyed_more : (columns : List ℕ) (n s : ℕ) (rows : List Line) (row : Line) → s ≡ segment_for columns row n → s < n
    → set (parts_of (Keyed columns) n rows) s (get_or (parts_of (Keyed columns) n rows) s [] ++ row ∷ []) ≡ parts_of (Keyed columns) n (rows ++ row ∷ [])
unfolding parts_of
keyed_more columns n s rows row is lt = parts_of_one_more (λ x. segment_for columns x.1 n) n s rows row is lt

pub dealt_none : (n : ℕ) → replicate n [] ≡ parts_of Dealt n []
unfolding parts_of
dealt_none n = parts_of_none {R = Line} (λ row. row.0 % n) n

pub dealt_more : (n s : ℕ) (rows : List Line) (row : Line) → s ≡ length rows % n → s < n
    → set (parts_of Dealt n rows) s (get_or (parts_of Dealt n rows) s [] ++ row ∷ []) ≡ parts_of Dealt n (rows ++ row ∷ [])
unfolding parts_of
dealt_more n s rows row is lt = parts_of_one_more (λ x. x.0 % n) n s rows row is lt

pub length-keyed : (columns : List ℕ) (n : ℕ) (rows : List Line) → length (parts_of (Keyed columns) n rows) ≡ n
unfolding parts_of
length-keyed columns n rows = length-map-range_with_len (λ s. placed_at (Keyed columns) n s rows) 0 n

pub length-dealt : (n : ℕ) (rows : List Line) → length (parts_of Dealt n rows) ≡ n
unfolding parts_of
length-dealt n rows = length-map-range_with_len (λ s. placed_at Dealt n s rows) 0 n

-- where no segment is, there are no parts
none_at_none : (place : Placing) (n : ℕ) (rows : List Line) → n ≡ 0 → [] ≡ parts_of place n rows
unfolding parts_of
none_at_none place zero rows is = refl
none_at_none place (suc n) rows is = absurd (omega (arith, is))

pub kept_at_none : (place : Placing) (n : ℕ) (rows : List Line) → n ≡ 0 → (place ≡ Everywhere → ⊥) → spread.Apart [] ≡ kept_by place n rows
kept_at_none (Keyed columns) n rows is not = ap spread.Apart (none_at_none (Keyed columns) n rows is)
kept_at_none Dealt n rows is not = ap spread.Apart (none_at_none Dealt n rows is)
kept_at_none Everywhere n rows is not = absurd (not refl)
