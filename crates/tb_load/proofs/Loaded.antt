-- Where the rows of a loaded document stand.
use Rattle.std.proofs.Common.{◌≡◌, ℕ, zero, suc, ◌+◌, ◌<◌, ◌≤◌, ◌%◌, ℤ, pos, negsuc, List, [], ◌++◌, Some, ◌==◌, refl, ap, sym, ◌∙◌, subst, arith}
use Rattle.std.specs.List.{AllByRecursion, range_with_len, flat_map, slice_get}
use Rattle.std.specs.List.Sorted.{IsPermutation}
use Rattle.std.proofs.lemmas.Bool.{eqb-true}
use Rattle.std.proofs.lemmas.Nat.{mod_below}
use Rattle.ic_row.specs.Hash.{segment_for}
use Rattle.pl_tree.specs.declared.schema.Placing.{Placing}
use Rattle.pl_tree.specs.declared.schema.Placing.TheVariants.{Keyed, Dealt, Everywhere}
use Rattle.pl_read.specs.declared.table.Table.{Table}
use Rattle.pl_read.specs.declared.document.Document.{Document}
use Rattle.pl_ops.specs.Rows.{Line}
use Rattle.pl_ops.specs.Placed.{rows_at, in_table, or_none, spread_at}
use Rattle.pl_ops.specs.Fitting.{placed_at}
use Rattle.tb_load.specs.Kept.{parts_of, kept_by, spread_of, loaded_of}
use Rattle.tb_load.specs.Standing.{StandWherePlaced, StandOnce, IsWhole, StandByKey, IsByKey, StandNowhereElse, IsNotPast}
use Rattle.tb_load.specs.Laws.{PlacedOnce}
use Rattle.tb_load.proofs.Choosing.{chosen-every, chosen-pass}
use Rattle.tb_load.proofs.Whole.{each_once}
use Rattle.tb_load.proofs.Looking.{get_map, range_get, range_past}

-- ---- one table

part_is : (place : Placing) (n : ℕ) (rows : List Line) (s : ℕ) → s < n → or_none (slice_get (parts_of place n rows) s) ≡ placed_at place n s rows
unfolding parts_of
part_is place n rows s lt = ap or_none (range_get (λ segment. placed_at place n segment rows) n s lt)

part_past : (place : Placing) (n : ℕ) (rows : List Line) (s : ℕ) → n ≤ s → or_none (slice_get (parts_of place n rows) s) ≡ []
unfolding parts_of
part_past place n rows s le = ap or_none (range_past (λ segment. placed_at place n segment rows) n s le)

everywhere : (n s : ℕ) (rows : List Line) → rows ≡ placed_at Everywhere n s rows
everywhere n s rows = sym (chosen-every 0 rows)

kept_is : (place : Placing) (n : ℕ) (rows : List Line) (s : ℕ) → s < n → spread_at (kept_by place n rows) (pos s) ≡ placed_at place n s rows
kept_is (Keyed columns) n rows s lt = part_is (Keyed columns) n rows s lt
kept_is Dealt n rows s lt = part_is Dealt n rows s lt
kept_is Everywhere n rows s lt = everywhere n s rows

-- ---- each table of a document

at_table : (d : Document) (t : ℕ) (table : Table) → slice_get d.tables t ≡ Some table → (at : ℤ) → rows_at (loaded_of d) t at ≡ spread_at (spread_of d.segments table) at
at_table d t table is at = ap (λ o. in_table o at) (get_map (spread_of d.segments) d.tables t table is)

pub where_placed : (d : Document) → StandWherePlaced d (loaded_of d)
where_placed d t table is s lt = at_table d t table is (pos s) ∙ kept_is table.schema.place d.segments table.rows s lt

-- ---- each once

keyed_below : (columns : List ℕ) (row : Line) (n : ℕ) → 0 < n → segment_for columns row n < n
unfolding segment_for
keyed_below columns row n some = mod_below _ n some

keyed_once : (columns : List ℕ) (n : ℕ) (rows : List Line) → 0 < n → IsPermutation rows (flat_map (λ s. placed_at (Keyed columns) n s rows) (range_with_len 0 n))
keyed_once columns n rows some = each_once (λ row. segment_for columns row.1 n) n (λ row. keyed_below columns row.1 n some) 0 rows

dealt_once : (n : ℕ) (rows : List Line) → 0 < n → IsPermutation rows (flat_map (λ s. placed_at Dealt n s rows) (range_with_len 0 n))
dealt_once n rows some = each_once (λ row. row.0 % n) n (λ row. mod_below row.0 n some) 0 rows

pub placed_once : PlacedOnce
placed_once (Keyed columns) n rows apart some = keyed_once columns n rows some
placed_once Dealt n rows apart some = dealt_once n rows some
placed_once Everywhere n rows apart some = absurd apart

same_over : {R : Type 0} (f g : ℕ → List R) (a n end : ℕ) → a + n ≡ end → ((s : ℕ) → s < end → f s ≡ g s) → flat_map f (range_with_len a n) ≡ flat_map g (range_with_len a n)
same_over f g a zero end is same = refl
same_over f g a (suc n) end is same =
    ap (λ l. l ++ flat_map f (range_with_len (a + 1) n)) (same a (omega (arith, is)))
    ∙ ap (λ l. g a ++ l) (same_over f g (a + 1) n end (omega (arith, is)) same)

whole_of : (place : Placing) (d : Document) (t : ℕ) (rows : List Line) → ((s : ℕ) → s < d.segments → rows_at (loaded_of d) t (pos s) ≡ placed_at place d.segments s rows) → IsWhole place d (loaded_of d) t rows
whole_of (Keyed columns) d t rows is = λ some.
    subst (IsPermutation rows) (sym (same_over (λ s. rows_at (loaded_of d) t (pos s)) (λ s. placed_at (Keyed columns) d.segments s rows) 0 d.segments d.segments (omega arith) is))
    (keyed_once columns d.segments rows some)
whole_of Dealt d t rows is = λ some.
    subst (IsPermutation rows) (sym (same_over (λ s. rows_at (loaded_of d) t (pos s)) (λ s. placed_at Dealt d.segments s rows) 0 d.segments d.segments (omega arith) is))
    (dealt_once d.segments rows some)
whole_of Everywhere d t rows is = λ s lt. is s lt ∙ sym (everywhere d.segments s rows)

pub once : (d : Document) → StandOnce d (loaded_of d)
once d t table is = whole_of table.schema.place d t table.rows (where_placed d t table is)

-- ---- by key

by_key_of : (place : Placing) (d : Document) (t : ℕ) (rows : List Line) → ((s : ℕ) → s < d.segments → rows_at (loaded_of d) t (pos s) ≡ placed_at place d.segments s rows) → IsByKey place d (loaded_of d) t
by_key_of (Keyed columns) d t rows is = λ s lt.
    subst (AllByRecursion (λ row. segment_for columns row d.segments ≡ s)) (sym (is s lt))
    (chosen-pass (λ row. segment_for columns row d.segments ≡ s) (λ row. segment_for columns row.1 d.segments == s) (λ i row e. eqb-true (segment_for columns row d.segments) s e) 0 rows)
by_key_of Dealt d t rows is = tt
by_key_of Everywhere d t rows is = tt

pub by_key : (d : Document) → StandByKey d (loaded_of d)
by_key d t table is = by_key_of table.schema.place d t table.rows (where_placed d t table is)

-- ---- nowhere else

not_past : (place : Placing) (d : Document) (t : ℕ) (rows : List Line) → ((at : ℤ) → rows_at (loaded_of d) t at ≡ spread_at (kept_by place d.segments rows) at) → IsNotPast place d (loaded_of d) t
not_past (Keyed columns) d t rows is = λ s le. is (pos s) ∙ part_past (Keyed columns) d.segments rows s le
not_past Dealt d t rows is = λ s le. is (pos s) ∙ part_past Dealt d.segments rows s le
not_past Everywhere d t rows is = tt

not_above : (place : Placing) (n : ℕ) (rows : List Line) → spread_at (kept_by place n rows) (negsuc 0) ≡ []
not_above (Keyed columns) n rows = refl
not_above Dealt n rows = refl
not_above Everywhere n rows = refl

pub nowhere_else : (d : Document) → StandNowhereElse d (loaded_of d)
nowhere_else d t table is =
    (not_past table.schema.place d t table.rows (at_table d t table is), at_table d t table is (negsuc 0) ∙ not_above table.schema.place d.segments table.rows)
