-- What every document that is read keeps to.
use Rattle.std.specs.Prelude.{◌≡◌, ◌≤◌, List, [], ◌∷◌, length, map, ⊤}
use Rattle.std.specs.List.{AllByRecursion}
use Rattle.ic_base.specs.Settings.{AreChecked}
use Rattle.ic_row.specs.declared.value.Kind.{Kind}
use Rattle.ic_row.specs.declared.value.Kind.TheVariants as kind
use Rattle.ic_row.specs.declared.value.Value.{Value}
use Rattle.ic_row.specs.declared.value.Value.TheVariants.{Null, Int, Wide, Chars}
use Rattle.ic_row.specs.Spelling.{FitsLength}
use Rattle.pl_tree.specs.Trees.{tree_in}
use Rattle.pl_tree.specs.Sizes.{IsPlan, AreTables}
use Rattle.pl_read.specs.declared.table.Table.{Table}
use Rattle.pl_read.specs.declared.document.Document.{Document}

-- each row has one value for each column
abbrev pub HasWidths : Table → Type 0
HasWidths table = AllByRecursion (λ row. length row ≡ length table.schema.kinds) table.rows

abbrev pub IsInt : Kind → Type 0
IsInt kind.Int = ⊤
IsInt kind.Wide = ⊥
IsInt kind.Chars = ⊥

abbrev pub IsChars : Kind → Type 0
IsChars kind.Int = ⊥
IsChars kind.Wide = ⊥
IsChars kind.Chars = ⊤

-- null, or a value of this kind; no column of a document holds wides
abbrev pub IsOf : Kind → Value → Type 0
IsOf k Null = ⊤
IsOf k (Int n) = IsInt k
IsOf k (Wide n) = ⊥
IsOf k (Chars text) = IsChars k

-- a value for each column, of its kind
abbrev pub FitsColumns : List Kind → List Value → Type 0
FitsColumns [] [] = ⊤
FitsColumns [] (v ∷ vs) = ⊥
FitsColumns (k ∷ ks) [] = ⊥
FitsColumns (k ∷ ks) (v ∷ vs) = IsOf k v × FitsColumns ks vs

abbrev pub HasKinds : Table → Type 0
HasKinds table = AllByRecursion (FitsColumns table.schema.kinds) table.rows

pub record IsDocument (document : Document) : Type 0 where
  pub least_session : 1 ≤ document.session
  pub greatest_session : document.session ≤ 2147483647
  pub least_segments : 1 ≤ document.segments
  pub greatest_segments : document.segments ≤ 64
  pub settings : AreChecked document.settings
  pub table_count : length document.tables ≤ 64
  pub tables : AreTables (map (λ table. table.schema) document.tables)
  pub rows : AllByRecursion HasWidths document.tables
  pub values : AllByRecursion HasKinds document.tables
  pub query_count : length document.queries ≤ 64
  pub queries : AllByRecursion (λ plan. IsPlan (tree_in plan)) document.queries

-- no text of a row is too long to be spelled
abbrev pub HasShortTexts : Document → Type 0
HasShortTexts document = AllByRecursion (λ table. AllByRecursion (AllByRecursion FitsLength) table.rows) document.tables
