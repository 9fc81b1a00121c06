-- How large the plans and tables are that a document can have.
use Rattle.std.specs.Prelude.{ℕ, ◌≤◌, ◌<◌, List, length, ⊤}
use Rattle.std.specs.List.{AllByRecursion}
use Rattle.pl_expr.specs.Entries.{entries_of}
use Rattle.pl_tree.specs.declared.schema.Schema.{Schema}
use Rattle.pl_tree.specs.declared.schema.Placing.{Placing}
use Rattle.pl_tree.specs.declared.schema.Placing.TheVariants.{Keyed, Dealt, Everywhere}
use Rattle.pl_tree.specs.Trees.{Tree, Scan, Filter, Project, Limit, Sort, Join, Single, Partial, Final, Gather, Redistribute, Broadcast, nodes_in}

-- no list of columns or calls is longer than 1024, and no predicate has more than 256 expressions and operands
abbrev pub HasSizes : Tree → Type 0
HasSizes (Scan t) = ⊤
HasSizes (Filter e c) = (length (entries_of e) ≤ 256) × HasSizes c
HasSizes (Project cols c) = (length cols ≤ 1024) × HasSizes c
HasSizes (Limit n c) = HasSizes c
HasSizes (Sort ks c) = HasSizes c
HasSizes (Join on l r) = HasSizes l × HasSizes r
HasSizes (Single g cs c) = (length g ≤ 1024) × (length cs ≤ 1024) × HasSizes c
HasSizes (Partial g cs c) = (length g ≤ 1024) × (length cs ≤ 1024) × HasSizes c
HasSizes (Final c) = HasSizes c
HasSizes (Gather o c) = HasSizes c
HasSizes (Redistribute ks c) = HasSizes c
HasSizes (Broadcast c) = HasSizes c

pub record IsPlan (tree : Tree) : Type 0 where
  pub nodes : nodes_in tree ≤ 64
  pub sizes : HasSizes tree

-- a key has columns, and they are the table's
abbrev pub IsPlaced : ℕ → Placing → Type 0
IsPlaced width (Keyed columns) = (0 < length columns) × AllByRecursion (λ c. c < width) columns
IsPlaced width Dealt = ⊤
IsPlaced width Everywhere = ⊤

pub record IsTable (schema : Schema) : Type 0 where
  pub columns : length schema.kinds ≤ 256
  pub place : IsPlaced (length schema.kinds) schema.place

abbrev pub AreTables : List Schema → Type 0
AreTables schemas = AllByRecursion IsTable schemas
