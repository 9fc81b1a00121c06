-- The columns that a node gives, as the list of their kinds.
use Rattle.std.specs.Prelude.{ℕ, Bool, true, false, ◌==◌, ◌&&◌, if◌then◌else◌, List, [], ◌∷◌, ◌++◌, map, length, get_or, Option, Some, None}
use Rattle.ic_row.specs.declared.value.Kind.{Kind}
use Rattle.ic_row.specs.declared.value.Kind.TheVariants as kind
use Rattle.pl_tree.specs.declared.schema.Schema.{Schema}
use Rattle.pl_tree.specs.declared.node.Call.{Call}
use Rattle.pl_tree.specs.declared.node.Call.TheVariants.{Count, CountOf, Sum, Min, Max}
use Rattle.pl_tree.specs.Trees.{Tree, Scan, Filter, Project, Limit, Sort, Join, Single, Partial, Final, Gather, Redistribute, Broadcast}

-- byte by byte
abbrev pub same_text : List ℕ → List ℕ → Bool
same_text [] [] = true
same_text [] (y ∷ ys) = false
same_text (x ∷ xs) [] = false
same_text (x ∷ xs) (y ∷ ys) = (x == y) && same_text xs ys

-- the table of this name
abbrev pub schema_named : List ℕ → List Schema → Option Schema
schema_named name [] = None
schema_named name (schema ∷ schemas) = if same_text schema.name name then Some schema else schema_named name schemas

abbrev pub table_kinds : Option Schema → List Kind
table_kinds None = []
table_kinds (Some schema) = schema.kinds

-- the kind of a column; past the last one, which no sound plan names, an int
abbrev pub kind_at : List Kind → ℕ → Kind
kind_at kinds c = get_or kinds c kind.Int

abbrev pub chosen_kinds : List Kind → List ℕ → List Kind
chosen_kinds kinds columns = map (kind_at kinds) columns

-- a count is an int, a sum is a wide, and a least or greatest value keeps its kind
abbrev pub call_kind : List Kind → Call → Kind
call_kind kinds Count = kind.Int
call_kind kinds (CountOf c) = kind.Int
call_kind kinds (Sum c) = kind.Wide
call_kind kinds (Min c) = kind_at kinds c
call_kind kinds (Max c) = kind_at kinds c

-- the group's columns, and one for each call
abbrev pub aggregate_kinds : List Kind → List ℕ → List Call → List Kind
aggregate_kinds kinds group calls = chosen_kinds kinds group ++ map (call_kind kinds) calls

-- a final gives the columns of its partial, which are its child's
abbrev pub kinds_of : List Schema → Tree → List Kind
kinds_of s (Scan t) = table_kinds (schema_named t s)
kinds_of s (Filter e c) = kinds_of s c
kinds_of s (Project cols c) = chosen_kinds (kinds_of s c) cols
kinds_of s (Limit n c) = kinds_of s c
kinds_of s (Sort ks c) = kinds_of s c
kinds_of s (Join on l r) = kinds_of s l ++ kinds_of s r
kinds_of s (Single g cs c) = aggregate_kinds (kinds_of s c) g cs
kinds_of s (Partial g cs c) = aggregate_kinds (kinds_of s c) g cs
kinds_of s (Final c) = kinds_of s c
kinds_of s (Gather o c) = kinds_of s c
kinds_of s (Redistribute ks c) = kinds_of s c
kinds_of s (Broadcast c) = kinds_of s c

-- how many columns a node gives
abbrev pub width_of : List Schema → Tree → ℕ
width_of s tree = length (kinds_of s tree)
