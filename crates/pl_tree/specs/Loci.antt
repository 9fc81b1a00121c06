-- The locus of a node.
use Rattle.std.specs.Prelude.{ℕ, ◌+◌, List, map, Option, Some, None}
use Rattle.pl_tree.specs.declared.schema.Schema.{Schema}
use Rattle.pl_tree.specs.declared.schema.Placing.{Placing}
use Rattle.pl_tree.specs.declared.schema.Placing.TheVariants.{Keyed, Dealt, Everywhere}
use Rattle.pl_tree.specs.declared.schema.Locus.{Locus}
use Rattle.pl_tree.specs.declared.schema.Locus.TheVariants.{Entry, Hashed, Replicated, Strewn}
use Rattle.pl_tree.specs.Trees.{Tree, Scan, Filter, Project, Limit, Sort, Join, Single, Partial, Final, Gather, Redistribute, Broadcast}
use Rattle.pl_tree.specs.Columns.{schema_named, width_of}
use Rattle.pl_tree.specs.Places.{places_of}

-- hashed by its key, or everywhere, or one here and one there
abbrev pub placed : Placing → Locus
placed (Keyed key) = Hashed key
placed Dealt = Strewn
placed Everywhere = Replicated

abbrev pub table_locus : Option Schema → Locus
table_locus None = Strewn
table_locus (Some schema) = placed schema.place

abbrev pub hashed_at : Option (List ℕ) → Locus
hashed_at None = Strewn
hashed_at (Some columns) = Hashed columns

-- of output columns that are some input columns: hashed by the same columns at their first places, unless one is dropped
abbrev pub moved_to : List ℕ → Locus → Locus
moved_to columns Entry = Entry
moved_to columns (Hashed a) = hashed_at (places_of a columns)
moved_to columns Replicated = Replicated
moved_to columns Strewn = Strewn

-- the right columns stand after the left ones
abbrev pub behind : ℕ → List ℕ → List ℕ
behind width columns = map (λ c. width + c) columns

-- of a join whose left side has this many columns: what isn't replicated says where the pairs stand
abbrev pub joined_locus : ℕ → Locus → Locus → Locus
joined_locus width Entry Entry = Entry
joined_locus width (Hashed a) (Hashed b) = Hashed a
joined_locus width (Hashed a) Replicated = Hashed a
joined_locus width Replicated (Hashed b) = Hashed (behind width b)
joined_locus width Replicated Replicated = Replicated
joined_locus width _ _ = Strewn

-- an aggregate gives its group first; a final's group are the first columns of its child already
abbrev pub locus_of : List Schema → Tree → Locus
locus_of s (Scan t) = table_locus (schema_named t s)
locus_of s (Filter e c) = locus_of s c
locus_of s (Project cols c) = moved_to cols (locus_of s c)
locus_of s (Limit n c) = locus_of s c
locus_of s (Sort ks c) = locus_of s c
locus_of s (Join on l r) = joined_locus (width_of s l) (locus_of s l) (locus_of s r)
locus_of s (Single g cs c) = moved_to g (locus_of s c)
locus_of s (Partial g cs c) = moved_to g (locus_of s c)
locus_of s (Final c) = locus_of s c
locus_of s (Gather o c) = Entry
locus_of s (Redistribute ks c) = Hashed ks
locus_of s (Broadcast c) = Replicated
