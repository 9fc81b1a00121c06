-- Bounds on where columns stand.
use Rattle.std.specs.Prelude.{ℕ, ◌+◌, ◌<◌, ⊤}
use Rattle.std.specs.List.{AllByRecursion}
use Rattle.pl_tree.specs.declared.schema.Locus.{Locus}
use Rattle.pl_tree.specs.declared.schema.Locus.TheVariants.{Entry, Hashed, Replicated, Strewn}

-- the columns of a hashed locus lie below this width, after so many others
abbrev pub IsWithin : ℕ → ℕ → Locus → Type 0
IsWithin width before Entry = ⊤
IsWithin width before (Hashed a) = AllByRecursion (λ c. before + c < width) a
IsWithin width before Replicated = ⊤
IsWithin width before Strewn = ⊤
