-- Names among others.
use Rattle.std.proofs.Common.{◌≡◌, ℕ, List, [], ◌∷◌, map, ◌||◌, refl, ap, Bor}
use Rattle.std.specs.List.{list_any}
use Rattle.std.specs.Str.{bytes_eq}
use Rattle.pl_read.specs.declared.table.Table.{Table}
use Rattle.pl_read.specs.Members.{is_among}
use Rattle.pl_read.specs.Tables.{names_of}

-- among names where they lie
pub among_views : (name : List ℕ) (names : List (Bor (List ℕ))) → is_among name (map (λ known. known.now) names) ≡ list_any (λ known. bytes_eq known.now name) names
among_views name [] = refl
among_views name (known ∷ names) = ap (λ b. bytes_eq known.now name || b) (among_views name names)

pub among_tables : (name : List ℕ) (tables : List Table) → is_among name (names_of tables) ≡ list_any (λ table. bytes_eq table.schema.name name) tables
among_tables name [] = refl
among_tables name (table ∷ tables) = ap (λ b. bytes_eq table.schema.name name || b) (among_tables name tables)
