-- Where columns stand among others.
use Rattle.std.specs.Prelude.{ℕ, ◌+◌, ◌==◌, List, [], ◌∷◌, Option, Some, None}
use Rattle.std.specs.List.{position_from}

-- the first place of a column, from 0
abbrev pub place_of : ℕ → List ℕ → Option ℕ
place_of column columns = position_from (λ c. c == column) 0 columns

abbrev pub both : Option ℕ → Option (List ℕ) → Option (List ℕ)
both (Some n) (Some ns) = Some (n ∷ ns)
both (Some n) None = None
both None ns = None

-- the first places of some columns, in their order, or None if one isn't there
abbrev pub places_of : List ℕ → List ℕ → Option (List ℕ)
places_of [] columns = Some []
places_of (a ∷ more) columns = both (place_of a columns) (places_of more columns)
