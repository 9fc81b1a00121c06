-- Where a value stands in a document.
use Rattle.std.specs.Prelude.{ℕ, List, [], ◌∷◌, ◌++◌, codes, decimal}
use Rattle.pl_read.specs.declared.place.Place.{Place, fold-Place}
use Rattle.pl_read.specs.declared.place.Place.TheOpen.{Place-F}

-- a member by its name, or an item of an array by its number from 0
pub data Step : Type 0 where
  member : List ℕ → Step
  index : ℕ → Step

-- the steps of a path from the value outwards, as a text from the document inwards
abbrev pub text_of : List Step → List ℕ
text_of [] = codes "$"
text_of (member name ∷ around) = text_of around ++ codes "." ++ name
text_of (index i ∷ around) = text_of around ++ codes "[" ++ decimal i ++ codes "]"

-- ---- the program's places

abbrev pub path_step : Place-F (List Step) → List Step
path_step Place-F.Document = []
path_step (Place-F.Member around name) = member name.now ∷ around.now
path_step (Place-F.Item around at) = index at ∷ around.now

abbrev pub path_of : Place → List Step
path_of = fold-Place (List Step) path_step
