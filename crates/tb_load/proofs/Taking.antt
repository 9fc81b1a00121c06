-- The first of a list, taken out.
use Rattle.std.proofs.Common.{◌≡◌, List, [], ◌∷◌, ◌++◌, map, Some, refl, ap, sym, ◌∙◌, append_assoc}
use Rattle.std.specs.List.{slice_get, remove}
use Rattle.std.proofs.lemmas.Option.{same_Some}

pub head_and_rest : {A : Type 0} (xs rest : List A) (x : A) → slice_get xs 0 ≡ Some x → rest ≡ remove xs 0 → xs ≡ x ∷ rest
head_and_rest [] rest x at is = absurd cc
head_and_rest (y ∷ xs) rest x at is = ap (λ z. z ∷ xs) (same_Some y x at) ∙ ap (λ l. x ∷ l) (sym is)

-- one more in front of what is left to map
pub moved_one : {A B : Type 0} (f : A → B) (done : List B) (x : A) (rest all : List A) → done ++ map f (x ∷ rest) ≡ map f all → (done ++ f x ∷ []) ++ map f rest ≡ map f all
moved_one f done x rest all e = append_assoc done (f x ∷ []) (map f rest) ∙ e
