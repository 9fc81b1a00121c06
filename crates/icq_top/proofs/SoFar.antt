-- What was read so far.
use Rattle.std.proofs.Common.{◌≡◌, List, [], ◌∷◌, ◌++◌, Option, Some, None, refl, ap, append_assoc}
use Rattle.icq_top.specs.Steps.{◌>>=◌}

-- what was read so far, in front of what is left to read
abbrev pub after : {A : Type 0} → List A → Option (List A) → Option (List A)
after front (Some xs) = Some (front ++ xs)
after front None = None

pub after-more : {A : Type 0} (front : List A) (x : A) (r : Option (List A)) → after (front ++ x ∷ []) r ≡ after front (r >>= λ xs. Some (x ∷ xs))
after-more front x (Some xs) = ap Some (append_assoc front (x ∷ []) xs)
after-more front x None = refl
