-- What was read so far.
use Rattle.std.proofs.Common.{◌≡◌, List, [], ◌∷◌, ◌++◌, Result, Ok, Err, refl, ap, append_assoc}
use Rattle.pl_read.specs.declared.fault.DocFault.{DocFault}
use Rattle.pl_read.specs.Faults.{◌>>=◌}

-- what was read so far, in front of what is left to read
abbrev pub after : {A : Type 0} → List A → Result (List A) DocFault → Result (List A) DocFault
after front (Ok xs) = Ok (front ++ xs)
after front (Err fault) = Err fault

pub after-more : {A : Type 0} (front : List A) (x : A) (r : Result (List A) DocFault) → after (front ++ x ∷ []) r ≡ after front (r >>= λ xs. Ok (x ∷ xs))
after-more front x (Ok xs) = ap Ok (append_assoc front (x ∷ []) xs)
after-more front x (Err fault) = refl
