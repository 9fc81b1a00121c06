-- Known bytes over two calls.
use Rattle.std.proofs.Common.{ℕ, ◌+◌, List, ◌++◌, None, Some, Ok, Err, Result, OnErr, ap, ◌∙◌, append_assoc, take, drop, subst, sym}
use Rattle.std.proofs.Math.Seq.{take-add}
use Rattle.std.specs.declared.option.Option.{Option}
use Rattle.std.specs.Io.KnownBytes.{Appends, Consumes, Keeps}

-- bytes appended by one call and then by another are appended by both
pub Appends-trans : (a b c : Option (List ℕ)) (bs cs : List ℕ) → Appends a b bs → Appends b c cs → Appends a c (bs ++ cs)
Appends-trans None b c bs cs p q = tt
Appends-trans (Some x) None c bs cs p q = absurd p
Appends-trans (Some x) (Some y) None bs cs p q = absurd q
Appends-trans (Some x) (Some y) (Some z) bs cs p q = q ∙ ap (λ l. l ++ cs) p ∙ append_assoc x bs cs

-- n bytes of xs and then m of those after them are n + m bytes of xs
pub Appends-more : (a b c : Option (List ℕ)) (xs : List ℕ) (n m : ℕ) → Appends a b (take n xs) → Appends b c (take m (drop n xs)) → Appends a c (take (n + m) xs)
Appends-more a b c xs n m p q = subst (Appends a c) (sym (take-add n m xs)) (Appends-trans a b c _ _ p q)

-- what was appended stays appended if a later call changes nothing
pub Appends-kept : (a b c : Option (List ℕ)) (bs : List ℕ) → Appends a b bs → Keeps b c → Appends a c bs
Appends-kept None b c bs p q = tt
Appends-kept (Some x) None c bs p q = absurd p
Appends-kept (Some x) (Some y) None bs p q = absurd q
Appends-kept (Some x) (Some y) (Some z) bs p q = q ∙ p

-- bytes consumed by one call and then by another are consumed by both
pub Consumes-trans : (a b c : Option (List ℕ)) (bs cs : List ℕ) → Consumes a b bs → Consumes b c cs → Consumes a c (bs ++ cs)
Consumes-trans None b c bs cs p q = tt
Consumes-trans (Some x) None c bs cs p q = absurd p
Consumes-trans (Some x) (Some y) None bs cs p q = absurd q
Consumes-trans (Some x) (Some y) (Some z) bs cs p q = p ∙ ap (λ l. bs ++ l) q ∙ sym (append_assoc bs cs z)

-- a fact that always holds also holds if there is an error
pub Err-given : {T E P : Type 0} (r : Result T E) → P → OnErr r P
Err-given (Ok v) p = tt
Err-given (Err e) p = p
