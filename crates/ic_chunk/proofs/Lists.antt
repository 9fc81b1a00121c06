-- Facts of lists, their elements and their joins.
use Rattle.std.proofs.Common.{◌≡◌, List, [], ◌∷◌, ◌++◌, refl, ap, sym, ◌∙◌, append_assoc, append-nil}
use Rattle.std.specs.List.{AllByRecursion, AllZip}
use Rattle.ic_chunk.specs.Assembly.{together}

pub all_both : {A : Type 0} (P : A → Type 0) (xs ys : List A) → AllByRecursion P xs → AllByRecursion P ys → AllByRecursion P (xs ++ ys)
all_both P [] ys h k = k
all_both P (x ∷ xs) ys h k = (h.0, all_both P xs ys h.1 k)

pub all_front : {A : Type 0} (P : A → Type 0) (xs ys : List A) → AllByRecursion P (xs ++ ys) → AllByRecursion P xs
all_front P [] ys h = tt
all_front P (x ∷ xs) ys h = (h.0, all_front P xs ys h.1)

pub all_back : {A : Type 0} (P : A → Type 0) (xs ys : List A) → AllByRecursion P (xs ++ ys) → AllByRecursion P ys
all_back P [] ys h = h
all_back P (x ∷ xs) ys h = all_back P xs ys h.1

pub all_by : {A : Type 0} (P Q : A → Type 0) → ((x : A) → P x → Q x) → (xs : List A) → AllByRecursion P xs → AllByRecursion Q xs
all_by P Q f [] h = tt
all_by P Q f (x ∷ xs) h = (f x h.0, all_by P Q f xs h.1)

pub zip_both : {A B : Type 0} (R : A → B → Type 0) (as_ xs : List A) (bs ys : List B) → AllZip R as_ bs → AllZip R xs ys → AllZip R (as_ ++ xs) (bs ++ ys)
zip_both R [] xs [] ys h k = k
zip_both R [] xs (b ∷ bs) ys h k = absurd h
zip_both R (a ∷ as_) xs [] ys h k = absurd h
zip_both R (a ∷ as_) xs (b ∷ bs) ys h k = (h.0, zip_both R as_ xs bs ys h.1 k)

pub together-append : {A : Type 0} (xss yss : List (List A)) → together (xss ++ yss) ≡ together xss ++ together yss
together-append [] yss = refl
together-append (xs ∷ xss) yss = ap (λ l. xs ++ l) (together-append xss yss) ∙ sym (append_assoc xs (together xss) (together yss))

-- one more at the end
pub together-push : {A : Type 0} (xss : List (List A)) (xs : List A) → together (xss ++ xs ∷ []) ≡ together xss ++ xs
together-push xss xs = together-append xss (xs ∷ []) ∙ ap (λ l. together xss ++ l) (append-nil xs)
