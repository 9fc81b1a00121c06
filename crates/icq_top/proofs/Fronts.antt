-- A front of the lines that a sink was to take.
use Rattle.std.proofs.Common.{Result, Ok, Err, OnOk, ◌≡◌, ℕ, ◌+◌, ◌<◌, List, [], ◌∷◌, ◌++◌, length, take, drop, map, get_or, sym, ap, ◌∙◌, subst, arith, append_assoc, append-nil, length-append}
use Rattle.std.proofs.lemmas.List.{take-append-le, take-append-drop, take_more, length-map}
use Rattle.std.proofs.lemmas.List.Folds.{concat-append}
use Rattle.std.proofs.Math.ListN.{get_or-map}
use Rattle.std.proofs.Math.Seq.{take-append-add}
use Rattle.std.specs.List.{concat}
use Rattle.std.specs.declared.option.Option.{Option}
use Rattle.std.specs.Io.KnownBytes.{Appends}
use Rattle.ic_edge.specs.Causes.{TakesAFront}
use Rattle.ic_edge.proofs.Known.{Appends-trans}
use Rattle.icq_top.specs.Print.{WroteLines}

-- the whole, cut behind n lines
pub concat-cut : (ls : List (List ℕ)) (n : ℕ) → concat ls ≡ concat (take n ls) ++ concat (drop n ls)
concat-cut ls n = ap concat (sym (take-append-drop n ls)) ∙ concat-append (take n ls) (drop n ls)

-- one line more
pub concat-take_more : {X : Type 0} (f : X → List ℕ) (xs : List X) (x : X) (i : ℕ) → i < length xs → get_or xs i x ≡ x
    → concat (take (i + 1) (map f xs)) ≡ concat (take i (map f xs)) ++ f x
concat-take_more f xs x i lt is =
    ap concat (take_more (map f xs) i (f x) (omega (arith, lt, length-map xs f)))
    ∙ concat-append (take i (map f xs)) (get_or (map f xs) i (f x) ∷ [])
    ∙ ap (λ l. concat (take i (map f xs)) ++ l) (append-nil (get_or (map f xs) i (f x)) ∙ get_or-map f xs i x ∙ ap f is)

-- a front of what stands behind a piece
pub front_behind : (before behind rest : List ℕ) (n : ℕ) (a b c : Option (List ℕ)) → n < length behind
    → Appends a b before → Appends b c (take n behind) → TakesAFront a c (before ++ behind ++ rest)
front_behind before behind rest n a b c lt p q =
    let whole : before ++ behind ++ rest ≡ before ++ (behind ++ rest) = append_assoc before behind rest in (
      length before + n,
      omega (arith, lt, length-append (before ++ behind) rest, length-append before behind),
      subst (Appends a c) (sym (ap (take (length before + n)) whole ∙ take-append-add before (behind ++ rest) n ∙ ap (λ l. before ++ l) (take-append-le n behind rest (omega (arith, lt)))))
          (Appends-trans a b c before (take n behind) p q),
    )

-- some whole lines, and then a front of the next
pub front_of_lines : {X : Type 0} (f : X → List ℕ) (xs : List X) (x : X) (i : ℕ) (a b c : Option (List ℕ)) → i < length xs → get_or xs i x ≡ x
    → Appends a b (concat (take i (map f xs))) → TakesAFront b c (f x) → TakesAFront a c (concat (map f xs))
front_of_lines f xs x i a b c lt is p (n, le, q) =
    let whole : concat (map f xs) ≡ concat (take i (map f xs)) ++ f x ++ concat (drop (i + 1) (map f xs)) =
    concat-cut (map f xs) (i + 1) ∙ ap (λ l. l ++ concat (drop (i + 1) (map f xs))) (concat-take_more f xs x i lt is) in
    subst (TakesAFront a c) (sym whole) (front_behind (concat (take i (map f xs))) (f x) (concat (drop (i + 1) (map f xs))) n a b c le p q)

pub lines_more : {X : Type 0} (f : X → List ℕ) (xs : List X) (x : X) (i : ℕ) (a b c : Option (List ℕ)) → i < length xs → get_or xs i x ≡ x
    → Appends a b (concat (take i (map f xs))) → Appends b c (f x) → Appends a c (concat (take (i + 1) (map f xs)))
lines_more f xs x i a b c lt is p q = subst (Appends a c) (sym (concat-take_more f xs x i lt is)) (Appends-trans a b c (concat (take i (map f xs))) (f x) p q)

-- ---- two texts, one behind the other

pub front_of_first : (a b : Option (List ℕ)) (xs ys : List (List ℕ)) → TakesAFront a b (concat xs) → TakesAFront a b (concat (xs ++ ys))
front_of_first a b xs ys (n, lt, p) =
    let whole = concat-append xs ys in (
      n,
      omega (arith, lt, ap length whole, length-append (concat xs) (concat ys)),
      subst (Appends a b) (sym (ap (take n) whole ∙ take-append-le n (concat xs) (concat ys) (omega (arith, lt)))) p,
    )

pub front_of_second : (a b c : Option (List ℕ)) (xs ys : List (List ℕ)) → Appends a b (concat xs) → TakesAFront b c (concat ys) → TakesAFront a c (concat (xs ++ ys))
front_of_second a b c xs ys p (n, lt, q) =
    subst (TakesAFront a c) (append-nil (concat xs ++ concat ys) ∙ sym (concat-append xs ys)) (front_behind (concat xs) (concat ys) [] n a b c lt p q)

pub lines_of_first : (a b : Option (List ℕ)) (xs ys : List (List ℕ)) → WroteLines a b xs → WroteLines a b (xs ++ ys)
lines_of_first a b xs ys (n, le, p) = (n, omega (arith, le, length-append xs ys), subst (Appends a b) (ap concat (sym (take-append-le n xs ys le))) p)

pub lines_of_second : (a b c : Option (List ℕ)) (xs ys : List (List ℕ)) → Appends a b (concat xs) → WroteLines b c ys → WroteLines a c (xs ++ ys)
lines_of_second a b c xs ys p (n, le, q) = (
  length xs + n,
  omega (arith, le, length-append xs ys),
  subst (Appends a c) (sym (ap concat (take-append-add xs ys n) ∙ concat-append xs (take n ys))) (Appends-trans a b c (concat xs) (concat (take n ys)) p q),
)

pub both_texts : (a b c : Option (List ℕ)) (xs ys : List (List ℕ)) → Appends a b (concat xs) → Appends b c (concat ys) → Appends a c (concat (xs ++ ys))
both_texts a b c xs ys p q = subst (Appends a c) (sym (concat-append xs ys)) (Appends-trans a b c (concat xs) (concat ys) p q)

pub OnOk-then : {T E P Q : Type 0} (r : Result T E) → (P → Q) → OnOk r P → OnOk r Q
OnOk-then (Ok x) f p = f p
OnOk-then (Err e) f p = p
