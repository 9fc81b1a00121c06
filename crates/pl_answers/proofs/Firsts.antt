-- The first n rows of a merge are the top n of all.
use Rattle.std.proofs.Common.{◌≡◌, ℕ, zero, suc, min, Bool, true, false, cond, List, [], ◌∷◌, ◌++◌, length, refl, sym, ap, subst, ⊎_elim, arith}
use Rattle.std.specs.Prelude.{flat_map}
use Rattle.std.specs.List.{AllByRecursion}
use Rattle.std.proofs.lemmas.List.Sorted.{length_permutation}
use Rattle.pl_ops.specs.Rows.{Line as Row}
use Rattle.pl_ops.specs.Merging.{Pick, Nothing, Taken, picked, passed, least, followed, merged}
use Rattle.pl_answers.proofs.InOrder.{InOrder, IsTop}
use Rattle.pl_parts.proofs.Bags.{Perm, pcons, ptrans, itself, alike, back, behind, middle, shuffle}
use Rattle.pl_parts.proofs.Members.{In, In-perm, All-from_in, All-in, In-left, In-right}

pub perm_long : {xs ys : List Row} → Perm xs ys → length xs ≡ length ys
perm_long {xs} {ys} p = sym (length_permutation xs ys (shuffle p))

-- merges of lists in order
module _ (before' : Row → Row → Bool) (irrefl : (a : Row) → before' a a ≡ false) (apart : (a b : Row) → before' a b ≡ true → before' b a ≡ false) (trans : (a b c : Row) → before' a b ≡ false → before' b c ≡ false → before' a c ≡ false) where
  together' : List (List Row) → List Row
  together' ls = flat_map (λ l. l) ls

  abbrev pub AllInOrder : List (List Row) → Type 0
  AllInOrder ls = AllByRecursion (InOrder before') ls

  -- of a pick: it is the least, and with what is left it is all
  abbrev Fine : List (List Row) → Pick → Type 0
  Fine ls Nothing = flat_map (λ l. l) ls ≡ []
  Fine ls (Taken r rest) = Perm (r ∷ flat_map (λ l. l) rest) (flat_map (λ l. l) ls) × AllByRecursion (λ y. before' y r ≡ false) (flat_map (λ l. l) ls) × AllInOrder rest

  All-append' : (P : Row → Type 0) (xs ys : List Row) → AllByRecursion P xs → AllByRecursion P ys → AllByRecursion P (xs ++ ys)
  All-append' P [] ys a b = b
  All-append' P (x ∷ xs) ys a b = (a.0, All-append' P xs ys a.1 b)

  weaker : (P Q : Row → Type 0) → ((x : Row) → P x → Q x) → (xs : List Row) → AllByRecursion P xs → AllByRecursion Q xs
  weaker P Q f [] a = tt
  weaker P Q f (x ∷ xs) a = (f x a.0, weaker P Q f xs a.1)

  passed_fine : (ls : List (List Row)) (p : Pick) → Fine ls p → Fine ([] ∷ ls) (passed p)
  passed_fine ls Nothing h = h
  passed_fine ls (Taken r rest) h = (h.0, h.1, (tt, h.2))

  picked_fine : (x : Row) (t : List Row) (ls : List (List Row)) (p : Pick) → InOrder before' (x ∷ t) → AllInOrder ls → Fine ls p → Fine ((x ∷ t) ∷ ls) (picked before' x t ls p)
  picked_fine x t ls Nothing o os h = (itself (x ∷ (t ++ flat_map (λ l. l) ls)), (irrefl x, All-append' (λ y. before' y x ≡ false) t (flat_map (λ l. l) ls) o.0 (subst (AllByRecursion (λ y. before' y x ≡ false)) (sym h) tt)), (o.1, os))
  picked_fine x t ls (Taken r rest) o os h = by (before' r x) refl
    where
      by : (b : Bool) → before' r x ≡ b → Fine ((x ∷ t) ∷ ls) (cond b (Taken r ((x ∷ t) ∷ rest)) (Taken x (t ∷ ls)))
      by true e = (
        ptrans (back (middle (x ∷ t) r (flat_map (λ l. l) rest))) (behind (x ∷ t) h.0),
        (apart r x e, All-append' (λ y. before' y r ≡ false) t (flat_map (λ l. l) ls) (weaker (λ y. before' y x ≡ false) (λ y. before' y r ≡ false) (λ y q. trans y x r q (apart r x e)) t o.0) h.1),
        (o, h.2),
      )
      by false e = (
        itself (x ∷ (t ++ flat_map (λ l. l) ls)),
        (irrefl x, All-append' (λ y. before' y x ≡ false) t (flat_map (λ l. l) ls) o.0 (weaker (λ y. before' y r ≡ false) (λ y. before' y x ≡ false) (λ y q. trans y r x q e) (flat_map (λ l. l) ls) h.1)),
        (o.1, os),
      )

  least_fine : (ls : List (List Row)) → AllInOrder ls → Fine ls (least before' ls)
  least_fine [] o = refl
  least_fine ([] ∷ ls) o = passed_fine ls (least before' ls) (least_fine ls o.1)
  least_fine ((x ∷ t) ∷ ls) o = picked_fine x t ls (least before' ls) o.0 o.1 (least_fine ls o.1)

  All-perm' : (P : Row → Type 0) (xs ys : List Row) → Perm xs ys → AllByRecursion P xs → AllByRecursion P ys
  All-perm' P xs ys p a = All-from_in P ys (λ y i. All-in P y xs a (In-perm y (back p) i))

  -- the same as `IsTop`, by cases
  record Tops (n : ℕ) (m rows : List Row) : Type 0 where
    left : List Row
    bag : Perm (rows ++ left) m
    size : length rows ≡ min n (length m)
    ordered : InOrder before' rows
    top : (y x : Row) → In y left → In x rows → before' y x ≡ false

  tops : (n : ℕ) (ls : List (List Row)) → AllInOrder ls → Tops n (flat_map (λ l. l) ls) (merged before' n ls)
  tops zero ls o = record { left = flat_map (λ l. l) ls; bag = itself (flat_map (λ l. l) ls); size = omega arith; ordered = tt; top = λ y x i j. absurd j }
  tops (suc n) ls o = by (least before' ls) (least_fine ls o) (λ us q. tops n us q)
    where
      by : (p : Pick) → Fine ls p → ((us : List (List Row)) → AllInOrder us → Tops n (flat_map (λ l. l) us) (merged before' n us)) → Tops (suc n) (flat_map (λ l. l) ls) (followed (merged before' n) p)
      by Nothing h ih = record { left = []; bag = alike (sym h); size = let e = ap length h in omega arith; ordered = tt; top = λ y x i j. absurd j }
      by (Taken r rest) h ih =
          let t = ih rest h.2 in
          let all : Perm (r ∷ (merged before' n rest ++ t.left)) (flat_map (λ l. l) ls) = ptrans (pcons r t.bag) h.0 in
          let k = perm_long h.0 in
          let low : AllByRecursion (λ y. before' y r ≡ false) (r ∷ (merged before' n rest ++ t.left)) = All-perm' (λ y. before' y r ≡ false) (flat_map (λ l. l) ls) (r ∷ (merged before' n rest ++ t.left)) (back all) h.1 in
          record {
            left = t.left;
            bag = all;
            size = omega (arith, t.size);
            ordered = (All-from_in (λ y. before' y r ≡ false) (merged before' n rest) (λ y i. All-in (λ z. before' z r ≡ false) y (merged before' n rest ++ t.left) low.1 (In-left y (merged before' n rest) t.left i)), t.ordered);
            top = λ y x i j. ⊎_elim (λ (e : x ≡ r). subst (λ z. before' y z ≡ false) (sym e) (All-in (λ z. before' z r ≡ false) y (merged before' n rest ++ t.left) low.1 (In-right y (merged before' n rest) t.left i))) (λ q. t.top y x i q) j;
          }

  -- the first n rows of a merge of lists in order: no row that is left sorts before one of them
  pub top_of : (n : ℕ) (ls : List (List Row)) → AllInOrder ls → IsTop before' n (flat_map (λ l. l) ls) (merged before' n ls)
  top_of n ls o = let t = tops n ls o in record {
    left = t.left;
    bag = shuffle t.bag;
    size = t.size;
    ordered = t.ordered;
    top = All-from_in (λ y. AllByRecursion (λ x. before' y x ≡ false) (merged before' n ls)) t.left (λ y i. All-from_in (λ x. before' y x ≡ false) (merged before' n ls) (λ x j. t.top y x i j));
  }
