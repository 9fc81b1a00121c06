-- Distinct keys that are put into a set one after another are in it in that order.
use Rattle.std.proofs.Common.{◌≡◌, ◌||◌, ◌&&◌, Bool, false, List, [], ◌∷◌, ◌++◌, refl, sym, ap, subst, ◌∙◌, if◌then◌else◌, append-nil, append_assoc}
use Rattle.std.specs.List.{IsDistinct, AllByRecursion, list_any}
use Rattle.std.proofs.lemmas.Map.Keys.{IsDistinct-head, IsDistinct-tail}
use Rattle.indexmap.specs.IndexSet.{insert_all, insert_key}
use Rattle.ic_base.specs.declared.keys.ConnKey.{ConnKey}
use Rattle.ic_base.specs.Keys.{key_eq}
use Rattle.std.specs.Cmp.{nat_eq_equiv, int_eq_equiv}

pub key_eq-flips : (a b : ConnKey) → key_eq a b ≡ key_eq b a
unfolding key_eq
key_eq-flips a b i =
    nat_eq_equiv.symm a.session b.session i && (nat_eq_equiv.symm a.query b.query i
    && (nat_eq_equiv.symm a.motion b.motion i && (int_eq_equiv.symm a.from b.from i && int_eq_equiv.symm a.to b.to i)))

module _ {K : Type 0} (eq : K → K → Bool) (flips : (x y : K) → eq x y ≡ eq y x) where
  -- a property of each holds of the one after these
  at_next : (P : K → Type 0) (ks : List K) (x : K) (xs : List K) → AllByRecursion P (ks ++ x ∷ xs) → P x
  at_next P [] x xs h = h.0
  at_next P (k ∷ ks) x xs h = at_next P ks x xs h.1

  -- a key isn't among those before it
  not_before : (ks : List K) (x : K) (xs : List K) → IsDistinct eq (ks ++ x ∷ xs) → list_any (eq x) ks ≡ false
  not_before [] x xs h = refl
  not_before (k ∷ ks) x xs h =
      (λ i. (flips x k ∙ at_next (λ y. eq k y ≡ false) ks x xs (IsDistinct-head eq k (ks ++ x ∷ xs) h)) i || not_before ks x xs (IsDistinct-tail eq k (ks ++ x ∷ xs) h) i)

  -- so it goes after them
  insert_next : (ks : List K) (x : K) (xs : List K) → IsDistinct eq (ks ++ x ∷ xs) → insert_key eq ks x ≡ ks ++ x ∷ []
  insert_next ks x xs h = ap (λ b. if b then ks else ks ++ x ∷ []) (not_before ks x xs h)

  insert_behind : (ks xs : List K) → IsDistinct eq (ks ++ xs) → insert_all eq ks xs ≡ ks ++ xs
  insert_behind ks [] h = sym (append-nil ks)
  insert_behind ks (x ∷ xs) h =
      ap (λ l. insert_all eq l xs) (insert_next ks x xs h)
      ∙ insert_behind (ks ++ x ∷ []) xs (subst (IsDistinct eq) (sym (append_assoc ks (x ∷ []) xs)) h)
      ∙ append_assoc ks (x ∷ []) xs

  pub insert_all-distinct : (xs : List K) → IsDistinct eq xs → insert_all eq [] xs ≡ xs
  insert_all-distinct xs h = insert_behind [] xs h
