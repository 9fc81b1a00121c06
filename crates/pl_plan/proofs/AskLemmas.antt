-- Keys and columns beside each other.
use Rattle.std.proofs.Common.{◌≡◌, ◌≢◌, ℕ, suc, zero, ◌+◌, ◌<◌, Bool, true, false, List, [], ◌∷◌, length, get_or, drop, refl, sym, ap, ◌∙◌, add-one, drop-cons, arith}
use Rattle.std.specs.Prelude.{◌&&◌, Option, Some, None}
use Rattle.std.specs.List.{list_any}
use Rattle.ic_row.specs.declared.order.Key.{Key}
use Rattle.pl_tree.specs.declared.node.Pair.{Pair}
use Rattle.pl_plan.specs.Tests.{is_pair, are_paired, is_key, stands_at, is_prefix}

-- columns in pairs are as many on both sides
pub alike : (on : List Pair) (a b : List ℕ) → are_paired on a b ≡ true → length a ≡ length b
alike on [] [] h = refl
alike on [] (y ∷ b) h = absurd cc
alike on (x ∷ a) [] h = absurd cc
alike on (x ∷ a) (y ∷ b) h = by (list_any (is_pair x y) on) h (alike on a b)
  where
    by : (here : Bool) → (here && are_paired on a b) ≡ true → (are_paired on a b ≡ true → length a ≡ length b) → length (x ∷ a) ≡ length (y ∷ b)
    by true h more = ap suc (more h)
    by false h more = absurd cc

pub unlike : (on : List Pair) (a b : List ℕ) → length a ≢ length b → false ≡ are_paired on a b
unlike on a b differs = by (are_paired on a b) refl
  where
    by : (paired : Bool) → are_paired on a b ≡ paired → false ≡ paired
    by false e = refl
    by true e = absurd (differs (alike on a b e))

-- one key, and those behind it
one_more : (key : Key) (more keys : List Key) (i : ℕ) → is_prefix (key ∷ more) (drop i keys) ≡ (stands_at keys i key && is_prefix more (drop (suc i) keys))
one_more key more [] zero = refl
one_more key more (k ∷ keys) zero = refl
one_more key more [] (suc i) = refl
one_more key more (k ∷ keys) (suc i) = one_more key more keys i

pub next_key : (front keys : List Key) (i : ℕ) (key : Key) → i < length front → is_prefix (drop i front) (drop i keys) ≡ (stands_at keys i (get_or front i key) && is_prefix (drop (i + 1) front) (drop (i + 1) keys))
next_key front keys i key lt = rw (add-one, drop-cons front i key lt) (one_more (get_or front i key) (drop (suc i) front) keys i)

pub goes_on : (front keys : List Key) (i : ℕ) (key : Key) (total : Bool) → i < length front → stands_at keys i (get_or front i key) ≡ true → is_prefix (drop i front) (drop i keys) ≡ total → is_prefix (drop (i + 1) front) (drop (i + 1) keys) ≡ total
goes_on front keys i key total lt here so_far = sym (ap (λ (b : Bool). b && is_prefix (drop (i + 1) front) (drop (i + 1) keys)) here) ∙ sym (next_key front keys i key lt) ∙ so_far

pub stops : (front keys : List Key) (i : ℕ) (key : Key) (total : Bool) → i < length front → stands_at keys i (get_or front i key) ≡ false → is_prefix (drop i front) (drop i keys) ≡ total → false ≡ total
stops front keys i key total lt here so_far = sym (ap (λ (b : Bool). b && is_prefix (drop (i + 1) front) (drop (i + 1) keys)) here) ∙ sym (next_key front keys i key lt) ∙ so_far
