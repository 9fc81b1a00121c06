-- From the places of a plan to those of a node and of its children.
use Rattle.std.proofs.Common.{◌≡◌, ℕ, ◌+◌, Bool, true, false, not, List, [], ◌∷◌, ◌++◌, refl}
use Rattle.std.specs.List.{AllByRecursion}
use Rattle.pl_tree.specs.Trees.{Tree, Scan, Filter, Project, Limit, Sort, Join, Single, Partial, Final, Gather, Redistribute, Broadcast, nodes_in}
use Rattle.pl_plan.specs.Places.{Place, here, postorder}
use Rattle.pl_plan.specs.Rules.{Given}
use Rattle.pl_plan.specs.Soundness.{IsUnbroken}

-- ---- tests

module _ (P : Place → Type 0) where
  pub all_left : (xs ys : List Place) → AllByRecursion P (xs ++ ys) → AllByRecursion P xs
  all_left [] ys h = tt
  all_left (x ∷ xs) ys h = (h.0, all_left xs ys h.1)

  pub all_right : (xs ys : List Place) → AllByRecursion P (xs ++ ys) → AllByRecursion P ys
  all_right [] ys h = h
  all_right (x ∷ xs) ys h = all_right xs ys h.1

pub yes_if : (b : Bool) → (not b ≡ true → ⊥) → b ≡ true
yes_if true h = refl
yes_if false h = absurd (h refl)

pub no_if : (b : Bool) → (b ≡ true → ⊥) → b ≡ false
no_if true h = absurd (h refl)
no_if false h = refl

-- ---- sound plans

module _ (g : Given) where
  abbrev All : List Place → Type 0
  All = AllByRecursion (IsUnbroken g)

  abbrev place : ℕ → List Tree → Tree → Place
  place n above tree = record { number = n; above = above; node = tree }

  pub left_of : (above : List Tree) (n m : ℕ) (p c : Tree) → All (postorder (p ∷ above) m c ++ here above n p) → All (postorder (p ∷ above) m c)
  left_of above n m p c h = all_left (IsUnbroken g) (postorder (p ∷ above) m c) (here above n p) h

  own : (above : List Tree) (n : ℕ) (p : Tree) (xs : List Place) → All (xs ++ here above n p) → IsUnbroken g (place n above p)
  own above n p xs h = (all_right (IsUnbroken g) xs (here above n p) h).0

  -- of a join
  module _ (above : List Tree) (n : ℕ) (p l r : Tree) (m k : ℕ) (h : All (postorder (p ∷ above) m l ++ (postorder (p ∷ above) k r ++ here above n p))) where
    pub join_left : All (postorder (p ∷ above) m l)
    join_left = all_left (IsUnbroken g) (postorder (p ∷ above) m l) (postorder (p ∷ above) k r ++ here above n p) h

    join_more : All (postorder (p ∷ above) k r ++ here above n p)
    join_more = all_right (IsUnbroken g) (postorder (p ∷ above) m l) (postorder (p ∷ above) k r ++ here above n p) h

    pub join_right : All (postorder (p ∷ above) k r)
    join_right = left_of above n k p r join_more

    join_own : IsUnbroken g (place n above p)
    join_own = own above n p (postorder (p ∷ above) k r) join_more

  -- the root's own rules
  pub root_own : (above : List Tree) (n : ℕ) (p : Tree) → All (postorder above n p) → IsUnbroken g (place n above p)
  root_own above n (Scan t) h = h.0
  root_own above n (Filter e c) h = own above n (Filter e c) (postorder (Filter e c ∷ above) (n + 1) c) h
  root_own above n (Project cols c) h = own above n (Project cols c) (postorder (Project cols c ∷ above) (n + 1) c) h
  root_own above n (Limit k c) h = own above n (Limit k c) (postorder (Limit k c ∷ above) (n + 1) c) h
  root_own above n (Sort ks c) h = own above n (Sort ks c) (postorder (Sort ks c ∷ above) (n + 1) c) h
  root_own above n (Join on l r) h = join_own above n (Join on l r) l r (n + 1) (n + 1 + nodes_in l) h
  root_own above n (Single gr cs c) h = own above n (Single gr cs c) (postorder (Single gr cs c ∷ above) (n + 1) c) h
  root_own above n (Partial gr cs c) h = own above n (Partial gr cs c) (postorder (Partial gr cs c ∷ above) (n + 1) c) h
  root_own above n (Final c) h = own above n (Final c) (postorder (Final c ∷ above) (n + 1) c) h
  root_own above n (Gather o c) h = own above n (Gather o c) (postorder (Gather o c ∷ above) (n + 1) c) h
  root_own above n (Redistribute ks c) h = own above n (Redistribute ks c) (postorder (Redistribute ks c ∷ above) (n + 1) c) h
  root_own above n (Broadcast c) h = own above n (Broadcast c) (postorder (Broadcast c ∷ above) (n + 1) c) h
