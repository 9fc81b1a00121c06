-- The top of a slice is the node of its number in preorder.
use Rattle.std.proofs.Common.{◌≡◌, ℕ, suc, zero, ◌+◌, List, [], ◌∷◌, ◌++◌, length, map, refl, sym, ap, ◌∙◌, inl, inr, arith}
use Rattle.std.proofs.lemmas.List.{map-append}
use Rattle.std.specs.Prelude.{Some, slice_get}
use Rattle.pl_tree.specs.Trees.{Tree, Scan, Filter, Project, Limit, Sort, Join, Single, Partial, Final, Gather, Redistribute, Broadcast, nodes_in, motions_in, preorder}
use Rattle.pl_plan.proofs.LayoutLaws.{preorder_long}
use Rattle.pl_runs.specs.Slices.{below_motion}
use Rattle.ex_plan.specs.Spots.{Spot, spots}
use Rattle.ex_plan.proofs.Standing.{motions_below}
use Rattle.ex_plan.proofs.Spotted.{get_cases, same_spot, in_back, two}

pub first_is : (p : Tree) → slice_get (preorder p) 0 ≡ Some p
first_is (Scan t) = refl
first_is (Filter e c) = refl
first_is (Project cols c) = refl
first_is (Limit k c) = refl
first_is (Sort ks c) = refl
first_is (Join on l r) = refl
first_is (Single g cs c) = refl
first_is (Partial g cs c) = refl
first_is (Final c) = refl
first_is (Gather o c) = refl
first_is (Redistribute ks c) = refl
first_is (Broadcast c) = refl

stays : {A : Type 0} (xs ys : List A) (k : ℕ) (x : A) → slice_get xs k ≡ Some x → slice_get (xs ++ ys) k ≡ Some x
stays [] ys k x e = absurd cc
stays (y ∷ xs) ys zero x e = e
stays (y ∷ xs) ys (suc k) x e = stays xs ys k x e

-- of a node with this number: the motion stands so many places behind it, and what is below the motion one place further
pub record Numbered (i : ℕ) (p : Tree) (spot : Spot) : Type 0 where
  pub behind : ℕ
  pub number : spot.number ≡ i + behind
  pub next : slice_get (preorder p) (suc behind) ≡ Some (below_motion (Some spot.node))

under : (i : ℕ) (p c : Tree) (spot : Spot) → preorder p ≡ p ∷ preorder c → Numbered (i + 1) c spot → Numbered i p spot
under i p c spot is h = record { behind = suc h.behind; number = omega (arith, h.number); next = ap (λ l. slice_get l (suc (suc h.behind))) is ∙ h.next }

here : (i : ℕ) (p c : Tree) (spot found : Spot) → preorder p ≡ p ∷ preorder c → below_motion (Some p) ≡ c → found.node ≡ p → found.number ≡ i → found ≡ spot → Numbered i p spot
here i p c spot found is child node number same = record {
  behind = 0;
  number = let k : spot.number ≡ i = sym (ap (λ (x : Spot). x.number) same) ∙ number in omega (arith, k);
  next = ap (λ l. slice_get l 1) is ∙ first_is c ∙ ap Some (sym child ∙ ap (λ x. below_motion (Some x)) (sym node ∙ ap (λ (x : Spot). x.node) same));
}

pub numbered : (slice i n : ℕ) (p : Tree) (k : ℕ) (spot : Spot) → slice_get (spots slice i n p) k ≡ Some spot → Numbered i p spot
numbered slice i n (Scan t) k spot e = absurd cc
numbered slice i n (Filter x c) k spot e = under i (Filter x c) c spot refl (numbered slice (i + 1) n c k spot e)
numbered slice i n (Project cols c) k spot e = under i (Project cols c) c spot refl (numbered slice (i + 1) n c k spot e)
numbered slice i n (Limit x c) k spot e = under i (Limit x c) c spot refl (numbered slice (i + 1) n c k spot e)
numbered slice i n (Sort ks c) k spot e = under i (Sort ks c) c spot refl (numbered slice (i + 1) n c k spot e)
numbered slice i n (Join on l r) k spot e =
    elim (get_cases (spots slice (i + 1) n l) (spots slice (i + 1 + nodes_in l) (n + motions_in l) r) k spot e) [
      | inl x ↦
          let h = numbered slice (i + 1) n l k spot x in
          record { behind = suc h.behind; number = omega (arith, h.number); next = stays (preorder l) (preorder r) (suc h.behind) (below_motion (Some spot.node)) h.next }
      | inr x ↦
          let h = numbered slice (i + 1 + nodes_in l) (n + motions_in l) r x.0 spot x.2 in
          let place : suc (nodes_in l + h.behind) ≡ length (preorder l) + suc h.behind = omega (arith, preorder_long l) in
          record { behind = suc (nodes_in l + h.behind); number = omega (arith, h.number); next = ap (slice_get (preorder l ++ preorder r)) place ∙ in_back (preorder l) (preorder r) (suc h.behind) ∙ h.next }
    ]
numbered slice i n (Single g cs c) k spot e = under i (Single g cs c) c spot refl (numbered slice (i + 1) n c k spot e)
numbered slice i n (Partial g cs c) k spot e = under i (Partial g cs c) c spot refl (numbered slice (i + 1) n c k spot e)
numbered slice i n (Final c) k spot e = under i (Final c) c spot refl (numbered slice (i + 1) n c k spot e)
numbered slice i n (Gather o c) zero spot e = let found : Spot = record { node = (Gather o c); number = i; above = slice } in here i (Gather o c) c spot found refl refl refl refl (same_spot found spot e)
numbered slice i n (Gather o c) (suc k) spot e = under i (Gather o c) c spot refl (numbered n (i + 1) (n + 1) c k spot e)
numbered slice i n (Redistribute ks c) zero spot e = let found : Spot = record { node = (Redistribute ks c); number = i; above = slice } in here i (Redistribute ks c) c spot found refl refl refl refl (same_spot found spot e)
numbered slice i n (Redistribute ks c) (suc k) spot e = under i (Redistribute ks c) c spot refl (numbered n (i + 1) (n + 1) c k spot e)
numbered slice i n (Broadcast c) zero spot e = let found : Spot = record { node = (Broadcast c); number = i; above = slice } in here i (Broadcast c) c spot found refl refl refl refl (same_spot found spot e)
numbered slice i n (Broadcast c) (suc k) spot e = under i (Broadcast c) c spot refl (numbered n (i + 1) (n + 1) c k spot e)

-- the nodes of the motions
pub nodes_are : (slice i n : ℕ) (p : Tree) → map (λ (x : Spot). x.node) (spots slice i n p) ≡ motions_below p
nodes_are slice i n (Scan t) = refl
nodes_are slice i n (Filter x c) = nodes_are slice (i + 1) n c
nodes_are slice i n (Project cols c) = nodes_are slice (i + 1) n c
nodes_are slice i n (Limit x c) = nodes_are slice (i + 1) n c
nodes_are slice i n (Sort ks c) = nodes_are slice (i + 1) n c
nodes_are slice i n (Join on l r) =
    map-append (λ (x : Spot). x.node) (spots slice (i + 1) n l) (spots slice (i + 1 + nodes_in l) (n + motions_in l) r)
    ∙ ap (λ x. x ++ map (λ (x : Spot). x.node) (spots slice (i + 1 + nodes_in l) (n + motions_in l) r)) (nodes_are slice (i + 1) n l)
    ∙ ap (λ x. motions_below l ++ x) (nodes_are slice (i + 1 + nodes_in l) (n + motions_in l) r) ∙ sym (two l r)
nodes_are slice i n (Single g cs c) = nodes_are slice (i + 1) n c
nodes_are slice i n (Partial g cs c) = nodes_are slice (i + 1) n c
nodes_are slice i n (Final c) = nodes_are slice (i + 1) n c
nodes_are slice i n (Gather o c) = ap (λ l. Gather o c ∷ l) (nodes_are n (i + 1) (n + 1) c)
nodes_are slice i n (Redistribute ks c) = ap (λ l. Redistribute ks c ∷ l) (nodes_are n (i + 1) (n + 1) c)
nodes_are slice i n (Broadcast c) = ap (λ l. Broadcast c ∷ l) (nodes_are n (i + 1) (n + 1) c)
