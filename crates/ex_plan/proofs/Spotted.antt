-- A motion that is found stands in its plan, and so does what is below it.
use Rattle.std.proofs.Common.{◌≡◌, ℕ, suc, zero, ◌+◌, ◌-◌, ◌<◌, ◌≤◌, ℤ, List, [], ◌∷◌, ◌++◌, length, true, refl, sym, ap, subst, ◌∙◌, inl, inr, arith, length-append}
use Rattle.std.specs.Prelude.{◌⊎◌, Option, Some, slice_get, filter}
use Rattle.std.proofs.lemmas.List.Elements.{filter-append}
use Rattle.pl_tree.specs.declared.node.Pair.{Pair}
use Rattle.pl_tree.specs.declared.schema.Schema.{Schema}
use Rattle.pl_tree.specs.Trees.{Tree, Scan, Filter, Project, Limit, Sort, Join, Single, Partial, Final, Gather, Redistribute, Broadcast, nodes_in, motions_in, preorder}
use Rattle.pl_tree.specs.Sizes.{HasSizes}
use Rattle.pl_tree.specs.Loci.{locus_of}
use Rattle.pl_plan.specs.Motions.{Motion, gang_at, gang_of, motions_of, motions_in_plan}
use Rattle.pl_parts.proofs.Members.{In, In-right}
use Rattle.pl_runs.specs.Slices.{is_motion, motion_node, below_motion, top_of}
use Rattle.ex_plan.specs.Spots.{Spot, spots}
use Rattle.ex_plan.specs.Fitting.{HavePartials}
use Rattle.ex_plan.proofs.Standing.{StandsIn, motions_below, same_below, join_left, join_right, child_stands, in_plan, node_is, top_is}

pub spots_long : (slice i n : ℕ) (p : Tree) → length (spots slice i n p) ≡ motions_in p
spots_long slice i n (Scan t) = refl
spots_long slice i n (Filter e c) = spots_long slice (i + 1) n c
spots_long slice i n (Project cols c) = spots_long slice (i + 1) n c
spots_long slice i n (Limit k c) = spots_long slice (i + 1) n c
spots_long slice i n (Sort ks c) = spots_long slice (i + 1) n c
spots_long slice i n (Join on l r) =
    length-append (spots slice (i + 1) n l) (spots slice (i + 1 + nodes_in l) (n + motions_in l) r)
    ∙ ap (λ k. k + length (spots slice (i + 1 + nodes_in l) (n + motions_in l) r)) (spots_long slice (i + 1) n l)
    ∙ ap (λ k. motions_in l + k) (spots_long slice (i + 1 + nodes_in l) (n + motions_in l) r)
spots_long slice i n (Single g cs c) = spots_long slice (i + 1) n c
spots_long slice i n (Partial g cs c) = spots_long slice (i + 1) n c
spots_long slice i n (Final c) = spots_long slice (i + 1) n c
spots_long slice i n (Gather o c) = ap suc (spots_long n (i + 1) (n + 1) c)
spots_long slice i n (Redistribute ks c) = ap suc (spots_long n (i + 1) (n + 1) c)
spots_long slice i n (Broadcast c) = ap suc (spots_long n (i + 1) (n + 1) c)

-- ---- an element of one list after another

pub in_front : {A : Type 0} (xs ys : List A) (k : ℕ) → k < length xs → slice_get (xs ++ ys) k ≡ slice_get xs k
in_front [] ys k lt = absurd (omega (arith, lt))
in_front (x ∷ xs) ys zero lt = refl
in_front (x ∷ xs) ys (suc k) lt = in_front xs ys k (omega (arith, lt))

pub in_back : {A : Type 0} (xs ys : List A) (j : ℕ) → slice_get (xs ++ ys) (length xs + j) ≡ slice_get ys j
in_back [] ys j = let e : 0 + j ≡ j = omega arith in ap (slice_get ys) e
in_back (x ∷ xs) ys j = let e : suc (length xs) + j ≡ suc (length xs + j) = omega arith in ap (slice_get (x ∷ (xs ++ ys))) e ∙ in_back xs ys j

-- the element at a place stands in the first list, or so many places on in the second one
pub get_cases : {A : Type 0} (xs ys : List A) (k : ℕ) (x : A) → slice_get (xs ++ ys) k ≡ Some x → (slice_get xs k ≡ Some x) ⊎ ((j : ℕ) × (k ≡ length xs + j) × (slice_get ys j ≡ Some x))
get_cases [] ys k x e = inr (k, omega arith, e)
get_cases (y ∷ xs) ys zero x e = inl e
get_cases (y ∷ xs) ys (suc k) x e = elim (get_cases xs ys k x e) [
  | inl h ↦ inl h
  | inr h ↦ inr (h.0, omega (arith, h.1), h.2)
]

later : {A : Type 0} (x : A) (xs : List A) (k : ℕ) → (k ≡ 0 → ⊥) → slice_get (x ∷ xs) k ≡ slice_get xs (k - 1)
later x xs zero other = absurd (other refl)
later x xs (suc k) other = let e : k ≡ suc k - 1 = omega arith in ap (slice_get xs) e

-- ---- where it is found

-- what was found in the left side of a join
pub found_left : (o : Option Spot) (slice i n k : ℕ) (on : List Pair) (l r t : Tree) → t ≡ Join on l r → k < motions_in l → o ≡ slice_get (spots slice (i + 1) n l) k → o ≡ slice_get (spots slice i n t) k
found_left o slice i n k on l r t is lt h =
    h ∙ sym (in_front (spots slice (i + 1) n l) (spots slice (i + 1 + nodes_in l) (n + motions_in l) r) k (omega (arith, lt, spots_long slice (i + 1) n l))) ∙ sym (ap (λ x. slice_get (spots slice i n x) k) is)

-- in the right side, behind so many nodes and motions
pub found_right : (o : Option Spot) (slice i n k a b : ℕ) (on : List Pair) (l r t : Tree) → t ≡ Join on l r → a ≡ nodes_in l → b ≡ motions_in l → b ≤ k → o ≡ slice_get (spots slice (i + 1 + a) (n + b) r) (k - b) → o ≡ slice_get (spots slice i n t) k
found_right o slice i n k a b on l r t is nodes motions le h =
    let xs = spots slice (i + 1) n l in
    let ys = spots slice (i + 1 + nodes_in l) (n + motions_in l) r in
    let place : length xs + (k - b) ≡ k = omega (arith, le, motions, spots_long slice (i + 1) n l) in
    h ∙ ap (λ x. slice_get (spots slice (i + 1 + x) (n + b) r) (k - b)) nodes ∙ ap (λ x. slice_get (spots slice (i + 1 + nodes_in l) (n + x) r) (k - b)) motions
    ∙ sym (in_back xs ys (k - b)) ∙ ap (slice_get (xs ++ ys)) place ∙ sym (ap (λ x. slice_get (spots slice i n x) k) is)

-- below a motion
pub found_below : (o : Option Spot) (slice i n k : ℕ) (first : Spot) (t c : Tree) → spots slice i n t ≡ first ∷ spots n (i + 1) (n + 1) c → (k ≡ 0 → ⊥) → o ≡ slice_get (spots n (i + 1) (n + 1) c) (k - 1) → o ≡ slice_get (spots slice i n t) k
found_below o slice i n k first t c is other h = h ∙ sym (later first (spots n (i + 1) (n + 1) c) k other) ∙ sym (ap (λ x. slice_get x k) is)

-- ---- where it stands

-- motion m was found at this spot; what is below it has so many nodes and motions at most
pub record Spotted (s : List Schema) (segments : ℕ) (tree : Tree) (most_nodes most_motions m : ℕ) (spot : Spot) : Type 0 where
  pub is_motion : is_motion spot.node ≡ true
  pub node_is : motion_node tree m ≡ Some spot.node
  pub top_is : top_of tree m ≡ below_motion (Some spot.node)
  pub receivers : List ℤ
  pub above_is : gang_of s segments tree spot.above ≡ receivers
  pub low : spot.above < m
  pub planned : In (record { number = m; above = spot.above; senders = gang_at segments (locus_of s (below_motion (Some spot.node))); receivers = receivers }) (motions_in_plan s segments tree)
  pub stands : StandsIn s segments tree m (gang_at segments (locus_of s (below_motion (Some spot.node)))) (m + 1) (below_motion (Some spot.node))
  pub sizes : HasSizes (below_motion (Some spot.node))
  pub partials : HavePartials (below_motion (Some spot.node))
  pub nodes : spot.number + 1 + nodes_in (below_motion (Some spot.node)) ≤ most_nodes
  pub motions : m + 1 + motions_in (below_motion (Some spot.node)) ≤ most_motions

pub wider : (s : List Schema) (segments : ℕ) (tree : Tree) (a b c d m : ℕ) (spot : Spot) → a ≤ b → c ≤ d → Spotted s segments tree a c m spot → Spotted s segments tree b d m spot
wider s segments tree a b c d m spot x y h = record {
  is_motion = h.is_motion;
  node_is = h.node_is;
  top_is = h.top_is;
  receivers = h.receivers;
  above_is = h.above_is;
  low = h.low;
  planned = h.planned;
  stands = h.stands;
  sizes = h.sizes;
  partials = h.partials;
  nodes = omega (arith, h.nodes, x);
  motions = omega (arith, h.motions, y);
}

pub same_spot : (x y : Spot) → ◌≡◌ {A = Option Spot} (Some x) (Some y) → x ≡ y
same_spot x y e = cc

in_after : {A : Type 0} (before : List A) (x : A) (rest : List A) → In x (before ++ x ∷ rest)
in_after before x rest = In-right x before (x ∷ rest) (inl refl)

-- the motions of both sides
pub two : (l r : Tree) → filter is_motion (preorder l ++ preorder r) ≡ motions_below l ++ motions_below r
two l r = filter-append is_motion (preorder l) (preorder r)

module _ (s : List Schema) (segments : ℕ) (tree : Tree) where
  -- a child that has the same motions
  one_below : (slice i n : ℕ) (gang : List ℤ) (m : ℕ) (spot : Spot) (c : Tree) → Spotted s segments tree (i + 1 + nodes_in c) (n + motions_in c) m spot → Spotted s segments tree (i + suc (nodes_in c)) (n + motions_in c) m spot
  one_below slice i n gang m spot c h = wider s segments tree (i + 1 + nodes_in c) (i + suc (nodes_in c)) (n + motions_in c) (n + motions_in c) m spot (omega arith) (omega arith) h

  -- the motion itself
  here : (slice i n : ℕ) (gang : List ℤ) (p c : Tree) (m : ℕ) (spot : Spot) → is_motion p ≡ true → below_motion (Some p) ≡ c → HasSizes c → HavePartials c → nodes_in p ≡ suc (nodes_in c) → motions_in p ≡ suc (motions_in c)
      → motions_of s segments slice gang n p ≡ record { number = n; above = slice; senders = gang_at segments (locus_of s c); receivers = gang } ∷ motions_of s segments n (gang_at segments (locus_of s c)) (n + 1) c
      → motions_below p ≡ p ∷ motions_below c → slice < n → StandsIn s segments tree slice gang n p → m ≡ n → record { node = p; number = i; above = slice } ≡ spot → Spotted s segments tree (i + nodes_in p) (n + motions_in p) m spot
  here slice i n gang p c m spot motion child sizes partials nodes motions e f low h is same =
      let x : Motion = record { number = n; above = slice; senders = gang_at segments (locus_of s c); receivers = gang } in
      let found : Spot = record { node = p; number = i; above = slice } in
      let planned = in_plan s segments tree slice gang n p c x e f h in
      let it : Spotted s segments tree (i + nodes_in p) (n + motions_in p) n found = record {
        is_motion = motion;
        node_is = node_is s segments tree slice gang n p c x e f h;
        top_is = top_is s segments tree slice gang n p c x e f h;
        receivers = gang;
        above_is = h.gang_is;
        low = low;
        planned = subst (λ t. In (record { number = n; above = slice; senders = gang_at segments (locus_of s t); receivers = gang }) (motions_in_plan s segments tree)) (sym child) (subst (In x) (sym planned.1) (in_after h.before x planned.0));
        stands = subst (λ t. StandsIn s segments tree n (gang_at segments (locus_of s t)) (n + 1) t) (sym child) (child_stands s segments tree slice gang n p c x e f h);
        sizes = subst HasSizes (sym child) sizes;
        partials = subst HavePartials (sym child) partials;
        nodes = subst (λ t. i + 1 + nodes_in t ≤ i + nodes_in p) (sym child) (omega (arith, nodes));
        motions = subst (λ t. n + 1 + motions_in t ≤ n + motions_in p) (sym child) (omega (arith, motions));
      } in
      subst (Spotted s segments tree (i + nodes_in p) (n + motions_in p) m) same (subst (λ k. Spotted s segments tree (i + nodes_in p) (n + motions_in p) k found) (sym is) it)

  -- a motion below this one
  further : (slice i n : ℕ) (gang : List ℤ) (p c : Tree) (m : ℕ) (spot : Spot) → nodes_in p ≡ suc (nodes_in c) → motions_in p ≡ suc (motions_in c)
      → motions_of s segments slice gang n p ≡ record { number = n; above = slice; senders = gang_at segments (locus_of s c); receivers = gang } ∷ motions_of s segments n (gang_at segments (locus_of s c)) (n + 1) c
      → motions_below p ≡ p ∷ motions_below c → StandsIn s segments tree slice gang n p
      → (StandsIn s segments tree n (gang_at segments (locus_of s c)) (n + 1) c → Spotted s segments tree (i + 1 + nodes_in c) (n + 1 + motions_in c) m spot) → Spotted s segments tree (i + nodes_in p) (n + motions_in p) m spot
  further slice i n gang p c m spot nodes motions e f h next =
      wider s segments tree (i + 1 + nodes_in c) (i + nodes_in p) (n + 1 + motions_in c) (n + motions_in p) m spot (omega (arith, nodes)) (omega (arith, motions))
      (next (child_stands s segments tree slice gang n p c (record { number = n; above = slice; senders = gang_at segments (locus_of s c); receivers = gang }) e f h))

  pub spotted : (slice i n : ℕ) (gang : List ℤ) (p : Tree) (k m : ℕ) (spot : Spot) → slice < n → HasSizes p → HavePartials p → StandsIn s segments tree slice gang n p → m ≡ n + k → slice_get (spots slice i n p) k ≡ Some spot
      → Spotted s segments tree (i + nodes_in p) (n + motions_in p) m spot
  spotted slice i n gang (Scan t) k m spot low sizes part h is e = absurd cc
  spotted slice i n gang (Filter x c) k m spot low sizes part h is e = one_below slice i n gang m spot c (spotted slice (i + 1) n gang c k m spot low sizes.1 part (same_below s segments tree slice gang n (Filter x c) c refl refl h) is e)
  spotted slice i n gang (Project cols c) k m spot low sizes part h is e = one_below slice i n gang m spot c (spotted slice (i + 1) n gang c k m spot low sizes.1 part (same_below s segments tree slice gang n (Project cols c) c refl refl h) is e)
  spotted slice i n gang (Limit x c) k m spot low sizes part h is e = one_below slice i n gang m spot c (spotted slice (i + 1) n gang c k m spot low sizes part (same_below s segments tree slice gang n (Limit x c) c refl refl h) is e)
  spotted slice i n gang (Sort ks c) k m spot low sizes part h is e = one_below slice i n gang m spot c (spotted slice (i + 1) n gang c k m spot low sizes part (same_below s segments tree slice gang n (Sort ks c) c refl refl h) is e)
  spotted slice i n gang (Join on l r) k m spot low sizes part h is e =
      elim (get_cases (spots slice (i + 1) n l) (spots slice (i + 1 + nodes_in l) (n + motions_in l) r) k spot e) [
        | inl x ↦ wider s segments tree (i + 1 + nodes_in l) (i + suc (nodes_in l + nodes_in r)) (n + motions_in l) (n + (motions_in l + motions_in r)) m spot (omega arith) (omega arith)
            (spotted slice (i + 1) n gang l k m spot low sizes.0 part.0 (join_left s segments tree slice gang n l r (Join on l r) refl (two l r) h) is x)
        | inr x ↦ wider s segments tree (i + 1 + nodes_in l + nodes_in r) (i + suc (nodes_in l + nodes_in r)) (n + motions_in l + motions_in r) (n + (motions_in l + motions_in r)) m spot (omega arith) (omega arith)
            (spotted slice (i + 1 + nodes_in l) (n + motions_in l) gang r x.0 m spot (omega (arith, low)) sizes.1 part.1 (join_right s segments tree slice gang n l r (Join on l r) refl (two l r) h) (omega (arith, is, x.1, spots_long slice (i + 1) n l)) x.2)
      ]
  spotted slice i n gang (Single g cs c) k m spot low sizes part h is e = one_below slice i n gang m spot c (spotted slice (i + 1) n gang c k m spot low sizes.2 part (same_below s segments tree slice gang n (Single g cs c) c refl refl h) is e)
  spotted slice i n gang (Partial g cs c) k m spot low sizes part h is e = one_below slice i n gang m spot c (spotted slice (i + 1) n gang c k m spot low sizes.2 part (same_below s segments tree slice gang n (Partial g cs c) c refl refl h) is e)
  spotted slice i n gang (Final c) k m spot low sizes part h is e = one_below slice i n gang m spot c (spotted slice (i + 1) n gang c k m spot low sizes part.1 (same_below s segments tree slice gang n (Final c) c refl refl h) is e)
  spotted slice i n gang (Gather o c) zero m spot low sizes part h is e = here slice i n gang (Gather o c) c m spot refl refl sizes part refl refl refl refl low h (omega (arith, is)) (same_spot (record { node = Gather o c; number = i; above = slice }) spot e)
  spotted slice i n gang (Gather o c) (suc k) m spot low sizes part h is e = further slice i n gang (Gather o c) c m spot refl refl refl refl h (λ x. spotted n (i + 1) (n + 1) (gang_at segments (locus_of s c)) c k m spot (omega arith) sizes part x (omega (arith, is)) e)
  spotted slice i n gang (Redistribute ks c) zero m spot low sizes part h is e = here slice i n gang (Redistribute ks c) c m spot refl refl sizes part refl refl refl refl low h (omega (arith, is)) (same_spot (record { node = Redistribute ks c; number = i; above = slice }) spot e)
  spotted slice i n gang (Redistribute ks c) (suc k) m spot low sizes part h is e = further slice i n gang (Redistribute ks c) c m spot refl refl refl refl h (λ x. spotted n (i + 1) (n + 1) (gang_at segments (locus_of s c)) c k m spot (omega arith) sizes part x (omega (arith, is)) e)
  spotted slice i n gang (Broadcast c) zero m spot low sizes part h is e = here slice i n gang (Broadcast c) c m spot refl refl sizes part refl refl refl refl low h (omega (arith, is)) (same_spot (record { node = Broadcast c; number = i; above = slice }) spot e)
  spotted slice i n gang (Broadcast c) (suc k) m spot low sizes part h is e = further slice i n gang (Broadcast c) c m spot refl refl refl refl h (λ x. spotted n (i + 1) (n + 1) (gang_at segments (locus_of s c)) c k m spot (omega arith) sizes part x (omega (arith, is)) e)
