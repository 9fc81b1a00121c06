-- Where a node stands in a plan: in which slice, with which gang, and which motions are below it.
use Rattle.std.proofs.Common.{◌≡◌, ℕ, suc, ◌+◌, ℤ, List, [], ◌∷◌, ◌++◌, map, length, Some, refl, sym, ap, ◌∙◌, arith, append_assoc, length-append}
use Rattle.std.specs.Prelude.{filter, get_or, slice_get}
use Rattle.std.proofs.lemmas.List.{map-append, length-map}
use Rattle.std.proofs.lemmas.List.Elements.{filter-append}
use Rattle.pl_tree.specs.declared.schema.Schema.{Schema}
use Rattle.pl_tree.specs.Trees.{Tree, Scan, Filter, Project, Limit, Sort, Join, Single, Partial, Final, Gather, Redistribute, Broadcast, motions_in, preorder}
use Rattle.pl_plan.specs.Motions.{Motion, dispatcher, motions_of, motions_in_plan, gang_of}
use Rattle.pl_plan.proofs.LayoutLaws.{motions_long}
use Rattle.pl_runs.specs.Slices.{is_motion, motion_node, below_motion, top_of}

abbrev pub motions_below : Tree → List Tree
motions_below p = filter is_motion (preorder p)

-- as many motions as nodes of motions
pub long_nodes : (p : Tree) → length (motions_below p) ≡ motions_in p
long_nodes (Scan t) = refl
long_nodes (Filter e c) = long_nodes c
long_nodes (Project cols c) = long_nodes c
long_nodes (Limit k c) = long_nodes c
long_nodes (Sort ks c) = long_nodes c
long_nodes (Join on l r) =
    ap length (filter-append is_motion (preorder l) (preorder r)) ∙ length-append (motions_below l) (motions_below r) ∙ ap (λ k. k + length (motions_below r)) (long_nodes l) ∙ ap (λ k. motions_in l + k) (long_nodes r)
long_nodes (Single g cs c) = long_nodes c
long_nodes (Partial g cs c) = long_nodes c
long_nodes (Final c) = long_nodes c
long_nodes (Gather o c) = ap suc (long_nodes c)
long_nodes (Redistribute ks c) = ap suc (long_nodes c)
long_nodes (Broadcast c) = ap suc (long_nodes c)

-- a node stands in a slice with this gang, and its first motion in preorder has the number n
pub record StandsIn (s : List Schema) (segments : ℕ) (tree : Tree) (slice : ℕ) (gang : List ℤ) (n : ℕ) (p : Tree) : Type 0 where
  pub before : List Motion
  pub after : List Motion
  pub motions : motions_in_plan s segments tree ≡ before ++ (motions_of s segments slice gang n p ++ after)
  pub number : length before + 1 ≡ n
  pub over : List Tree
  pub under : List Tree
  pub nodes : motions_below tree ≡ over ++ (motions_below p ++ under)
  pub place : length over + 1 ≡ n
  pub gang_is : gang_of s segments tree slice ≡ gang

pub root_stands : (s : List Schema) (segments : ℕ) (tree : Tree) → StandsIn s segments tree 0 dispatcher 1 tree
root_stands s segments tree = record {
  before = [];
  after = [];
  motions = sym (nothing (motions_of s segments 0 dispatcher 1 tree));
  number = refl;
  over = [];
  under = [];
  nodes = sym (nothing (motions_below tree));
  place = refl;
  gang_is = refl;
}
  where
    nothing : {A : Type 0} (xs : List A) → xs ++ [] ≡ xs
    nothing [] = refl
    nothing (x ∷ xs) = ap (λ l. x ∷ l) (nothing xs)

-- the element after so many
at_place : {A : Type 0} (before : List A) (x : A) (after : List A) → slice_get (before ++ x ∷ after) (length before) ≡ Some x
at_place [] x after = refl
at_place (b ∷ before) x after = at_place before x after

at_number : {A : Type 0} (before : List A) (x : A) (after : List A) (d : A) → get_or (before ++ x ∷ after) (length before) d ≡ x
at_number [] x after d = refl
at_number (b ∷ before) x after d = at_number before x after d

module _ (s : List Schema) (segments : ℕ) (tree : Tree) (slice : ℕ) (gang : List ℤ) (n : ℕ) where
  -- a child with the same motions
  pub same_below : (p c : Tree) → motions_of s segments slice gang n p ≡ motions_of s segments slice gang n c → motions_below p ≡ motions_below c → StandsIn s segments tree slice gang n p → StandsIn s segments tree slice gang n c
  same_below p c e f h = record {
    before = h.before;
    after = h.after;
    motions = h.motions ∙ ap (λ l. h.before ++ (l ++ h.after)) e;
    number = h.number;
    over = h.over;
    under = h.under;
    nodes = h.nodes ∙ ap (λ l. h.over ++ (l ++ h.under)) f;
    place = h.place;
    gang_is = h.gang_is;
  }

  -- both sides of a join
  pub join_left : (l r p : Tree) → motions_of s segments slice gang n p ≡ motions_of s segments slice gang n l ++ motions_of s segments slice gang (n + motions_in l) r → motions_below p ≡ motions_below l ++ motions_below r
      → StandsIn s segments tree slice gang n p → StandsIn s segments tree slice gang n l
  join_left l r p e f h = record {
    before = h.before;
    after = motions_of s segments slice gang (n + motions_in l) r ++ h.after;
    motions = h.motions ∙ ap (λ x. h.before ++ (x ++ h.after)) e ∙ ap (λ x. h.before ++ x) (append_assoc (motions_of s segments slice gang n l) (motions_of s segments slice gang (n + motions_in l) r) h.after);
    number = h.number;
    over = h.over;
    under = motions_below r ++ h.under;
    nodes = h.nodes ∙ ap (λ x. h.over ++ (x ++ h.under)) f ∙ ap (λ x. h.over ++ x) (append_assoc (motions_below l) (motions_below r) h.under);
    place = h.place;
    gang_is = h.gang_is;
  }

  pub join_right : (l r p : Tree) → motions_of s segments slice gang n p ≡ motions_of s segments slice gang n l ++ motions_of s segments slice gang (n + motions_in l) r → motions_below p ≡ motions_below l ++ motions_below r
      → StandsIn s segments tree slice gang n p → StandsIn s segments tree slice gang (n + motions_in l) r
  join_right l r p e f h =
      let ls = motions_of s segments slice gang n l in
      let rs = motions_of s segments slice gang (n + motions_in l) r in
      record {
        before = h.before ++ ls;
        after = h.after;
        motions = h.motions ∙ ap (λ x. h.before ++ (x ++ h.after)) e ∙ ap (λ x. h.before ++ x) (append_assoc ls rs h.after) ∙ sym (append_assoc h.before ls (rs ++ h.after));
        number = let a = motions_long s segments slice gang n l in let b = h.number in omega (arith, length-append h.before ls, a, b);
        over = h.over ++ motions_below l;
        under = h.under;
        nodes = h.nodes ∙ ap (λ x. h.over ++ (x ++ h.under)) f ∙ ap (λ x. h.over ++ x) (append_assoc (motions_below l) (motions_below r) h.under) ∙ sym (append_assoc h.over (motions_below l) (motions_below r ++ h.under));
        place = let a = long_nodes l in let b = h.place in omega (arith, length-append h.over (motions_below l), a, b);
        gang_is = h.gang_is;
      }

  -- of a motion over a child
  module _ (p c : Tree) (m : Motion) (e : motions_of s segments slice gang n p ≡ m ∷ motions_of s segments n m.senders (n + 1) c) (f : motions_below p ≡ p ∷ motions_below c) (h : StandsIn s segments tree slice gang n p) where
    motions_are : motions_in_plan s segments tree ≡ h.before ++ m ∷ (motions_of s segments n m.senders (n + 1) c ++ h.after)
    motions_are = h.motions ∙ ap (λ l. h.before ++ (l ++ h.after)) e

    nodes_are : motions_below tree ≡ h.over ++ p ∷ (motions_below c ++ h.under)
    nodes_are = h.nodes ∙ ap (λ l. h.over ++ (l ++ h.under)) f

    -- the motion is one of the plan's
    pub in_plan : (rest : List Motion) × (motions_in_plan s segments tree ≡ h.before ++ m ∷ rest)
    in_plan = (motions_of s segments n m.senders (n + 1) c ++ h.after, motions_are)

    pub number_is : n ≡ suc (length h.before)
    number_is = let b = h.number in omega (arith, b)

    place_is : n ≡ suc (length h.over)
    place_is = let b = h.place in omega (arith, b)

    -- its senders are the gang of the slice of its number
    pub senders_are : gang_of s segments tree n ≡ m.senders
    senders_are =
        let rest = motions_of s segments n m.senders (n + 1) c ++ h.after in
        let ms : map (λ (x : Motion). x.senders) (motions_in_plan s segments tree) ≡ map (λ (x : Motion). x.senders) h.before ++ m.senders ∷ map (λ (x : Motion). x.senders) rest =
        ap (map (λ (x : Motion). x.senders)) motions_are ∙ map-append (λ (x : Motion). x.senders) h.before (m ∷ rest) in
        ap (λ k. gang_of s segments tree k) number_is
        ∙ ap (λ k. get_or (map (λ (x : Motion). x.senders) (motions_in_plan s segments tree)) k []) (sym (length-map h.before (λ (x : Motion). x.senders)))
        ∙ ap (λ l. get_or l (length (map (λ (x : Motion). x.senders) h.before)) []) ms
        ∙ at_number (map (λ (x : Motion). x.senders) h.before) m.senders (map (λ (x : Motion). x.senders) rest) []

    pub node_is : motion_node tree n ≡ Some p
    node_is = ap (motion_node tree) place_is ∙ ap (λ l. slice_get l (length h.over)) nodes_are ∙ at_place h.over p (motions_below c ++ h.under)

    pub top_is : top_of tree n ≡ below_motion (Some p)
    top_is = ap (top_of tree) place_is ∙ ap below_motion (ap (motion_node tree) (sym place_is) ∙ node_is)

    -- and the child stands in that slice
    pub child_stands : StandsIn s segments tree n m.senders (n + 1) c
    child_stands = record {
      before = h.before ++ m ∷ [];
      after = h.after;
      motions = motions_are ∙ sym (append_assoc h.before (m ∷ []) (motions_of s segments n m.senders (n + 1) c ++ h.after));
      number = let b = h.number in omega (arith, length-append h.before (m ∷ []), b);
      over = h.over ++ p ∷ [];
      under = h.under;
      nodes = nodes_are ∙ sym (append_assoc h.over (p ∷ []) (motions_below c ++ h.under));
      place = let b = h.place in omega (arith, length-append h.over (p ∷ []), b);
      gang_is = senders_are;
    }
