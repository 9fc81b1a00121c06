-- A slice's part hears each motion that the slice hears.
use Rattle.std.proofs.Common.{◌≡◌, ℕ, suc, ◌+◌, ℤ, Bool, true, false, ◌&&◌, ◌==◌, List, ◌∷◌, Option, None, refl, sym, ap, subst, ◌∙◌, inl, inr, arith}
use Rattle.std.specs.Prelude.{◌⊎◌, Contains}
use Rattle.std.specs.Ordering.{int_eq}
use Rattle.std.proofs.lemmas.Bool.Decides.{Decides-eqb}
use Rattle.ic_row.specs.declared.order.Key.{Key}
use Rattle.pl_tree.specs.Trees.{Tree, Scan, Filter, Project, Limit, Sort, Join, Single, Partial, Final, Gather, Redistribute, Broadcast, nodes_in, motions_in}
use Rattle.pl_tree.specs.Loci.{locus_of}
use Rattle.pl_plan.specs.Motions.{Motion, Link, dispatcher, gang_at, motions_of, motions_in_plan, links_of, links_in}
use Rattle.pl_parts.proofs.Members.{In, In-cases, In-from_filter, In-from_flat}
use Rattle.pl_mean.specs.Parts.{Site}
use Rattle.pl_runs.specs.Slices.{Worker, is_heard_by, receiving, top_of}
use Rattle.ex_tree.specs.Parts.{Source, Has}
use Rattle.ex_tree.specs.Plans.{Place, source_at, part_of}
use Rattle.ex_plan.proofs.Standing.{StandsIn, root_stands, same_below, join_left, join_right, child_stands, top_is}
use Rattle.ex_plan.proofs.Spotted.{two}
use Rattle.ex_plan.proofs.Ends.{in_contains, contains_in, from_links}

-- of a node whose first motion is the n-th, whatever the nodes' numbers are: the part hears this motion
pub record HeardIn (s : Site) (p : Place) (n : ℕ) (t : Tree) (m : Motion) : Type 0 where
  pub source : Source
  pub has : (i : ℕ) → Has (part_of s p i n t) source
  pub motion : source.end.motion ≡ m.number
  pub senders : source.senders ≡ m.senders

module _ (s : Site) (p : Place) (tree : Tree) where
  lifted : (slice n k : ℕ) (c t : Tree) (m : Motion) (f : ℕ → ℕ) → ((i : ℕ) (x : Source) → Has (part_of s p (f i) k c) x → Has (part_of s p i n t) x)
      → ((m.above ≡ slice) × HeardIn s p k c m) ⊎ HeardIn s p (suc m.above) (top_of tree m.above) m → ((m.above ≡ slice) × HeardIn s p n t m) ⊎ HeardIn s p (suc m.above) (top_of tree m.above) m
  lifted slice n k c t m f up (inl h) = inl (h.0, record { source = h.1.source; has = λ i. up i h.1.source (h.1.has (f i)); motion = h.1.motion; senders = h.1.senders })
  lifted slice n k c t m f up (inr h) = inr h

  -- of a motion over a child
  over : (slice n : ℕ) (gang : List ℤ) (q c : Tree) (order : Option (List Key)) (m : Motion) → ((i : ℕ) → Has (part_of s p i n q) (source_at s p n order c)) → top_of tree n ≡ c
      → In m (record { number = n; above = slice; senders = gang_at s.segments (locus_of s.schemas c); receivers = gang } ∷ motions_of s.schemas s.segments n (gang_at s.segments (locus_of s.schemas c)) (n + 1) c)
      → (In m (motions_of s.schemas s.segments n (gang_at s.segments (locus_of s.schemas c)) (n + 1) c) → ((m.above ≡ n) × HeardIn s p (n + 1) c m) ⊎ HeardIn s p (suc m.above) (top_of tree m.above) m)
      → ((m.above ≡ slice) × HeardIn s p n q m) ⊎ HeardIn s p (suc m.above) (top_of tree m.above) m
  over slice n gang q c order m has top (inl e) deeper =
      inl (ap (λ (x : Motion). x.above) e, record { source = source_at s p n order c; has = has; motion = sym (ap (λ (x : Motion). x.number) e); senders = sym (ap (λ (x : Motion). x.senders) e) })
  over slice n gang q c order m has top (inr i) deeper = elim (deeper i) [
    | inl h ↦
        let next : n + 1 ≡ suc m.above = omega (arith, h.0) in
        let at : c ≡ top_of tree m.above = sym top ∙ ap (top_of tree) (sym h.0) in
        inr (subst (λ t. HeardIn s p (suc m.above) t m) at (subst (λ k. HeardIn s p k c m) next h.1))
    | inr h ↦ inr h
  ]

  -- by the node itself if it stands in the slice that hears the motion, and else by the top of that slice
  heard_in : (slice n : ℕ) (gang : List ℤ) (t : Tree) → StandsIn s.schemas s.segments tree slice gang n t → (m : Motion) → In m (motions_of s.schemas s.segments slice gang n t)
      → ((m.above ≡ slice) × HeardIn s p n t m) ⊎ HeardIn s p (suc m.above) (top_of tree m.above) m
  heard_in slice n gang (Scan t) h m i = absurd i
  heard_in slice n gang (Filter e c) h m i = lifted slice n n c (Filter e c) m suc (λ j x k. k) (heard_in slice n gang c (same_below s.schemas s.segments tree slice gang n (Filter e c) c refl refl h) m i)
  heard_in slice n gang (Project cols c) h m i = lifted slice n n c (Project cols c) m suc (λ j x k. k) (heard_in slice n gang c (same_below s.schemas s.segments tree slice gang n (Project cols c) c refl refl h) m i)
  heard_in slice n gang (Limit k c) h m i = lifted slice n n c (Limit k c) m suc (λ j x k. k) (heard_in slice n gang c (same_below s.schemas s.segments tree slice gang n (Limit k c) c refl refl h) m i)
  heard_in slice n gang (Sort ks c) h m i = lifted slice n n c (Sort ks c) m suc (λ j x k. k) (heard_in slice n gang c (same_below s.schemas s.segments tree slice gang n (Sort ks c) c refl refl h) m i)
  heard_in slice n gang (Join on l r) h m i =
      elim (In-cases m (motions_of s.schemas s.segments slice gang n l) (motions_of s.schemas s.segments slice gang (n + motions_in l) r) i) [
        | inl x ↦ lifted slice n n l (Join on l r) m suc (λ j y k. inl k) (heard_in slice n gang l (join_left s.schemas s.segments tree slice gang n l r (Join on l r) refl (two l r) h) m x)
        | inr x ↦ lifted slice n (n + motions_in l) r (Join on l r) m (λ j. suc (j + nodes_in l)) (λ j y k. inr k) (heard_in slice (n + motions_in l) gang r (join_right s.schemas s.segments tree slice gang n l r (Join on l r) refl (two l r) h) m x)
      ]
  heard_in slice n gang (Single g cs c) h m i = lifted slice n n c (Single g cs c) m suc (λ j x k. k) (heard_in slice n gang c (same_below s.schemas s.segments tree slice gang n (Single g cs c) c refl refl h) m i)
  heard_in slice n gang (Partial g cs c) h m i = lifted slice n n c (Partial g cs c) m suc (λ j x k. k) (heard_in slice n gang c (same_below s.schemas s.segments tree slice gang n (Partial g cs c) c refl refl h) m i)
  heard_in slice n gang (Final c) h m i = lifted slice n n c (Final c) m suc (λ j x k. k) (heard_in slice n gang c (same_below s.schemas s.segments tree slice gang n (Final c) c refl refl h) m i)
  heard_in slice n gang (Gather o c) h m i =
      let k : Motion = record { number = n; above = slice; senders = gang_at s.segments (locus_of s.schemas c); receivers = gang } in
      over slice n gang (Gather o c) c o m (λ j. refl) (top_is s.schemas s.segments tree slice gang n (Gather o c) c k refl refl h) i
      (λ x. heard_in n (n + 1) (gang_at s.segments (locus_of s.schemas c)) c (child_stands s.schemas s.segments tree slice gang n (Gather o c) c k refl refl h) m x)
  heard_in slice n gang (Redistribute ks c) h m i =
      let k : Motion = record { number = n; above = slice; senders = gang_at s.segments (locus_of s.schemas c); receivers = gang } in
      over slice n gang (Redistribute ks c) c None m (λ j. refl) (top_is s.schemas s.segments tree slice gang n (Redistribute ks c) c k refl refl h) i
      (λ x. heard_in n (n + 1) (gang_at s.segments (locus_of s.schemas c)) c (child_stands s.schemas s.segments tree slice gang n (Redistribute ks c) c k refl refl h) m x)
  heard_in slice n gang (Broadcast c) h m i =
      let k : Motion = record { number = n; above = slice; senders = gang_at s.segments (locus_of s.schemas c); receivers = gang } in
      over slice n gang (Broadcast c) c None m (λ j. refl) (top_is s.schemas s.segments tree slice gang n (Broadcast c) c k refl refl h) i
      (λ x. heard_in n (n + 1) (gang_at s.segments (locus_of s.schemas c)) c (child_stands s.schemas s.segments tree slice gang n (Broadcast c) c k refl refl h) m x)

  pub heard_of : (m : Motion) → In m (motions_in_plan s.schemas s.segments tree) → HeardIn s p (suc m.above) (top_of tree m.above) m
  heard_of m i = elim (heard_in 0 1 dispatcher tree (root_stands s.schemas s.segments tree) m i) [
    | inl h ↦
        let next : 1 ≡ suc m.above = omega (arith, h.0) in
        let at : tree ≡ top_of tree m.above = ap (top_of tree) (sym h.0) in
        subst (λ t. HeardIn s p (suc m.above) t m) at (subst (λ k. HeardIn s p k tree m) next h.1)
    | inr h ↦ h
  ]

both_true : (a b : Bool) → (a && b) ≡ true → a ≡ true
both_true true b h = refl
both_true false b h = absurd cc

-- each connection that the worker hears is of a source of its part
pub link_heard : (w : Worker) (p : Place) (number : ℕ) (l : Link) → Contains (receiving w) l
    → (source : Source) × Has (part_of w.site p number (suc w.slice) (top_of w.tree w.slice)) source × (source.end.motion ≡ l.motion) × Contains source.senders l.from
link_heard w p number l there =
    let kept = In-from_filter (is_heard_by w) l (links_in w.site.schemas w.site.segments w.tree) (contains_in (receiving w) l there) in
    let of = In-from_flat links_of l (motions_in_plan w.site.schemas w.site.segments w.tree) kept.0 in
    let it = from_links of.0 l of.2 in
    let slice : of.0.above ≡ w.slice = sym it.above ∙ (Decides-eqb l.above w.slice).0 (both_true (l.above == w.slice) (int_eq l.to w.at) kept.1) in
    let h : HeardIn w.site p (suc w.slice) (top_of w.tree w.slice) of.0 = subst (λ k. HeardIn w.site p (suc k) (top_of w.tree k) of.0) slice (heard_of w.site p w.tree of.0 of.1) in
    (h.source, h.has number, h.motion ∙ sym it.number, subst (λ x. Contains x l.from) (sym h.senders) (in_contains of.0.senders l.from it.sender))
