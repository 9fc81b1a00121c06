-- The law of the parts at each node of a sound plan.
use Rattle.std.proofs.Common.{◌≡◌, ℕ, ◌+◌, pos, List, [], ◌∷◌, ◌++◌, ◌∙◌, ◌<◌, true, subst, sym, negsuc}
use Rattle.std.specs.Prelude.{IsPermutation}
use Rattle.std.specs.List.{AllByRecursion}
use Rattle.ic_row.specs.Hash.{segment_for}
use Rattle.pl_tree.specs.declared.schema.Locus.{Locus}
use Rattle.pl_tree.specs.declared.schema.Locus.TheVariants.{Entry, Hashed, Replicated, Strewn}
use Rattle.pl_tree.specs.Trees.{Tree, Scan, Filter, Project, Limit, Sort, Join, Single, Partial, Final, Gather, Redistribute, Broadcast, nodes_in}
use Rattle.pl_tree.specs.Loci.{locus_of}
use Rattle.pl_plan.specs.Places.{Place, here, postorder, places_in}
use Rattle.pl_plan.specs.declared.rule.Rule.TheVariants.{NotAtEntry}
use Rattle.pl_plan.specs.Tests.{is_entry}
use Rattle.pl_plan.specs.Rules.{Given}
use Rattle.pl_plan.specs.Soundness.{IsUnbroken, IsSound}
use Rattle.pl_ops.specs.declared.loaded.Spread.{Spread}
use Rattle.pl_ops.specs.Rows.{Line as Row}
use Rattle.pl_mean.specs.Parts as parts
use Rattle.pl_mean.specs.Parts.{part}
use Rattle.pl_parts.proofs.Bags.{alike, ptrans, back, shuffle}
use Rattle.pl_parts.proofs.Members.{All-from_in}
use Rattle.pl_parts.proofs.Walking.{yes_if, left_of, join_left, join_right, root_own}
use Rattle.pl_mean.specs.Logical.{meaning, logical}
use Rattle.pl_parts.specs.Law.{AreLoaded, site_of, Keeps, Means, PartsLaw}
use Rattle.pl_parts.proofs.Forms.{together}
use Rattle.pl_parts.proofs.Nodes.{Bag, Reads, Held}
use Rattle.pl_parts.proofs.Well.{IsWell, well, is_well, is_alone}
use Rattle.pl_parts.proofs.Scans.{world, segment_is, at_place}
use Rattle.pl_parts.proofs.Canon.{full, are_full, same, all_same}
use Rattle.pl_parts.proofs.Law.{all_sent, plain, good}

module _ (g : Given) (tables : List Spread) (wholes : List (List Row)) (a : AreLoaded g wholes tables) (t : Tree) (s : IsWell g.schemas t) where
  abbrev p : parts.Parts
  p = part (site_of g tables) t

  abbrev q : parts.Parts
  q = part (site_of g (full g tables wholes a)) t

  here_same : (i : ℕ) → i < g.segments → p (pos i) ≡ q (pos i)
  here_same i h = same g tables wholes a t s (pos i) h

  away_same : p (negsuc 0) ≡ q (negsuc 0)
  away_same = same g tables wholes a t s (negsuc 0) tt

  keeps_of : (l : Locus) → Held (world g.segments) l (λ place. q (at_place place)) → Keeps g.segments l p
  keeps_of Entry h = λ i k. here_same i k ∙ h i
  keeps_of (Hashed b) h = (away_same ∙ h.0, λ i k. subst (AllByRecursion (λ row. segment_for b row g.segments ≡ i)) (sym (here_same i k)) (All-from_in (λ row. segment_for b row g.segments ≡ i) (q (pos i)) (λ row j. segment_is g.segments b row ∙ h.1 i row j)))
  keeps_of Replicated h = (away_same ∙ h.0, λ i j k m. shuffle (ptrans (alike (here_same i k)) (ptrans (h.1 i j k m) (alike (sym (here_same j m))))))
  keeps_of Strewn h = away_same ∙ h

  means_of : (l : Locus) (m : List Row) → Reads (world g.segments) (Bag m) l (λ place. q (at_place place)) → Means g.segments l p m
  unfolding together
  means_of Entry m h = shuffle (ptrans (alike away_same) h)
  means_of (Hashed b) m h = shuffle (ptrans (alike (all_same g tables wholes a t s)) (ptrans (back (all_sent q g.segments)) h))
  means_of Replicated m h = λ i k. shuffle (ptrans (alike (here_same i k)) (h i k))
  means_of Strewn m h = shuffle (ptrans (alike (all_same g tables wholes a t s)) (ptrans (back (all_sent q g.segments)) h))

module _ (g : Given) (tables : List Spread) (wholes : List (List Row)) (a : AreLoaded g wholes tables) where
  pub law : (p : Tree) → IsWell g.schemas p → PartsLaw g tables wholes p
  law p s =
      let f = full g tables wholes a in
      let b = are_full g tables wholes a in
      record {
        keeps = keeps_of g tables wholes a p s (locus_of g.schemas p) (good g f wholes b p s).held;
        means = λ e. means_of g tables wholes a p s (locus_of g.schemas p) (meaning g.schemas wholes (logical p)) (plain g f wholes b p e (good g f wholes b p s)).reads;
      }

  abbrev Laws : List Place → Type 0
  Laws = AllByRecursion (λ q. PartsLaw g tables wholes q.node)

  joined : (xs ys : List Place) → Laws xs → Laws ys → Laws (xs ++ ys)
  joined [] ys h k = k
  joined (x ∷ xs) ys h k = (h.0, joined xs ys h.1 k)

  own : (above : List Tree) (n : ℕ) (p : Tree) → AllByRecursion (IsUnbroken g) (postorder above n p) → Laws (here above n p)
  own above n p h = (law p (well g above n p h).0, tt)

  each : (above : List Tree) (n : ℕ) (p : Tree) → AllByRecursion (IsUnbroken g) (postorder above n p) → Laws (postorder above n p)
  each above n (Scan t) h = own above n (Scan t) h
  each above n (Filter e c) h = joined (postorder (Filter e c ∷ above) (n + 1) c) (here above n (Filter e c)) (each (Filter e c ∷ above) (n + 1) c (left_of g above n (n + 1) (Filter e c) c h)) (own above n (Filter e c) h)
  each above n (Project cols c) h = joined (postorder (Project cols c ∷ above) (n + 1) c) (here above n (Project cols c)) (each (Project cols c ∷ above) (n + 1) c (left_of g above n (n + 1) (Project cols c) c h)) (own above n (Project cols c) h)
  each above n (Limit k c) h = joined (postorder (Limit k c ∷ above) (n + 1) c) (here above n (Limit k c)) (each (Limit k c ∷ above) (n + 1) c (left_of g above n (n + 1) (Limit k c) c h)) (own above n (Limit k c) h)
  each above n (Sort ks c) h = joined (postorder (Sort ks c ∷ above) (n + 1) c) (here above n (Sort ks c)) (each (Sort ks c ∷ above) (n + 1) c (left_of g above n (n + 1) (Sort ks c) c h)) (own above n (Sort ks c) h)
  each above n (Single gr cs c) h = joined (postorder (Single gr cs c ∷ above) (n + 1) c) (here above n (Single gr cs c)) (each (Single gr cs c ∷ above) (n + 1) c (left_of g above n (n + 1) (Single gr cs c) c h)) (own above n (Single gr cs c) h)
  each above n (Partial gr cs c) h = joined (postorder (Partial gr cs c ∷ above) (n + 1) c) (here above n (Partial gr cs c)) (each (Partial gr cs c ∷ above) (n + 1) c (left_of g above n (n + 1) (Partial gr cs c) c h)) (own above n (Partial gr cs c) h)
  each above n (Final c) h = joined (postorder (Final c ∷ above) (n + 1) c) (here above n (Final c)) (each (Final c ∷ above) (n + 1) c (left_of g above n (n + 1) (Final c) c h)) (own above n (Final c) h)
  each above n (Gather o c) h = joined (postorder (Gather o c ∷ above) (n + 1) c) (here above n (Gather o c)) (each (Gather o c ∷ above) (n + 1) c (left_of g above n (n + 1) (Gather o c) c h)) (own above n (Gather o c) h)
  each above n (Redistribute ks c) h = joined (postorder (Redistribute ks c ∷ above) (n + 1) c) (here above n (Redistribute ks c)) (each (Redistribute ks c ∷ above) (n + 1) c (left_of g above n (n + 1) (Redistribute ks c) c h)) (own above n (Redistribute ks c) h)
  each above n (Broadcast c) h = joined (postorder (Broadcast c ∷ above) (n + 1) c) (here above n (Broadcast c)) (each (Broadcast c ∷ above) (n + 1) c (left_of g above n (n + 1) (Broadcast c) c h)) (own above n (Broadcast c) h)
  each above n (Join on l r) h =
      joined (postorder (Join on l r ∷ above) (n + 1) l) (postorder (Join on l r ∷ above) (n + 1 + nodes_in l) r ++ here above n (Join on l r))
      (each (Join on l r ∷ above) (n + 1) l (join_left g above n (Join on l r) l r (n + 1) (n + 1 + nodes_in l) h))
      (joined (postorder (Join on l r ∷ above) (n + 1 + nodes_in l) r) (here above n (Join on l r)) (each (Join on l r ∷ above) (n + 1 + nodes_in l) r (join_right g above n (Join on l r) l r (n + 1) (n + 1 + nodes_in l) h)) (own above n (Join on l r) h))

  pub each_node : (p : Tree) → IsSound g p → Laws (places_in p)
  each_node p s = each [] 0 p s

entry_means : (n : ℕ) (l : Locus) (p : parts.Parts) (bag : List Row) → is_entry l ≡ true → Means n l p bag → IsPermutation (p (negsuc 0)) bag
entry_means n Entry p bag e h = h
entry_means n (Hashed columns) p bag e h = absurd (cc)
entry_means n Replicated p bag e h = absurd (cc)
entry_means n Strewn p bag e h = absurd (cc)

pub root_part : (g : Given) (tables : List Spread) (wholes : List (List Row)) → AreLoaded g wholes tables → (tree : Tree) → IsSound g tree → IsPermutation (part (site_of g tables) tree (negsuc 0)) (meaning g.schemas wholes (logical tree))
root_part g tables wholes a tree s =
    entry_means g.segments (locus_of g.schemas tree) (part (site_of g tables) tree) (meaning g.schemas wholes (logical tree))
    (yes_if (is_entry (locus_of g.schemas tree)) (root_own g [] 0 tree s NotAtEntry)) ((law g tables wholes a tree (is_well g tree s)).means (is_alone g tree s))
