-- Of a node without limits, wherever it stands.
use Rattle.std.proofs.Common.{◌≡◌, ℕ, ◌+◌, ℤ, pos, negsuc, true, false, List, [], length, Option, Some, None, refl, sym, subst}
use Rattle.ic_row.specs.declared.order.Key.{Key}
use Rattle.pl_tree.specs.declared.node.Pair.{Pair}
use Rattle.pl_tree.specs.declared.schema.Schema.{Schema}
use Rattle.pl_tree.specs.declared.schema.Locus.{Locus}
use Rattle.pl_tree.specs.declared.schema.Locus.TheVariants.{Entry, Hashed, Replicated, Strewn}
use Rattle.pl_tree.specs.Trees.{Tree, Scan, Filter, Project, Limit, Sort, Join, Single, Partial, Final, Gather, Redistribute, Broadcast, motions_in}
use Rattle.pl_tree.specs.Columns.{width_of}
use Rattle.pl_tree.specs.Places.{places_of}
use Rattle.pl_tree.specs.Loci.{hashed_at, moved_to, joined_locus, locus_of}
use Rattle.pl_tree.specs.Orders.{keys_in, order_of}
use Rattle.pl_tree.specs.Partials.{Groups, partial_under}
use Rattle.pl_plan.specs.Motions.{gang_at}
use Rattle.pl_plan.specs.Tests.{may_join, is_entry}
use Rattle.pl_ops.specs.Rows.{Line as Row}
use Rattle.pl_ops.specs.Groups.{columns_from, results_from, aggregate_rows}
use Rattle.pl_ops.specs.Streams.{Stream, at_end}
use Rattle.pl_mean.specs.Parts.{Site, Parts, scanned, at_own, final_of, part}
use Rattle.pl_mean.specs.Outputs.{out}
use Rattle.pl_answers.specs.Runs.{Taken, by_worker, IsRun}
use Rattle.pl_parts.proofs.Bags.{Perm, pnil}
use Rattle.pl_parts.proofs.Members.{In}
use Rattle.pl_parts.proofs.Grouping.{grouped_perm, from_fair, aggregate_moves}
use Rattle.pl_answers.proofs.Fronts.{Front, whole_front, filter_front, project_front, sort_front, bag_front, join_front}
use Rattle.pl_answers.proofs.Shares.{gang_segments}
use Rattle.pl_answers.proofs.Motions.{IsPrefix, plain_front, gather_front, hashed_front}

-- ---- what the rules say of each node

abbrev pub NoLimits : Tree → Type 0
NoLimits (Scan t) = Unit {0}
NoLimits (Filter e c) = NoLimits c
NoLimits (Project cols c) = NoLimits c
NoLimits (Limit n c) = ⊥
NoLimits (Sort ks c) = NoLimits c
NoLimits (Join on l r) = NoLimits l × NoLimits r
NoLimits (Single g cs c) = NoLimits c
NoLimits (Partial g cs c) = NoLimits c
NoLimits (Final c) = NoLimits c
NoLimits (Gather o c) = NoLimits c
NoLimits (Redistribute ks c) = NoLimits c
NoLimits (Broadcast c) = NoLimits c

-- sides that may be joined, motions over segments, and merges of what is sorted
abbrev pub IsFine : List Schema → Tree → Type 0
IsFine s (Scan t) = Unit {0}
IsFine s (Filter e c) = IsFine s c
IsFine s (Project cols c) = IsFine s c
IsFine s (Limit n c) = IsFine s c
IsFine s (Sort ks c) = IsFine s c
IsFine s (Join on l r) = IsFine s l × IsFine s r × (may_join on (locus_of s l) (locus_of s r) ≡ true)
IsFine s (Single g cs c) = IsFine s c
IsFine s (Partial g cs c) = IsFine s c
IsFine s (Final c) = IsFine s c
IsFine s (Gather o c) = IsFine s c × (is_entry (locus_of s c) ≡ false) × IsPrefix (keys_in o) (order_of c)
IsFine s (Redistribute ks c) = IsFine s c × (is_entry (locus_of s c) ≡ false)
IsFine s (Broadcast c) = IsFine s c × (is_entry (locus_of s c) ≡ false)

-- ---- where nodes stand

-- what has this locus stands at the dispatcher, or at the segments
abbrev pub StandsAt : Locus → ℤ → Type 0
StandsAt Entry (negsuc n) = Unit {0}
StandsAt Entry (pos s) = ⊥
StandsAt (Hashed a) (negsuc n) = ⊥
StandsAt (Hashed a) (pos s) = Unit {0}
StandsAt Replicated (negsuc n) = ⊥
StandsAt Replicated (pos s) = Unit {0}
StandsAt Strewn (negsuc n) = ⊥
StandsAt Strewn (pos s) = Unit {0}

pub moved_stands : (cols : List ℕ) (l : Locus) (at : ℤ) → StandsAt (moved_to cols l) at → StandsAt l at
moved_stands cols Entry at h = h
moved_stands cols (Hashed a) (negsuc n) h = by (places_of a cols) h
  where
    by : (o : Option (List ℕ)) → StandsAt (hashed_at o) (negsuc n) → ⊥
    by None h' = h'
    by (Some b) h' = h'
moved_stands cols (Hashed a) (pos s) h = tt
moved_stands cols Replicated at h = h
moved_stands cols Strewn at h = h

away_stands : (l : Locus) (s : ℕ) → is_entry l ≡ false → StandsAt l (pos s)
away_stands Entry s h = absurd (cc)
away_stands (Hashed a) s h = tt
away_stands Replicated s h = tt
away_stands Strewn s h = tt

pub gang_stands : (segments : ℕ) (l : Locus) (a : ℤ) → is_entry l ≡ false → In a (gang_at segments l) → StandsAt l a
gang_stands segments l a h i = let q = gang_segments segments l a i in subst (StandsAt l) (sym q.1) (away_stands l q.0 h)

join_stands : (on : List Pair) (n : ℕ) (a b : Locus) (at : ℤ) → may_join on a b ≡ true → StandsAt (joined_locus n a b) at → StandsAt a at × StandsAt b at
join_stands on n Entry Entry at j h = (h, h)
join_stands on n Replicated Replicated at j h = (h, h)
join_stands on n (Hashed a) Replicated (negsuc m) j h = absurd h
join_stands on n (Hashed a) Replicated (pos s) j h = (tt, tt)
join_stands on n Strewn Replicated (negsuc m) j h = absurd h
join_stands on n Strewn Replicated (pos s) j h = (tt, tt)
join_stands on n Replicated (Hashed b) (negsuc m) j h = absurd h
join_stands on n Replicated (Hashed b) (pos s) j h = (tt, tt)
join_stands on n Replicated Strewn (negsuc m) j h = absurd h
join_stands on n Replicated Strewn (pos s) j h = (tt, tt)
join_stands on n (Hashed a) (Hashed b) (negsuc m) j h = absurd h
join_stands on n (Hashed a) (Hashed b) (pos s) j h = (tt, tt)
join_stands on n a b at j h = absurd (cc)

-- ---- aggregates

own_place : (l : Locus) (at : ℤ) (f : List Row → List Row) (p : Parts) → StandsAt l at → at_own l f p at ≡ f (p at)
own_place Entry (negsuc n) f p h = refl
own_place Entry (pos s) f p h = absurd h
own_place (Hashed a) (negsuc n) f p h = absurd h
own_place (Hashed a) (pos s) f p h = refl
own_place Replicated (negsuc n) f p h = absurd h
own_place Replicated (pos s) f p h = refl
own_place Strewn (negsuc n) f p h = absurd h
own_place Strewn (pos s) f p h = refl

final_moves : (o : Option Groups) (rows rows' : List Row) → Perm rows rows' → Perm (final_of o rows) (final_of o rows')
final_moves None rows rows' p = pnil
final_moves (Some g) rows rows' p = grouped_perm (columns_from 0 (length g.group)) (results_from (length g.group) g.calls) (from_fair (length g.group) g.calls) p

aggregate_front : (l : Locus) (f : List Row → List Row) (keys : List Key) (s : Stream) (p : Parts) (at : ℤ) → ((xs ys : List Row) → Perm xs ys → Perm (f xs) (f ys)) → StandsAt l at → Front keys s (p at) → Front [] (at_end f s) (at_own l f p at)
aggregate_front l f keys s p at moves st h = subst (Front [] (at_end f s)) (sym (own_place l at f p st)) (bag_front f keys s (p at) moves h)

-- ---- each node

module _ (w : Site) (taken : Taken) where
  pub fronts : (v n : ℕ) (p : Tree) (at : ℤ) → IsFine w.schemas p → NoLimits p → StandsAt (locus_of w.schemas p) at → IsRun w taken v n p at → Front (order_of p) (out w (by_worker taken v at) n p at) (part w p at)
  fronts v n (Scan t) at s u st r = whole_front (record { rows = scanned w t at; ended = true })
  fronts v n (Filter e c) at s u st r = filter_front e (order_of c) (out w (by_worker taken v at) n c at) (part w c at) (fronts v n c at s u st r)
  fronts v n (Project cols c) at s u st r = project_front cols (order_of c) (out w (by_worker taken v at) n c at) (part w c at) (fronts v n c at s u (moved_stands cols (locus_of w.schemas c) at st) r)
  fronts v n (Limit k c) at s u st r = absurd u
  fronts v n (Sort ks c) at s u st r = sort_front ks (order_of c) (out w (by_worker taken v at) n c at) (part w c at) (fronts v n c at s u st r)
  fronts v n (Join on a b) at s u st r =
      let q = join_stands on (width_of w.schemas a) (locus_of w.schemas a) (locus_of w.schemas b) at s.2 st in
      join_front on (order_of b) (order_of a) (out w (by_worker taken v at) (n + motions_in a) b at) (out w (by_worker taken v at) n a at) (part w b at) (part w a at)
      (fronts v (n + motions_in a) b at s.1 u.1 q.1 r.1) (fronts v n a at s.0 u.0 q.0 r.0)
  fronts v n (Single g cs c) at s u st r =
      let q = moved_stands g (locus_of w.schemas c) at st in
      aggregate_front (locus_of w.schemas c) (aggregate_rows g cs) (order_of c) (out w (by_worker taken v at) n c at) (part w c) at (aggregate_moves g cs) q (fronts v n c at s u q r)
  fronts v n (Partial g cs c) at s u st r =
      let q = moved_stands g (locus_of w.schemas c) at st in
      aggregate_front (locus_of w.schemas c) (aggregate_rows g cs) (order_of c) (out w (by_worker taken v at) n c at) (part w c) at (aggregate_moves g cs) q (fronts v n c at s u q r)
  fronts v n (Final c) at s u st r =
      aggregate_front (locus_of w.schemas c) (final_of (partial_under c)) (order_of c) (out w (by_worker taken v at) n c at) (part w c) at (final_moves (partial_under c)) st (fronts v n c at s u st r)
  fronts v n (Gather ord c) (negsuc d) s u st r =
      gather_front w (taken v (negsuc d) n) (negsuc d) (locus_of w.schemas c) (order_of c) (λ a. out w (by_worker taken n a) (n + 1) c a) (part w c) (λ a. IsRun w taken n (n + 1) c a)
      (λ a i q. fronts n (n + 1) c a s.0 u (gang_stands w.segments (locus_of w.schemas c) a s.1 i) q) r.0 ord s.2 r.1
  fronts v n (Gather ord c) (pos i) s u st r = absurd st
  fronts v n (Redistribute ks c) (negsuc d) s u st r = absurd st
  fronts v n (Redistribute ks c) (pos i) s u st r =
      hashed_front w (taken v (pos i) n) i (locus_of w.schemas c) (order_of c) ks (λ a. out w (by_worker taken n a) (n + 1) c a) (part w c) (λ a. IsRun w taken n (n + 1) c a)
      (λ a j q. fronts n (n + 1) c a s.0 u (gang_stands w.segments (locus_of w.schemas c) a s.1 j) q) r.0 r.1
  fronts v n (Broadcast c) (negsuc d) s u st r = absurd st
  fronts v n (Broadcast c) (pos i) s u st r =
      plain_front w (taken v (pos i) n) (pos i) (locus_of w.schemas c) (order_of c) (λ a. out w (by_worker taken n a) (n + 1) c a) (part w c) (λ a. IsRun w taken n (n + 1) c a)
      (λ a j q. fronts n (n + 1) c a s.0 u (gang_stands w.segments (locus_of w.schemas c) a s.1 j) q) r.0 r.1
