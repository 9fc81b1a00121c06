-- The gang of a motion's slice are the motion's senders, and gangs ascend.
use Rattle.std.proofs.Common.{◌≡◌, ℕ, suc, zero, ◌+◌, ◌<◌, ◌≤◌, ℤ, pos, List, [], ◌∷◌, ◌++◌, length, ap, sym, subst, ◌∙◌, refl, inl, arith, length-append}
use Rattle.std.specs.Prelude.{◌<ℤ◌}
use Rattle.std.specs.List.{AllByRecursion}
use Rattle.std.proofs.lemmas.Int.{ints}
use Rattle.pl_tree.specs.declared.schema.Locus.{Locus}
use Rattle.pl_tree.specs.declared.schema.Locus.TheVariants.{Entry, Hashed, Replicated, Strewn}
use Rattle.pl_tree.specs.Trees.{Tree, Scan, Filter, Project, Limit, Sort, Join, Single, Partial, Final, Gather, Redistribute, Broadcast, tree_in, motions_in}
use Rattle.pl_tree.specs.Loci.{locus_of}
use Rattle.pl_plan.specs.declared.sound.Judged.{Judged}
use Rattle.pl_plan.specs.Motions.{Motion, segments_from, dispatcher, gang_at, motions_of, motions_in_plan}
use Rattle.pl_plan.proofs.LayoutLaws.{motions_long}
use Rattle.pl_parts.proofs.Members.{In}
use Rattle.ic_motion.specs.Hearing.{Ascends}
use Rattle.ex_plan.specs.Fitting.{IsKnown, AreKnown}
use Rattle.ex_plan.proofs.Standing.{StandsIn, motions_below, same_below, join_left, join_right, child_stands, in_plan, number_is, senders_are}
use Rattle.ex_plan.proofs.Spotted.{two}

all_both : {A : Type 0} (P : A → Type 0) (xs ys : List A) → AllByRecursion P xs → AllByRecursion P ys → AllByRecursion P (xs ++ ys)
all_both P [] ys h k = k
all_both P (x ∷ xs) ys h k = (h.0, all_both P xs ys h.1 k)

module _ (j : Judged) where
  one : (slice n : ℕ) (gang : List ℤ) (p c : Tree) → motions_of j.schemas j.segments slice gang n p ≡ record { number = n; above = slice; senders = gang_at j.segments (locus_of j.schemas c); receivers = gang } ∷ motions_of j.schemas j.segments n (gang_at j.segments (locus_of j.schemas c)) (n + 1) c
      → motions_below p ≡ p ∷ motions_below c → StandsIn j.schemas j.segments (tree_in j.plan) slice gang n p → IsKnown j (record { number = n; above = slice; senders = gang_at j.segments (locus_of j.schemas c); receivers = gang })
  one slice n gang p c e f h =
      let m : Motion = record { number = n; above = slice; senders = gang_at j.segments (locus_of j.schemas c); receivers = gang } in
      let planned = in_plan j.schemas j.segments (tree_in j.plan) slice gang n p c m e f h in
      let number : n ≡ suc (length h.before) = number_is j.schemas j.segments (tree_in j.plan) slice gang n p c m e f h in
      let long : length (motions_in_plan j.schemas j.segments (tree_in j.plan)) ≡ length h.before + suc (length planned.0) = ap length planned.1 ∙ length-append h.before (m ∷ planned.0) in
      record {
        slice = omega (arith, number, long, motions_long j.schemas j.segments 0 dispatcher 1 (tree_in j.plan));
        gang = senders_are j.schemas j.segments (tree_in j.plan) slice gang n p c m e f h;
      }

  below : (slice n : ℕ) (gang : List ℤ) (p c : Tree) → motions_of j.schemas j.segments slice gang n p ≡ record { number = n; above = slice; senders = gang_at j.segments (locus_of j.schemas c); receivers = gang } ∷ motions_of j.schemas j.segments n (gang_at j.segments (locus_of j.schemas c)) (n + 1) c
      → motions_below p ≡ p ∷ motions_below c → StandsIn j.schemas j.segments (tree_in j.plan) slice gang n p → StandsIn j.schemas j.segments (tree_in j.plan) n (gang_at j.segments (locus_of j.schemas c)) (n + 1) c
  below slice n gang p c e f h = child_stands j.schemas j.segments (tree_in j.plan) slice gang n p c (record { number = n; above = slice; senders = gang_at j.segments (locus_of j.schemas c); receivers = gang }) e f h

  -- all motions of a node that stands in the plan
  pub all_known : (slice n : ℕ) (gang : List ℤ) (p : Tree) → StandsIn j.schemas j.segments (tree_in j.plan) slice gang n p → AllByRecursion (IsKnown j) (motions_of j.schemas j.segments slice gang n p)
  all_known slice n gang (Scan t) h = tt
  all_known slice n gang (Filter e c) h = all_known slice n gang c (same_below j.schemas j.segments (tree_in j.plan) slice gang n (Filter e c) c refl refl h)
  all_known slice n gang (Project cols c) h = all_known slice n gang c (same_below j.schemas j.segments (tree_in j.plan) slice gang n (Project cols c) c refl refl h)
  all_known slice n gang (Limit k c) h = all_known slice n gang c (same_below j.schemas j.segments (tree_in j.plan) slice gang n (Limit k c) c refl refl h)
  all_known slice n gang (Sort ks c) h = all_known slice n gang c (same_below j.schemas j.segments (tree_in j.plan) slice gang n (Sort ks c) c refl refl h)
  all_known slice n gang (Join on l r) h =
      all_both (IsKnown j) (motions_of j.schemas j.segments slice gang n l) (motions_of j.schemas j.segments slice gang (n + motions_in l) r)
      (all_known slice n gang l (join_left j.schemas j.segments (tree_in j.plan) slice gang n l r (Join on l r) refl (two l r) h))
      (all_known slice (n + motions_in l) gang r (join_right j.schemas j.segments (tree_in j.plan) slice gang n l r (Join on l r) refl (two l r) h))
  all_known slice n gang (Single g cs c) h = all_known slice n gang c (same_below j.schemas j.segments (tree_in j.plan) slice gang n (Single g cs c) c refl refl h)
  all_known slice n gang (Partial g cs c) h = all_known slice n gang c (same_below j.schemas j.segments (tree_in j.plan) slice gang n (Partial g cs c) c refl refl h)
  all_known slice n gang (Final c) h = all_known slice n gang c (same_below j.schemas j.segments (tree_in j.plan) slice gang n (Final c) c refl refl h)
  all_known slice n gang (Gather o c) h = (one slice n gang (Gather o c) c refl refl h, all_known n (n + 1) (gang_at j.segments (locus_of j.schemas c)) c (below slice n gang (Gather o c) c refl refl h))
  all_known slice n gang (Redistribute ks c) h = (one slice n gang (Redistribute ks c) c refl refl h, all_known n (n + 1) (gang_at j.segments (locus_of j.schemas c)) c (below slice n gang (Redistribute ks c) c refl refl h))
  all_known slice n gang (Broadcast c) h = (one slice n gang (Broadcast c) c refl refl h, all_known n (n + 1) (gang_at j.segments (locus_of j.schemas c)) c (below slice n gang (Broadcast c) c refl refl h))

  pub are_known : (slice n : ℕ) (gang : List ℤ) (p : Tree) → StandsIn j.schemas j.segments (tree_in j.plan) slice gang n p → AreKnown j slice n p
  are_known slice n gang p h = subst (λ g. AllByRecursion (IsKnown j) (motions_of j.schemas j.segments slice g n p)) (sym h.gang_is) (all_known slice n gang p h)

-- ---- gangs

later : (a first n : ℕ) → a < first → AllByRecursion (λ b. pos a <ℤ b) (segments_from first n)
later a first zero lt = tt
later a first (suc n) lt = (omega (arith, ints, lt), later a (suc first) n (omega (arith, lt)))

pub segments_ascend : (first n : ℕ) → Ascends (segments_from first n)
segments_ascend first zero = tt
segments_ascend first (suc n) = (later first (suc first) n (omega arith), segments_ascend (suc first) n)

pub gang_ascends : (segments : ℕ) (l : Locus) → Ascends (gang_at segments l)
gang_ascends segments Entry = segments_ascend 0 segments
gang_ascends segments (Hashed a) = segments_ascend 0 segments
gang_ascends segments Replicated = segments_ascend 0 1
gang_ascends segments Strewn = segments_ascend 0 segments

some_from : (first n : ℕ) → 1 ≤ n → In (pos first) (segments_from first n)
some_from first zero least = absurd (omega (arith, least))
some_from first (suc n) least = inl refl

-- each has a member
pub gang_some : (segments : ℕ) (l : Locus) → 1 ≤ segments → In (pos 0) (gang_at segments l)
gang_some segments Entry least = some_from 0 segments least
gang_some segments (Hashed a) least = some_from 0 segments least
gang_some segments Replicated least = some_from 0 1 (omega arith)
gang_some segments Strewn least = some_from 0 segments least
