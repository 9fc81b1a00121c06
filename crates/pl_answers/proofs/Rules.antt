-- What the rules of a sound plan say of its limits, its motions and its orders.
use Rattle.std.proofs.Common.{◌≡◌, ℕ, ◌+◌, ◌≤◌, negsuc, Bool, true, false, cond, List, [], ◌∷◌, ◌++◌, Option, Some, None, refl, ap, ◌∙◌, arith}
use Rattle.std.specs.Prelude.{◌==◌, nat_lt}
use Rattle.std.specs.List.{AllByRecursion}
use Rattle.std.proofs.lemmas.Bool.Decides.{nat_tests}
use Rattle.ic_row.specs.declared.order.Key.{Key}
use Rattle.pl_tree.specs.declared.schema.Locus.{Locus}
use Rattle.pl_tree.specs.declared.schema.Locus.TheVariants.{Entry, Hashed, Replicated, Strewn}
use Rattle.pl_tree.specs.Trees.{Tree, Scan, Filter, Project, Limit, Sort, Join, Single, Partial, Final, Gather, Redistribute, Broadcast, nodes_in}
use Rattle.pl_tree.specs.Loci.{locus_of}
use Rattle.pl_tree.specs.Orders.{keys_in, order_of}
use Rattle.pl_plan.specs.declared.rule.Rule.TheVariants.{JoinLocus, LimitLocus, OrderMissing, MotionAboveEntry, NotAtEntry}
use Rattle.pl_plan.specs.Places.{Place, postorder, is_root, root_limit, limit_over}
use Rattle.pl_plan.specs.Tests.{may_join, stops_early, same_flag, same_key, is_prefix, is_entry}
use Rattle.pl_plan.specs.Rules.{Given}
use Rattle.pl_plan.specs.Soundness.{IsUnbroken, IsSound}
use Rattle.pl_parts.proofs.Numbers.{both_true}
use Rattle.pl_parts.proofs.Walking.{yes_if, no_if, left_of, join_left, join_right, root_own}
use Rattle.pl_answers.proofs.Motions.{IsPrefix}
use Rattle.pl_answers.proofs.Nodes.{NoLimits, IsFine, StandsAt}
use Rattle.pl_answers.proofs.Cuts.{UnderGather}
use Rattle.pl_answers.proofs.Tops.{UnderRoot}

-- ---- tests

flag_is : (a b : Bool) → same_flag a b ≡ true → a ≡ b
flag_is true true h = refl
flag_is true false h = absurd (cc)
flag_is false true h = absurd (cc)
flag_is false false h = refl

column_is : (a b : ℕ) → (a == b) ≡ true → a ≡ b
column_is a b h = grind (arith, nat_tests)

key_is : (a b : Key) → same_key a b ≡ true → a ≡ b
key_is a b h =
    let t = both_true (a.column == b.column) (same_flag a.down b.down) h in
    let c = column_is a.column b.column t.0 in
    let d = flag_is a.down b.down t.1 in
    ap (λ (x : ℕ). key_with x a.down) c ∙ ap (λ (x : Bool). key_with b.column x) d
  where
    key_with : ℕ → Bool → Key
    key_with column down = record { column = column; down = down }

prefix_is : (keys all : List Key) → is_prefix keys all ≡ true → IsPrefix keys all
prefix_is [] all h = (all, refl)
prefix_is (a ∷ keys) [] h = absurd (cc)
prefix_is (a ∷ keys) (b ∷ all) h =
    let t = both_true (same_key a b) (is_prefix keys all) h in
    let r = prefix_is keys all t.1 in
    (r.0, ap (λ k. k ∷ (keys ++ r.0)) (key_is a b t.0) ∙ ap (λ l. b ∷ l) r.1)

-- ---- sound plans

module _ (g : Given) where
  abbrev All : List Place → Type 0
  All = AllByRecursion (IsUnbroken g)

  fine : (above : List Tree) (n : ℕ) (p : Tree) → All (postorder above n p) → IsFine g.schemas p
  fine above n (Scan t) h = tt
  fine above n (Filter e c) h = fine (Filter e c ∷ above) (n + 1) c (left_of g above n (n + 1) (Filter e c) c h)
  fine above n (Project cols c) h = fine (Project cols c ∷ above) (n + 1) c (left_of g above n (n + 1) (Project cols c) c h)
  fine above n (Limit k c) h = fine (Limit k c ∷ above) (n + 1) c (left_of g above n (n + 1) (Limit k c) c h)
  fine above n (Sort ks c) h = fine (Sort ks c ∷ above) (n + 1) c (left_of g above n (n + 1) (Sort ks c) c h)
  fine above n (Join on l r) h = (
    fine (Join on l r ∷ above) (n + 1) l (join_left g above n (Join on l r) l r (n + 1) (n + 1 + nodes_in l) h),
    fine (Join on l r ∷ above) (n + 1 + nodes_in l) r (join_right g above n (Join on l r) l r (n + 1) (n + 1 + nodes_in l) h),
    yes_if (may_join on (locus_of g.schemas l) (locus_of g.schemas r)) (root_own g above n (Join on l r) h JoinLocus),
  )
  fine above n (Single gr cs c) h = fine (Single gr cs c ∷ above) (n + 1) c (left_of g above n (n + 1) (Single gr cs c) c h)
  fine above n (Partial gr cs c) h = fine (Partial gr cs c ∷ above) (n + 1) c (left_of g above n (n + 1) (Partial gr cs c) c h)
  fine above n (Final c) h = fine (Final c ∷ above) (n + 1) c (left_of g above n (n + 1) (Final c) c h)
  fine above n (Gather o c) h = (
    fine (Gather o c ∷ above) (n + 1) c (left_of g above n (n + 1) (Gather o c) c h),
    no_if (is_entry (locus_of g.schemas c)) (root_own g above n (Gather o c) h MotionAboveEntry),
    prefix_is (keys_in o) (order_of c) (yes_if (is_prefix (keys_in o) (order_of c)) (root_own g above n (Gather o c) h OrderMissing)),
  )
  fine above n (Redistribute ks c) h = (
    fine (Redistribute ks c ∷ above) (n + 1) c (left_of g above n (n + 1) (Redistribute ks c) c h),
    no_if (is_entry (locus_of g.schemas c)) (root_own g above n (Redistribute ks c) h MotionAboveEntry),
  )
  fine above n (Broadcast c) h = (
    fine (Broadcast c ∷ above) (n + 1) c (left_of g above n (n + 1) (Broadcast c) c h),
    no_if (is_entry (locus_of g.schemas c)) (root_own g above n (Broadcast c) h MotionAboveEntry),
  )

  -- ---- limits

  early : (m : ℕ) (l : Locus) → stops_early false None m l ≡ true
  early m Entry = refl
  early m (Hashed a) = refl
  early m Replicated = refl
  early m Strewn = refl

  late : (m n : ℕ) (l : Locus) → (stops_early false (Some n) m l ≡ true → ⊥) → n ≤ m
  late m n Entry h = absurd (h refl)
  late m n (Hashed a) h = not_lt m n (no_if (nat_lt m n) h)
    where
      not_lt : (a b : ℕ) → nat_lt a b ≡ false → b ≤ a
      not_lt a b e = grind (arith, nat_tests)
  late m n Replicated h = absurd (h refl)
  late m n Strewn h = not_lt m n (no_if (nat_lt m n) h)
    where
      not_lt : (a b : ℕ) → nat_lt a b ≡ false → b ≤ a
      not_lt a b e = grind (arith, nat_tests)

  at_limit : (above : List Tree) (n m : ℕ) (c : Tree) (o : Option ℕ) → All (postorder above n (Limit m c)) → is_root above ≡ false → limit_over above ≡ o → stops_early false o m (locus_of g.schemas c) ≡ true → ⊥
  at_limit above n m c o h e f t =
      root_own g above n (Limit m c) h LimitLocus (ap (λ b. stops_early b (limit_over above) m (locus_of g.schemas c)) e ∙ ap (λ q. stops_early false q m (locus_of g.schemas c)) f ∙ t)

  none : (above : List Tree) (n : ℕ) (p : Tree) → All (postorder above n p) → is_root above ≡ false → limit_over above ≡ None → root_limit above ≡ None → NoLimits p
  none above n (Scan t) h e f q = tt
  none above n (Filter x c) h e f q = none (Filter x c ∷ above) (n + 1) c (left_of g above n (n + 1) (Filter x c) c h) refl refl refl
  none above n (Project cols c) h e f q = none (Project cols c ∷ above) (n + 1) c (left_of g above n (n + 1) (Project cols c) c h) refl f q
  none above n (Limit k c) h e f q = at_limit above n k c None h e f (early k (locus_of g.schemas c))
  none above n (Sort ks c) h e f q = none (Sort ks c ∷ above) (n + 1) c (left_of g above n (n + 1) (Sort ks c) c h) refl refl refl
  none above n (Join on l r) h e f q = (
    none (Join on l r ∷ above) (n + 1) l (join_left g above n (Join on l r) l r (n + 1) (n + 1 + nodes_in l) h) refl refl refl,
    none (Join on l r ∷ above) (n + 1 + nodes_in l) r (join_right g above n (Join on l r) l r (n + 1) (n + 1 + nodes_in l) h) refl refl refl,
  )
  none above n (Single gr cs c) h e f q = none (Single gr cs c ∷ above) (n + 1) c (left_of g above n (n + 1) (Single gr cs c) c h) refl refl refl
  none above n (Partial gr cs c) h e f q = none (Partial gr cs c ∷ above) (n + 1) c (left_of g above n (n + 1) (Partial gr cs c) c h) refl refl refl
  none above n (Final c) h e f q = none (Final c ∷ above) (n + 1) c (left_of g above n (n + 1) (Final c) c h) refl refl refl
  none above n (Gather o c) h e f q = none (Gather o c ∷ above) (n + 1) c (left_of g above n (n + 1) (Gather o c) c h) refl q refl
  none above n (Redistribute ks c) h e f q = none (Redistribute ks c ∷ above) (n + 1) c (left_of g above n (n + 1) (Redistribute ks c) c h) refl refl refl
  none above n (Broadcast c) h e f q = none (Broadcast c ∷ above) (n + 1) c (left_of g above n (n + 1) (Broadcast c) c h) refl refl refl

  -- what is no project, limit or gather has no limits below, whatever stands above it
  under_gather : (k : ℕ) (above : List Tree) (n : ℕ) (p : Tree) → All (postorder above n p) → is_root above ≡ false → limit_over above ≡ Some k → root_limit above ≡ None → UnderGather k p
  under_gather k above n (Scan t) h e f q = tt
  under_gather k above n (Filter x c) h e f q = none (Filter x c ∷ above) (n + 1) c (left_of g above n (n + 1) (Filter x c) c h) refl refl refl
  under_gather k above n (Project cols c) h e f q = under_gather k (Project cols c ∷ above) (n + 1) c (left_of g above n (n + 1) (Project cols c) c h) refl f q
  under_gather k above n (Limit m c) h e f q = (
    late m k (locus_of g.schemas c) (at_limit above n m c (Some k) h e f),
    none (Limit m c ∷ above) (n + 1) c (left_of g above n (n + 1) (Limit m c) c h) refl refl (ap (λ b. cond b (Some m) None) e),
  )
  under_gather k above n (Sort ks c) h e f q = none (Sort ks c ∷ above) (n + 1) c (left_of g above n (n + 1) (Sort ks c) c h) refl refl refl
  under_gather k above n (Join on l r) h e f q = (
    none (Join on l r ∷ above) (n + 1) l (join_left g above n (Join on l r) l r (n + 1) (n + 1 + nodes_in l) h) refl refl refl,
    none (Join on l r ∷ above) (n + 1 + nodes_in l) r (join_right g above n (Join on l r) l r (n + 1) (n + 1 + nodes_in l) h) refl refl refl,
  )
  under_gather k above n (Single gr cs c) h e f q = none (Single gr cs c ∷ above) (n + 1) c (left_of g above n (n + 1) (Single gr cs c) c h) refl refl refl
  under_gather k above n (Partial gr cs c) h e f q = none (Partial gr cs c ∷ above) (n + 1) c (left_of g above n (n + 1) (Partial gr cs c) c h) refl refl refl
  under_gather k above n (Final c) h e f q = none (Final c ∷ above) (n + 1) c (left_of g above n (n + 1) (Final c) c h) refl refl refl
  under_gather k above n (Gather o c) h e f q = none (Gather o c ∷ above) (n + 1) c (left_of g above n (n + 1) (Gather o c) c h) refl q refl
  under_gather k above n (Redistribute ks c) h e f q = none (Redistribute ks c ∷ above) (n + 1) c (left_of g above n (n + 1) (Redistribute ks c) c h) refl refl refl
  under_gather k above n (Broadcast c) h e f q = none (Broadcast c ∷ above) (n + 1) c (left_of g above n (n + 1) (Broadcast c) c h) refl refl refl

  under_root : (k : ℕ) (above : List Tree) (n : ℕ) (p : Tree) → All (postorder above n p) → is_root above ≡ false → limit_over above ≡ None → root_limit above ≡ Some k → UnderRoot k p
  under_root k above n (Scan t) h e f q = tt
  under_root k above n (Filter x c) h e f q = none (Filter x c ∷ above) (n + 1) c (left_of g above n (n + 1) (Filter x c) c h) refl refl refl
  under_root k above n (Project cols c) h e f q = under_root k (Project cols c ∷ above) (n + 1) c (left_of g above n (n + 1) (Project cols c) c h) refl f q
  under_root k above n (Limit m c) h e f q = at_limit above n m c None h e f (early m (locus_of g.schemas c))
  under_root k above n (Sort ks c) h e f q = none (Sort ks c ∷ above) (n + 1) c (left_of g above n (n + 1) (Sort ks c) c h) refl refl refl
  under_root k above n (Join on l r) h e f q = (
    none (Join on l r ∷ above) (n + 1) l (join_left g above n (Join on l r) l r (n + 1) (n + 1 + nodes_in l) h) refl refl refl,
    none (Join on l r ∷ above) (n + 1 + nodes_in l) r (join_right g above n (Join on l r) l r (n + 1) (n + 1 + nodes_in l) h) refl refl refl,
  )
  under_root k above n (Single gr cs c) h e f q = none (Single gr cs c ∷ above) (n + 1) c (left_of g above n (n + 1) (Single gr cs c) c h) refl refl refl
  under_root k above n (Partial gr cs c) h e f q = none (Partial gr cs c ∷ above) (n + 1) c (left_of g above n (n + 1) (Partial gr cs c) c h) refl refl refl
  under_root k above n (Final c) h e f q = none (Final c ∷ above) (n + 1) c (left_of g above n (n + 1) (Final c) c h) refl refl refl
  under_root k above n (Gather o c) h e f q = under_gather k (Gather o c ∷ above) (n + 1) c (left_of g above n (n + 1) (Gather o c) c h) refl q refl
  under_root k above n (Redistribute ks c) h e f q = none (Redistribute ks c ∷ above) (n + 1) c (left_of g above n (n + 1) (Redistribute ks c) c h) refl refl refl
  under_root k above n (Broadcast c) h e f q = none (Broadcast c ∷ above) (n + 1) c (left_of g above n (n + 1) (Broadcast c) c h) refl refl refl

  -- ---- the root

  abbrev pub LimitsStand : Tree → Type 0
  LimitsStand (Limit k c) = UnderRoot k c
  LimitsStand p = NoLimits p

  pub limits : (p : Tree) → IsSound g p → LimitsStand p
  limits (Limit k c) h = under_root k (Limit k c ∷ []) (0 + 1) c (left_of g [] 0 (0 + 1) (Limit k c) c h) refl refl refl
  limits (Scan t) h = tt
  limits (Filter x c) h = none (Filter x c ∷ []) (0 + 1) c (left_of g [] 0 (0 + 1) (Filter x c) c h) refl refl refl
  limits (Project cols c) h = none (Project cols c ∷ []) (0 + 1) c (left_of g [] 0 (0 + 1) (Project cols c) c h) refl refl refl
  limits (Sort ks c) h = none (Sort ks c ∷ []) (0 + 1) c (left_of g [] 0 (0 + 1) (Sort ks c) c h) refl refl refl
  limits (Join on l r) h = (
    none (Join on l r ∷ []) (0 + 1) l (join_left g [] 0 (Join on l r) l r (0 + 1) (0 + 1 + nodes_in l) h) refl refl refl,
    none (Join on l r ∷ []) (0 + 1 + nodes_in l) r (join_right g [] 0 (Join on l r) l r (0 + 1) (0 + 1 + nodes_in l) h) refl refl refl,
  )
  limits (Single gr cs c) h = none (Single gr cs c ∷ []) (0 + 1) c (left_of g [] 0 (0 + 1) (Single gr cs c) c h) refl refl refl
  limits (Partial gr cs c) h = none (Partial gr cs c ∷ []) (0 + 1) c (left_of g [] 0 (0 + 1) (Partial gr cs c) c h) refl refl refl
  limits (Final c) h = none (Final c ∷ []) (0 + 1) c (left_of g [] 0 (0 + 1) (Final c) c h) refl refl refl
  limits (Gather o c) h = none (Gather o c ∷ []) (0 + 1) c (left_of g [] 0 (0 + 1) (Gather o c) c h) refl refl refl
  limits (Redistribute ks c) h = none (Redistribute ks c ∷ []) (0 + 1) c (left_of g [] 0 (0 + 1) (Redistribute ks c) c h) refl refl refl
  limits (Broadcast c) h = none (Broadcast c ∷ []) (0 + 1) c (left_of g [] 0 (0 + 1) (Broadcast c) c h) refl refl refl

  pub is_fine : (p : Tree) → IsSound g p → IsFine g.schemas p
  is_fine p h = fine [] 0 p h

  entry_stands : (l : Locus) (n : ℕ) → is_entry l ≡ true → StandsAt l (negsuc n)
  entry_stands Entry n h = tt
  entry_stands (Hashed a) n h = absurd (cc)
  entry_stands Replicated n h = absurd (cc)
  entry_stands Strewn n h = absurd (cc)

  pub stands : (p : Tree) (n : ℕ) → IsSound g p → StandsAt (locus_of g.schemas p) (negsuc n)
  stands p n h = entry_stands (locus_of g.schemas p) n (yes_if (is_entry (locus_of g.schemas p)) (root_own g [] 0 p h NotAtEntry))
