-- From one walk, and the room and workers, to soundness or the first fault.
use Rattle.std.proofs.Common.{◌≡◌, ℕ, ◌+◌, ◌<◌, ◌≤◌, Bool, true, false, List, [], ◌∷◌, ◌++◌, length, map, refl, sym, ap, subst, ◌∙◌, true≢false, append-nil, arith}
use Rattle.std.specs.Prelude.{Option, Some, None, nat_lt, reverse}
use Rattle.std.specs.List.{AllByRecursion}
use Rattle.std.proofs.lemmas.List.{reverse-append, map-append}
use Rattle.std.proofs.lemmas.Bool.Decides.{nat_tests}
use Rattle.pl_tree.specs.declared.schema.Schema.{Schema}
use Rattle.pl_tree.specs.Trees.{Tree, Scan, Filter, Project, Limit, Sort, Join, Single, Partial, Final, Gather, Redistribute, Broadcast, preorder}
use Rattle.pl_tree.specs.Loci.{locus_of}
use Rattle.pl_plan.specs.declared.rule.Rule.{Rule}
use Rattle.pl_plan.specs.declared.rule.Rule.TheVariants.{TooWide, TooMany}
use Rattle.pl_plan.specs.declared.rule.PlanFault.{PlanFault}
use Rattle.pl_plan.specs.declared.facts.Facts.{Facts}
use Rattle.pl_plan.specs.Places.{Place, here, postorder}
use Rattle.pl_plan.specs.Motions.{ring_room, workers}
use Rattle.pl_plan.specs.Rules.{Given, Breaks, rule_number, most_bytes, most_workers}
use Rattle.pl_plan.specs.Soundness.{IsUnbroken, IsSound, IsFirstFault}
use Rattle.pl_plan.specs.Walking.{first_of, fault_at}
use Rattle.pl_plan.specs.Limits.{limit_rule}
use Rattle.pl_plan.proofs.Picking.{least_of, only_limits, only_workers, low_unbroken}
use Rattle.pl_plan.proofs.WalkLaws.{all_append, FirstIn, below, at, splits, loci_below, Whole}

lt_not : (a b : ℕ) → nat_lt a b ≡ false → a < b → ⊥
lt_not a b e h = absurd (true≢false (sym (by a b h) ∙ e))
  where
    by : (a b : ℕ) → a < b → nat_lt a b ≡ true
    by a b h = grind (arith, nat_tests)

lt_is : (a b : ℕ) → nat_lt a b ≡ true → a < b
lt_is a b h = grind (arith, nat_tests)

pub first_fault : (g : Given) (tree : Tree) (fault : PlanFault) → FirstIn g (postorder [] 0 tree) fault → IsFirstFault g tree fault
first_fault g tree fault f = record { place = f.place; before = f.before; after = f.after; stands = f.stands; number = f.number; broken = f.broken; least = f.least; sound = f.sound }

-- neither the room nor the workers are too many
pub record Within (bytes n : ℕ) : Type 0 where
  pub bytes_fit : nat_lt most_bytes bytes ≡ false
  pub workers_fit : nat_lt most_workers n ≡ false

within : (bytes n : ℕ) → limit_rule bytes n ≡ None → Within bytes n
within bytes n h = by (nat_lt most_bytes bytes) (nat_lt most_workers n) refl refl h
  where
    by : (a b : Bool) → nat_lt most_bytes bytes ≡ a → nat_lt most_workers n ≡ b → first_of a (TooWide bytes) (first_of b (TooMany n) None) ≡ None → Within bytes n
    by true b e f h = absurd cc
    by false true e f h = absurd cc
    by false false e f h = record { bytes_fit = e; workers_fit = f }

root_unbroken : (g : Given) (tree : Tree) → least_of g (at [] 0 tree) ≡ None → Within (ring_room g.schemas g.segments g.settings tree) (workers g.schemas g.segments tree) → IsUnbroken g (at [] 0 tree)
root_unbroken g tree clear w rule e = low_unbroken g (at [] 0 tree) clear (λ b f. lt_not most_bytes b (ap (nat_lt most_bytes) f.2 ∙ w.bytes_fit) f.1) (λ n f. lt_not most_workers n (ap (nat_lt most_workers) f.2 ∙ w.workers_fit) f.1) rule e

pub sound : (g : Given) (tree : Tree) (facts : Facts) → Whole g [] 0 tree facts → limit_rule (ring_room g.schemas g.segments g.settings tree) (workers g.schemas g.segments tree) ≡ None → IsSound g tree
sound g tree facts w h =
    subst (AllByRecursion (IsUnbroken g)) (sym (splits [] 0 tree)) (all_append g (below [] 0 tree) (here [] 0 tree) w.sound (root_unbroken g tree w.clear (within (ring_room g.schemas g.segments g.settings tree) (workers g.schemas g.segments tree) h), tt))

some_is : (a b : Rule) → ◌≡◌ {A = Option Rule} (Some a) (Some b) → a ≡ b
some_is a b h = cc

-- at the root, where only its room or its workers are too many
pub limit_fault : (g : Given) (tree : Tree) (facts : Facts) (r : Rule) → Whole g [] 0 tree facts → limit_rule (ring_room g.schemas g.segments g.settings tree) (workers g.schemas g.segments tree) ≡ Some r → IsFirstFault g tree (fault_at 0 r)
limit_fault g tree facts r w h = by (nat_lt most_bytes (ring_room g.schemas g.segments g.settings tree)) (nat_lt most_workers (workers g.schemas g.segments tree)) refl refl h
  where
    fault : (r : Rule) → Breaks g (at [] 0 tree) r → ((rule : Rule) → Breaks g (at [] 0 tree) rule → rule_number r ≤ rule_number rule) → IsFirstFault g tree (fault_at 0 r)
    fault r broken least = record { place = at [] 0 tree; before = below [] 0 tree; after = []; stands = splits [] 0 tree; number = refl; broken = broken; least = least; sound = w.sound }

    wide : nat_lt most_bytes (ring_room g.schemas g.segments g.settings tree) ≡ true → IsFirstFault g tree (fault_at 0 (TooWide (ring_room g.schemas g.segments g.settings tree)))
    wide e = fault (TooWide (ring_room g.schemas g.segments g.settings tree)) (refl, lt_is most_bytes (ring_room g.schemas g.segments g.settings tree) e, refl) (λ rule b. only_limits g (at [] 0 tree) w.clear rule b)

    many : nat_lt most_bytes (ring_room g.schemas g.segments g.settings tree) ≡ false → nat_lt most_workers (workers g.schemas g.segments tree) ≡ true → IsFirstFault g tree (fault_at 0 (TooMany (workers g.schemas g.segments tree)))
    many e f = fault (TooMany (workers g.schemas g.segments tree)) (refl, lt_is most_workers (workers g.schemas g.segments tree) f, refl) (only_workers g (at [] 0 tree) w.clear (λ b x. lt_not most_bytes b (ap (nat_lt most_bytes) x.2 ∙ e) x.1))

    by : (a b : Bool) → nat_lt most_bytes (ring_room g.schemas g.segments g.settings tree) ≡ a → nat_lt most_workers (workers g.schemas g.segments tree) ≡ b → first_of a (TooWide (ring_room g.schemas g.segments g.settings tree)) (first_of b (TooMany (workers g.schemas g.segments tree)) None) ≡ Some r → IsFirstFault g tree (fault_at 0 r)
    by true b e f h = subst (λ x. IsFirstFault g tree (fault_at 0 x)) (some_is (TooWide (ring_room g.schemas g.segments g.settings tree)) r h) (wide e)
    by false true e f h = subst (λ x. IsFirstFault g tree (fault_at 0 x)) (some_is (TooMany (workers g.schemas g.segments tree)) r h) (many e f)
    by false false e f h = absurd cc

-- ---- the loci, from the first node on

pub from_the_first : (s : List Schema) (tree : Tree) → reverse (loci_below s tree ++ locus_of s tree ∷ []) ≡ map (locus_of s) (preorder tree)
from_the_first s (Scan t) = refl
from_the_first s (Filter e c) = reverse-append (loci_below s (Filter e c)) (locus_of s (Filter e c) ∷ []) ∙ ap (λ xs. locus_of s (Filter e c) ∷ xs) (from_the_first s c)
from_the_first s (Project cols c) = reverse-append (loci_below s (Project cols c)) (locus_of s (Project cols c) ∷ []) ∙ ap (λ xs. locus_of s (Project cols c) ∷ xs) (from_the_first s c)
from_the_first s (Limit k c) = reverse-append (loci_below s (Limit k c)) (locus_of s (Limit k c) ∷ []) ∙ ap (λ xs. locus_of s (Limit k c) ∷ xs) (from_the_first s c)
from_the_first s (Sort ks c) = reverse-append (loci_below s (Sort ks c)) (locus_of s (Sort ks c) ∷ []) ∙ ap (λ xs. locus_of s (Sort ks c) ∷ xs) (from_the_first s c)
from_the_first s (Join on l r) = reverse-append (loci_below s (Join on l r)) (locus_of s (Join on l r) ∷ []) ∙ ap (λ xs. locus_of s (Join on l r) ∷ xs) (reverse-append (loci_below s r ++ locus_of s r ∷ []) (loci_below s l ++ locus_of s l ∷ []) ∙ ap (λ xs. xs ++ reverse (loci_below s r ++ locus_of s r ∷ [])) (from_the_first s l) ∙ ap (λ ys. map (locus_of s) (preorder l) ++ ys) (from_the_first s r) ∙ sym (map-append (locus_of s) (preorder l) (preorder r)))
from_the_first s (Single gr cs c) = reverse-append (loci_below s (Single gr cs c)) (locus_of s (Single gr cs c) ∷ []) ∙ ap (λ xs. locus_of s (Single gr cs c) ∷ xs) (from_the_first s c)
from_the_first s (Partial gr cs c) = reverse-append (loci_below s (Partial gr cs c)) (locus_of s (Partial gr cs c) ∷ []) ∙ ap (λ xs. locus_of s (Partial gr cs c) ∷ xs) (from_the_first s c)
from_the_first s (Final c) = reverse-append (loci_below s (Final c)) (locus_of s (Final c) ∷ []) ∙ ap (λ xs. locus_of s (Final c) ∷ xs) (from_the_first s c)
from_the_first s (Gather o c) = reverse-append (loci_below s (Gather o c)) (locus_of s (Gather o c) ∷ []) ∙ ap (λ xs. locus_of s (Gather o c) ∷ xs) (from_the_first s c)
from_the_first s (Redistribute ks c) = reverse-append (loci_below s (Redistribute ks c)) (locus_of s (Redistribute ks c) ∷ []) ∙ ap (λ xs. locus_of s (Redistribute ks c) ∷ xs) (from_the_first s c)
from_the_first s (Broadcast c) = reverse-append (loci_below s (Broadcast c)) (locus_of s (Broadcast c) ∷ []) ∙ ap (λ xs. locus_of s (Broadcast c) ∷ xs) (from_the_first s c)
