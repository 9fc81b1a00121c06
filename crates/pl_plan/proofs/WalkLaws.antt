-- What a walk over a plan says of its nodes in postorder.
use Rattle.std.proofs.Common.{◌≡◌, ℕ, suc, ◌+◌, Bool, true, false, List, [], ◌∷◌, ◌++◌, length, refl, sym, ap, subst, ◌∙◌, append_assoc, arith}
use Rattle.std.specs.Prelude.{Option, Some, None, Result, Ok, Err, not, ◌&&◌, ◌||◌, ◌≤◌}
use Rattle.std.specs.List.{AllByRecursion, list_any}
use Rattle.pl_expr.specs.declared.typing.ExprFlaw.TheVariants as flaw
use Rattle.pl_expr.specs.Entries.{entries_of}
use Rattle.pl_expr.specs.Typing.{is_flawed}
use Rattle.pl_tree.specs.declared.schema.Schema.{Schema}
use Rattle.pl_tree.specs.declared.schema.Locus.{Locus}
use Rattle.pl_tree.specs.Trees.{Tree, Scan, Filter, Project, Limit, Sort, Join, Single, Partial, Final, Gather, Redistribute, Broadcast, nodes_in}
use Rattle.pl_tree.specs.Columns.{schema_named, kinds_of, width_of}
use Rattle.pl_tree.specs.Loci.{locus_of}
use Rattle.pl_tree.specs.Orders.{keys_in, order_of}
use Rattle.pl_plan.specs.declared.rule.Rule.{Rule}
use Rattle.pl_plan.specs.declared.rule.Rule.TheVariants.{UnknownTable, Column, ColumnKind, JoinLocus, AggLocus, LimitLocus, OrderMissing, MotionAboveEntry, PartialUnmatched, NotAtEntry}
use Rattle.pl_plan.specs.declared.rule.PlanFault.{PlanFault}
use Rattle.pl_plan.specs.declared.facts.Facts.{Facts}
use Rattle.pl_plan.specs.Above.{above_of, other, under_final, under_project, under_limit, under_gather, under_motion}
use Rattle.pl_plan.specs.Places.{Place, here, postorder, is_root, is_reached}
use Rattle.pl_plan.specs.Tests.{is_missing, any_past, key_past, pair_past, call_past, is_none, pair_differs, sums_no_int, may_join, parts_groups, parts_final, group_width, stops_early, is_prefix, is_entry, has_none}
use Rattle.pl_plan.specs.Rules.{Given, Breaks, rule_number}
use Rattle.pl_plan.specs.Soundness.{IsUnbroken}
use Rattle.pl_plan.specs.Walking.{◌>>=◌, first_of, fault_at, unless_broken, root_rule, or_else, settled, scanned, filtered, projected, limited, sorted, joined, single, partial, finished, gathered, redistributed, broadcast, walked}
use Rattle.pl_plan.proofs.Picking.{least_of, unbroken, breaks, breaks_least}

-- ---- lists of places

pub all_append : (g : Given) (xs ys : List Place) → AllByRecursion (IsUnbroken g) xs → AllByRecursion (IsUnbroken g) ys → AllByRecursion (IsUnbroken g) (xs ++ ys)
all_append g [] ys a b = b
all_append g (x ∷ xs) ys a b = (a.0, all_append g xs ys a.1 b)

-- the first of some places that breaks a rule
pub record FirstIn (g : Given) (xs : List Place) (fault : PlanFault) : Type 0 where
  pub place : Place
  pub before : List Place
  pub after : List Place
  pub stands : xs ≡ before ++ place ∷ after
  pub number : fault.node ≡ place.number
  pub broken : Breaks g place fault.rule
  pub least : (rule : Rule) → Breaks g place rule → rule_number fault.rule ≤ rule_number rule
  pub sound : AllByRecursion (IsUnbroken g) before

pub in_front : (g : Given) (xs ys : List Place) (fault : PlanFault) → FirstIn g xs fault → FirstIn g (xs ++ ys) fault
in_front g xs ys fault f = record { place = f.place; before = f.before; after = f.after ++ ys; stands = ap (λ zs. zs ++ ys) f.stands ∙ append_assoc f.before (f.place ∷ f.after) ys; number = f.number; broken = f.broken; least = f.least; sound = f.sound }

pub behind : (g : Given) (xs ys : List Place) (fault : PlanFault) → AllByRecursion (IsUnbroken g) xs → FirstIn g ys fault → FirstIn g (xs ++ ys) fault
behind g xs ys fault a f = record { place = f.place; before = xs ++ f.before; after = f.after; stands = ap (λ zs. xs ++ zs) f.stands ∙ sym (append_assoc xs f.before (f.place ∷ f.after)); number = f.number; broken = f.broken; least = f.least; sound = all_append g xs f.before a f.sound }

-- ---- a node and those below it

abbrev pub below : List Tree → ℕ → Tree → List Place
below above n (Scan t) = []
below above n (Filter e c) = postorder (Filter e c ∷ above) (n + 1) c
below above n (Project cols c) = postorder (Project cols c ∷ above) (n + 1) c
below above n (Limit k c) = postorder (Limit k c ∷ above) (n + 1) c
below above n (Sort ks c) = postorder (Sort ks c ∷ above) (n + 1) c
below above n (Join on l r) = postorder (Join on l r ∷ above) (n + 1) l ++ postorder (Join on l r ∷ above) (n + 1 + nodes_in l) r
below above n (Single gr cs c) = postorder (Single gr cs c ∷ above) (n + 1) c
below above n (Partial gr cs c) = postorder (Partial gr cs c ∷ above) (n + 1) c
below above n (Final c) = postorder (Final c ∷ above) (n + 1) c
below above n (Gather o c) = postorder (Gather o c ∷ above) (n + 1) c
below above n (Redistribute ks c) = postorder (Redistribute ks c ∷ above) (n + 1) c
below above n (Broadcast c) = postorder (Broadcast c ∷ above) (n + 1) c

abbrev pub at : List Tree → ℕ → Tree → Place
at above n tree = record { number = n; above = above; node = tree }

pub splits : (above : List Tree) (n : ℕ) (tree : Tree) → postorder above n tree ≡ below above n tree ++ here above n tree
splits above n (Scan t) = refl
splits above n (Filter e c) = refl
splits above n (Project cols c) = refl
splits above n (Limit k c) = refl
splits above n (Sort ks c) = refl
splits above n (Join on l r) = sym (append_assoc (postorder (Join on l r ∷ above) (n + 1) l) (postorder (Join on l r ∷ above) (n + 1 + nodes_in l) r) (here above n (Join on l r)))
splits above n (Single gr cs c) = refl
splits above n (Partial gr cs c) = refl
splits above n (Final c) = refl
splits above n (Gather o c) = refl
splits above n (Redistribute ks c) = refl
splits above n (Broadcast c) = refl

-- the loci of the nodes below, from the last one in preorder to the first
abbrev pub loci_below : List Schema → Tree → List Locus
loci_below s (Scan t) = []
loci_below s (Filter e c) = loci_below s c ++ locus_of s c ∷ []
loci_below s (Project cols c) = loci_below s c ++ locus_of s c ∷ []
loci_below s (Limit k c) = loci_below s c ++ locus_of s c ∷ []
loci_below s (Sort ks c) = loci_below s c ++ locus_of s c ∷ []
loci_below s (Join on l r) = (loci_below s r ++ locus_of s r ∷ []) ++ (loci_below s l ++ locus_of s l ∷ [])
loci_below s (Single gr cs c) = loci_below s c ++ locus_of s c ∷ []
loci_below s (Partial gr cs c) = loci_below s c ++ locus_of s c ∷ []
loci_below s (Final c) = loci_below s c ++ locus_of s c ∷ []
loci_below s (Gather o c) = loci_below s c ++ locus_of s c ∷ []
loci_below s (Redistribute ks c) = loci_below s c ++ locus_of s c ∷ []
loci_below s (Broadcast c) = loci_below s c ++ locus_of s c ∷ []

abbrev pub facts_of : List Schema → Tree → ℕ → Facts
facts_of s tree next = record { kinds = kinds_of s tree; locus = locus_of s tree; order = order_of tree; below = loci_below s tree; next = next }

-- no rule is broken below, none of the first ten here, and this is what the node gives
pub record Whole (g : Given) (above : List Tree) (n : ℕ) (tree : Tree) (facts : Facts) : Type 0 where
  pub sound : AllByRecursion (IsUnbroken g) (below above n tree)
  pub clear : least_of g (at above n tree) ≡ None
  pub is : facts ≡ facts_of g.schemas tree (n + nodes_in tree)

abbrev pub Outcome : Given → List Tree → ℕ → Tree → Result Facts PlanFault → Type 0
Outcome g above n tree (Ok facts) = Whole g above n tree facts
Outcome g above n tree (Err fault) = FirstIn g (postorder above n tree) fault

-- a node whose children are sound
done : (g : Given) (above : List Tree) (n : ℕ) (tree : Tree) (walk : Result Facts PlanFault) → AllByRecursion (IsUnbroken g) (below above n tree) → walk ≡ unless_broken (least_of g (at above n tree)) n (facts_of g.schemas tree (n + nodes_in tree)) → Outcome g above n tree walk
done g above n tree walk sound h = by (least_of g (at above n tree)) refl h
  where
    by : (rule : Option Rule) → least_of g (at above n tree) ≡ rule → walk ≡ unless_broken rule n (facts_of g.schemas tree (n + nodes_in tree)) → Outcome g above n tree walk
    by None e h = subst (Outcome g above n tree) (sym h) (record { sound = sound; clear = e; is = refl })
    by (Some r) e h = subst (Outcome g above n tree) (sym h) (record { place = at above n tree; before = below above n tree; after = []; stands = splits above n tree; number = refl; broken = breaks g (at above n tree) r e; least = breaks_least g (at above n tree) r e; sound = sound })

-- below another node it breaks no rule at all
pub unbroken_below : (g : Given) (up : Tree) (above : List Tree) (n : ℕ) (tree : Tree) (facts : Facts) → Whole g (up ∷ above) n tree facts → AllByRecursion (IsUnbroken g) (postorder (up ∷ above) n tree)
unbroken_below g up above n tree facts w =
    subst (AllByRecursion (IsUnbroken g)) (sym (splits (up ∷ above) n tree)) (all_append g (below (up ∷ above) n tree) (here (up ∷ above) n tree) w.sound (unbroken g (at (up ∷ above) n tree) refl w.clear, tt))

-- a node with one child
unary : (g : Given) (above : List Tree) (n : ℕ) (tree child : Tree) (own : Facts → Result Facts PlanFault) (walk : Result Facts PlanFault) → below above n tree ≡ postorder (tree ∷ above) (n + 1) child → nodes_in tree ≡ suc (nodes_in child) → Outcome g (tree ∷ above) (n + 1) child walk → ((m : ℕ) → own (facts_of g.schemas child m) ≡ unless_broken (least_of g (at above n tree)) n (facts_of g.schemas tree m)) → Outcome g above n tree (walk >>= own)
unary g above n tree child own (Ok facts) under count w is =
    let m : n + 1 + nodes_in child ≡ n + nodes_in tree = omega (arith, count) in
    done g above n tree (own facts) (subst (AllByRecursion (IsUnbroken g)) (sym under) (unbroken_below g tree above (n + 1) child facts w)) (ap own w.is ∙ is (n + 1 + nodes_in child) ∙ ap (λ k. unless_broken (least_of g (at above n tree)) n (facts_of g.schemas tree k)) m)
unary g above n tree child own (Err fault) under count f is =
    subst (λ xs. FirstIn g xs fault) (sym (splits above n tree)) (in_front g (below above n tree) (here above n tree) fault (subst (λ xs. FirstIn g xs fault) (sym under) f))

-- ---- a node's own rules and the root's

step : (b : Bool) (r : Rule) (l x : Option Rule) → or_else (first_of b r l) x ≡ first_of b r (or_else l x)
step true r l x = refl
step false r l x = refl

one : (b : Bool) (r : Rule) (x : Option Rule) (n : ℕ) (f : Facts) → unless_broken (or_else (first_of b r None) x) n f ≡ unless_broken (first_of b r x) n f
one b r x n f = ap (λ o. unless_broken o n f) (step b r None x)

two : (a b : Bool) (q r : Rule) (x : Option Rule) (n : ℕ) (f : Facts) → unless_broken (or_else (first_of a q (first_of b r None)) x) n f ≡ unless_broken (first_of a q (first_of b r x)) n f
two true b q r x n f = refl
two false b q r x n f = one b r x n f

three : (a b c : Bool) (p q r : Rule) (x : Option Rule) (n : ℕ) (f : Facts) → unless_broken (or_else (first_of a p (first_of b q (first_of c r None))) x) n f ≡ unless_broken (first_of a p (first_of b q (first_of c r x))) n f
three true b c p q r x n f = refl
three false b c p q r x n f = two b c q r x n f

-- ---- the walk

pub outcome : (g : Given) (above : List Tree) (n : ℕ) (tree : Tree) → Outcome g above n tree (walked g.schemas (above_of above) n tree)
outcome g above n (Scan t) = let m = n + 1 in done g above n (Scan t) (scanned (above_of above) n (schema_named t g.schemas)) tt (one (is_missing (schema_named t g.schemas)) UnknownTable (root_rule (above_of above) (facts_of g.schemas (Scan t) m)) n (facts_of g.schemas (Scan t) m))
outcome g above n (Filter e c) = unary g above n (Filter e c) c (filtered (above_of above) n e) (walked g.schemas other (n + 1) c) refl refl (outcome g (Filter e c ∷ above) (n + 1) c) (λ m. two (list_any (is_flawed (kinds_of g.schemas c) flaw.Column) (entries_of e)) (list_any (is_flawed (kinds_of g.schemas c) flaw.Kind) (entries_of e)) Column ColumnKind (root_rule (above_of above) (facts_of g.schemas (Filter e c) m)) n (facts_of g.schemas (Filter e c) m))
outcome g above n (Project cols c) = unary g above n (Project cols c) c (projected (above_of above) n cols) (walked g.schemas (under_project (above_of above)) (n + 1) c) refl refl (outcome g (Project cols c ∷ above) (n + 1) c) (λ m. one (any_past (width_of g.schemas c) cols) Column (root_rule (above_of above) (facts_of g.schemas (Project cols c) m)) n (facts_of g.schemas (Project cols c) m))
outcome g above n (Limit k c) = unary g above n (Limit k c) c (limited (above_of above) n k) (walked g.schemas (under_limit k (above_of above)) (n + 1) c) refl refl (outcome g (Limit k c ∷ above) (n + 1) c) (λ m. one (stops_early (above_of above).root (above_of above).over k (locus_of g.schemas c)) LimitLocus (root_rule (above_of above) (facts_of g.schemas (Limit k c) m)) n (facts_of g.schemas (Limit k c) m))
outcome g above n (Sort ks c) = unary g above n (Sort ks c) c (sorted (above_of above) n ks) (walked g.schemas other (n + 1) c) refl refl (outcome g (Sort ks c ∷ above) (n + 1) c) (λ m. one (list_any (key_past (width_of g.schemas c)) ks) Column (root_rule (above_of above) (facts_of g.schemas (Sort ks c) m)) n (facts_of g.schemas (Sort ks c) m))
outcome g above n (Join on l r) = by (walked g.schemas other (n + 1) l) (outcome g (Join on l r ∷ above) (n + 1) l) (λ next e. subst (λ k. Outcome g (Join on l r ∷ above) k r (walked g.schemas other next r)) e (outcome g (Join on l r ∷ above) next r))
  where
    J : List Tree
    J = Join on l r ∷ above

    own : (m k : ℕ) → joined (above_of above) n on (facts_of g.schemas l k) (facts_of g.schemas r m) ≡ unless_broken (least_of g (at above n (Join on l r))) n (facts_of g.schemas (Join on l r) m)
    own m k = three (list_any (pair_past (width_of g.schemas l) (width_of g.schemas r)) on) (list_any (pair_differs (kinds_of g.schemas l) (kinds_of g.schemas r)) on) (not (may_join on (locus_of g.schemas l) (locus_of g.schemas r))) Column ColumnKind JoinLocus (root_rule (above_of above) (facts_of g.schemas (Join on l r) m)) n (facts_of g.schemas (Join on l r) m)

    right : (f : Facts) → Whole g (Join on l r ∷ above) (n + 1) l f → (walk : Result Facts PlanFault) → Outcome g (Join on l r ∷ above) (n + 1 + nodes_in l) r walk → Outcome g above n (Join on l r) (walk >>= joined (above_of above) n on f)
    right f w (Ok h) v =
        done g above n (Join on l r) (joined (above_of above) n on f h) (all_append g (postorder (Join on l r ∷ above) (n + 1) l) (postorder (Join on l r ∷ above) (n + 1 + nodes_in l) r) (unbroken_below g (Join on l r) above (n + 1) l f w) (unbroken_below g (Join on l r) above (n + 1 + nodes_in l) r h v))
        (ap (λ x. joined (above_of above) n on x h) w.is ∙ ap (joined (above_of above) n on (facts_of g.schemas l (n + 1 + nodes_in l))) v.is ∙ own (n + 1 + nodes_in l + nodes_in r) (n + 1 + nodes_in l) ∙ ap (λ k. unless_broken (least_of g (at above n (Join on l r))) n (facts_of g.schemas (Join on l r) k)) (omega arith))
    right f w (Err fault) v = behind g (postorder (Join on l r ∷ above) (n + 1) l) (postorder (Join on l r ∷ above) (n + 1 + nodes_in l) r ++ here above n (Join on l r)) fault (unbroken_below g (Join on l r) above (n + 1) l f w) (in_front g (postorder (Join on l r ∷ above) (n + 1 + nodes_in l) r) (here above n (Join on l r)) fault v)

    by : (walk : Result Facts PlanFault) → Outcome g (Join on l r ∷ above) (n + 1) l walk → ((next : ℕ) → next ≡ n + 1 + nodes_in l → Outcome g (Join on l r ∷ above) (n + 1 + nodes_in l) r (walked g.schemas other next r)) → Outcome g above n (Join on l r) (walk >>= (λ f. walked g.schemas other f.next r >>= joined (above_of above) n on f))
    by (Ok f) w others = right f w (walked g.schemas other f.next r) (others f.next (ap (λ (x : Facts). x.next) w.is))
    by (Err fault) v others = in_front g (postorder (Join on l r ∷ above) (n + 1) l) (postorder (Join on l r ∷ above) (n + 1 + nodes_in l) r ++ here above n (Join on l r)) fault v
outcome g above n (Single gr cs c) = unary g above n (Single gr cs c) c (single (above_of above) n gr cs) (walked g.schemas other (n + 1) c) refl refl (outcome g (Single gr cs c ∷ above) (n + 1) c) (λ m. three (any_past (width_of g.schemas c) gr || list_any (call_past (width_of g.schemas c)) cs) (list_any (sums_no_int (kinds_of g.schemas c)) cs) (parts_groups gr (locus_of g.schemas c)) Column ColumnKind AggLocus (root_rule (above_of above) (facts_of g.schemas (Single gr cs c) m)) n (facts_of g.schemas (Single gr cs c) m))
outcome g above n (Partial gr cs c) = unary g above n (Partial gr cs c) c (partial (above_of above) n gr cs) (walked g.schemas other (n + 1) c) refl refl (outcome g (Partial gr cs c ∷ above) (n + 1) c) (λ m. three (any_past (width_of g.schemas c) gr || list_any (call_past (width_of g.schemas c)) cs) (list_any (sums_no_int (kinds_of g.schemas c)) cs) (not (is_reached above)) Column ColumnKind PartialUnmatched (root_rule (above_of above) (facts_of g.schemas (Partial gr cs c) m)) n (facts_of g.schemas (Partial gr cs c) m))
outcome g above n (Final c) = unary g above n (Final c) c (finished (above_of above) n (group_width c)) (walked g.schemas under_final (n + 1) c) refl refl (outcome g (Final c ∷ above) (n + 1) c) (λ m. two (parts_final (group_width c) (locus_of g.schemas c)) (has_none (group_width c)) AggLocus PartialUnmatched (root_rule (above_of above) (facts_of g.schemas (Final c) m)) n (facts_of g.schemas (Final c) m))
outcome g above n (Gather o c) = unary g above n (Gather o c) c (gathered (above_of above) n (keys_in o)) (walked g.schemas (under_gather (above_of above)) (n + 1) c) refl refl (outcome g (Gather o c ∷ above) (n + 1) c) (λ m. three (list_any (key_past (width_of g.schemas c)) (keys_in o)) (not (is_prefix (keys_in o) (order_of c))) (is_entry (locus_of g.schemas c)) Column OrderMissing MotionAboveEntry (root_rule (above_of above) (facts_of g.schemas (Gather o c) m)) n (facts_of g.schemas (Gather o c) m))
outcome g above n (Redistribute ks c) = unary g above n (Redistribute ks c) c (redistributed (above_of above) n ks) (walked g.schemas (under_motion (above_of above)) (n + 1) c) refl refl (outcome g (Redistribute ks c ∷ above) (n + 1) c) (λ m. two (is_none ks || any_past (width_of g.schemas c) ks) (is_entry (locus_of g.schemas c)) Column MotionAboveEntry (root_rule (above_of above) (facts_of g.schemas (Redistribute ks c) m)) n (facts_of g.schemas (Redistribute ks c) m))
outcome g above n (Broadcast c) = unary g above n (Broadcast c) c (broadcast (above_of above) n) (walked g.schemas (under_motion (above_of above)) (n + 1) c) refl refl (outcome g (Broadcast c ∷ above) (n + 1) c) (λ m. one (is_entry (locus_of g.schemas c)) MotionAboveEntry (root_rule (above_of above) (facts_of g.schemas (Broadcast c) m)) n (facts_of g.schemas (Broadcast c) m))
