-- What the rules of a sound plan say for the law of the parts.
use Rattle.std.proofs.Common.{◌≡◌, ℕ, zero, suc, ◌+◌, ◌<◌, Bool, true, false, not, cond, List, [], ◌∷◌, length, Option, Some, None, refl, sym, ap, ◌∙◌, subst, inl, inr, arith}
use Rattle.std.specs.Prelude.{◌||◌, ◌==◌, ◌⊎◌, nat_le, Contains}
use Rattle.std.specs.List.{AllByRecursion, list_any, position_from}
use Rattle.std.specs.Option.{option_map}
use Rattle.std.proofs.lemmas.Bool.Decides.{nat_tests}
use Rattle.pl_tree.specs.declared.node.Pair.{Pair}
use Rattle.pl_tree.specs.declared.schema.Schema.{Schema}
use Rattle.pl_tree.specs.declared.schema.Locus.{Locus}
use Rattle.pl_tree.specs.declared.schema.Locus.TheVariants.{Entry, Hashed, Replicated, Strewn}
use Rattle.pl_tree.specs.Trees.{Tree, Scan, Filter, Project, Limit, Sort, Join, Single, Partial, Final, Gather, Redistribute, Broadcast, nodes_in}
use Rattle.pl_tree.specs.Columns.{schema_named, width_of}
use Rattle.pl_tree.specs.Places.{both, places_of}
use Rattle.pl_tree.specs.Loci.{hashed_at, moved_to, locus_of}
use Rattle.pl_tree.specs.Partials.{Groups, partial_under}
use Rattle.pl_plan.specs.declared.rule.Rule.TheVariants.{UnknownTable, Column, JoinLocus, AggLocus, MotionAboveEntry, PartialUnmatched}
use Rattle.pl_plan.specs.Places.{Place, postorder, is_final, is_reached}
use Rattle.pl_plan.specs.Tests.{is_missing, is_past, any_past, is_none, is_pair, are_paired, may_join, is_in, is_outside, parts_groups, parts_first, parts_final, group_width, is_entry, has_none}
use Rattle.pl_plan.specs.Rules.{Given}
use Rattle.pl_plan.specs.Soundness.{IsUnbroken, IsSound}
use Rattle.pl_parts.proofs.Numbers.{both_true, or_cases}
use Rattle.pl_parts.proofs.Walking.{yes_if, no_if, left_of, join_left, join_right, root_own}
use Rattle.pl_parts.specs.Law.{unfinished}
use Rattle.pl_parts.proofs.Forms.{Columns, firsts, PairsStand, Joins, Groupable, IsAway, Below, IsKey}

pub partial_unfinished : (c : Tree) (gr : Groups) → partial_under c ≡ Some gr → unfinished c ≡ Some gr
partial_unfinished (Partial g cs c) gr h = h
partial_unfinished (Gather o (Partial g cs c)) gr h = h
partial_unfinished (Redistribute ks (Partial g cs c)) gr h = h
partial_unfinished (Broadcast (Partial g cs c)) gr h = h
partial_unfinished _ gr h = absurd (cc)

-- ---- tests

past_below : (n : ℕ) (cols : Columns) → any_past n cols ≡ false → Below n cols
past_below n [] h = tt
past_below n (c ∷ cols) h = by (is_past n c) refl h (past_below n cols)
  where
    less : nat_le n c ≡ false → c < n
    less e = grind (arith, nat_tests)

    by : (b : Bool) → is_past n c ≡ b → (b || any_past n cols) ≡ false → (any_past n cols ≡ false → Below n cols) → (c < n) × Below n cols
    by true e q ih = absurd (cc)
    by false e q ih = (less e, ih q)

none_key : (ks : Columns) → is_none ks ≡ false → IsKey ks
none_key [] h = absurd (cc)
none_key (c ∷ cs) h = tt

no_or : (a b : Bool) → (a || b) ≡ false → (a ≡ false) × (b ≡ false)
no_or true b h = absurd (cc)
no_or false b h = (refl, h)

pair_stands : (on : List Pair) (a b : ℕ) → list_any (is_pair a b) on ≡ true → Contains on (record { left = a; right = b })
pair_stands [] a b h = absurd (cc)
pair_stands (p ∷ on) a b h = by (or_cases (is_pair a b p) (list_any (is_pair a b) on) h) (pair_stands on a b)
  where
    is_it : is_pair a b p ≡ true → p ≡ record { left = a; right = b }
    is_it e =
        let t = both_true (p.left == a) (p.right == b) e in
        let x : p.left ≡ a = grind (arith, nat_tests) in
        let y : p.right ≡ b = grind (arith, nat_tests) in
        ap (λ (l : ℕ). pair_of l p.right) x ∙ ap (λ (r : ℕ). pair_of a r) y
      where
        pair_of : ℕ → ℕ → Pair
        pair_of l r = record { left = l; right = r }

    by : (is_pair a b p ≡ true) ⊎ (list_any (is_pair a b) on ≡ true) → (list_any (is_pair a b) on ≡ true → Contains on (record { left = a; right = b })) → Contains (p ∷ on) (record { left = a; right = b })
    by (inl e) ih = (0, omega arith, is_it e)
    by (inr q) ih = let r = ih q in (suc r.0, omega (arith, r.1), r.2)

pairs_stand : (on : List Pair) (a b : Columns) → are_paired on a b ≡ true → PairsStand on a b
pairs_stand on [] [] h = tt
pairs_stand on [] (b ∷ bs) h = absurd (cc)
pairs_stand on (a ∷ more) [] h = absurd (cc)
pairs_stand on (a ∷ more) (b ∷ bs) h = let t = both_true (list_any (is_pair a b) on) (are_paired on more bs) h in (pair_stands on a b t.0, pairs_stand on more bs t.1)

joins : (on : List Pair) (a b : Locus) → may_join on a b ≡ true → Joins on a b
joins on Entry Entry h = tt
joins on Replicated Replicated h = tt
joins on (Hashed a) Replicated h = tt
joins on Strewn Replicated h = tt
joins on Replicated (Hashed b) h = tt
joins on Replicated Strewn h = tt
joins on (Hashed a) (Hashed b) h = pairs_stand on a b h
joins on _ _ h = absurd (cc)

away : (l : Locus) → is_entry l ≡ false → IsAway l
away Entry h = absurd (cc)
away (Hashed a) h = tt
away Replicated h = tt
away Strewn h = tt

found : (t : ℕ → Bool) (n : ℕ) (xs : List ℕ) → list_any t xs ≡ true → (i : ℕ) × (position_from t n xs ≡ Some i)
found t n [] h = absurd (cc)
found t n (x ∷ xs) h = by (t x) h (found t (n + 1) xs)
  where
    by : (b : Bool) → (b || list_any t xs) ≡ true → (list_any t xs ≡ true → (i : ℕ) × (position_from t (n + 1) xs ≡ Some i)) → (i : ℕ) × (cond b (Some n) (position_from t (n + 1) xs) ≡ Some i)
    by true q ih = (n, refl)
    by false q ih = ih q

inside : (g a : Columns) → list_any (is_outside g) a ≡ false → (b : Columns) × (places_of a g ≡ Some b)
inside g [] h = ([], refl)
inside g (c ∷ more) h =
    let t = no_or (is_outside g c) (list_any (is_outside g) more) h in
    let p = found (λ d. d == c) 0 g (in_it (is_in g c) t.0) in
    let q = inside g more t.1 in
    (p.0 ∷ q.0, ap (λ o. both o (places_of more g)) p.1 ∙ ap (λ o. both (Some p.0) o) q.1)
  where
    in_it : (b : Bool) → not b ≡ false → b ≡ true
    in_it true e = refl
    in_it false e = absurd (cc)

groupable : (g : Columns) (l : Locus) → parts_groups g l ≡ false → Groupable g l
groupable g Entry h = tt
groupable g Replicated h = tt
groupable g (Hashed a) h = inside g a h
groupable g Strewn h = absurd (cc)

-- ---- the first columns of a final's child

first_place : (first n x : ℕ) (k : ℕ) → x < n → position_from (λ d. d == first + x) k (firsts first n) ≡ Some (k + x)
first_place first zero x k h = absurd (omega arith)
first_place first (suc n) zero k h = let e : (first == first + 0) ≡ true = same first (first + 0) (omega arith) in let q : k ≡ k + 0 = omega arith in ap (λ b. cond b (Some k) (position_from (λ d. d == first + 0) (k + 1) (firsts (suc first) n))) e ∙ ap Some q
  where
    same : (a b : ℕ) → a ≡ b → (a == b) ≡ true
    same a b e = grind (arith, nat_tests)
first_place first (suc n) (suc x) k h =
    let e : (first == first + suc x) ≡ false = other first (first + suc x) (λ q. omega arith) in
    let q : suc first + x ≡ first + suc x = omega arith in
    let r : (k + 1) + x ≡ k + suc x = omega arith in
    ap (λ b. cond b (Some k) (position_from (λ d. d == first + suc x) (k + 1) (firsts (suc first) n))) e
    ∙ ap (λ y. position_from (λ d. d == y) (k + 1) (firsts (suc first) n)) (sym q) ∙ first_place (suc first) n x (k + 1) (omega arith) ∙ ap Some r
  where
    other : (a b : ℕ) → (a ≡ b → ⊥) → (a == b) ≡ false
    other a b e = grind (arith, nat_tests)

firsts_places : (n : ℕ) (a : Columns) → Below n a → places_of a (firsts 0 n) ≡ Some a
firsts_places n [] h = refl
firsts_places n (x ∷ a) h =
    let e : 0 + x ≡ x = omega arith in
    ap (λ o. both o (places_of a (firsts 0 n))) (subst (λ y. position_from (λ d. d == y) 0 (firsts 0 n) ≡ Some y) e (first_place 0 n x 0 h.0)) ∙ ap (λ o. both (Some x) o) (firsts_places n a h.1)

pub record FirstsStand (n : ℕ) (l : Locus) : Type 0 where
  pub groupable : Groupable (firsts 0 n) l
  pub stays : moved_to (firsts 0 n) l ≡ l

firsts_stand : (n : ℕ) (l : Locus) → parts_first n l ≡ false → FirstsStand n l
firsts_stand n Entry h = record { groupable = tt; stays = refl }
firsts_stand n Replicated h = record { groupable = tt; stays = refl }
firsts_stand n (Hashed a) h = let e = firsts_places n a (past_below n a h) in record { groupable = (a, e); stays = ap hashed_at e }
firsts_stand n Strewn h = absurd (cc)

pub record FinalWell (s : List Schema) (c : Tree) : Type 0 where
  pub groups : Groups
  pub under : partial_under c ≡ Some groups
  pub firsts_are : FirstsStand (length groups.group) (locus_of s c)

final_well : (s : List Schema) (c : Tree) (o : Option Groups) → partial_under c ≡ o → has_none (group_width c) ≡ false → parts_final (group_width c) (locus_of s c) ≡ false → FinalWell s c
final_well s c None e h k = absurd (let q = ap (λ (x : Option Groups). has_none (option_map (λ (groups : Groups). length groups.group) x)) e in cc)
final_well s c (Some gr) e h k = record {
  groups = gr;
  under = e;
  firsts_are = firsts_stand (length gr.group) (locus_of s c) (subst (λ (x : Option Groups). parts_final (option_map (λ (groups : Groups). length groups.group) x) (locus_of s c) ≡ false) e k);
}

table_is : (o : Option Schema) → is_missing o ≡ false → (schema : Schema) × (o ≡ Some schema)
table_is None h = absurd (cc)
table_is (Some schema) h = (schema, refl)

-- ---- each node

abbrev pub IsWell : List Schema → Tree → Type 0
IsWell s (Scan t) = (schema : Schema) × (schema_named t s ≡ Some schema)
IsWell s (Filter e c) = IsWell s c × (unfinished c ≡ None)
IsWell s (Project cols c) = IsWell s c × (unfinished c ≡ None)
IsWell s (Limit n c) = IsWell s c × (unfinished c ≡ None)
IsWell s (Sort ks c) = IsWell s c × (unfinished c ≡ None)
IsWell s (Join on l r) = IsWell s l × IsWell s r × (unfinished l ≡ None) × (unfinished r ≡ None) × Joins on (locus_of s l) (locus_of s r)
IsWell s (Single g cs c) = IsWell s c × (unfinished c ≡ None) × Groupable g (locus_of s c)
IsWell s (Partial g cs c) = IsWell s c × (unfinished c ≡ None)
IsWell s (Final c) = IsWell s c × FinalWell s c
IsWell s (Gather o c) = IsWell s c × IsAway (locus_of s c)
IsWell s (Redistribute ks c) = IsWell s c × IsAway (locus_of s c) × Below (width_of s c) ks × IsKey ks
IsWell s (Broadcast c) = IsWell s c × IsAway (locus_of s c)

not_final : (above : List Tree) → is_reached above ≡ false → is_final above ≡ false
not_final (Final c ∷ above) h = absurd (cc)
not_final [] h = refl
not_final (Scan t ∷ above) h = refl
not_final (Filter e c ∷ above) h = refl
not_final (Project cols c ∷ above) h = refl
not_final (Limit n c ∷ above) h = refl
not_final (Sort ks c ∷ above) h = refl
not_final (Join on l r ∷ above) h = refl
not_final (Single g cs c ∷ above) h = refl
not_final (Partial g cs c ∷ above) h = refl
not_final (Gather o c ∷ above) h = refl
not_final (Redistribute ks c ∷ above) h = refl
not_final (Broadcast c ∷ above) h = refl

module _ (g : Given) where
  abbrev All : List Place → Type 0
  All = AllByRecursion (IsUnbroken g)

  abbrev Alone : List Tree → Tree → Type 0
  Alone above p = is_reached above ≡ false → unfinished p ≡ None

  pub well : (above : List Tree) (n : ℕ) (p : Tree) → All (postorder above n p) → IsWell g.schemas p × Alone above p
  well above n (Scan t) h = (table_is (schema_named t g.schemas) (no_if (is_missing (schema_named t g.schemas)) (root_own g above n (Scan t) h UnknownTable)), λ e. refl)
  well above n (Filter x c) h = let q = well (Filter x c ∷ above) (n + 1) c (left_of g above n (n + 1) (Filter x c) c h) in ((q.0, q.1 refl), λ e. refl)
  well above n (Project cols c) h = let q = well (Project cols c ∷ above) (n + 1) c (left_of g above n (n + 1) (Project cols c) c h) in ((q.0, q.1 refl), λ e. refl)
  well above n (Limit k c) h = let q = well (Limit k c ∷ above) (n + 1) c (left_of g above n (n + 1) (Limit k c) c h) in ((q.0, q.1 refl), λ e. refl)
  well above n (Sort ks c) h = let q = well (Sort ks c ∷ above) (n + 1) c (left_of g above n (n + 1) (Sort ks c) c h) in ((q.0, q.1 refl), λ e. refl)
  well above n (Join on l r) h =
      let a = well (Join on l r ∷ above) (n + 1) l (join_left g above n (Join on l r) l r (n + 1) (n + 1 + nodes_in l) h) in
      let b = well (Join on l r ∷ above) (n + 1 + nodes_in l) r (join_right g above n (Join on l r) l r (n + 1) (n + 1 + nodes_in l) h) in
      ((a.0, b.0, a.1 refl, b.1 refl, joins on (locus_of g.schemas l) (locus_of g.schemas r) (yes_if (may_join on (locus_of g.schemas l) (locus_of g.schemas r)) (root_own g above n (Join on l r) h JoinLocus))), λ e. refl)
  well above n (Single gr cs c) h =
      let q = well (Single gr cs c ∷ above) (n + 1) c (left_of g above n (n + 1) (Single gr cs c) c h) in
      ((q.0, q.1 refl, groupable gr (locus_of g.schemas c) (no_if (parts_groups gr (locus_of g.schemas c)) (root_own g above n (Single gr cs c) h AggLocus))), λ e. refl)
  well above n (Partial gr cs c) h =
      let q = well (Partial gr cs c ∷ above) (n + 1) c (left_of g above n (n + 1) (Partial gr cs c) c h) in
      ((q.0, q.1 refl), λ e. absurd (root_own g above n (Partial gr cs c) h PartialUnmatched (ap not e)))
  well above n (Final c) h =
      let q = well (Final c ∷ above) (n + 1) c (left_of g above n (n + 1) (Final c) c h) in
      ((q.0, final_well g.schemas c (partial_under c) refl (no_if (has_none (group_width c)) (root_own g above n (Final c) h PartialUnmatched)) (no_if (parts_final (group_width c) (locus_of g.schemas c)) (root_own g above n (Final c) h AggLocus))), λ e. refl)
  well above n (Gather o c) h =
      let q = well (Gather o c ∷ above) (n + 1) c (left_of g above n (n + 1) (Gather o c) c h) in
      ((q.0, away (locus_of g.schemas c) (no_if (is_entry (locus_of g.schemas c)) (root_own g above n (Gather o c) h MotionAboveEntry))), λ e. q.1 (not_final above e))
  well above n (Redistribute ks c) h =
      let q = well (Redistribute ks c ∷ above) (n + 1) c (left_of g above n (n + 1) (Redistribute ks c) c h) in
      let t = no_or (is_none ks) (any_past (width_of g.schemas c) ks) (no_if (is_none ks || any_past (width_of g.schemas c) ks) (root_own g above n (Redistribute ks c) h Column)) in
      ((q.0, away (locus_of g.schemas c) (no_if (is_entry (locus_of g.schemas c)) (root_own g above n (Redistribute ks c) h MotionAboveEntry)), past_below (width_of g.schemas c) ks t.1, none_key ks t.0), λ e. q.1 (not_final above e))
  well above n (Broadcast c) h =
      let q = well (Broadcast c ∷ above) (n + 1) c (left_of g above n (n + 1) (Broadcast c) c h) in
      ((q.0, away (locus_of g.schemas c) (no_if (is_entry (locus_of g.schemas c)) (root_own g above n (Broadcast c) h MotionAboveEntry))), λ e. q.1 (not_final above e))

  pub is_well : (p : Tree) → IsSound g p → IsWell g.schemas p
  is_well p h = (well [] 0 p h).0

  pub is_alone : (p : Tree) → IsSound g p → unfinished p ≡ None
  is_alone p h = (well [] 0 p h).1 refl
