-- How wide sound nodes are, and that the columns of a locus are the node's.
use Rattle.std.proofs.Common.{◌≡◌, ℕ, suc, zero, ◌+◌, ◌*◌, ◌<◌, ◌≤◌, ◌^◌, Bool, true, false, List, [], ◌∷◌, ◌++◌, length, map, refl, sym, ap, subst, ◌∙◌, length-append, true≢false, cond, arith}
use Rattle.std.specs.Prelude.{Option, Some, None, Result, Ok, ◌==◌, ◌||◌, nat_le, if◌then◌else◌}
use Rattle.std.specs.List.{AllByRecursion, list_any, position_from}
use Rattle.std.proofs.lemmas.List.{length-map}
use Rattle.std.proofs.lemmas.Bool.Decides.{nat_tests}
use Rattle.ic_row.specs.declared.value.Kind.{Kind}
use Rattle.ic_base.specs.Settings.{default_settings}
use Rattle.pl_tree.specs.declared.node.Pair.{Pair}
use Rattle.pl_tree.specs.declared.node.Call.{Call}
use Rattle.pl_tree.specs.declared.schema.Schema.{Schema}
use Rattle.pl_tree.specs.declared.schema.Placing.{Placing}
use Rattle.pl_tree.specs.declared.schema.Placing.TheVariants.{Keyed, Dealt, Everywhere}
use Rattle.pl_tree.specs.declared.schema.Locus.{Locus}
use Rattle.pl_tree.specs.declared.schema.Locus.TheVariants.{Entry, Hashed, Replicated, Strewn}
use Rattle.pl_tree.specs.Trees.{Tree, Scan, Filter, Project, Limit, Sort, Join, Single, Partial, Final, Gather, Redistribute, Broadcast, nodes_in}
use Rattle.pl_tree.specs.Sizes.{HasSizes, IsPlaced, IsTable, AreTables}
use Rattle.pl_tree.specs.Columns.{same_text, schema_named, table_kinds, kinds_of, kind_at, chosen_kinds, call_kind, aggregate_kinds, width_of}
use Rattle.pl_tree.specs.Places.{place_of, both, places_of}
use Rattle.pl_tree.specs.Loci.{placed, table_locus, hashed_at, moved_to, behind, joined_locus, locus_of}
use Rattle.pl_tree.specs.Within.{IsWithin}
use Rattle.pl_plan.specs.declared.facts.Facts.{Facts}
use Rattle.pl_plan.specs.declared.rule.PlanFault.{PlanFault}
use Rattle.pl_plan.specs.Above.{other}
use Rattle.pl_plan.specs.Places.{Place, here, postorder}
use Rattle.pl_plan.specs.Tests.{is_past, any_past, is_none}
use Rattle.pl_plan.specs.Rules.{Given}
use Rattle.pl_plan.specs.Soundness.{IsUnbroken}
use Rattle.pl_plan.specs.Walking.{walked}
use Rattle.pl_plan.proofs.Picking.{least_of, no_column, none_of}
use Rattle.pl_plan.proofs.WalkLaws.{below, at, splits, facts_of, Whole, Outcome, outcome}

-- ---- widths

table_wide : (s : List Schema) (t : List ℕ) → AreTables s → length (table_kinds (schema_named t s)) ≤ 256
table_wide [] t a = omega arith
table_wide (x ∷ s) t a = by (same_text x.name t) (table_wide s t a.1)
  where
    by : (b : Bool) → length (table_kinds (schema_named t s)) ≤ 256 → length (table_kinds (if b then Some x else schema_named t s)) ≤ 256
    by true h = a.0.columns
    by false h = h

chosen_wide : (kinds : List Kind) (cols : List ℕ) → length (chosen_kinds kinds cols) ≡ length cols
chosen_wide kinds cols = length-map cols (kind_at kinds)

pub aggregate_wide : (kinds : List Kind) (g : List ℕ) (cs : List Call) → length (aggregate_kinds kinds g cs) ≡ length g + length cs
aggregate_wide kinds g cs =
    let e = length-append (chosen_kinds kinds g) (map (call_kind kinds) cs) in
    omega (arith, e, chosen_wide kinds g, length-map cs (call_kind kinds))

pub wide : (s : List Schema) (tree : Tree) → AreTables s → HasSizes tree → width_of s tree ≤ 2048 * nodes_in tree
wide s (Scan t) a h = omega (arith, table_wide s t a)
wide s (Filter e c) a h = omega (arith, wide s c a h.1)
wide s (Project cols c) a h = omega (arith, chosen_wide (kinds_of s c) cols, h.0)
wide s (Limit k c) a h = omega (arith, wide s c a h)
wide s (Sort ks c) a h = omega (arith, wide s c a h)
wide s (Join on l r) a h = omega (arith, length-append (kinds_of s l) (kinds_of s r), wide s l a h.0, wide s r a h.1)
wide s (Single g cs c) a h = omega (arith, aggregate_wide (kinds_of s c) g cs, h.0, h.1)
wide s (Partial g cs c) a h = omega (arith, aggregate_wide (kinds_of s c) g cs, h.0, h.1)
wide s (Final c) a h = omega (arith, wide s c a h)
wide s (Gather o c) a h = omega (arith, wide s c a h)
wide s (Redistribute ks c) a h = omega (arith, wide s c a h)
wide s (Broadcast c) a h = omega (arith, wide s c a h)

-- ---- columns within a width

abbrev Low : ℕ → List ℕ → Type 0
Low width a = AllByRecursion (λ c. 0 + c < width) a

wider : (n m : ℕ) (a : List ℕ) → n ≤ m → Low n a → Low m a
wider n m [] le h = tt
wider n m (c ∷ a) le h = (omega (arith, le, h.0), wider n m a le h.1)

shifted : (width before n : ℕ) (a : List ℕ) → before + n ≤ width → Low n a → AllByRecursion (λ c. before + c < width) a
shifted width before n [] le h = tt
shifted width before n (c ∷ a) le h = (omega (arith, le, h.0), shifted width before n a le h.1)

behind_low : (before n : ℕ) (a : List ℕ) → Low n a → Low (before + n) (behind before a)
behind_low before n [] h = tt
behind_low before n (c ∷ a) h = (omega (arith, h.0), behind_low before n a h.1)

some_is : (a b : ℕ) → ◌≡◌ {A = Option ℕ} (Some a) (Some b) → a ≡ b
some_is a b h = cc

same_list : (a b : List ℕ) → ◌≡◌ {A = Option (List ℕ)} (Some a) (Some b) → a ≡ b
same_list a b h = cc

position_low : (x k p : ℕ) (cols : List ℕ) → position_from (λ c. c == x) k cols ≡ Some p → p < k + length cols
position_low x k p [] h = absurd cc
position_low x k p (c ∷ cols) h = by (c == x) h (position_low x (k + 1) p cols)
  where
    by : (b : Bool) → (cond b (Some k) (position_from (λ d. d == x) (k + 1) cols)) ≡ Some p → (position_from (λ d. d == x) (k + 1) cols ≡ Some p → p < k + 1 + length cols) → p < k + length (c ∷ cols)
    by true e more = omega (arith, some_is k p e)
    by false e more = omega (arith, more e)

both_low : (n : ℕ) (x : Option ℕ) (xs : Option (List ℕ)) (b : List ℕ) → ((p : ℕ) → x ≡ Some p → p < n) → ((ps : List ℕ) → xs ≡ Some ps → Low n ps) → both x xs ≡ Some b → Low n b
both_low n (Some p) (Some ps) b f g h = subst (Low n) (same_list (p ∷ ps) b h) (omega (arith, f p refl), g ps refl)
both_low n (Some p) None b f g h = absurd cc
both_low n None xs b f g h = absurd cc

places_low : (a cols b : List ℕ) → places_of a cols ≡ Some b → Low (length cols) b
places_low [] cols b h = subst (Low (length cols)) (same_list [] b h) tt
places_low (x ∷ a) cols b h = both_low (length cols) (place_of x cols) (places_of a cols) b (λ p e. omega (arith, position_low x 0 p cols e)) (λ ps e. places_low a cols ps e) h

moved_low : (cols : List ℕ) (l : Locus) (m : ℕ) → length cols ≤ m → IsWithin m 0 (moved_to cols l)
moved_low cols Entry m le = tt
moved_low cols Replicated m le = tt
moved_low cols Strewn m le = tt
moved_low cols (Hashed a) m le = by (places_of a cols) refl
  where
    by : (x : Option (List ℕ)) → places_of a cols ≡ x → IsWithin m 0 (hashed_at x)
    by None e = tt
    by (Some b) e = wider (length cols) m b le (places_low a cols b e)

locus_wider : (n m : ℕ) (l : Locus) → n ≤ m → IsWithin n 0 l → IsWithin m 0 l
locus_wider n m Entry le h = tt
locus_wider n m (Hashed a) le h = wider n m a le h
locus_wider n m Replicated le h = tt
locus_wider n m Strewn le h = tt

joined_low : (n m : ℕ) (a b : Locus) → IsWithin n 0 a → IsWithin m 0 b → IsWithin (n + m) 0 (joined_locus n a b)
joined_low n m Entry Entry h k = tt
joined_low n m Entry (Hashed b) h k = tt
joined_low n m Entry Replicated h k = tt
joined_low n m Entry Strewn h k = tt
joined_low n m (Hashed a) Entry h k = tt
joined_low n m (Hashed a) (Hashed b) h k = wider n (n + m) a (omega arith) h
joined_low n m (Hashed a) Replicated h k = wider n (n + m) a (omega arith) h
joined_low n m (Hashed a) Strewn h k = tt
joined_low n m Replicated Entry h k = tt
joined_low n m Replicated (Hashed b) h k = behind_low n m b k
joined_low n m Replicated Replicated h k = tt
joined_low n m Replicated Strewn h k = tt
joined_low n m Strewn Entry h k = tt
joined_low n m Strewn (Hashed b) h k = tt
joined_low n m Strewn Replicated h k = tt
joined_low n m Strewn Strewn h k = tt

placed_low : (n : ℕ) (p : Placing) → IsPlaced n p → IsWithin n 0 (placed p)
placed_low n (Keyed key) h = low key h.1
  where
    low : (a : List ℕ) → AllByRecursion (λ c. c < n) a → Low n a
    low [] k = tt
    low (c ∷ a) k = (omega (arith, k.0), low a k.1)
placed_low n Dealt h = tt
placed_low n Everywhere h = tt

table_low : (s : List Schema) (t : List ℕ) → AreTables s → IsWithin (length (table_kinds (schema_named t s))) 0 (table_locus (schema_named t s))
table_low [] t a = tt
table_low (x ∷ s) t a = by (same_text x.name t) (table_low s t a.1)
  where
    by : (b : Bool) → IsWithin (length (table_kinds (schema_named t s))) 0 (table_locus (schema_named t s)) → IsWithin (length (table_kinds (if b then Some x else schema_named t s))) 0 (table_locus (if b then Some x else schema_named t s))
    by true h = placed_low (length x.kinds) x.place a.0.place
    by false h = h

le_is : (a b : ℕ) → nat_le a b ≡ false → b < a
le_is a b h = grind (arith, nat_tests)

none_past : (n : ℕ) (a : List ℕ) → any_past n a ≡ false → Low n a
none_past n [] h = tt
none_past n (c ∷ a) h = by (nat_le n c) refl h (none_past n a)
  where
    by : (b : Bool) → nat_le n c ≡ b → (b || any_past n a) ≡ false → (any_past n a ≡ false → Low n a) → Low n (c ∷ a)
    by true e h more = absurd (true≢false h)
    by false e h more = (omega (arith, le_is n c e), more h)

no_key_past : (n : ℕ) (a : List ℕ) → (is_none a || any_past n a) ≡ false → Low n a
no_key_past n [] h = tt
no_key_past n (c ∷ a) h = none_past n (c ∷ a) h

-- ---- sound nodes

front_all : (g : Given) (xs ys : List Place) → AllByRecursion (IsUnbroken g) (xs ++ ys) → AllByRecursion (IsUnbroken g) xs × AllByRecursion (IsUnbroken g) ys
front_all g [] ys h = (tt, h)
front_all g (x ∷ xs) ys h = let t = front_all g xs ys h.1 in ((h.0, t.0), t.1)

pub record Clear (g : Given) (above : List Tree) (n : ℕ) (tree : Tree) : Type 0 where
  pub sound : AllByRecursion (IsUnbroken g) (below above n tree)
  pub clear : least_of g (at above n tree) ≡ None

pub clear_child : (g : Given) (above : List Tree) (n : ℕ) (tree : Tree) → AllByRecursion (IsUnbroken g) (postorder above n tree) → Clear g above n tree
clear_child g above n tree h =
    let t = front_all g (below above n tree) (here above n tree) (subst (AllByRecursion (IsUnbroken g)) (splits above n tree) h) in
    record { sound = t.0; clear = none_of g (at above n tree) t.1.0 }

pub low : (g : Given) (above : List Tree) (n : ℕ) (tree : Tree) → AreTables g.schemas → Clear g above n tree → IsWithin (width_of g.schemas tree) 0 (locus_of g.schemas tree)
low g above n (Scan t) a w = table_low g.schemas t a
low g above n (Filter e c) a w = low g (Filter e c ∷ above) (n + 1) c a (clear_child g (Filter e c ∷ above) (n + 1) c w.sound)
low g above n (Project cols c) a w = moved_low cols (locus_of g.schemas c) (width_of g.schemas (Project cols c)) (omega (arith, chosen_wide (kinds_of g.schemas c) cols))
low g above n (Limit k c) a w = low g (Limit k c ∷ above) (n + 1) c a (clear_child g (Limit k c ∷ above) (n + 1) c w.sound)
low g above n (Sort ks c) a w = low g (Sort ks c ∷ above) (n + 1) c a (clear_child g (Sort ks c ∷ above) (n + 1) c w.sound)
low g above n (Join on l r) a w =
    let t = front_all g (postorder (Join on l r ∷ above) (n + 1) l) (postorder (Join on l r ∷ above) (n + 1 + nodes_in l) r) w.sound in
    let x = low g (Join on l r ∷ above) (n + 1) l a (clear_child g (Join on l r ∷ above) (n + 1) l t.0) in
    let y = low g (Join on l r ∷ above) (n + 1 + nodes_in l) r a (clear_child g (Join on l r ∷ above) (n + 1 + nodes_in l) r t.1) in
    subst (λ k. IsWithin k 0 (locus_of g.schemas (Join on l r))) (sym (length-append (kinds_of g.schemas l) (kinds_of g.schemas r))) (joined_low (width_of g.schemas l) (width_of g.schemas r) (locus_of g.schemas l) (locus_of g.schemas r) x y)
low g above n (Single gr cs c) a w = moved_low gr (locus_of g.schemas c) (width_of g.schemas (Single gr cs c)) (omega (arith, aggregate_wide (kinds_of g.schemas c) gr cs))
low g above n (Partial gr cs c) a w = moved_low gr (locus_of g.schemas c) (width_of g.schemas (Partial gr cs c)) (omega (arith, aggregate_wide (kinds_of g.schemas c) gr cs))
low g above n (Final c) a w = low g (Final c ∷ above) (n + 1) c a (clear_child g (Final c ∷ above) (n + 1) c w.sound)
low g above n (Gather o c) a w = tt
low g above n (Redistribute ks c) a w = no_key_past (width_of g.schemas c) ks (no_column g (at above n (Redistribute ks c)) w.clear)
low g above n (Broadcast c) a w = tt

-- ---- a join's sides

abbrev given : List Schema → Given
given s = record { schemas = s; segments = 1; settings = default_settings }

whole : (s : List Schema) (up : Tree) (n : ℕ) (tree : Tree) (walk : Result Facts PlanFault) (f : Facts) → Outcome (given s) (up ∷ []) n tree walk → walk ≡ Ok f → Whole (given s) (up ∷ []) n tree f
whole s up n tree walk f o e = subst (Outcome (given s) (up ∷ []) n tree) e o

pub left_whole : (s : List Schema) (on : List Pair) (l r : Tree) (n : ℕ) (f : Facts) → walked s other n l ≡ Ok f → Whole (given s) (Join on l r ∷ []) n l f
left_whole s on l r n f e = whole s (Join on l r) n l (walked s other n l) f (outcome (given s) (Join on l r ∷ []) n l) e

pub right_whole : (s : List Schema) (on : List Pair) (l r : Tree) (n : ℕ) (f : Facts) → walked s other n r ≡ Ok f → Whole (given s) (Join on l r ∷ []) n r f
right_whole s on l r n f e = whole s (Join on l r) n r (walked s other n r) f (outcome (given s) (Join on l r ∷ []) n r) e

-- the number behind the left side
pub left_next : (s : List Schema) (l : Tree) (n : ℕ) (f : Facts) → walked s other n l ≡ Ok f → f.next ≡ n + nodes_in l
left_next s l n f e = ap (λ (x : Facts). x.next) (left_whole s [] l l n f e).is

pub left_wide : (s : List Schema) (l : Tree) (n : ℕ) (f : Facts) → AreTables s → HasSizes l → nodes_in l ≤ 64 → walked s other n l ≡ Ok f → length f.kinds ≤ 131072
left_wide s l n f a h le e = omega (arith, wide s l a h, le, ap (λ (x : Facts). length x.kinds) (left_whole s [] l l n f e).is)

pub right_low : (s : List Schema) (r : Tree) (n before : ℕ) (f : Facts) → AreTables s → HasSizes r → nodes_in r ≤ 64 → before ≤ 131072 → walked s other n r ≡ Ok f → IsWithin (2 ^ 32) before f.locus
right_low s r n before f a h le room e =
    let w = right_whole s [] r r n f e in
    let x = low (given s) (Join [] r r ∷ []) n r a (record { sound = w.sound; clear = w.clear }) in
    subst (IsWithin (2 ^ 32) before) (sym (ap (λ (y : Facts). y.locus) w.is)) (by (locus_of s r) x)
  where
    by : (l : Locus) → IsWithin (width_of s r) 0 l → IsWithin (2 ^ 32) before l
    by Entry x = tt
    by (Hashed b) x = shifted (2 ^ 32) before (width_of s r) b (omega (arith, wide s r a h, le, room)) x
    by Replicated x = tt
    by Strewn x = tt
