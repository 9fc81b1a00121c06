-- A redistribute sends to every segment.
use Rattle.std.proofs.Common.{◌≡◌, ℕ, suc, zero, ◌+◌, ℤ, pos, true, List, [], ◌∷◌, length, Option, Some, None, refl, sym, ap, subst, ◌∙◌, inl, inr, arith}
use Rattle.std.specs.Prelude.{◌⊎◌, slice_get, filter}
use Rattle.pl_tree.specs.declared.node.Pair.{Pair}
use Rattle.pl_tree.specs.declared.schema.Schema.{Schema}
use Rattle.pl_tree.specs.declared.schema.Locus.{Locus}
use Rattle.pl_tree.specs.declared.schema.Locus.TheVariants.{Entry, Hashed, Replicated, Strewn}
use Rattle.pl_tree.specs.Trees.{Tree, Scan, Filter, Project, Limit, Sort, Join, Single, Partial, Final, Gather, Redistribute, Broadcast, nodes_in, motions_in}
use Rattle.pl_tree.specs.Columns.{width_of}
use Rattle.pl_tree.specs.Places.{places_of}
use Rattle.pl_tree.specs.Loci.{locus_of, moved_to, hashed_at, joined_locus}
use Rattle.pl_plan.specs.Motions.{Motion, segments_from, dispatcher, gang_at, gang_of}
use Rattle.pl_plan.specs.Rules.{Given}
use Rattle.pl_plan.specs.Soundness.{IsSound}
use Rattle.pl_plan.specs.declared.rule.Rule.TheVariants.{NotAtEntry}
use Rattle.pl_plan.specs.Tests.{is_entry}
use Rattle.pl_parts.proofs.Forms.{Joins}
use Rattle.pl_parts.proofs.Walking.{yes_if, root_own}
use Rattle.pl_parts.proofs.Well.{IsWell, is_well}
use Rattle.pl_ops.specs.Rows.{Line}
use Rattle.pl_ops.specs.Routing.{ToAll, ToHashed, route_of, is_routed, routed}
use Rattle.pl_mean.specs.Parts.{Site, routed_to}
use Rattle.ex_plan.specs.Spots.{Spot, spots}
use Rattle.ex_plan.proofs.Standing.{StandsIn, root_stands, same_below, join_left, join_right, child_stands}
use Rattle.ex_plan.proofs.Spotted.{get_cases, same_spot, two}

-- at segments, and not the same rows at each
abbrev IsSpread : Locus → Type 0
IsSpread Entry = ⊥
IsSpread (Hashed a) = Unit {0}
IsSpread Replicated = ⊥
IsSpread Strewn = Unit {0}

abbrev pub IsHashing : Tree → Type 0
IsHashing (Redistribute ks c) = Unit {0}
IsHashing _ = ⊥

hashed_spread : (o : Option (List ℕ)) → IsSpread (hashed_at o)
hashed_spread None = tt
hashed_spread (Some a) = tt

moved_spread : (columns : List ℕ) (l : Locus) → IsSpread l → IsSpread (moved_to columns l)
moved_spread columns Entry h = absurd h
moved_spread columns (Hashed a) h = hashed_spread (places_of a columns)
moved_spread columns Replicated h = absurd h
moved_spread columns Strewn h = tt

left_spread : (on : List Pair) (width : ℕ) (l r : Locus) → Joins on l r → IsSpread l → IsSpread (joined_locus width l r)
left_spread on width Entry r j h = absurd h
left_spread on width (Hashed a) Entry j h = absurd j
left_spread on width (Hashed a) (Hashed b) j h = tt
left_spread on width (Hashed a) Replicated j h = tt
left_spread on width (Hashed a) Strewn j h = absurd j
left_spread on width Replicated r j h = absurd h
left_spread on width Strewn Entry j h = absurd j
left_spread on width Strewn (Hashed b) j h = absurd j
left_spread on width Strewn Replicated j h = tt
left_spread on width Strewn Strewn j h = absurd j

right_spread : (on : List Pair) (width : ℕ) (l r : Locus) → Joins on l r → IsSpread r → IsSpread (joined_locus width l r)
right_spread on width l Entry j h = absurd h
right_spread on width l Replicated j h = absurd h
right_spread on width Entry (Hashed b) j h = absurd j
right_spread on width (Hashed a) (Hashed b) j h = tt
right_spread on width Replicated (Hashed b) j h = tt
right_spread on width Strewn (Hashed b) j h = absurd j
right_spread on width Entry Strewn j h = absurd j
right_spread on width (Hashed a) Strewn j h = absurd j
right_spread on width Replicated Strewn j h = tt
right_spread on width Strewn Strewn j h = absurd j

all_at : (segments : ℕ) (l : Locus) → IsSpread l → gang_at segments l ≡ segments_from 0 segments
all_at segments Entry h = absurd h
all_at segments (Hashed a) h = refl
all_at segments Replicated h = absurd h
all_at segments Strewn h = refl

module _ (s : List Schema) (segments : ℕ) (tree : Tree) where
  -- of a redistribute of these nodes: it is heard by every segment, or by the slice of the node, whose rows are spread then
  raised : (slice : ℕ) (c p : Tree) (spot : Spot) → (IsSpread (locus_of s c) → IsSpread (locus_of s p)) → (gang_of s segments tree spot.above ≡ segments_from 0 segments) ⊎ ((spot.above ≡ slice) × IsSpread (locus_of s c))
      → (gang_of s segments tree spot.above ≡ segments_from 0 segments) ⊎ ((spot.above ≡ slice) × IsSpread (locus_of s p))
  raised slice c p spot up (inl h) = inl h
  raised slice c p spot up (inr h) = inr (h.0, up h.1)

  -- what is heard by the slice below a motion is heard by that slice's gang
  settled : (slice n : ℕ) (gang : List ℤ) (p c : Tree) (spot : Spot) → StandsIn s segments tree n (gang_at segments (locus_of s c)) (n + 1) c
      → (gang_of s segments tree spot.above ≡ segments_from 0 segments) ⊎ ((spot.above ≡ n) × IsSpread (locus_of s c)) → (gang_of s segments tree spot.above ≡ segments_from 0 segments) ⊎ ((spot.above ≡ slice) × IsSpread (locus_of s p))
  settled slice n gang p c spot stands (inl h) = inl h
  settled slice n gang p c spot stands (inr h) = inl (ap (gang_of s segments tree) h.0 ∙ stands.gang_is ∙ all_at segments (locus_of s c) h.1)

  hearers : (slice i n : ℕ) (gang : List ℤ) (p : Tree) (k : ℕ) (spot : Spot) → StandsIn s segments tree slice gang n p → IsWell s p → slice_get (spots slice i n p) k ≡ Some spot → IsHashing spot.node
      → (gang_of s segments tree spot.above ≡ segments_from 0 segments) ⊎ ((spot.above ≡ slice) × IsSpread (locus_of s p))
  hearers slice i n gang (Scan t) k spot h w e is = absurd cc
  hearers slice i n gang (Filter x c) k spot h w e is = raised slice c (Filter x c) spot (λ y. y) (hearers slice (i + 1) n gang c k spot (same_below s segments tree slice gang n (Filter x c) c refl refl h) w.0 e is)
  hearers slice i n gang (Project cols c) k spot h w e is = raised slice c (Project cols c) spot (moved_spread cols (locus_of s c)) (hearers slice (i + 1) n gang c k spot (same_below s segments tree slice gang n (Project cols c) c refl refl h) w.0 e is)
  hearers slice i n gang (Limit x c) k spot h w e is = raised slice c (Limit x c) spot (λ y. y) (hearers slice (i + 1) n gang c k spot (same_below s segments tree slice gang n (Limit x c) c refl refl h) w.0 e is)
  hearers slice i n gang (Sort ks c) k spot h w e is = raised slice c (Sort ks c) spot (λ y. y) (hearers slice (i + 1) n gang c k spot (same_below s segments tree slice gang n (Sort ks c) c refl refl h) w.0 e is)
  hearers slice i n gang (Join on l r) k spot h w e is =
      elim (get_cases (spots slice (i + 1) n l) (spots slice (i + 1 + nodes_in l) (n + motions_in l) r) k spot e) [
        | inl x ↦ raised slice l (Join on l r) spot (left_spread on (width_of s l) (locus_of s l) (locus_of s r) w.4)
            (hearers slice (i + 1) n gang l k spot (join_left s segments tree slice gang n l r (Join on l r) refl (two l r) h) w.0 x is)
        | inr x ↦ raised slice r (Join on l r) spot (right_spread on (width_of s l) (locus_of s l) (locus_of s r) w.4)
            (hearers slice (i + 1 + nodes_in l) (n + motions_in l) gang r x.0 spot (join_right s segments tree slice gang n l r (Join on l r) refl (two l r) h) w.1 x.2 is)
      ]
  hearers slice i n gang (Single g cs c) k spot h w e is = raised slice c (Single g cs c) spot (moved_spread g (locus_of s c)) (hearers slice (i + 1) n gang c k spot (same_below s segments tree slice gang n (Single g cs c) c refl refl h) w.0 e is)
  hearers slice i n gang (Partial g cs c) k spot h w e is = raised slice c (Partial g cs c) spot (moved_spread g (locus_of s c)) (hearers slice (i + 1) n gang c k spot (same_below s segments tree slice gang n (Partial g cs c) c refl refl h) w.0 e is)
  hearers slice i n gang (Final c) k spot h w e is = raised slice c (Final c) spot (λ y. y) (hearers slice (i + 1) n gang c k spot (same_below s segments tree slice gang n (Final c) c refl refl h) w.0 e is)
  hearers slice i n gang (Gather o c) zero spot h w e is = absurd (subst IsHashing (sym (ap (λ (x : Spot). x.node) (same_spot (record { node = (Gather o c); number = i; above = slice }) spot e))) is)
  hearers slice i n gang (Gather o c) (suc k) spot h w e is =
      let m : Motion = record { number = n; above = slice; senders = gang_at segments (locus_of s c); receivers = gang } in
      let below = child_stands s segments tree slice gang n (Gather o c) c m refl refl h in
      settled slice n gang (Gather o c) c spot below (hearers n (i + 1) (n + 1) (gang_at segments (locus_of s c)) c k spot below w.0 e is)
  hearers slice i n gang (Redistribute ks c) zero spot h w e is = inr (sym (ap (λ (x : Spot). x.above) (same_spot (record { node = Redistribute ks c; number = i; above = slice }) spot e)), tt)
  hearers slice i n gang (Redistribute ks c) (suc k) spot h w e is =
      let m : Motion = record { number = n; above = slice; senders = gang_at segments (locus_of s c); receivers = gang } in
      let below = child_stands s segments tree slice gang n (Redistribute ks c) c m refl refl h in
      settled slice n gang (Redistribute ks c) c spot below (hearers n (i + 1) (n + 1) (gang_at segments (locus_of s c)) c k spot below w.0 e is)
  hearers slice i n gang (Broadcast c) zero spot h w e is = absurd (subst IsHashing (sym (ap (λ (x : Spot). x.node) (same_spot (record { node = (Broadcast c); number = i; above = slice }) spot e))) is)
  hearers slice i n gang (Broadcast c) (suc k) spot h w e is =
      let m : Motion = record { number = n; above = slice; senders = gang_at segments (locus_of s c); receivers = gang } in
      let below = child_stands s segments tree slice gang n (Broadcast c) c m refl refl h in
      settled slice n gang (Broadcast c) c spot below (hearers n (i + 1) (n + 1) (gang_at segments (locus_of s c)) c k spot below w.0 e is)

at_entry : (l : Locus) → is_entry l ≡ true → IsSpread l → ⊥
at_entry Entry e h = h
at_entry (Hashed a) e h = absurd cc
at_entry Replicated e h = h
at_entry Strewn e h = absurd cc

-- a redistribute of a sound plan is heard by every segment
pub all_hear : (g : Given) (tree : Tree) (k : ℕ) (spot : Spot) → IsSound g tree → slice_get (spots 0 0 1 tree) k ≡ Some spot → IsHashing spot.node → gang_of g.schemas g.segments tree spot.above ≡ segments_from 0 g.segments
all_hear g tree k spot sound e is = elim (hearers g.schemas g.segments tree 0 0 1 dispatcher tree k spot (root_stands g.schemas g.segments tree) (is_well g tree sound) e is) [
  | inl h ↦ h
  | inr h ↦ absurd (at_entry (locus_of g.schemas tree) (yes_if (is_entry (locus_of g.schemas tree)) (root_own g [] 0 tree sound NotAtEntry)) h.1)
]

-- ---- so the receiver at a place is that segment

segment_at : (first n place : ℕ) (to : ℤ) → slice_get (segments_from first n) place ≡ Some to → to ≡ pos (first + place)
segment_at first zero place to e = absurd cc
segment_at first (suc n) zero to e = let k : first ≡ first + zero = omega arith in same first to e ∙ ap pos k
  where
    same : (a : ℕ) (b : ℤ) → ◌≡◌ {A = Option ℤ} (Some (pos a)) (Some b) → b ≡ pos a
    same a b h = cc
segment_at first (suc n) (suc place) to e = let k : suc first + place ≡ first + suc place = omega arith in segment_at (suc first) n place to e ∙ ap pos k

pub segments_long : (first n : ℕ) → length (segments_from first n) ≡ n
segments_long first zero = refl
segments_long first (suc n) = ap suc (segments_long (suc first) n)

all_rows : (rows : List Line) (n place : ℕ) → filter (is_routed ToAll n place) rows ≡ rows
all_rows [] n place = refl
all_rows (row ∷ rows) n place = ap (λ l. row ∷ l) (all_rows rows n place)

to_all : (rows : List Line) (n place : ℕ) → rows ≡ routed ToAll n place rows
unfolding routed
to_all rows n place = sym (all_rows rows n place)

-- what is routed to a receiver is what goes to its place among the receivers
pub routes_by : (site : Site) (node : Tree) (receivers : List ℤ) (place : ℕ) (to : ℤ) (rows : List Line) → (IsHashing node → receivers ≡ segments_from 0 site.segments) → slice_get receivers place ≡ Some to
    → routed_to site (route_of node) to rows ≡ routed (route_of node) (length receivers) place rows
routes_by site (Redistribute ks c) receivers place to rows all e =
    let are = all tt in
    let at : to ≡ pos (0 + place) = segment_at 0 site.segments place to (subst (λ l. slice_get l place ≡ Some to) are e) in
    let first : 0 + place ≡ place = omega arith in
    let long : length receivers ≡ site.segments = ap length are ∙ segments_long 0 site.segments in
    ap (λ x. routed_to site (ToHashed ks) x rows) (at ∙ ap pos first) ∙ ap (λ n. routed (ToHashed ks) n place rows) (sym long)
routes_by site (Scan t) receivers place to rows all e = to_all rows (length receivers) place
routes_by site (Filter x c) receivers place to rows all e = to_all rows (length receivers) place
routes_by site (Project cols c) receivers place to rows all e = to_all rows (length receivers) place
routes_by site (Limit x c) receivers place to rows all e = to_all rows (length receivers) place
routes_by site (Sort ks c) receivers place to rows all e = to_all rows (length receivers) place
routes_by site (Join on l r) receivers place to rows all e = to_all rows (length receivers) place
routes_by site (Single g cs c) receivers place to rows all e = to_all rows (length receivers) place
routes_by site (Partial g cs c) receivers place to rows all e = to_all rows (length receivers) place
routes_by site (Final c) receivers place to rows all e = to_all rows (length receivers) place
routes_by site (Gather o c) receivers place to rows all e = to_all rows (length receivers) place
routes_by site (Broadcast c) receivers place to rows all e = to_all rows (length receivers) place
