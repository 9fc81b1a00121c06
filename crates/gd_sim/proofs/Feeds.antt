-- What sound plans gather.
use Rattle.std.proofs.Common.{◌≡◌, ℕ, zero, suc, ◌+◌, ◌<◌, ◌≤◌, pos, List, [], ◌∷◌, ◌++◌, length, map, Bool, true, false, cond, Option, Some, None, refl, ap, sym, ◌∙◌, subst, arith}
use Rattle.std.specs.List.{All, AllByRecursion, AllZip, filter, enumerate_from, slice_get}
use Rattle.std.proofs.lemmas.Option.{same_Some}
use Rattle.std.proofs.lemmas.List.Elements.{All-from_recursion}
use Rattle.ic_row.specs.declared.value.Kind.{Kind}
use Rattle.ic_row.specs.Spelling.{HasLengths}
use Rattle.pl_tree.specs.declared.schema.Schema.{Schema}
use Rattle.pl_tree.specs.declared.schema.Placing.{Placing}
use Rattle.pl_tree.specs.declared.schema.Placing.TheVariants.{Keyed, Dealt, Everywhere}
use Rattle.pl_tree.specs.Trees.{Tree, Scan, Filter, Project, Limit, Sort, Join, Single, Partial, Final, Gather, Redistribute, Broadcast, tree_in}
use Rattle.pl_tree.specs.Columns.{same_text, schema_named}
use Rattle.pl_tree.specs.Sizes.{IsTable, AreTables}
use Rattle.pl_tree.proofs.TextLemmas.{same_is}
use Rattle.pl_plan.specs.declared.rule.Rule.TheVariants.{UnknownTable}
use Rattle.pl_plan.specs.declared.sound.Judged.{Judged}
use Rattle.pl_plan.specs.Tests.{is_missing}
use Rattle.pl_plan.specs.Rules.{Given}
use Rattle.pl_plan.specs.Soundness.{IsSound}
use Rattle.pl_plan.specs.Kept.{IsJudged, given_of}
use Rattle.pl_ops.specs.declared.loaded.Spread.{Spread}
use Rattle.pl_ops.specs.Rows.{Line}
use Rattle.pl_ops.specs.Placed.{or_none, rows_at}
use Rattle.pl_ops.specs.Fitting.{stands_at, placed_at, IsOfKind, IsRowOf, Fits}
use Rattle.gd_sim.specs.declared.feed.Feed.{Feed}
use Rattle.gd_sim.specs.Feeding.{part_of, IsFeed}
use Rattle.gd_sim.specs.Plans.{scanned, gathered, is_some, is_gather, senders_of, feed_from, feed_named, feed_of, before, feeds_of}

-- ---- lists

pub got : {A : Type 0} (P : A → Type 0) (xs : List A) (k : ℕ) (x : A) → AllByRecursion P xs → slice_get xs k ≡ Some x → P x
got P [] k x all is = absurd cc
got P (y ∷ xs) zero x all is = subst P (same_Some y x is) all.0
got P (y ∷ xs) (suc k) x all is = got P xs k x all.1 is

pub all-push : {A : Type 0} (P : A → Type 0) (xs : List A) (x : A) → AllByRecursion P xs → P x → AllByRecursion P (xs ++ x ∷ [])
all-push P [] x all p = (p, tt)
all-push P (y ∷ xs) x all p = (all.0, all-push P xs x all.1 p)

-- ---- the table of a name

-- the feed is of the table at this place, which has this name
pub record Found (segments number : ℕ) (name : List ℕ) (schemas : List Schema) (feed : Feed) : Type 0 where
  pub place : ℕ
  pub schema : Schema
  pub table : feed.table ≡ number + place
  pub there : slice_get schemas place ≡ Some schema
  pub named : schema.name ≡ name
  pub senders : feed.senders ≡ senders_of segments schema.place

pub found : (segments number : ℕ) (name : List ℕ) (schemas : List Schema) (feed : Feed) → feed_from segments number name schemas ≡ Some feed → Found segments number name schemas feed
found segments number name [] feed e = absurd cc
found segments number name (s ∷ ss) feed e = by (same_text s.name name) refl e (λ later. found segments (number + 1) name ss feed later)
  where
    by : (b : Bool) → same_text s.name name ≡ b → cond b (Some (record { table = number; senders = senders_of segments s.place })) (feed_from segments (number + 1) name ss) ≡ Some feed
        → (feed_from segments (number + 1) name ss ≡ Some feed → Found segments (number + 1) name ss feed) → Found segments number name (s ∷ ss) feed
    by true same is go =
        let one = same_Some (record { table = number; senders = senders_of segments s.place }) feed is in
        let table : number ≡ feed.table = ap (λ (f : Feed). f.table) one in
        record {
          place = 0;
          schema = s;
          table = omega (arith, table);
          there = refl;
          named = same_is s.name name same;
          senders = sym (ap (λ (f : Feed). f.senders) one);
        }
    by false same is go =
        let x = go is in
        record { place = suc x.place; schema = x.schema; table = omega (arith, x.table); there = x.there; named = x.named; senders = x.senders }

named_is : (segments number : ℕ) (name : List ℕ) (schemas : List Schema) → (is_missing (schema_named name schemas) ≡ true → ⊥) → feed_from segments number name schemas ≡ None → ⊥
named_is segments number name [] there e = there refl
named_is segments number name (s ∷ ss) there e = by (same_text s.name name) refl e (λ t later. named_is segments (number + 1) name ss t later)
  where
    by : (b : Bool) → same_text s.name name ≡ b → cond b (Some (record { table = number; senders = senders_of segments s.place })) (feed_from segments (number + 1) name ss) ≡ None
        → ((is_missing (schema_named name ss) ≡ true → ⊥) → feed_from segments (number + 1) name ss ≡ None → ⊥) → ⊥
    by true same is go = absurd cc
    by false same is go = go (λ missing. there (ap (λ b. is_missing (cond b (Some s) (schema_named name ss))) same ∙ missing)) is

-- ---- the plan

scan_shape : (tree : Tree) → is_some (scanned tree) ≡ true → (name : List ℕ) × (tree ≡ Scan name)
scan_shape (Scan name) e = (name, refl)
scan_shape (Filter t c) e = absurd cc
scan_shape (Project cols c) e = absurd cc
scan_shape (Limit n c) e = absurd cc
scan_shape (Sort ks c) e = absurd cc
scan_shape (Join on l r) e = absurd cc
scan_shape (Single g cs c) e = absurd cc
scan_shape (Partial g cs c) e = absurd cc
scan_shape (Final c) e = absurd cc
scan_shape (Gather o c) e = absurd cc
scan_shape (Redistribute ks c) e = absurd cc
scan_shape (Broadcast c) e = absurd cc

-- a gather without an order over a scan
pub gather_shape : (tree : Tree) → is_gather tree ≡ true → (name : List ℕ) × (tree ≡ Gather None (Scan name))
gather_shape (Scan name) e = absurd cc
gather_shape (Filter t c) e = absurd cc
gather_shape (Project cols c) e = absurd cc
gather_shape (Limit n c) e = absurd cc
gather_shape (Sort ks c) e = absurd cc
gather_shape (Join on l r) e = absurd cc
gather_shape (Single g cs c) e = absurd cc
gather_shape (Partial g cs c) e = absurd cc
gather_shape (Final c) e = absurd cc
gather_shape (Gather None c) e = let s = scan_shape c e in (s.0, ap (Gather None) s.1)
gather_shape (Gather (Some keys) c) e = absurd cc
gather_shape (Redistribute ks c) e = absurd cc
gather_shape (Broadcast c) e = absurd cc

-- where the scan's table is there, there is a feed
pub fed : (j : Judged) (name : List ℕ) → tree_in j.plan ≡ Gather None (Scan name) → (is_missing (schema_named name j.schemas) ≡ true → ⊥) → feed_of j ≡ None → ⊥
fed j name shape there e = named_is j.segments 0 name j.schemas there (sym (ap (λ t. feed_named j (gathered t)) shape) ∙ e)

scan_is_there : (g : Given) (name : List ℕ) → IsSound g (Gather None (Scan name)) → is_missing (schema_named name g.schemas) ≡ true → ⊥
scan_is_there g name sound = sound.0 UnknownTable

pub sure : (j : Judged) → IsJudged j → is_gather (tree_in j.plan) ≡ true → feed_of j ≡ None → ⊥
sure j is gathers =
    let shape = gather_shape (tree_in j.plan) gathers in
    fed j shape.0 shape.1 (scan_is_there (given_of j) shape.0 (subst (IsSound (given_of j)) shape.1 is.sound))

pub feed_found : (j : Judged) (feed : Feed) → feed_of j ≡ Some feed → (name : List ℕ) × (gathered (tree_in j.plan) ≡ Some name) × Found j.segments 0 name j.schemas feed
feed_found j feed e = by (gathered (tree_in j.plan)) refl e
  where
    by : (o : Option (List ℕ)) → gathered (tree_in j.plan) ≡ o → feed_named j o ≡ Some feed → (name : List ℕ) × (gathered (tree_in j.plan) ≡ Some name) × Found j.segments 0 name j.schemas feed
    by None is e = absurd cc
    by (Some name) is e = (name, is, found j.segments 0 name j.schemas feed e)

-- ---- all plans

pub before_some : (o : Option Feed) (os : Option (List Feed)) (feeds : List Feed) → before o os ≡ Some feeds
    → (feed : Feed) × (more : List Feed) × (o ≡ Some feed) × (os ≡ Some more) × (feeds ≡ feed ∷ more)
before_some None os feeds e = absurd cc
before_some (Some feed) None feeds e = absurd cc
before_some (Some feed) (Some more) feeds e = (feed, more, refl, refl, sym (same_Some (feed ∷ more) feeds e))

-- the feed at a place is that of the plan there
pub feed_at : (js : List Judged) (feeds : List Feed) (place : ℕ) (feed : Feed) → feeds_of js ≡ Some feeds → slice_get feeds place ≡ Some feed
    → (j : Judged) × (slice_get js place ≡ Some j) × (feed_of j ≡ Some feed)
feed_at [] feeds place feed e at = absurd (let same : [] ≡ feeds = same_Some [] feeds e in let none : slice_get feeds place ≡ None = sym (ap (λ (l : List Feed). slice_get l place) same) in cc)
feed_at (j ∷ js) feeds place feed e at = by place (before_some (feed_of j) (feeds_of js) feeds e) at (λ more k is there. feed_at js more k feed is there)
  where
    by : (place : ℕ) → (f : Feed) × (more : List Feed) × (feed_of j ≡ Some f) × (feeds_of js ≡ Some more) × (feeds ≡ f ∷ more) → slice_get feeds place ≡ Some feed
        → ((more : List Feed) (k : ℕ) → feeds_of js ≡ Some more → slice_get more k ≡ Some feed → (j : Judged) × (slice_get js k ≡ Some j) × (feed_of j ≡ Some feed))
        → (i : Judged) × (slice_get (j ∷ js) place ≡ Some i) × (feed_of i ≡ Some feed)
    by zero (f, more, one, others, are) at go =
        let here : Some f ≡ Some feed = sym (ap (λ (l : List Feed). slice_get l 0) are) ∙ at in (j, refl, one ∙ here)
    by (suc k) (f, more, one, others, are) at go =
        go more k others (sym (ap (λ (l : List Feed). slice_get l (suc k)) are) ∙ at)

pub length-feeds : (js : List Judged) (feeds : List Feed) → feeds_of js ≡ Some feeds → length feeds ≡ length js
length-feeds [] feeds e = sym (ap length (same_Some [] feeds e))
length-feeds (j ∷ js) feeds e =
    let (f, more, one, others, are) = before_some (feed_of j) (feeds_of js) feeds e in
    ap length are ∙ ap suc (length-feeds js more others)

-- one plan more
pub feeds-push : (js : List Judged) (j : Judged) (feeds : List Feed) (feed : Feed) → feeds_of js ≡ Some feeds → feed_of j ≡ Some feed → feeds_of (js ++ j ∷ []) ≡ Some (feeds ++ feed ∷ [])
feeds-push [] j feeds feed e one = ap (λ o. before o (Some [])) one ∙ ap (λ (l : List Feed). Some (l ++ feed ∷ [])) (same_Some [] feeds e)
feeds-push (i ∷ js) j feeds feed e one =
    let (f, more, first, others, are) = before_some (feed_of i) (feeds_of js) feeds e in
    ap (λ o. before o (feeds_of (js ++ j ∷ []))) first ∙ ap (λ o. before (Some f) o) (feeds-push js j more feed others one) ∙ ap (λ (l : List Feed). Some (l ++ feed ∷ [])) (sym are)

-- where one plan has none, there are none
pub feeds-none : (js : List Judged) (place : ℕ) (j : Judged) → slice_get js place ≡ Some j → feed_of j ≡ None → feeds_of js ≡ None
feeds-none [] place j at none = absurd cc
feeds-none (i ∷ js) zero j at none = ap (λ (k : Judged). before (feed_of k) (feeds_of js)) (same_Some i j at) ∙ ap (λ o. before o (feeds_of js)) none
feeds-none (i ∷ js) (suc k) j at none = ap (λ os. before (feed_of i) os) (feeds-none js k j at none) ∙ by (feed_of i)
  where
    by : (o : Option Feed) → before o None ≡ None
    by None = refl
    by (Some f) = refl

-- ---- what is sent

all_chosen : (P : Line → Type 0) (p : ℕ × Line → Bool) (i : ℕ) (rows : List Line) → AllByRecursion P rows → AllByRecursion P (map (λ (row : ℕ × Line). row.1) (filter p (enumerate_from i rows)))
all_chosen P p i [] all = tt
all_chosen P p i (row ∷ rows) all = by (p (i, row)) (filter p (enumerate_from (i + 1) rows)) (all_chosen P p (i + 1) rows all.1)
  where
    by : (b : Bool) (more : List (ℕ × Line)) → AllByRecursion P (map (λ (x : ℕ × Line). x.1) more) → AllByRecursion P (map (λ (x : ℕ × Line). x.1) (cond b ((i, row) ∷ more) more))
    by true more rest = (all.0, rest)
    by false more rest = rest

as_wide : (kinds : List Kind) (row : Line) → AllZip IsOfKind kinds row → length row ≡ length kinds
as_wide [] [] each = refl
as_wide [] (v ∷ row) each = absurd each
as_wide (k ∷ kinds) [] each = absurd each
as_wide (k ∷ kinds) (v ∷ row) each = ap suc (as_wide kinds row each.1)

has_lengths : (schema : Schema) → IsTable schema → (row : Line) → IsRowOf schema.kinds row → HasLengths row
has_lengths schema is row x = record { count = omega (arith, is.columns, as_wide schema.kinds row x.values); texts = x.texts }

all_have : (schema : Schema) → IsTable schema → (rows : List Line) → AllByRecursion (IsRowOf schema.kinds) rows → AllByRecursion HasLengths rows
all_have schema is [] each = tt
all_have schema is (row ∷ rows) each = (has_lengths schema is row each.0, all_have schema is rows each.1)

some_senders : (segments : ℕ) (place : Placing) → 1 ≤ segments → 0 < senders_of segments place
some_senders segments (Keyed columns) some = some
some_senders segments Dealt some = some
some_senders segments Everywhere some = omega arith

pub few_senders : (segments : ℕ) (place : Placing) → 1 ≤ segments → senders_of segments place ≤ segments
few_senders segments (Keyed columns) some = omega arith
few_senders segments Dealt some = omega arith
few_senders segments Everywhere some = some

pub is_feed : (segments : ℕ) (loaded : List Spread) (wholes : List (List Line)) (name : List ℕ) (schemas : List Schema) (feed : Feed) → 1 ≤ segments → AreTables schemas → Fits segments schemas wholes loaded
    → Found segments 0 name schemas feed → IsFeed segments loaded feed
is_feed segments loaded wholes name schemas feed some tables fits x =
    let rows = or_none (slice_get wholes x.place) in
    let table = fits.each x.place x.schema x.there in
    let few = few_senders segments x.schema.place some in
    let here : feed.table ≡ x.place = omega (arith, x.table) in
    record {
      least = subst (λ n. 0 < n) (sym x.senders) (some_senders segments x.schema.place some);
      most = subst (λ n. n ≤ segments) (sym x.senders) few;
      lengths = λ s lt.
          let within : s < segments = omega (arith, lt, x.senders, few) in
          let are : part_of loaded feed s ≡ placed_at x.schema.place segments s rows = ap (λ t. rows_at loaded t (pos s)) here ∙ table.places s within in
          subst (All HasLengths) (sym are) (All-from_recursion HasLengths _ (all_have x.schema (got IsTable schemas x.place x.schema tables x.there) _ (all_chosen (IsRowOf x.schema.kinds) (stands_at x.schema.place segments s) 0 rows table.kinds)));
    }

pub runs_feed : (segments : ℕ) (loaded : List Spread) (wholes : List (List Line)) (j : Judged) (feed : Feed) → 1 ≤ segments → IsJudged j → j.segments ≡ segments → Fits segments j.schemas wholes loaded → feed_of j ≡ Some feed → IsFeed segments loaded feed
runs_feed segments loaded wholes j feed some is same fits e =
    let (name, gathers, x) = feed_found j feed e in
    is_feed segments loaded wholes name j.schemas feed some is.tables fits (subst (λ n. Found n 0 name j.schemas feed) same x)
