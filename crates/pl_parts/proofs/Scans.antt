-- The rows of a table at the segments.
use Rattle.std.proofs.Common.{◌≡◌, ℕ, zero, suc, ◌+◌, ◌<◌, ◌%◌, pos, negsuc, Bool, true, false, cond, List, [], ◌∷◌, map, length, Option, Some, None, refl, sym, ap, ◌∙◌, subst, inl, inr, arith}
use Rattle.std.specs.Prelude.{◌==◌, ℤ, filter, flat_map, slice_get}
use Rattle.std.specs.List.{AllByRecursion, enumerate_from}
use Rattle.ic_row.specs.declared.value.Value.{Value}
use Rattle.ic_row.specs.Values.{key_of}
use Rattle.ic_row.specs.Spelling.{value_spelling}
use Rattle.ic_row.specs.Hash.{hash_of, segment_for}
use Rattle.pl_tree.specs.declared.schema.Schema.{Schema}
use Rattle.pl_tree.specs.declared.schema.Placing.{Placing}
use Rattle.pl_tree.specs.declared.schema.Placing.TheVariants.{Keyed, Dealt, Everywhere}
use Rattle.pl_tree.specs.Sizes.{IsPlaced, IsTable, AreTables}
use Rattle.pl_tree.specs.Columns.{same_text, schema_named, table_kinds}
use Rattle.pl_tree.specs.Loci.{placed, table_locus}
use Rattle.pl_plan.specs.Rules.{Given}
use Rattle.pl_ops.specs.declared.loaded.Spread.{Spread}
use Rattle.pl_ops.specs.declared.loaded.Spread.TheVariants as spread
use Rattle.pl_ops.specs.Rows.{Line as Row}
use Rattle.pl_ops.specs.Placed.{or_none, in_table, rows_at}
use Rattle.pl_ops.specs.Fitting.{numbered, stands_at, placed_at}
use Rattle.pl_mean.specs.Parts.{number_from, scanned, rows_of}
use Rattle.pl_parts.specs.Law.{site_of}
use Rattle.pl_parts.proofs.Bags.{Perm, alike, ptrans, map-flat_map}
use Rattle.pl_parts.proofs.Members.{In, In-from_map, In-from_filter, All-in, All-from_in, map_perm}
use Rattle.pl_mean.specs.Logical.{whole_of}
use Rattle.pl_parts.proofs.Forms.{Columns, World, Place, Dispatcher, Segment, Parts, upto, together, IsKey}
use Rattle.pl_parts.proofs.Segments.{parted, eqb_is}
use Rattle.pl_parts.proofs.Nodes.{Bag, Reads, Held, LocusFits, AreWide}
use Rattle.pl_parts.proofs.Goods.{IsGood}

-- the segments, and the one that a key's values name
unfoldable pub key_segment : ℕ → List Value → ℕ
key_segment n key = hash_of (flat_map value_spelling key) % n

abbrev pub world : ℕ → World
world n = record { count = n; segment = key_segment n }

pub segment_is : (n : ℕ) (k : Columns) (row : Row) → segment_for k row n ≡ key_segment n (key_of k row)
unfolding segment_for key_segment
segment_is n k row = refl

pub segment_low : (n : ℕ) → 0 < n → (key : List Value) → key_segment n key < n
unfolding key_segment
segment_low n h key = low (hash_of (flat_map value_spelling key))
  where
    low : (x : ℕ) → x % n < n
    low x = omega arith

-- ---- numbers in front of rows

numbered_rows : (k : ℕ) (rows : List Row) → map (λ (x : ℕ × Row). x.1) (enumerate_from k rows) ≡ rows
numbered_rows k [] = refl
numbered_rows k (row ∷ rows) = ap (λ l. row ∷ l) (numbered_rows (k + 1) rows)

pub numbered_in : (k : ℕ) (rows : List Row) (x : ℕ × Row) → In x (enumerate_from k rows) → In x.1 rows
numbered_in k [] x i = absurd i
numbered_in k (row ∷ rows) x (inl e) = inl (ap (λ (y : ℕ × Row). y.1) e)
numbered_in k (row ∷ rows) x (inr i) = inr (numbered_in (k + 1) rows x i)

filter_all : (xs : List (ℕ × Row)) → filter (λ x. true) xs ≡ xs
filter_all [] = refl
filter_all (x ∷ xs) = ap (λ l. x ∷ l) (filter_all xs)

pub everywhere : (n s : ℕ) (rows : List Row) → placed_at Everywhere n s rows ≡ rows
everywhere n s rows = ap (map (λ (x : ℕ × Row). x.1)) (filter_all (enumerate_from 0 rows)) ∙ numbered_rows 0 rows

pub placed_in : (place : Placing) (n s : ℕ) (rows : List Row) (row : Row) → In row (placed_at place n s rows) → (x : ℕ × Row) × (row ≡ x.1) × In x.1 rows × (stands_at place n s x ≡ true)
placed_in place n s rows row i =
    let r = In-from_map (λ (x : ℕ × Row). x.1) row (filter (stands_at place n s) (numbered rows)) i in
    let q = In-from_filter (stands_at place n s) r.0 (numbered rows) r.1 in
    (r.0, r.2, numbered_in 0 rows r.0 q.0, q.1)

-- rows that each stand at the one segment that a number of theirs names
split_by : (n : ℕ) (f : ℕ × Row → ℕ) → ((x : ℕ × Row) → f x < n) → (rows : List Row) → Perm (flat_map (λ s. map (λ (x : ℕ × Row). x.1) (filter (λ x. f x == s) (numbered rows))) (upto n)) rows
split_by n f low rows =
    ptrans (alike (sym (map-flat_map (λ (x : ℕ × Row). x.1) (λ s. filter (λ x. f x == s) (numbered rows)) (upto n))))
    (ptrans (map_perm (λ (x : ℕ × Row). x.1) (parted f n (numbered rows) (All-from_in (λ x. f x < n) (numbered rows) (λ x i. low x)))) (alike (numbered_rows 0 rows)))

-- ---- a table

pub no_rows_away : (tables : List Spread) (t d : ℕ) → rows_at tables t (negsuc d) ≡ []
no_rows_away tables t d = by (slice_get tables t)
  where
    by : (o : Option Spread) → in_table o (negsuc d) ≡ []
    by None = refl
    by (Some (spread.Apart parts)) = refl
    by (Some (spread.Everywhere rows)) = refl

key_is : (k : Columns) → 0 < length k → IsKey k
key_is [] h = absurd (omega arith)
key_is (c ∷ cs) h = tt

placed_fits : (width : ℕ) (place : Placing) → IsPlaced width place → LocusFits width (placed place)
placed_fits width (Keyed k) h = (key_is k h.0, h.1)
placed_fits width Dealt h = tt
placed_fits width Everywhere h = tt

module _ (n : ℕ) (z : 0 < n) (rows : List Row) (p : Parts) (none : p Dispatcher ≡ []) where
  placed_held : (place : Placing) → ((s : ℕ) → p (Segment s) ≡ placed_at place n s rows) → Held (world n) (placed place) p
  placed_held (Keyed k) h = (
    none,
    λ s row i.
        let r = placed_in (Keyed k) n s rows row (subst (In row) (h s) i) in
        ap (λ x. key_segment n (key_of k x)) r.1 ∙ sym (segment_is n k r.0.1) ∙ eqb_is (segment_for k r.0.1 n) s r.3,
  )
  placed_held Dealt h = none
  placed_held Everywhere h = (none, λ s t i j. alike (h s ∙ everywhere n s rows ∙ sym (everywhere n t rows) ∙ sym (h t)))

  all_parts : (f : ℕ → List Row) → ((s : ℕ) → p (Segment s) ≡ f s) → together (world n) p ≡ flat_map f (upto n)
  unfolding together
  all_parts f h = λ i. flat_map (λ s. h s i) (upto n)

  placed_reads : (place : Placing) → ((s : ℕ) → p (Segment s) ≡ placed_at place n s rows) → Reads (world n) (Bag rows) (placed place) p
  placed_reads (Keyed k) h = ptrans (alike (all_parts (λ s. placed_at (Keyed k) n s rows) h)) (split_by n (λ x. segment_for k x.1 n) (λ x. subst (λ y. y < n) (sym (segment_is n k x.1)) (segment_low n z (key_of k x.1))) rows)
  placed_reads Dealt h = ptrans (alike (all_parts (λ s. placed_at Dealt n s rows) h)) (split_by n (λ x. x.0 % n) (λ x. low x.0) rows)
    where
      low : (x : ℕ) → x % n < n
      low x = omega arith
  placed_reads Everywhere h = λ s i. alike (h s ∙ everywhere n s rows)

  placed_wide : (place : Placing) (width : ℕ) → ((s : ℕ) → p (Segment s) ≡ placed_at place n s rows) → AllByRecursion (λ row. length row ≡ width) rows → AreWide width p
  placed_wide place width h wide Dispatcher row i = absurd (subst (In row) none i)
  placed_wide place width h wide (Segment s) row i = let r = placed_in place n s rows row (subst (In row) (h s) i) in ap length r.1 ∙ All-in (λ q. length q ≡ width) r.0.1 rows wide r.2

-- ---- tables that stand as they are to at every number of a segment

pub record IsFull (n : ℕ) (schema : Schema) (tables : List Spread) (table : ℕ) (rows : List Row) : Type 0 where
  pub wide : AllByRecursion (λ row. length row ≡ length schema.kinds) rows
  pub places : (segment : ℕ) → rows_at tables table (pos segment) ≡ placed_at schema.place n segment rows

pub record AreFull (g : Given) (tables : List Spread) (wholes : List (List Row)) : Type 0 where
  pub segments : 0 < g.segments
  pub schemas : AreTables g.schemas
  pub each : (table : ℕ) (schema : Schema) → slice_get g.schemas table ≡ Some schema → IsFull g.segments schema tables table (or_none (slice_get wholes table))

-- ---- a scan

pub named : (name : List ℕ) (k : ℕ) (schemas : List Schema) (schema : Schema) → schema_named name schemas ≡ Some schema → (j : ℕ) × (number_from k name schemas ≡ Some (k + j)) × (slice_get schemas j ≡ Some schema)
named name k [] schema h = absurd (cc)
named name k (first ∷ schemas) schema h = by (same_text first.name name) h (named name (k + 1) schemas schema)
  where
    by : (b : Bool) → cond b (Some first) (schema_named name schemas) ≡ Some schema → (schema_named name schemas ≡ Some schema → (j : ℕ) × (number_from (k + 1) name schemas ≡ Some ((k + 1) + j)) × (slice_get schemas j ≡ Some schema))
        → (j : ℕ) × (cond b (Some k) (number_from (k + 1) name schemas) ≡ Some (k + j)) × (slice_get (first ∷ schemas) j ≡ Some schema)
    by true e ih = let q : k ≡ k + 0 = omega arith in (0, ap Some q, e)
    by false e ih = let r = ih e in let q : (k + 1) + r.0 ≡ k + suc r.0 = omega arith in (suc r.0, r.1 ∙ ap Some q, r.2)

table_at : (schemas : List Schema) (j : ℕ) (schema : Schema) → AreTables schemas → slice_get schemas j ≡ Some schema → IsTable schema
table_at [] j schema h e = absurd (cc)
table_at (first ∷ schemas) zero schema h e = let q : first ≡ schema = cc in subst IsTable q h.0
table_at (first ∷ schemas) (suc j) schema h e = table_at schemas j schema h.1 e

abbrev pub at_place : Place → ℤ
at_place Dispatcher = negsuc 0
at_place (Segment s) = pos s

pub scan_good : (g : Given) (tables : List Spread) (wholes : List (List Row)) (a : AreFull g tables wholes) (name : List ℕ) (schema : Schema) → schema_named name g.schemas ≡ Some schema
    → IsGood (world g.segments) (length (table_kinds (schema_named name g.schemas))) (table_locus (schema_named name g.schemas)) (λ place. scanned (site_of g tables) name (at_place place)) None (whole_of wholes (number_from 0 name g.schemas))
scan_good g tables wholes a name schema e =
    let r = named name 0 g.schemas schema e in
    let q : number_from 0 name g.schemas ≡ Some (0 + r.0) = r.1 in
    let z : 0 + r.0 ≡ r.0 = omega arith in
    let m : number_from 0 name g.schemas ≡ Some r.0 = q ∙ ap Some z in
    let t = table_at g.schemas r.0 schema a.schemas r.2 in
    let s = a.each r.0 schema r.2 in
    let rows = or_none (slice_get wholes r.0) in
    let p : Parts = λ place. rows_at tables r.0 (at_place place) in
    let good : IsGood (world g.segments) (length schema.kinds) (placed schema.place) p None rows = record {
      fits = placed_fits (length schema.kinds) schema.place t.place;
      wide = placed_wide g.segments a.segments rows p (no_rows_away tables r.0 0) schema.place (length schema.kinds) s.places s.wide;
      held = placed_held g.segments a.segments rows p (no_rows_away tables r.0 0) schema.place s.places;
      reads = placed_reads g.segments a.segments rows p (no_rows_away tables r.0 0) schema.place s.places;
    } in
    subst (λ o. IsGood (world g.segments) (length (table_kinds o)) (table_locus o) (λ place. scanned (site_of g tables) name (at_place place)) None (whole_of wholes (number_from 0 name g.schemas))) (sym e)
    (subst (λ o. IsGood (world g.segments) (length schema.kinds) (placed schema.place) (λ place. rows_of tables o (at_place place)) None (whole_of wholes o)) (sym m) good)
