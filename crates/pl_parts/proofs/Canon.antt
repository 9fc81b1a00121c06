-- Tables that are the same at each segment, and stand as they are to at every other number too; the parts are the same.
use Rattle.std.proofs.Common.{◌≡◌, ℕ, zero, suc, ◌+◌, ◌<◌, ◌≤◌, ◌%◌, ℤ, pos, negsuc, false, List, [], ◌∷◌, map, length, Some, None, refl, sym, ap, ◌∙◌, ⊎_elim, arith}
use Rattle.std.specs.Prelude.{◌⊎◌, ◌==◌, flat_map, slice_get}
use Rattle.std.specs.List.{AllByRecursion, AllZip}
use Rattle.std.proofs.lemmas.Bool.Decides.{nat_tests}
use Rattle.ic_row.specs.declared.value.Kind.{Kind}
use Rattle.ic_row.specs.Values.{key_of}
use Rattle.ic_row.specs.Hash.{segment_for}
use Rattle.pl_tree.specs.declared.schema.Schema.{Schema}
use Rattle.pl_tree.specs.declared.schema.Placing.{Placing}
use Rattle.pl_tree.specs.declared.schema.Placing.TheVariants.{Keyed, Dealt, Everywhere}
use Rattle.pl_tree.specs.declared.schema.Locus.{Locus}
use Rattle.pl_tree.specs.declared.schema.Locus.TheVariants.{Entry, Hashed, Replicated, Strewn}
use Rattle.pl_tree.specs.Trees.{Tree, Scan, Filter, Project, Limit, Sort, Join, Single, Partial, Final, Gather, Redistribute, Broadcast}
use Rattle.pl_tree.specs.Loci.{locus_of}
use Rattle.pl_tree.specs.Partials.{partial_under}
use Rattle.pl_plan.specs.Motions.{segments_from, gang_at}
use Rattle.pl_plan.specs.Rules.{Given}
use Rattle.pl_ops.specs.declared.loaded.Spread.{Spread}
use Rattle.pl_ops.specs.declared.loaded.Spread.TheVariants as spread
use Rattle.pl_ops.specs.Rows.{Line as Row, filter_rows, project_rows, join_rows}
use Rattle.pl_ops.specs.Groups.{aggregate_rows}
use Rattle.pl_ops.specs.Routing.{ToHashed, routed}
use Rattle.pl_ops.specs.Placed.{or_none, in_table, spread_at, rows_at}
use Rattle.pl_ops.specs.Fitting.{IsOfKind, IsRowOf, numbered, stands_at, placed_at}
use Rattle.pl_mean.specs.Parts.{Parts, number_from, rows_of, at_dispatcher, at_segments, at_own, final_of, sent_by, part}
use Rattle.pl_parts.proofs.Bags.{flat_same}
use Rattle.pl_parts.proofs.Members.{filter_none}
use Rattle.pl_parts.specs.Law.{AreLoaded, site_of}
use Rattle.pl_parts.proofs.Forms.{Columns}
use Rattle.pl_parts.proofs.Scans.{AreFull, segment_is, segment_low, everywhere, named, no_rows_away}
use Rattle.pl_parts.proofs.Well.{IsWell}

numbers : ℕ → ℕ → List ℕ
numbers first zero = []
numbers first (suc n) = first ∷ numbers (suc first) n

-- ---- one table

spread_of : Placing → ℕ → List Row → Spread
spread_of (Keyed k) n rows = spread.Apart (map (λ s. placed_at (Keyed k) n s rows) (numbers 0 n))
spread_of Dealt n rows = spread.Apart (map (λ s. placed_at Dealt n s rows) (numbers 0 n))
spread_of Everywhere n rows = spread.Everywhere rows

at_number : (f : ℕ → List Row) (first n s : ℕ) → s < n → slice_get (map f (numbers first n)) s ≡ Some (f (first + s))
unfolding numbers
at_number f first zero s h = absurd (omega arith)
at_number f first (suc n) zero h = let e : first ≡ first + 0 = omega arith in ap (λ x. Some (f x)) e
at_number f first (suc n) (suc s) h = let e : suc first + s ≡ first + suc s = omega arith in at_number f (suc first) n s (omega arith) ∙ ap (λ x. Some (f x)) e

past_number : (f : ℕ → List Row) (first n s : ℕ) → n ≤ s → slice_get (map f (numbers first n)) s ≡ None
unfolding numbers
past_number f first zero s h = refl
past_number f first (suc n) zero h = absurd (omega arith)
past_number f first (suc n) (suc s) h = past_number f (suc first) n s (omega arith)

differs : (a s : ℕ) → (a ≡ s → ⊥) → (a == s) ≡ false
differs a s h = grind (arith, nat_tests)

low_mod : (n x : ℕ) → 0 < n → x % n < n
low_mod n x h = omega arith

keyed_past : (k : Columns) (n s : ℕ) (rows : List Row) → 0 < n → n ≤ s → placed_at (Keyed k) n s rows ≡ []
keyed_past k n s rows z h = ap (map (λ (x : ℕ × Row). x.1)) (filter_none (stands_at (Keyed k) n s) (numbered rows) (λ x i. differs (segment_for k x.1 n) s (λ e. let l = segment_low n z (key_of k x.1) in let q = segment_is n k x.1 in omega (arith, l, q, e))))

dealt_past : (n s : ℕ) (rows : List Row) → 0 < n → n ≤ s → placed_at Dealt n s rows ≡ []
dealt_past n s rows z h = ap (map (λ (x : ℕ × Row). x.1)) (filter_none (stands_at Dealt n s) (numbered rows) (λ x i. differs (x.0 % n) s (λ e. let l = low_mod n x.0 z in omega (arith, l, e))))

apart_rows : (f : ℕ → List Row) (n s : ℕ) → (n ≤ s → f s ≡ []) → spread_at (spread.Apart (map f (numbers 0 n))) (pos s) ≡ f s
apart_rows f n s past = ⊎_elim (λ h. ap or_none (past_number f 0 n s h) ∙ sym (past h)) (λ h. let e : 0 + s ≡ s = omega arith in ap or_none (at_number f 0 n s h) ∙ ap f e) (cases n s)
  where
    cases : (a b : ℕ) → (a ≤ b) ⊎ (b < a)
    cases a b = grind arith

spread_rows : (place : Placing) (n s : ℕ) (rows : List Row) → 0 < n → spread_at (spread_of place n rows) (pos s) ≡ placed_at place n s rows
unfolding spread_of
spread_rows (Keyed k) n s rows z = apart_rows (λ t. placed_at (Keyed k) n t rows) n s (keyed_past k n s rows z)
spread_rows Dealt n s rows z = apart_rows (λ t. placed_at Dealt n t rows) n s (dealt_past n s rows z)
spread_rows Everywhere n s rows z = sym (everywhere n s rows)

-- ---- all tables

canon : ℕ → List Schema → ℕ → List (List Row) → List Spread
canon n [] j wholes = []
canon n (schema ∷ schemas) j wholes = spread_of schema.place n (or_none (slice_get wholes j)) ∷ canon n schemas (suc j) wholes

canon_at : (n : ℕ) (schemas : List Schema) (j : ℕ) (wholes : List (List Row)) (i : ℕ) (schema : Schema) → slice_get schemas i ≡ Some schema → slice_get (canon n schemas j wholes) i ≡ Some (spread_of schema.place n (or_none (slice_get wholes (j + i))))
unfolding canon
canon_at n [] j wholes i schema e = absurd (cc)
canon_at n (first ∷ schemas) j wholes zero schema e =
    let q : first ≡ schema = cc in
    let z : j ≡ j + 0 = omega arith in
    ap (λ (s : Schema). Some (spread_of s.place n (or_none (slice_get wholes j)))) q ∙ ap (λ x. Some (spread_of schema.place n (or_none (slice_get wholes x)))) z
canon_at n (first ∷ schemas) j wholes (suc i) schema e = let z : suc j + i ≡ j + suc i = omega arith in canon_at n schemas (suc j) wholes i schema e ∙ ap (λ x. Some (spread_of schema.place n (or_none (slice_get wholes x)))) z

zip_long : (ks : List Kind) (row : Row) → AllZip IsOfKind ks row → length row ≡ length ks
zip_long [] [] h = refl
zip_long [] (v ∷ row) h = absurd h
zip_long (k ∷ ks) [] h = absurd h
zip_long (k ∷ ks) (v ∷ row) h = ap suc (zip_long ks row h.1)

all_wide : (ks : List Kind) (rows : List Row) → AllByRecursion (IsRowOf ks) rows → AllByRecursion (λ row. length row ≡ length ks) rows
all_wide ks [] h = tt
all_wide ks (row ∷ rows) h = (zip_long ks row h.0.values, all_wide ks rows h.1)

module _ (g : Given) (tables : List Spread) (wholes : List (List Row)) (a : AreLoaded g wholes tables) where
  pub full : List Spread
  full = canon g.segments g.schemas 0 wholes

  full_rows : (t s : ℕ) (schema : Schema) → slice_get g.schemas t ≡ Some schema → rows_at full t (pos s) ≡ placed_at schema.place g.segments s (or_none (slice_get wholes t))
  unfolding full
  full_rows t s schema e =
      let z : 0 + t ≡ t = omega arith in
      ap (λ o. in_table o (pos s)) (canon_at g.segments g.schemas 0 wholes t schema e) ∙ spread_rows schema.place g.segments s (or_none (slice_get wholes (0 + t))) a.segments ∙ ap (λ x. placed_at schema.place g.segments s (or_none (slice_get wholes x))) z

  pub are_full : AreFull g full wholes
  are_full = record {
    segments = a.segments;
    schemas = a.schemas;
    each = λ t schema e. record { wide = all_wide schema.kinds (or_none (slice_get wholes t)) (a.fits.each t schema e).kinds; places = λ s. full_rows t s schema e };
  }

  abbrev pub InRange : ℤ → Type 0
  InRange (pos s) = s < g.segments
  InRange (negsuc d) = Unit {0}

  scan_same : (t : ℕ) (schema : Schema) (at : ℤ) → slice_get g.schemas t ≡ Some schema → InRange at → rows_at tables t at ≡ rows_at full t at
  scan_same t schema (pos s) e h = (a.fits.each t schema e).places s h ∙ sym (full_rows t s schema e)
  scan_same t schema (negsuc d) e h = no_rows_away tables t d ∙ sym (no_rows_away full t d)

  own_same : (l : Locus) (f : List Row → List Row) (p q : Parts) (at : ℤ) → p at ≡ q at → at_own l f p at ≡ at_own l f q at
  own_same Entry f p q at e = ap (λ x. at_dispatcher (f x) at) e
  own_same (Hashed b) f p q at e = ap (λ x. at_segments (λ s. f x) at) e
  own_same Replicated f p q at e = ap (λ x. at_segments (λ s. f x) at) e
  own_same Strewn f p q at e = ap (λ x. at_segments (λ s. f x) at) e

  numbers_range : (first n m : ℕ) → first + n ≤ m → m ≡ g.segments → AllByRecursion InRange (segments_from first n)
  numbers_range first zero m h e = tt
  numbers_range first (suc n) m h e = (omega (arith, h, e), numbers_range (suc first) n m (omega (arith, h)) e)

  gang_range : (l : Locus) → AllByRecursion InRange (gang_at g.segments l)
  gang_range Replicated = let z = a.segments in numbers_range 0 1 g.segments (omega (arith, z)) refl
  gang_range Entry = numbers_range 0 g.segments g.segments (omega arith) refl
  gang_range (Hashed b) = numbers_range 0 g.segments g.segments (omega arith) refl
  gang_range Strewn = numbers_range 0 g.segments g.segments (omega arith) refl

  sent_same : (l : Locus) (p q : Parts) → ((at : ℤ) → InRange at → p at ≡ q at) → sent_by (site_of g tables) l p ≡ sent_by (site_of g full) l q
  unfolding sent_by
  sent_same l p q h = flat_same InRange p q h (gang_at g.segments l) (gang_range l)

  pub same : (p : Tree) → IsWell g.schemas p → (at : ℤ) → InRange at → part (site_of g tables) p at ≡ part (site_of g full) p at
  same (Scan t) s at h =
      let r = named t 0 g.schemas s.0 s.1 in
      let z : 0 + r.0 ≡ r.0 = omega arith in
      let m : number_from 0 t g.schemas ≡ Some r.0 = r.1 ∙ ap Some z in
      ap (λ o. rows_of tables o at) m ∙ scan_same r.0 s.0 at r.2 h ∙ sym (ap (λ o. rows_of full o at) m)
  same (Filter e c) s at h = ap (filter_rows e) (same c s.0 at h)
  same (Project cols c) s at h = ap (project_rows cols) (same c s.0 at h)
  same (Limit n c) s at h = same c s.0 at h
  same (Sort ks c) s at h = same c s.0 at h
  same (Join on l r) s at h = ap (λ x. join_rows on x (part (site_of g tables) l at)) (same r s.1 at h) ∙ ap (join_rows on (part (site_of g full) r at)) (same l s.0 at h)
  same (Single gr cs c) s at h = own_same (locus_of g.schemas c) (aggregate_rows gr cs) (part (site_of g tables) c) (part (site_of g full) c) at (same c s.0 at h)
  same (Partial gr cs c) s at h = own_same (locus_of g.schemas c) (aggregate_rows gr cs) (part (site_of g tables) c) (part (site_of g full) c) at (same c s.0 at h)
  same (Final c) s at h = own_same (locus_of g.schemas c) (final_of (partial_under c)) (part (site_of g tables) c) (part (site_of g full) c) at (same c s.0 at h)
  same (Gather o c) s at h = ap (λ x. at_dispatcher x at) (sent_same (locus_of g.schemas c) (part (site_of g tables) c) (part (site_of g full) c) (same c s.0))
  same (Redistribute ks c) s at h = ap (λ x. at_segments (λ i. routed (ToHashed ks) g.segments i x) at) (sent_same (locus_of g.schemas c) (part (site_of g tables) c) (part (site_of g full) c) (same c s.0))
  same (Broadcast c) s at h = ap (λ x. at_segments (λ i. x) at) (sent_same (locus_of g.schemas c) (part (site_of g tables) c) (part (site_of g full) c) (same c s.0))

  pub all_same : (p : Tree) → IsWell g.schemas p → flat_map (part (site_of g tables) p) (segments_from 0 g.segments) ≡ flat_map (part (site_of g full) p) (segments_from 0 g.segments)
  all_same p s = flat_same InRange (part (site_of g tables) p) (part (site_of g full) p) (same p s) (segments_from 0 g.segments) (numbers_range 0 g.segments g.segments (omega arith) refl)
