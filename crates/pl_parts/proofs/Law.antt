-- The law of the parts, by induction on the plan.
use Rattle.std.proofs.Common.{◌≡◌, ℕ, zero, suc, ◌+◌, ◌<◌, pos, negsuc, List, [], ◌∷◌, ◌++◌, map, length, Option, Some, None, refl, sym, ap, ◌∙◌, subst, arith, append-nil, length-append}
use Rattle.std.specs.Prelude.{flat_map}
use Rattle.std.proofs.lemmas.List.{length-map}
use Rattle.std.proofs.lemmas.List.Concat.{flat_map-append}
use Rattle.ic_row.specs.declared.value.Kind.{Kind}
use Rattle.ic_row.specs.declared.value.Value.{Value}
use Rattle.ic_row.specs.Hash.{segment_for}
use Rattle.pl_expr.specs.Holding.{keeps}
use Rattle.pl_tree.specs.declared.node.Call.{Call}
use Rattle.pl_tree.specs.declared.schema.Locus.{Locus}
use Rattle.pl_tree.specs.declared.schema.Locus.TheVariants.{Entry, Hashed, Replicated, Strewn}
use Rattle.pl_tree.specs.Trees.{Tree, Scan, Filter, Project, Limit, Sort, Join, Single, Partial, Final, Gather, Redistribute, Broadcast}
use Rattle.pl_tree.specs.Columns.{kinds_of, kind_at, chosen_kinds, call_kind, width_of}
use Rattle.pl_tree.specs.Loci.{moved_to, joined_locus, locus_of}
use Rattle.pl_tree.specs.Partials.{Groups, partial_under}
use Rattle.pl_plan.specs.Motions.{segments_from}
use Rattle.pl_plan.specs.Rules.{Given}
use Rattle.pl_plan.specs.Soundness.{IsSound}
use Rattle.pl_ops.specs.declared.loaded.Spread.{Spread}
use Rattle.pl_ops.specs.Rows.{Line as Row}
use Rattle.pl_ops.specs.Groups as groups
use Rattle.pl_ops.specs.Routing as routing
use Rattle.pl_mean.specs.Parts as parts
use Rattle.pl_mean.specs.Parts.{part, final_of}
use Rattle.pl_parts.specs.Law.{site_of, unfinished}
use Rattle.pl_parts.proofs.Bags.{Perm, pnil, ptrans, itself, alike, behind, turned}
use Rattle.pl_mean.specs.Logical.{meaning, logical}
use Rattle.pl_parts.proofs.Forms.{Columns, World, Place, Dispatcher, Segment, Parts, upto, sent, gathered, redistributed, broadcast, rows_for, at_own, filter_rows, project_rows, join_rows, aggregate_rows, final_rows, firsts}
use Rattle.pl_parts.proofs.Bridges.{filter_is, project_is, join_is, aggregate_is, final_is}
use Rattle.pl_parts.proofs.Goods.{IsGood, filter_good, project_good, join_good, single_good, partial_good, final_good, gather_good, broadcast_good, redistribute_good}
use Rattle.pl_parts.proofs.Well.{partial_unfinished, IsWell, is_well, is_alone}
use Rattle.pl_parts.proofs.Scans.{AreFull, key_segment, world, segment_low, at_place, scan_good}

-- ---- the same in the words of the crates below

good_as : (w : World) (n k : ℕ) (l : Locus) (p q : Parts) (o : Option Groups) (a b : List Row) → n ≡ k → ((place : Place) → p place ≡ q place) → a ≡ b → IsGood w n l p o a → IsGood w k l q o b
good_as w n k l p q o a b e h m c = subst (λ x. IsGood w k l q o x) m (subst (λ x. IsGood w k l x o a) (λ i place. h place i) (subst (λ x. IsGood w x l p o a) e c))

own_as : (l : Locus) (f h : List Row → List Row) (p : Parts) (q : parts.Parts) → ((place : Place) → p place ≡ q (at_place place)) → ((xs : List Row) → f xs ≡ h xs) → (place : Place) → at_own l f p place ≡ parts.at_own l h q (at_place place)
own_as Entry f h p q e s Dispatcher = ap f (e Dispatcher) ∙ s (q (negsuc 0))
own_as Entry f h p q e s (Segment i) = refl
own_as (Hashed a) f h p q e s Dispatcher = refl
own_as (Hashed a) f h p q e s (Segment i) = ap f (e (Segment i)) ∙ s (q (pos i))
own_as Replicated f h p q e s Dispatcher = refl
own_as Replicated f h p q e s (Segment i) = ap f (e (Segment i)) ∙ s (q (pos i))
own_as Strewn f h p q e s Dispatcher = refl
own_as Strewn f h p q e s (Segment i) = ap f (e (Segment i)) ∙ s (q (pos i))

numbers_last : (first n : ℕ) → segments_from first (suc n) ≡ segments_from first n ++ pos (first + n) ∷ []
numbers_last first zero = let e : first ≡ first + 0 = omega arith in ap (λ x. pos x ∷ []) e
numbers_last first (suc n) = let e : suc first + n ≡ first + suc n = omega arith in ap (λ l. pos first ∷ l) (numbers_last (suc first) n ∙ ap (λ x. segments_from (suc first) n ++ pos x ∷ []) e)

pub all_sent : (p : parts.Parts) (n : ℕ) → Perm (flat_map (λ s. p (pos s)) (upto n)) (flat_map p (segments_from 0 n))
all_sent p zero = pnil
all_sent p (suc n) =
    let e : 0 + n ≡ n = omega arith in
    ptrans (behind (p (pos n)) (all_sent p n))
    (ptrans (turned (p (pos n)) (flat_map p (segments_from 0 n)))
    (alike (sym (ap (flat_map p) (numbers_last 0 n ∙ ap (λ x. segments_from 0 n ++ pos x ∷ []) e) ∙ flat_map-append p (segments_from 0 n) (pos n ∷ []) ∙ ap (λ l. flat_map p (segments_from 0 n) ++ l) (append-nil (p (pos n)))))))

sent_as : (g : Given) (tables : List Spread) (l : Locus) (p : parts.Parts) → Perm (sent (world g.segments) l (λ place. p (at_place place))) (parts.sent_by (site_of g tables) l p)
unfolding sent parts.sent_by
sent_as g tables Replicated p = itself (p (pos 0) ++ [])
sent_as g tables Entry p = all_sent p g.segments
sent_as g tables (Hashed a) p = all_sent p g.segments
sent_as g tables Strewn p = all_sent p g.segments

routed_as : (n : ℕ) (ks : Columns) (s : ℕ) (xs : List Row) → rows_for (world n) ks s xs ≡ routing.routed (routing.ToHashed ks) n s xs
unfolding rows_for routing.routed segment_for key_segment
routed_as n ks s xs = refl

aggregate_long : (kinds : List Kind) (gr : Columns) (cs : List Call) → length gr + length cs ≡ length (chosen_kinds kinds gr ++ map (call_kind kinds) cs)
aggregate_long kinds gr cs = let a = length-append (chosen_kinds kinds gr) (map (call_kind kinds) cs) in let b = length-map gr (kind_at kinds) in let c = length-map cs (call_kind kinds) in omega (arith, a, b, c)

module _ (g : Given) (tables : List Spread) (wholes : List (List Row)) (a : AreFull g tables wholes) where
  abbrev pub w : World
  w = world g.segments

  abbrev pub of : Tree → Parts
  of p place = part (site_of g tables) p (at_place place)

  abbrev pub mean : Tree → List Row
  mean p = meaning g.schemas wholes (logical p)

  abbrev pub GoodAs : Option Groups → Tree → Type 0
  GoodAs o p = IsGood w (width_of g.schemas p) (locus_of g.schemas p) (of p) o (mean p)

  low : (key : List Value) → key_segment g.segments key < g.segments
  low key = segment_low g.segments a.segments key

  pub plain : (p : Tree) → unfinished p ≡ None → GoodAs (unfinished p) p → GoodAs None p
  plain p e c = subst (λ o. GoodAs o p) e c

  unfinished_wide : (p : Tree) (gr : Groups) → unfinished p ≡ Some gr → width_of g.schemas p ≡ length gr.group + length gr.calls
  unfinished_wide (Partial k cs c) gr e = let q : record { group = k; calls = cs } ≡ gr = cc in sym (aggregate_long (kinds_of g.schemas c) k cs) ∙ ap (λ (t : Groups). length t.group + length t.calls) q
  unfinished_wide (Gather o c) gr e = unfinished_wide c gr e
  unfinished_wide (Redistribute ks c) gr e = unfinished_wide c gr e
  unfinished_wide (Broadcast c) gr e = unfinished_wide c gr e
  unfinished_wide _ gr e = absurd (cc)

  gathered_as : (xs : List Row) (place : Place) → gathered xs place ≡ parts.at_dispatcher xs (at_place place)
  gathered_as xs Dispatcher = refl
  gathered_as xs (Segment s) = refl

  broadcast_as : (xs : List Row) (place : Place) → broadcast xs place ≡ parts.at_segments (λ s. xs) (at_place place)
  broadcast_as xs Dispatcher = refl
  broadcast_as xs (Segment s) = refl

  redistributed_as : (ks : Columns) (xs : List Row) (place : Place) → redistributed w ks xs place ≡ parts.at_segments (λ s. routing.routed (routing.ToHashed ks) g.segments s xs) (at_place place)
  redistributed_as ks xs Dispatcher = refl
  redistributed_as ks xs (Segment s) = routed_as g.segments ks s xs

  final_as : (c : Tree) (gr : Groups) → partial_under c ≡ Some gr → (xs : List Row) → final_rows gr.group gr.calls xs ≡ final_of (partial_under c) xs
  final_as c gr e xs = final_is gr.group gr.calls xs ∙ ap (λ o. final_of o xs) (sym e)

  pub good : (p : Tree) → IsWell g.schemas p → GoodAs (unfinished p) p
  good (Scan t) s = scan_good g tables wholes a t s.0 s.1
  good (Filter e c) s = good_as w (width_of g.schemas c) (width_of g.schemas c) (locus_of g.schemas c) (λ place. filter_rows (keeps e) (of c place)) (of (Filter e c)) None (filter_rows (keeps e) (mean c)) (mean (Filter e c)) refl (λ place. filter_is e (of c place)) (filter_is e (mean c))
      (filter_good w a.segments low (keeps e) (width_of g.schemas c) (locus_of g.schemas c) (of c) (mean c) (plain c s.1 (good c s.0)))
  good (Project cols c) s = good_as w (length cols) (width_of g.schemas (Project cols c)) (moved_to cols (locus_of g.schemas c)) (λ place. project_rows cols (of c place)) (of (Project cols c)) None (project_rows cols (mean c)) (mean (Project cols c)) (sym (length-map cols (kind_at (kinds_of g.schemas c)))) (λ place. project_is cols (of c place)) (project_is cols (mean c))
      (project_good w a.segments low cols (width_of g.schemas c) (locus_of g.schemas c) (of c) (mean c) (plain c s.1 (good c s.0)))
  good (Limit n c) s = plain c s.1 (good c s.0)
  good (Sort ks c) s = plain c s.1 (good c s.0)
  good (Join on l r) s = good_as w (width_of g.schemas l + width_of g.schemas r) (width_of g.schemas (Join on l r)) (joined_locus (width_of g.schemas l) (locus_of g.schemas l) (locus_of g.schemas r)) (λ place. join_rows on (of r place) (of l place)) (of (Join on l r)) None (join_rows on (mean r) (mean l)) (mean (Join on l r)) (sym (length-append (kinds_of g.schemas l) (kinds_of g.schemas r))) (λ place. join_is on (of r place) (of l place)) (join_is on (mean r) (mean l))
      (join_good w a.segments low on (width_of g.schemas l) (width_of g.schemas r) (locus_of g.schemas l) (locus_of g.schemas r) (of l) (of r) (mean l) (mean r) s.4 (plain l s.2 (good l s.0)) (plain r s.3 (good r s.1)))
  good (Single gr cs c) s = good_as w (length gr + length cs) (width_of g.schemas (Single gr cs c)) (moved_to gr (locus_of g.schemas c)) (at_own (locus_of g.schemas c) (aggregate_rows gr cs) (of c)) (of (Single gr cs c)) None (aggregate_rows gr cs (mean c)) (mean (Single gr cs c)) (aggregate_long (kinds_of g.schemas c) gr cs) (own_as (locus_of g.schemas c) (aggregate_rows gr cs) (groups.aggregate_rows gr cs) (of c) (part (site_of g tables) c) (λ place. refl) (aggregate_is gr cs)) (aggregate_is gr cs (mean c))
      (single_good w a.segments low gr cs (width_of g.schemas c) (locus_of g.schemas c) (of c) (mean c) s.2 (plain c s.1 (good c s.0)))
  good (Partial gr cs c) s = good_as w (length gr + length cs) (width_of g.schemas (Partial gr cs c)) (moved_to gr (locus_of g.schemas c)) (at_own (locus_of g.schemas c) (aggregate_rows gr cs) (of c)) (of (Partial gr cs c)) (Some (record { group = gr; calls = cs })) (aggregate_rows gr cs (mean c)) (mean (Partial gr cs c)) (aggregate_long (kinds_of g.schemas c) gr cs) (own_as (locus_of g.schemas c) (aggregate_rows gr cs) (groups.aggregate_rows gr cs) (of c) (part (site_of g tables) c) (λ place. refl) (aggregate_is gr cs)) (aggregate_is gr cs (mean c))
      (partial_good w a.segments low gr cs (width_of g.schemas c) (locus_of g.schemas c) (of c) (mean c) (plain c s.1 (good c s.0)))
  good (Final c) s =
      let f = s.1 in
      let u = partial_unfinished c f.groups f.under in
      subst (λ l. IsGood w (width_of g.schemas c) l (of (Final c)) None (mean c)) f.firsts_are.stays
      (good_as w (width_of g.schemas c) (width_of g.schemas c) (moved_to (firsts 0 (length f.groups.group)) (locus_of g.schemas c)) (at_own (locus_of g.schemas c) (final_rows f.groups.group f.groups.calls) (of c)) (of (Final c)) None (mean c) (mean c) refl
      (own_as (locus_of g.schemas c) (final_rows f.groups.group f.groups.calls) (final_of (partial_under c)) (of c) (part (site_of g tables) c) (λ place. refl) (final_as c f.groups f.under)) refl
      (final_good w a.segments low f.groups (width_of g.schemas c) (locus_of g.schemas c) (of c) (mean c) (unfinished_wide c f.groups u) f.firsts_are.groupable (subst (λ o. GoodAs o c) u (good c s.0))))
  good (Gather o c) s =
      let all = parts.sent_by (site_of g tables) (locus_of g.schemas c) (part (site_of g tables) c) in
      good_as w (width_of g.schemas c) (width_of g.schemas c) Entry (gathered all) (of (Gather o c)) (unfinished c) (mean c) (mean c) refl (gathered_as all) refl
      (gather_good w a.segments low (width_of g.schemas c) (locus_of g.schemas c) (of c) (unfinished c) (mean c) all (sent_as g tables (locus_of g.schemas c) (part (site_of g tables) c)) s.1 (good c s.0))
  good (Redistribute ks c) s =
      let all = parts.sent_by (site_of g tables) (locus_of g.schemas c) (part (site_of g tables) c) in
      good_as w (width_of g.schemas c) (width_of g.schemas c) (Hashed ks) (redistributed w ks all) (of (Redistribute ks c)) (unfinished c) (mean c) (mean c) refl (redistributed_as ks all) refl
      (redistribute_good w a.segments low ks (width_of g.schemas c) (locus_of g.schemas c) (of c) (unfinished c) (mean c) all (sent_as g tables (locus_of g.schemas c) (part (site_of g tables) c)) s.1 s.2 s.3 (good c s.0))
  good (Broadcast c) s =
      let all = parts.sent_by (site_of g tables) (locus_of g.schemas c) (part (site_of g tables) c) in
      good_as w (width_of g.schemas c) (width_of g.schemas c) Replicated (broadcast all) (of (Broadcast c)) (unfinished c) (mean c) (mean c) refl (broadcast_as all) refl
      (broadcast_good w a.segments low (width_of g.schemas c) (locus_of g.schemas c) (of c) (unfinished c) (mean c) all (sent_as g tables (locus_of g.schemas c) (part (site_of g tables) c)) s.1 (good c s.0))

  pub parts_good : (p : Tree) → IsSound g p → GoodAs None p
  parts_good p s = plain p (is_alone g p s) (good p (is_well g p s))
