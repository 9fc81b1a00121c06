-- What each kind of node makes of what is proved of its child.
use Rattle.std.proofs.Common.{◌≡◌, ℕ, zero, suc, ◌+◌, ◌<◌, Bool, true, false, List, [], ◌∷◌, length, get_or, Option, Some, None, refl, sym, ap, ◌∙◌, subst, inl, inr, arith, length-append}
use Rattle.std.specs.Prelude.{◌==◌}
use Rattle.std.proofs.lemmas.List.{length-map}
use Rattle.ic_row.specs.declared.value.Value.{Value}
use Rattle.ic_row.specs.declared.value.Value.TheVariants.{Null}
use Rattle.ic_row.specs.Values.{key_of}
use Rattle.pl_tree.specs.declared.node.Pair.{Pair}
use Rattle.pl_tree.specs.declared.node.Call.{Call}
use Rattle.pl_tree.specs.declared.schema.Locus.{Locus}
use Rattle.pl_tree.specs.declared.schema.Locus.TheVariants.{Entry, Hashed, Replicated}
use Rattle.pl_tree.specs.Loci.{moved_to, joined_locus}
use Rattle.pl_tree.specs.Partials.{Groups}
use Rattle.pl_ops.specs.Rows.{Line as Row}
use Rattle.pl_parts.proofs.Bags.{Perm, ptrans, back}
use Rattle.pl_parts.proofs.Members.{In, In-perm, In-from_filter, In-from_flat}
use Rattle.pl_parts.proofs.Forms.{Columns, World, Dispatcher, Segment, Parts, sent, gang, gathered, redistributed, broadcast, rows_for, at_own, kept, filter_rows, project_rows, join_rows, aggregate_rows, final_rows, totals, Slot, slot_value, brought_by, carried_from, firsts, Joins, Groupable, IsAway, Below, IsKey}
use Rattle.pl_parts.proofs.Grouping.{grouped_perm}
use Rattle.pl_parts.proofs.Stages.{totals_fair}
use Rattle.pl_parts.proofs.Joins.{In-from_join}
use Rattle.pl_parts.proofs.Nodes.{Bag, Reads, Held, LocusFits, AreWide, Cut, Sense, sense_perm, moved_reads, sent_reads, rowwise_reads, rowwise_held, moved_fits, project_held, parts_of, redistribute_held, broadcast_held, group_held, group_reads, group_wide, partial_reads, finish, join_fits, join_held, join_reads}

-- what is proved of each node
pub record IsGood (w : World) (n : ℕ) (l : Locus) (p : Parts) (o : Option Groups) (m : List Row) : Type 0 where
  pub fits : LocusFits n l
  pub wide : AreWide n p
  pub held : Held w l p
  pub reads : Reads w (Sense o m) l p

module _ (w : World) (some_segment : 0 < w.count) (below : (key : List Value) → w.segment key < w.count) where
  -- row by row
  only_kept : (test : Row → Bool) (x row : Row) → In row (kept (test x) x) → row ≡ x
  only_kept test x row i = by (test x) i
    where
      by : (b : Bool) → In row (kept b x) → row ≡ x
      by true (inl e) = e
      by true (inr j) = absurd j
      by false j = absurd j

  pub filter_good : (test : Row → Bool) (n : ℕ) (l : Locus) (p : Parts) (m : List Row) → IsGood w n l p None m → IsGood w n l (λ place. filter_rows test (p place)) None (filter_rows test m)
  unfolding filter_rows
  filter_good test n l p m c = record {
    fits = c.fits;
    wide = λ place row i. let r = In-from_flat (λ x. kept (test x) x) row (p place) i in ap length (only_kept test r.0 row r.2) ∙ c.wide place r.0 r.1;
    held = rowwise_held w (λ x. kept (test x) x) l p (only_kept test) c.held;
    reads = rowwise_reads w (λ x. kept (test x) x) l p m c.reads;
  }

  only_key : (cols : Columns) (x row : Row) → In row (key_of cols x ∷ []) → row ≡ key_of cols x
  only_key cols x row (inl e) = e
  only_key cols x row (inr i) = absurd i

  pub project_good : (cols : Columns) (n : ℕ) (l : Locus) (p : Parts) (m : List Row) → IsGood w n l p None m → IsGood w (length cols) (moved_to cols l) (λ place. project_rows cols (p place)) None (project_rows cols m)
  unfolding project_rows
  project_good cols n l p m c = record {
    fits = let e : length cols + 0 ≡ length cols = omega arith in subst (λ k. LocusFits k (moved_to cols l)) e (moved_fits w cols l n 0 c.fits);
    wide = λ place row i. let r = In-from_flat (λ x. key_of cols x ∷ []) row (p place) i in ap length (only_key cols r.0 row r.2) ∙ length-map cols (λ k. get_or r.0 k Null);
    held = project_held w cols l p c.held;
    reads = moved_reads w (Bag (project_rows cols m)) cols l (λ place. project_rows cols (p place)) (rowwise_reads w (λ x. key_of cols x ∷ []) l p m c.reads);
  }

  pub join_good : (on : List Pair) (n k : ℕ) (A B : Locus) (p q : Parts) (mp mq : List Row) → Joins on A B → IsGood w n A p None mp → IsGood w k B q None mq → IsGood w (n + k) (joined_locus n A B) (λ place. join_rows on (q place) (p place)) None (join_rows on mq mp)
  join_good on n k A B p q mp mq j a b = record {
    fits = join_fits w on n k p q a.wide A B j a.fits b.fits;
    wide = λ place row i. let r = In-from_join on row (q place) (p place) i in
        let x = a.wide place r.0 r.2 in let y = b.wide place r.1 r.3 in ap length r.5 ∙ omega (arith, length-append r.0 r.1);
    held = join_held w on n k p q a.wide A B j a.fits a.held b.held;
    reads = join_reads w on n k p q a.wide below mp mq A B j a.held b.held a.reads b.reads;
  }

  totals_long : (slots : List Slot) (rows : List Row) → length (totals slots rows) ≡ length slots
  unfolding totals
  totals_long slots rows = length-map slots (slot_value rows)

  brought_long : (cs : List Call) → length (brought_by cs) ≡ length cs
  brought_long [] = refl
  brought_long (c ∷ cs) = ap suc (brought_long cs)

  carried_long : (at : ℕ) (cs : List Call) → length (carried_from at cs) ≡ length cs
  carried_long at [] = refl
  carried_long at (c ∷ cs) = ap suc (carried_long (suc at) cs)

  firsts_long : (at n : ℕ) → length (firsts at n) ≡ n
  firsts_long at zero = refl
  firsts_long at (suc n) = ap suc (firsts_long (suc at) n)

  pub single_good : (g : Columns) (cs : List Call) (n : ℕ) (l : Locus) (p : Parts) (m : List Row) → Groupable g l → IsGood w n l p None m → IsGood w (length g + length cs) (moved_to g l) (at_own l (aggregate_rows g cs) p) None (aggregate_rows g cs m)
  single_good g cs n l p m q c = record {
    fits = moved_fits w g l n (length cs) c.fits;
    wide = group_wide w g (totals (brought_by cs)) (totals_fair (brought_by cs)) l p (length cs) (λ rows. totals_long (brought_by cs) rows ∙ brought_long cs);
    held = group_held w g (totals (brought_by cs)) (totals_fair (brought_by cs)) l p n c.fits c.held;
    reads = group_reads w g (totals (brought_by cs)) (totals_fair (brought_by cs)) (Bag m) (Bag (aggregate_rows g cs m)) (λ xs ys h k. ptrans (back h) k) (λ rows h. grouped_perm g (totals (brought_by cs)) (totals_fair (brought_by cs)) h) below l p n c.fits q c.held c.reads;
  }

  pub partial_good : (g : Columns) (cs : List Call) (n : ℕ) (l : Locus) (p : Parts) (m : List Row) → IsGood w n l p None m → IsGood w (length g + length cs) (moved_to g l) (at_own l (aggregate_rows g cs) p) (Some (record { group = g; calls = cs })) (aggregate_rows g cs m)
  partial_good g cs n l p m c = record {
    fits = moved_fits w g l n (length cs) c.fits;
    wide = group_wide w g (totals (brought_by cs)) (totals_fair (brought_by cs)) l p (length cs) (λ rows. totals_long (brought_by cs) rows ∙ brought_long cs);
    held = group_held w g (totals (brought_by cs)) (totals_fair (brought_by cs)) l p n c.fits c.held;
    reads = partial_reads w g cs l p m c.reads;
  }

  pub final_good : (gr : Groups) (n : ℕ) (l : Locus) (p : Parts) (m : List Row) → n ≡ length gr.group + length gr.calls → Groupable (firsts 0 (length gr.group)) l → IsGood w n l p (Some gr) m → IsGood w n (moved_to (firsts 0 (length gr.group)) l) (at_own l (final_rows gr.group gr.calls) p) None m
  final_good gr n l p m e q c =
      let g : Columns = gr.group in
      let g' : Columns = firsts 0 (length g) in
      let s : List Row → List Value = totals (carried_from (length g) gr.calls) in
      let fair = totals_fair (carried_from (length g) gr.calls) in
      let long : length g' + length gr.calls ≡ n = ap (λ k. k + length gr.calls) (firsts_long 0 (length g)) ∙ sym e in
      record {
        fits = subst (λ k. LocusFits k (moved_to g' l)) long (moved_fits w g' l n (length gr.calls) c.fits);
        wide = subst (λ k. AreWide k (at_own l (final_rows g gr.calls) p)) long (group_wide w g' s fair l p (length gr.calls) (λ rows. totals_long (carried_from (length g) gr.calls) rows ∙ carried_long (length g) gr.calls));
        held = group_held w g' s fair l p n c.fits c.held;
        reads = group_reads w g' s fair (Cut gr m) (Bag m) (λ xs ys h k. ptrans (back h) k) (λ rows h. finish w g gr.calls m rows h) below l p n c.fits q c.held c.reads;
      }

  -- motions
  In-sent : (l : Locus) (p : Parts) (n : ℕ) → AreWide n p → (row : Row) → In row (sent w l p) → length row ≡ n
  unfolding sent
  In-sent l p n h row i = let r = In-from_flat (λ s. p (Segment s)) row (gang w l) i in h (Segment r.0) row r.2

  -- of the rows that are sent in any order
  In-rows : (l : Locus) (p : Parts) (rows : List Row) → Perm (sent w l p) rows → (n : ℕ) → AreWide n p → (row : Row) → In row rows → length row ≡ n
  In-rows l p rows q n h row i = In-sent l p n h row (In-perm row (back q) i)

  pub gather_good : (n : ℕ) (l : Locus) (p : Parts) (o : Option Groups) (m rows : List Row) → Perm (sent w l p) rows → IsAway l → IsGood w n l p o m → IsGood w n Entry (gathered rows) o m
  gather_good n l p o m rows q a c = record { fits = tt; wide = in_place; held = λ s. refl; reads = sense_perm o m q (sent_reads w (Sense o m) l p some_segment a c.reads) }
    where
      in_place : AreWide n (gathered rows)
      in_place Dispatcher row i = In-rows l p rows q n c.wide row i
      in_place (Segment s) row i = absurd i

  pub broadcast_good : (n : ℕ) (l : Locus) (p : Parts) (o : Option Groups) (m rows : List Row) → Perm (sent w l p) rows → IsAway l → IsGood w n l p o m → IsGood w n Replicated (broadcast rows) o m
  broadcast_good n l p o m rows q a c = record { fits = tt; wide = in_place; held = broadcast_held w rows; reads = λ s i. sense_perm o m q (sent_reads w (Sense o m) l p some_segment a c.reads) }
    where
      in_place : AreWide n (broadcast rows)
      in_place Dispatcher row i = absurd i
      in_place (Segment s) row i = In-rows l p rows q n c.wide row i

  pub redistribute_good : (k : Columns) (n : ℕ) (l : Locus) (p : Parts) (o : Option Groups) (m rows : List Row) → Perm (sent w l p) rows → IsAway l → Below n k → IsKey k → IsGood w n l p o m → IsGood w n (Hashed k) (redistributed w k rows) o m
  unfolding rows_for
  redistribute_good k n l p o m rows q a b e c = record {
    fits = (e, b);
    wide = in_place;
    held = redistribute_held w k rows;
    reads = sense_perm o m (ptrans q (back (parts_of w k rows below))) (sent_reads w (Sense o m) l p some_segment a c.reads);
  }
    where
      in_place : AreWide n (redistributed w k rows)
      in_place Dispatcher row i = absurd i
      in_place (Segment s) row i = In-rows l p rows q n c.wide row (In-from_filter (λ x. w.segment (key_of k x) == s) row rows i).0
