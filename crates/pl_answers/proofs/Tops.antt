-- Under a root limit of n rows: the first n rows that a node gives are the top of all.
use Rattle.std.proofs.Common.{◌≡◌, ℕ, suc, ◌+◌, ◌≤◌, ◌<◌, ℤ, negsuc, min, Bool, true, false, List, [], ◌∷◌, ◌++◌, map, length, take, drop, Option, Some, None, refl, sym, ap, ◌∙◌, subst, inl, inr, ⊎_elim, arith, append-nil, append_assoc, length-append, length-take, take-append-drop}
use Rattle.std.specs.Prelude.{◌⊎◌, flat_map, nat_le}
use Rattle.std.specs.List.{AllByRecursion, list_all}
use Rattle.std.proofs.lemmas.List.{take_all, take_at, take-append-le, take-map, map-append, length-map}
use Rattle.ic_row.specs.declared.order.Key.{Key}
use Rattle.ic_row.specs.Values.{key_of}
use Rattle.pl_tree.specs.declared.schema.Locus.{Locus}
use Rattle.pl_tree.specs.Trees.{Tree, Project, Gather}
use Rattle.pl_tree.specs.Loci.{locus_of}
use Rattle.pl_tree.specs.Orders.{keys_in, kept_order, order_of}
use Rattle.pl_plan.specs.Motions.{gang_at}
use Rattle.pl_ops.specs.Rows.{Line as Row, project_rows}
use Rattle.pl_ops.specs.Routing.{ToAll}
use Rattle.pl_ops.specs.Streams.{Stream, by_rows, limit_stream}
use Rattle.pl_mean.specs.Parts.{Site, Parts, sent_by, part, routed_to}
use Rattle.pl_ops.specs.Merging.{merged, merge_stream}
use Rattle.pl_answers.proofs.Merges.{AreCut}
use Rattle.pl_answers.proofs.Gathers.{AreFronts}
use Rattle.pl_ops.specs.Merging.{sorts_before}
use Rattle.pl_mean.specs.Outputs.{Input, came_from, rows_in, stream_from, received, out}
use Rattle.pl_answers.specs.Growing.{AreFrom}
use Rattle.pl_answers.specs.Runs.{Taken, by_worker, Carries, IsRun}
use Rattle.pl_parts.proofs.Bags.{Perm, pnil, ptrans, alike, joins, shuffle, perm_from}
use Rattle.pl_parts.proofs.Members.{In, map_perm, In-from_map, All-in, All-from_in}
use Rattle.pl_answers.proofs.InOrder.{InOrder, IsTop}
use Rattle.pl_answers.proofs.Firsts.{top_of, perm_long}
use Rattle.pl_answers.proofs.Merges.{merged_cut}
use Rattle.pl_answers.proofs.Gathers.{IsFirst, ordered_first, take_merged}
use Rattle.pl_parts.proofs.Numbers.{or_cases, le_is, le_cases}
use Rattle.pl_answers.proofs.Ordering.{irrefl, apart, trans, none_before, fewer_keys, order_weaker, order_alone, order_apart, project_map, kept_keys, order_map}
use Rattle.pl_answers.proofs.Fronts.{Front, in_no_order, project_join, project_nil}
use Rattle.pl_answers.proofs.Shares.{Share}
use Rattle.pl_answers.proofs.Motions.{IsPrefix, Heard, heard, each_all, mixed_share, goes_on, stops, sent_is}
use Rattle.pl_answers.proofs.Nodes.{NoLimits, IsFine, StandsAt, moved_stands, gang_stands, fronts}
use Rattle.pl_answers.proofs.Cuts.{UnderGather, Cut, cuts, cut_share}

-- projects, and a gather over what may be cut
abbrev pub UnderRoot : ℕ → Tree → Type 0
UnderRoot n (Project cols c) = UnderRoot n c
UnderRoot n (Gather o c) = UnderGather n c
UnderRoot n p = NoLimits p

-- s may still be given `rest`; of both together the first n are the top
pub record Top (n : ℕ) (keys : List Key) (s : Stream) (m : List Row) : Type 0 where
  pub rest : List Row
  pub first : IsTop (sorts_before keys) n m (take n (s.rows ++ rest))
  pub over : s.ended ≡ true → rest ≡ []

-- ---- tops of bags

pub top_moved : (n : ℕ) (keys : List Key) (m k rows : List Row) → Perm m k → IsTop (sorts_before keys) n m rows → IsTop (sorts_before keys) n k rows
top_moved n keys m k rows p t = record {
  left = t.left;
  bag = shuffle (ptrans (perm_from (rows ++ t.left) m t.bag) p);
  size = t.size ∙ ap (min n) (perm_long p);
  ordered = t.ordered;
  top = t.top;
}

-- of rows in order
order_top : (n : ℕ) (keys : List Key) (m xs : List Row) → Perm xs m → InOrder (sorts_before keys) xs → IsTop (sorts_before keys) n m (take n xs)
order_top n keys m xs p o =
    let split : InOrder (sorts_before keys) (take n xs ++ drop n xs) = subst (InOrder (sorts_before keys)) (sym (take-append-drop n xs)) o in
    record {
      left = drop n xs;
      bag = shuffle (ptrans (alike (take-append-drop n xs)) p);
      size = length-take n xs ∙ ap (min n) (perm_long p);
      ordered = order_alone (sorts_before keys) (take n xs) (drop n xs) split;
      top = All-from_in (λ y. AllByRecursion (λ x. sorts_before keys y x ≡ false) (take n xs)) (drop n xs) (λ y i. All-from_in (λ x. sorts_before keys y x ≡ false) (take n xs) (λ x j. order_apart (sorts_before keys) (take n xs) (drop n xs) split y x i j));
    }

pub front_top : (n : ℕ) (keys : List Key) (s : Stream) (m : List Row) → Front keys s m → Top n keys s m
front_top n keys s m f = record { rest = f.rest; first = order_top n keys m (s.rows ++ f.rest) f.bag f.ordered; over = f.over }

-- without an order
share_first : (n : ℕ) (rows m : List Row) (whole : Bool) → (s : Share n rows whole m) → IsTop (sorts_before []) n m (take n (rows ++ s.rest))
share_first n rows m whole s =
    let xs = rows ++ s.rest in
    let bag : Perm (take n xs ++ (drop n xs ++ s.left)) m = ptrans (alike (sym (append_assoc (take n xs) (drop n xs) s.left) ∙ ap (λ l. l ++ s.left) (take-append-drop n xs) ∙ append_assoc rows s.rest s.left)) s.bag in
    record {
      left = drop n xs ++ s.left;
      bag = shuffle bag;
      size = let a = perm_long s.bag in let b = length-append rows (s.rest ++ s.left) in let c = length-append s.rest s.left in let d = length-append rows s.rest in let t = length-take n xs in
          ⊎_elim (λ e. let z = ap length e in omega (arith, a, b, c, d, t, z)) (λ h. omega (arith, a, b, c, d, t, h)) s.enough;
      ordered = in_no_order (take n xs);
      top = All-from_in (λ y. AllByRecursion (λ x. sorts_before [] y x ≡ false) (take n xs)) (drop n xs ++ s.left) (λ y i. All-from_in (λ x. sorts_before [] y x ≡ false) (take n xs) (λ x j. none_before y x));
    }

-- ---- projects

project_first : (n : ℕ) (cols : List ℕ) (keys : List Key) (m xs : List Row) → IsTop (sorts_before keys) n m (take n xs) → IsTop (sorts_before (kept_order cols keys)) n (map (key_of cols) m) (take n (map (key_of cols) xs))
project_first n cols keys m xs t = subst (IsTop (sorts_before (kept_order cols keys)) n (map (key_of cols) m)) (sym (take-map (key_of cols) n xs)) (record {
  left = map (key_of cols) t.left;
  bag = shuffle (ptrans (alike (sym (map-append (key_of cols) (take n xs) t.left))) (map_perm (key_of cols) (perm_from (take n xs ++ t.left) m t.bag)));
  size = length-map (take n xs) (key_of cols) ∙ t.size ∙ ap (min n) (sym (length-map m (key_of cols)));
  ordered = order_map (sorts_before keys) (sorts_before (kept_order cols keys)) (key_of cols) (kept_keys cols keys) (take n xs) t.ordered;
  top = All-from_in (λ y. AllByRecursion (λ x. sorts_before (kept_order cols keys) y x ≡ false) (map (key_of cols) (take n xs))) (map (key_of cols) t.left) (λ y i. All-from_in (λ x. sorts_before (kept_order cols keys) y x ≡ false) (map (key_of cols) (take n xs)) (λ x j.
      let a = In-from_map (key_of cols) y t.left i in
      let b = In-from_map (key_of cols) x (take n xs) j in
      let low = kept_keys cols keys a.0 b.0 (All-in (λ z. sorts_before keys a.0 z ≡ false) b.0 (take n xs) (All-in (λ z. AllByRecursion (λ v. sorts_before keys z v ≡ false) (take n xs)) a.0 t.left t.top a.1) b.1) in
      subst (λ u. sorts_before (kept_order cols keys) u x ≡ false) (sym a.2) (subst (λ u. sorts_before (kept_order cols keys) (key_of cols a.0) u ≡ false) (sym b.2) low)));
})

project_top : (n : ℕ) (cols : List ℕ) (keys : List Key) (s : Stream) (m : List Row) → Top n keys s m → Top n (kept_order cols keys) (by_rows (project_rows cols) s) (project_rows cols m)
project_top n cols keys s m t = record {
  rest = project_rows cols t.rest;
  first = subst (λ l. IsTop (sorts_before (kept_order cols keys)) n l (take n (project_rows cols s.rows ++ project_rows cols t.rest))) (sym (project_map cols m))
      (subst (λ l. IsTop (sorts_before (kept_order cols keys)) n (map (key_of cols) m) (take n l)) (sym (project_map cols (s.rows ++ t.rest)) ∙ project_join cols s.rows t.rest) (project_first n cols keys m (s.rows ++ t.rest) t.first));
  over = λ e. ap (project_rows cols) (t.over e) ∙ project_nil cols;
}

-- ---- gathers over limits

record CutMerges (n : ℕ) (keys : List Key) (i : Input) (as' : List ℤ) (m : ℤ → List Row) : Type 0 where
  lists : List (List Row)
  cuts : List (List Row)
  sorted : AllByRecursion (InOrder (sorts_before keys)) lists
  bag : Perm (flat_map (λ l. l) lists) (flat_map m as')
  are_cut : AreCut n lists cuts
  fronts : AreFronts (map (stream_from i) as') cuts

cut_at : (n : ℕ) (k left : List Row) → (left ≡ []) ⊎ (n ≤ length k) → (c : ℕ) × (n ≤ c) × (k ≡ take c (k ++ left))
cut_at n k left (inl e) =
    let same : k ++ left ≡ k = ap (λ l. k ++ l) e ∙ append-nil k in
    (n + length k, omega arith, sym (ap (take (n + length k)) same ∙ take_all (n + length k) k (omega arith)))
cut_at n k left (inr h) = (length k, h, sym (take_at k left (length k) refl))

cut_all : (n : ℕ) (keys ck : List Key) (i : Input) (output : ℤ → Stream) (m : ℤ → List Row) (as' : List ℤ) → IsPrefix keys ck → AllByRecursion (λ a. Cut n ck (output a) (m a) × Heard (output a) (output a).rows (came_from a i.took) (i.whole a)) as' → CutMerges n keys i as' m
cut_all n keys ck i output m [] p h = record { lists = []; cuts = []; sorted = tt; bag = pnil; are_cut = tt; fronts = tt }
cut_all n keys ck i output m (a ∷ as') p h =
    let more = cut_all n keys ck i output m as' p h.1 in
    let c = h.0.0 in
    let d = h.0.1 in
    let same : (output a).rows ++ (c.rest ++ c.left) ≡ ((output a).rows ++ c.rest) ++ c.left = sym (append_assoc (output a).rows c.rest c.left) in
    record {
      lists = (((output a).rows ++ c.rest) ++ c.left) ∷ more.lists;
      cuts = ((output a).rows ++ c.rest) ∷ more.cuts;
      sorted = (subst (InOrder (sorts_before keys)) same (order_weaker (sorts_before ck) (sorts_before keys) (λ x y e. fewer_keys keys p.0 x y (subst (λ k. sorts_before k x y ≡ false) (sym p.1) e)) ((output a).rows ++ (c.rest ++ c.left)) c.ordered), more.sorted);
      bag = joins (ptrans (alike (sym same)) c.bag) more.bag;
      are_cut = (cut_at n ((output a).rows ++ c.rest) c.left c.enough, more.are_cut);
      fronts = ((d.rest ++ c.rest, ap (λ l. l ++ c.rest) (sym d.front) ∙ append_assoc (came_from a i.took) d.rest c.rest, λ e. let b = d.over e in ap (λ l. l ++ c.rest) b.1 ∙ c.over b.0), more.fronts);
    }

merge_top : (n : ℕ) (keys : List Key) (ls ks : List (List Row)) (t : Stream) (m : List Row) → AllByRecursion (InOrder (sorts_before keys)) ls → AreCut n ls ks → Perm (flat_map (λ l. l) ls) m → IsFirst (sorts_before keys) ks t → Top n keys t m
merge_top n keys ls ks t m o c p f =
    let e : take n (t.rows ++ drop f.many (merged (sorts_before keys) (f.many + n) ks)) ≡ merged (sorts_before keys) n ls =
    ap (take n) (goes_on keys ks t f n) ∙ take_merged (sorts_before keys) n (f.many + n) ks (omega arith) ∙ sym (merged_cut (sorts_before keys) n ls ks c) in
    record {
      rest = drop f.many (merged (sorts_before keys) (f.many + n) ks);
      first = subst (IsTop (sorts_before keys) n m) (sym e) (top_moved n keys (flat_map (λ l. l) ls) m (merged (sorts_before keys) n ls) p (top_of (sorts_before keys) (irrefl keys) (apart keys) (trans keys) n ls o));
      over = stops keys ks t f n;
    }

module _ (w : Site) (i : Input) (n : ℕ) (b : ℤ) (l : Locus) (ck : List Key) (output : ℤ → Stream) (p : Parts) (R : ℤ → Type 0) (ih : (a : ℤ) → In a (gang_at w.segments l) → R a → Cut n ck (output a) (p a)) (known : AreFrom (gang_at w.segments l) i.took) where
  plain_top : AllByRecursion (λ a. Carries (output a) (routed_to w ToAll b (output a).rows) i a × R a) (gang_at w.segments l) → Top n [] (received None (gang_at w.segments l) i) (sent_by w l p)
  plain_top h =
      let gang = gang_at w.segments l in
      let s : Share n (rows_in i.took) (list_all i.whole gang) (sent_by w l p) =
      subst (Share n (rows_in i.took) (list_all i.whole gang)) (sent_is w l p)
      (mixed_share w.segments l n i p known (each_all (λ a. Carries (output a) (routed_to w ToAll b (output a).rows) i a × R a) (λ a. Share n (came_from a i.took) (i.whole a) (p a)) gang
      (λ a j c. cut_share n ck (output a) (p a) (came_from a i.took) (i.whole a) (ih a j c.1) (heard (output a) (output a).rows i a c.0)) h)) in
      record { rest = s.rest; first = share_first n (rows_in i.took) (sent_by w l p) (list_all i.whole gang) s; over = s.over }

  merged_top : (keys : List Key) → IsPrefix keys ck → AllByRecursion (λ a. Carries (output a) (routed_to w ToAll b (output a).rows) i a × R a) (gang_at w.segments l) → Top n keys (received (Some keys) (gang_at w.segments l) i) (sent_by w l p)
  merged_top keys pre h =
      let gang = gang_at w.segments l in
      let g = cut_all n keys ck i output p gang pre (each_all (λ a. Carries (output a) (routed_to w ToAll b (output a).rows) i a × R a) (λ a. Cut n ck (output a) (p a) × Heard (output a) (output a).rows (came_from a i.took) (i.whole a)) gang (λ a j c. (ih a j c.1, heard (output a) (output a).rows i a c.0)) h) in
      merge_top n keys g.lists g.cuts (merge_stream (sorts_before keys) (suc (length i.took)) (map (stream_from i) gang)) (sent_by w l p) g.sorted g.are_cut (ptrans g.bag (alike (sent_is w l p)))
      (ordered_first (sorts_before keys) (suc (length i.took)) (map (stream_from i) gang) g.cuts g.fronts)

  pub gather_top : (o : Option (List Key)) → IsPrefix (keys_in o) ck → AllByRecursion (λ a. Carries (output a) (routed_to w ToAll b (output a).rows) i a × R a) (gang_at w.segments l) → Top n (keys_in o) (received o (gang_at w.segments l) i) (sent_by w l p)
  gather_top None pre h = plain_top h
  gather_top (Some keys) pre h = merged_top keys pre h

-- ---- each node under the root's limit

module _ (w : Site) (taken : Taken) where
  pub tops : (n v k : ℕ) (p : Tree) (d : ℕ) → IsFine w.schemas p → UnderRoot n p → StandsAt (locus_of w.schemas p) (negsuc d) → IsRun w taken v k p (negsuc d) → Top n (order_of p) (out w (by_worker taken v (negsuc d)) k p (negsuc d)) (part w p (negsuc d))
  tops n v k (Project cols c) d s u st r = project_top n cols (order_of c) (out w (by_worker taken v (negsuc d)) k c (negsuc d)) (part w c (negsuc d)) (tops n v k c d s u (moved_stands cols (locus_of w.schemas c) (negsuc d) st) r)
  tops n v k (Gather ord c) d s u st r =
      gather_top w (taken v (negsuc d) k) n (negsuc d) (locus_of w.schemas c) (order_of c) (λ a. out w (by_worker taken k a) (k + 1) c a) (part w c) (λ a. IsRun w taken k (k + 1) c a)
      (λ a i q. cuts w taken n k (k + 1) c a s.0 u (gang_stands w.segments (locus_of w.schemas c) a s.1 i) q) r.0 ord s.2 r.1
  tops n v k p d s u st r = front_top n (order_of p) (out w (by_worker taken v (negsuc d)) k p (negsuc d)) (part w p (negsuc d)) (fronts w taken v k p (negsuc d) s u st r)

-- a limit that is satisfied, or whose input has ended
pub limit_top : (n : ℕ) (keys : List Key) (s : Stream) (m : List Row) → Top n keys s m → (limit_stream n s).ended ≡ true → IsTop (sorts_before keys) n m (limit_stream n s).rows
limit_top n keys s m t e = by (le_cases n (length s.rows)) (or_cases s.ended (nat_le n (length s.rows)) e)
  where
    reached : n ≤ length s.rows → IsTop (sorts_before keys) n m (take n s.rows)
    reached l = subst (IsTop (sorts_before keys) n m) (take-append-le n s.rows t.rest l) t.first

    by : (n ≤ length s.rows) ⊎ (length s.rows < n) → (s.ended ≡ true) ⊎ (nat_le n (length s.rows) ≡ true) → IsTop (sorts_before keys) n m (take n s.rows)
    by (inl l) o = reached l
    by (inr g) (inl o) = subst (λ l. IsTop (sorts_before keys) n m (take n l)) (ap (λ l. s.rows ++ l) (t.over o) ∙ append-nil s.rows) t.first
    by (inr g) (inr o) = reached (le_is n (length s.rows) o)
