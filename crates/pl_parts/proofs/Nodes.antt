-- What each kind of node does to parts.
use Rattle.std.proofs.Common.{◌≡◌, ℕ, ◌+◌, ◌<◌, List, [], ◌∷◌, ◌++◌, map, length, Option, Some, None, refl, sym, ap, ◌∙◌, subst, inl, inr, arith, append-nil, length-append}
use Rattle.std.specs.Prelude.{flat_map, filter, ◌==◌}
use Rattle.ic_row.specs.declared.value.Value.{Value}
use Rattle.pl_ops.specs.Rows.{Line as Row}
use Rattle.pl_tree.specs.Places.{places_of}
use Rattle.pl_tree.specs.Loci.{hashed_at, moved_to, behind, joined_locus}
use Rattle.pl_parts.proofs.Forms.{Columns, join_rows, aggregate_rows, final_rows, totals, brought_by, carried_from, firsts, World, Joins, Groupable, IsAway, Below, IsKey, Place, Dispatcher, Segment, Parts, upto, together, sent, redistributed, broadcast, rows_for, at_own}
use Rattle.pl_tree.specs.declared.node.Pair.{Pair}
use Rattle.pl_tree.specs.declared.node.Call.{Call}
use Rattle.ic_row.specs.Values.{key_of}
use Rattle.pl_ops.specs.Groups.{grouped, group_keys, in_group}
use Rattle.pl_tree.specs.Partials.{Groups}
use Rattle.pl_tree.specs.declared.schema.Locus.{Locus}
use Rattle.pl_tree.specs.declared.schema.Locus.TheVariants.{Entry, Hashed, Replicated, Strewn}
use Rattle.pl_parts.proofs.Bags.{Perm, ptrans, itself, alike, back, flat, flat_flat, flat-map}
use Rattle.pl_parts.proofs.Members.{In, In-from_filter, All-from_in, In-from_map, In-from_flat}
use Rattle.pl_parts.proofs.Segments.{parted, eqb_is}
use Rattle.pl_parts.proofs.Grouping.{Fair, grouped_perm, row_of_group, row_for}
use Rattle.pl_parts.proofs.Stages.{grouped_split, totals_fair, two_stages, long_key}
use Rattle.pl_parts.proofs.Joins.{join_perm, join_hashed, join_right, join_left, In-from_join}
use Rattle.pl_parts.proofs.Positions.{places_key, places_below, places_is_key, places_of_none, key_left, key_right, shifted_below, shifted_is_key, below_more}

abbrev pub Bag : List Row → List Row → Type 0
Bag m rows = Perm rows m

-- R of the rows that the parts are
abbrev pub Reads : World → (List Row → Type 0) → Locus → Parts → Type 0
Reads w R Entry p = R (p Dispatcher)
Reads w R (Hashed a) p = R (together w p)
Reads w R Replicated p = (s : ℕ) → s < w.count → R (p (Segment s))
Reads w R Strewn p = R (together w p)

-- the locus is kept
abbrev pub Held : World → Locus → Parts → Type 0
Held w Entry p = (s : ℕ) → p (Segment s) ≡ []
Held w (Hashed a) p = (p Dispatcher ≡ []) × ((s : ℕ) (row : Row) → In row (p (Segment s)) → w.segment (key_of a row) ≡ s)
Held w Replicated p = (p Dispatcher ≡ []) × ((s t : ℕ) → s < w.count → t < w.count → Perm (p (Segment s)) (p (Segment t)))
Held w Strewn p = p Dispatcher ≡ []

-- its columns lie within a width
abbrev pub LocusFits : ℕ → Locus → Type 0
LocusFits n (Hashed a) = IsKey a × Below n a
LocusFits n _ = Unit {0}

abbrev pub AreWide : ℕ → Parts → Type 0
AreWide n p = (place : Place) (row : Row) → In row (p place) → length row ≡ n

-- parts of partial rows: the partials of some chunks of the rows of a meaning
abbrev pub Cut : Groups → List Row → List Row → Type 0
Cut gr m rows = (bs : List (List Row)) × Perm rows (flat_map (aggregate_rows gr.group gr.calls) bs) × Perm (aggregate_rows gr.group gr.calls (flat_map (λ b. b) bs)) m

abbrev pub Sense : Option Groups → List Row → List Row → Type 0
Sense None m rows = Bag m rows
Sense (Some gr) m rows = Cut gr m rows

pub sense_perm : (o : Option Groups) (m : List Row) {xs ys : List Row} → Perm xs ys → Sense o m xs → Sense o m ys
sense_perm None m p h = ptrans (back p) h
sense_perm (Some gr) m p h = (h.0, ptrans (back p) h.1, h.2)

module _ (w : World) where
  module _ (R : List Row → Type 0) where
    at_reads : (o : Option Columns) (p : Parts) → R (together w p) → Reads w R (hashed_at o) p
    at_reads None p h = h
    at_reads (Some b) p h = h

    pub moved_reads : (cols : Columns) (l : Locus) (p : Parts) → Reads w R l p → Reads w R (moved_to cols l) p
    moved_reads cols Entry p h = h
    moved_reads cols (Hashed a) p h = at_reads (places_of a cols) p h
    moved_reads cols Replicated p h = h
    moved_reads cols Strewn p h = h

    pub sent_reads : (l : Locus) (p : Parts) → 0 < w.count → IsAway l → Reads w R l p → R (sent w l p)
    unfolding sent together
    sent_reads Entry p z a h = absurd a
    sent_reads (Hashed b) p z a h = h
    sent_reads Replicated p z a h = subst R (sym (append-nil (p (Segment 0)))) (h 0 z)
    sent_reads Strewn p z a h = h

  -- row by row
  module _ (f : Row → List Row) where
    through : Parts → Parts
    through p place = flat_map f (p place)

    pub rowwise_reads : (l : Locus) (p : Parts) (m : List Row) → Reads w (Bag m) l p → Reads w (Bag (flat_map f m)) l (λ place. flat_map f (p place))
    unfolding together
    rowwise_reads Entry p m h = flat f h
    rowwise_reads (Hashed a) p m h = ptrans (alike (sym (flat_flat (λ s. p (Segment s)) f (upto w.count)))) (flat f h)
    rowwise_reads Replicated p m h = λ s i. flat f (h s i)
    rowwise_reads Strewn p m h = ptrans (alike (sym (flat_flat (λ s. p (Segment s)) f (upto w.count)))) (flat f h)

    -- where the rows that come of a row have its values
    pub rowwise_held : (l : Locus) (p : Parts) → ((row row' : Row) → In row' (f row) → row' ≡ row) → Held w l p → Held w l (λ place. flat_map f (p place))
    rowwise_held Entry p k h = λ s. ap (flat_map f) (h s)
    rowwise_held (Hashed a) p k h = (ap (flat_map f) h.0, λ s row i. let r = In-from_flat f row (p (Segment s)) i in ap (λ x. w.segment (key_of a x)) (k r.0 row r.2) ∙ h.1 s r.0 r.1)
    rowwise_held Replicated p k h = (ap (flat_map f) h.0, λ s t i j. flat f (h.1 s t i j))
    rowwise_held Strewn p k h = ap (flat_map f) h

  at_held : (o : Option Columns) (p : Parts) → p Dispatcher ≡ [] → ((b : Columns) → o ≡ Some b → (s : ℕ) (row : Row) → In row (p (Segment s)) → w.segment (key_of b row) ≡ s) → Held w (hashed_at o) p
  at_held None p e h = e
  at_held (Some b) p e h = (e, h b refl)

  pub moved_fits : (cols : Columns) (l : Locus) (n m : ℕ) → LocusFits n l → LocusFits (length cols + m) (moved_to cols l)
  moved_fits cols Entry n m h = tt
  moved_fits cols (Hashed a) n m h = by (places_of a cols) refl
    where
      by : (o : Option Columns) → places_of a cols ≡ o → LocusFits (length cols + m) (hashed_at o)
      by None e = tt
      by (Some b) e = (places_is_key a cols b h.0 e, places_below a cols b (length cols + m) (omega arith) e)
  moved_fits cols Replicated n m h = tt
  moved_fits cols Strewn n m h = tt

  -- project
  pub project_held : (cols : Columns) (l : Locus) (p : Parts) → Held w l p → Held w (moved_to cols l) (λ place. flat_map (λ row. key_of cols row ∷ []) (p place))
  project_held cols Entry p h = λ s. ap (flat_map (λ row. key_of cols row ∷ [])) (h s)
  project_held cols (Hashed a) p h = at_held (places_of a cols) (λ place. flat_map (λ row. key_of cols row ∷ []) (p place)) (ap (flat_map (λ row. key_of cols row ∷ [])) h.0) (λ b e s row i.
      let r = In-from_flat (λ x. key_of cols x ∷ []) row (p (Segment s)) i in
      ap (λ x. w.segment (key_of b x)) (one r.0 row r.2) ∙ ap w.segment (plain b r.0 e) ∙ h.1 s r.0 r.1)
    where
      one : (x row : Row) → In row (key_of cols x ∷ []) → row ≡ key_of cols x
      one x row (inl e) = e
      one x row (inr i) = absurd i

      plain : (b : Columns) (x : Row) → places_of a cols ≡ Some b → key_of b (key_of cols x) ≡ key_of a x
      plain b x e = ap (key_of b) (sym (append-nil (key_of cols x))) ∙ places_key a cols b x [] e
  project_held cols Replicated p h = (ap (flat_map (λ row. key_of cols row ∷ [])) h.0, λ s t i j. flat (λ row. key_of cols row ∷ []) (h.1 s t i j))
  project_held cols Strewn p h = ap (flat_map (λ row. key_of cols row ∷ [])) h

  -- motions
  pub parts_of : (k : Columns) (rows : List Row) → ((key : List Value) → w.segment key < w.count) → Perm (together w (redistributed w k rows)) rows
  unfolding together rows_for
  parts_of k rows below = parted (λ row. w.segment (key_of k row)) w.count rows (All-from_in (λ row. w.segment (key_of k row) < w.count) rows (λ row i. below (key_of k row)))

  pub redistribute_held : (k : Columns) (rows : List Row) → Held w (Hashed k) (redistributed w k rows)
  unfolding rows_for
  redistribute_held k rows = (refl, λ s row i. eqb_is (w.segment (key_of k row)) s (In-from_filter (λ x. w.segment (key_of k x) == s) row rows i).1)

  pub broadcast_held : (rows : List Row) → Held w Replicated (broadcast rows)
  broadcast_held rows = (refl, λ s t i j. itself rows)

  -- aggregates
  module _ (g : Columns) (summary : List Row → List Value) (fair : Fair summary) where
    hashed_group : (a b : Columns) → IsKey a → places_of a g ≡ Some b → (rows : List Row) (row : Row) → In row (grouped g summary rows) → (x : Row) × (In x rows) × (key_of b row ≡ key_of a x)
    unfolding grouped
    hashed_group a b k e rows row i =
        let r = In-from_map (row_for g summary rows) row (group_keys g rows) i in
        by g e r.0 r.1 (summary (filter (in_group g r.0) rows)) r.2
      where
        by : (g' : Columns) → places_of a g' ≡ Some b → (key : Row) → In key (group_keys g' rows) → (vs : Row) → row ≡ key ++ vs → (x : Row) × (In x rows) × (key_of b row ≡ key_of a x)
        by [] e' key j vs q = absurd (places_of_none a b k e')
        by (c ∷ cs) e' key j vs q =
            let x = row_of_group c cs key rows j in
            (x.0, x.1, ap (key_of b) (q ∙ ap (λ t. t ++ vs) x.2) ∙ places_key a (c ∷ cs) b x.0 vs e')

    pub group_held : (l : Locus) (p : Parts) (n : ℕ) → LocusFits n l → Held w l p → Held w (moved_to g l) (at_own l (grouped g summary) p)
    group_held Entry p n f h = λ s. refl
    group_held (Hashed a) p n f h = at_held (places_of a g) (at_own (Hashed a) (grouped g summary) p) refl (λ b e s row i.
        let r = hashed_group a b f.0 e (p (Segment s)) row i in ap w.segment r.2 ∙ h.1 s r.0 r.1)
    group_held Replicated p n f h = (refl, λ s t i j. grouped_perm g summary fair (h.1 s t i j))
    group_held Strewn p n f h = refl

    -- where the groups lie each at one segment
    hashed_together : (a b : Columns) → IsKey a → places_of a g ≡ Some b → ((key : List Value) → w.segment key < w.count) → (p : Parts) → Held w (Hashed a) p → Perm (together w (at_own (Hashed a) (grouped g summary) p)) (grouped g summary (together w p))
    unfolding together
    hashed_together a b k e below p h = by g e
      where
        plain : (g' : Columns) (x : Row) → places_of a g' ≡ Some b → key_of b (key_of g' x) ≡ key_of a x
        plain g' x e' = ap (key_of b) (sym (append-nil (key_of g' x))) ∙ places_key a g' b x [] e'

        by : (g' : Columns) → places_of a g' ≡ Some b → Perm (flat_map (λ s. grouped g' summary (p (Segment s))) (upto w.count)) (grouped g' summary (flat_map (λ s. p (Segment s)) (upto w.count)))
        by [] e' = absurd (places_of_none a b k e')
        by (c ∷ cs) e' = grouped_split c cs (λ key. w.segment (key_of b key)) w.count (λ key. below (key_of b key)) (λ s. p (Segment s)) (λ s row i. ap w.segment (plain (c ∷ cs) row e') ∙ h.1 s row i) summary

    pub group_reads : (R S : List Row → Type 0) → ((xs ys : List Row) → Perm xs ys → S xs → S ys) → ((rows : List Row) → R rows → S (grouped g summary rows)) → ((key : List Value) → w.segment key < w.count) → (l : Locus) (p : Parts) (n : ℕ) → LocusFits n l → Groupable g l → Held w l p → Reads w R l p → Reads w S (moved_to g l) (at_own l (grouped g summary) p)
    group_reads R S resp turn below Entry p n f q h r = turn (p Dispatcher) r
    group_reads R S resp turn below (Hashed a) p n f q h r = at_reads S (places_of a g) (at_own (Hashed a) (grouped g summary) p) (resp (grouped g summary (together w p)) (together w (at_own (Hashed a) (grouped g summary) p)) (back (hashed_together a q.0 f.0 q.1 below p h)) (turn (together w p) r))
    group_reads R S resp turn below Replicated p n f q h r = λ s i. turn (p (Segment s)) (r s i)
    group_reads R S resp turn below Strewn p n f q h r = absurd q

    grouped_long : (n : ℕ) → ((rows : List Row) → length (summary rows) ≡ n) → (rows : List Row) (row : Row) → In row (grouped g summary rows) → length row ≡ length g + n
    unfolding grouped
    grouped_long n long rows row j =
        let r = In-from_map (row_for g summary rows) row (group_keys g rows) j in
        let k = long_key g r.0 rows r.1 in
        let v = long (filter (in_group g r.0) rows) in
        ap length r.2 ∙ omega (arith, length-append r.0 (summary (filter (in_group g r.0) rows)))

    pub group_wide : (l : Locus) (p : Parts) (n : ℕ) → ((rows : List Row) → length (summary rows) ≡ n) → AreWide (length g + n) (at_own l (grouped g summary) p)
    group_wide l p n long place row i = in_place l place i
      where
        each : (rows : List Row) → In row (grouped g summary rows) → length row ≡ length g + n
        each rows j = grouped_long n long rows row j

        in_place : (l' : Locus) (place' : Place) → In row (at_own l' (grouped g summary) p place') → length row ≡ length g + n
        in_place Entry Dispatcher j = each (p Dispatcher) j
        in_place Entry (Segment s) j = absurd j
        in_place (Hashed a) Dispatcher j = absurd j
        in_place (Hashed a) (Segment s) j = each (p (Segment s)) j
        in_place Replicated Dispatcher j = absurd j
        in_place Replicated (Segment s) j = each (p (Segment s)) j
        in_place Strewn Dispatcher j = absurd j
        in_place Strewn (Segment s) j = each (p (Segment s)) j

  -- a partial cuts its child's meaning
  module _ (g : Columns) (cs : List Call) where
    one_chunk : (m rows : List Row) → Perm rows m → Cut (record { group = g; calls = cs }) (aggregate_rows g cs m) (aggregate_rows g cs rows)
    one_chunk m rows h = (rows ∷ [], alike (sym (append-nil (aggregate_rows g cs rows))), ptrans (alike (ap (aggregate_rows g cs) (append-nil rows))) (grouped_perm g (totals (brought_by cs)) (totals_fair (brought_by cs)) h))

    chunk_each : (m : List Row) (p : Parts) → Perm (together w p) m → Cut (record { group = g; calls = cs }) (aggregate_rows g cs m) (flat_map (λ s. aggregate_rows g cs (p (Segment s))) (upto w.count))
    unfolding together
    chunk_each m p h = (
      map (λ s. p (Segment s)) (upto w.count),
      alike (sym (flat-map (aggregate_rows g cs) (λ s. p (Segment s)) (upto w.count))),
      ptrans (alike (ap (aggregate_rows g cs) (flat-map (λ b. b) (λ s. p (Segment s)) (upto w.count)))) (grouped_perm g (totals (brought_by cs)) (totals_fair (brought_by cs)) h),
    )

    pub partial_reads : (l : Locus) (p : Parts) (m : List Row) → Reads w (Bag m) l p → Reads w (Cut (record { group = g; calls = cs }) (aggregate_rows g cs m)) (moved_to g l) (at_own l (aggregate_rows g cs) p)
    unfolding together
    partial_reads Entry p m h = one_chunk m (p Dispatcher) h
    partial_reads (Hashed a) p m h = at_reads (Cut (record { group = g; calls = cs }) (aggregate_rows g cs m)) (places_of a g) (at_own (Hashed a) (aggregate_rows g cs) p) (chunk_each m p h)
    partial_reads Replicated p m h = λ s i. one_chunk m (p (Segment s)) (h s i)
    partial_reads Strewn p m h = chunk_each m p h

    -- a final of what was cut is the whole
    pub finish : (m rows : List Row) → Cut (record { group = g; calls = cs }) m rows → Perm (final_rows g cs rows) m
    finish m rows h = ptrans (grouped_perm (firsts 0 (length g)) (totals (carried_from (length g) cs)) (totals_fair (carried_from (length g) cs)) h.1) (ptrans (two_stages g cs h.0) h.2)

  -- joins
  module _ (on : List Pair) (n m : ℕ) (p q : Parts) (wide : AreWide n p) where
    pub join_fits : (A B : Locus) → Joins on A B → LocusFits n A → LocusFits m B → LocusFits (n + m) (joined_locus n A B)
    join_fits Entry Entry j f h = tt
    join_fits Replicated Replicated j f h = tt
    join_fits (Hashed a) Replicated j f h = (f.0, below_more a n m f.1)
    join_fits Strewn Replicated j f h = tt
    join_fits Replicated (Hashed b) j f h = (shifted_is_key b n h.0, shifted_below b n m h.1)
    join_fits Replicated Strewn j f h = tt
    join_fits (Hashed a) (Hashed b) j f h = (f.0, below_more a n m f.1)
    join_fits _ _ j f h = absurd j

    both_empty : (place : Place) → p place ≡ [] → join_rows on (q place) (p place) ≡ []
    unfolding join_rows
    both_empty place e = ap (join_rows on (q place)) e

    keeps_left : (a : Columns) → Below n a → Held w (Hashed a) p → Held w (Hashed a) (λ place. join_rows on (q place) (p place))
    keeps_left a f h = (
      both_empty Dispatcher h.0,
      λ s row i.
          let r = In-from_join on row (q (Segment s)) (p (Segment s)) i in
          ap w.segment (ap (key_of a) r.5 ∙ key_left a n r.0 r.1 (wide (Segment s) r.0 r.2) f) ∙ h.1 s r.0 r.2,
    )

    pub join_held : (A B : Locus) → Joins on A B → LocusFits n A → Held w A p → Held w B q → Held w (joined_locus n A B) (λ place. join_rows on (q place) (p place))
    join_held Entry Entry j f hp hq = λ s. both_empty (Segment s) (hp s)
    join_held Replicated Replicated j f hp hq = (both_empty Dispatcher hp.0, λ s t i k. join_perm on (hp.1 s t i k) (hq.1 s t i k))
    join_held (Hashed a) Replicated j f hp hq = keeps_left a f.1 hp
    join_held Strewn Replicated j f hp hq = both_empty Dispatcher hp
    join_held Replicated (Hashed b) j f hp hq = (
      both_empty Dispatcher hp.0,
      λ s row i.
          let r = In-from_join on row (q (Segment s)) (p (Segment s)) i in
          ap w.segment (ap (key_of (behind n b)) r.5 ∙ key_right b n r.0 r.1 (wide (Segment s) r.0 r.2)) ∙ hq.1 s r.1 r.3,
    )
    join_held Replicated Strewn j f hp hq = both_empty Dispatcher hp.0
    join_held (Hashed a) (Hashed b) j f hp hq = keeps_left a f.1 hp
    join_held _ _ j f hp hq = absurd j

    pub join_reads : ((key : List Value) → w.segment key < w.count) → (mp mq : List Row) (A B : Locus) → Joins on A B → Held w A p → Held w B q → Reads w (Bag mp) A p → Reads w (Bag mq) B q → Reads w (Bag (join_rows on mq mp)) (joined_locus n A B) (λ place. join_rows on (q place) (p place))
    unfolding together
    join_reads below mp mq Entry Entry j hp hq rp rq = join_perm on rp rq
    join_reads below mp mq Replicated Replicated j hp hq rp rq = λ s i. join_perm on (rp s i) (rq s i)
    join_reads below mp mq (Hashed a) Replicated j hp hq rp rq = ptrans (join_right on w.count (λ s. p (Segment s)) (λ s. q (Segment s)) mq rq) (join_perm on rp (itself mq))
    join_reads below mp mq Strewn Replicated j hp hq rp rq = ptrans (join_right on w.count (λ s. p (Segment s)) (λ s. q (Segment s)) mq rq) (join_perm on rp (itself mq))
    join_reads below mp mq Replicated (Hashed b) j hp hq rp rq = ptrans (join_left on w.count (λ s. p (Segment s)) (λ s. q (Segment s)) mp rp) (join_perm on (itself mp) rq)
    join_reads below mp mq Replicated Strewn j hp hq rp rq = ptrans (join_left on w.count (λ s. p (Segment s)) (λ s. q (Segment s)) mp rp) (join_perm on (itself mp) rq)
    join_reads below mp mq (Hashed a) (Hashed b) j hp hq rp rq = ptrans (join_hashed on w.count (λ s. p (Segment s)) (λ s. q (Segment s)) w.segment below a b j hp.1 hq.1) (join_perm on rp rq)
    join_reads below mp mq _ _ j hp hq rp rq = absurd j
