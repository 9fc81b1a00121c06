-- A worker that took more gives more: what it gave stays a front of what it gives.
use Rattle.std.proofs.Common.{◌≡◌, ℕ, zero, suc, ◌+◌, ◌-◌, ◌≤◌, ◌<◌, ℤ, Bool, true, false, cond, List, [], ◌∷◌, ◌++◌, map, length, take, Option, Some, None, refl, sym, ap, ◌∙◌, subst, inl, inr, arith, append-nil, length-append}
use Rattle.std.specs.Prelude.{flat_map, nat_le, ◌||◌, ◌&&◌, ◌⊎◌}
use Rattle.std.specs.List.{AllByRecursion, list_all}
use Rattle.pl_tree.specs.declared.schema.Locus.{Locus}
use Rattle.std.specs.Ordering.{int_eq}
use Rattle.std.proofs.lemmas.List.{take-append-le, take_all, map-append, nil_from_length}
use Rattle.std.proofs.lemmas.Bool.Decides.{nat_tests}
use Rattle.ic_row.specs.declared.order.Key.{Key}
use Rattle.pl_tree.specs.declared.node.Pair.{Pair}
use Rattle.pl_tree.specs.Trees.{Tree, Scan, Filter, Project, Limit, Sort, Join, Single, Partial, Final, Gather, Redistribute, Broadcast, motions_in}
use Rattle.pl_tree.specs.Loci.{locus_of}
use Rattle.pl_tree.specs.Partials.{partial_under}
use Rattle.pl_plan.specs.Motions.{gang_at}
use Rattle.pl_ops.specs.Rows.{Line as Row, filter_rows, project_rows, join_rows, sort_rows}
use Rattle.pl_ops.specs.Groups.{aggregate_rows}
use Rattle.pl_ops.specs.Streams.{Stream, silent, by_rows, at_end, limit_stream, join_stream}
use Rattle.pl_mean.specs.Parts.{Site, final_of, scanned}
use Rattle.pl_ops.specs.Merging.{Choice, Waits, Over, Gives, beside, skipped, by_head, choice_of, going_on, merge_stream}
use Rattle.pl_ops.specs.Merging.{sorts_before}
use Rattle.pl_mean.specs.Outputs.{Came, Input, Inputs, came_from, rows_in, stream_from, received, out}
use Rattle.pl_answers.specs.Growing.{TookMore, AreMore, IsFront}
use Rattle.pl_answers.proofs.Firsts.{perm_long}
use Rattle.pl_parts.proofs.Numbers.{or_cases, both_true, le_is, le_cases}
use Rattle.pl_answers.proofs.Fronts.{filter_join, filter_nil, project_join, project_nil, join_join, join_nil}
use Rattle.pl_answers.proofs.Shares.{all_came, gang_once}

front_itself : (s : Stream) → IsFront s s
front_itself s = record { rest = []; longer = sym (append-nil s.rows); ended = λ e. (e, refl) }

front_silent : (t : Stream) → IsFront silent t
front_silent t = record { rest = t.rows; longer = refl; ended = λ e. absurd (cc) }

-- ---- operators

rows_front : (f : List Row → List Row) → ((xs ys : List Row) → f (xs ++ ys) ≡ f xs ++ f ys) → (f [] ≡ []) → (s t : Stream) → IsFront s t → IsFront (by_rows f s) (by_rows f t)
rows_front f parts none s t h = record {
  rest = f h.rest;
  longer = ap f h.longer ∙ parts s.rows h.rest;
  ended = λ e. let x = h.ended e in (x.0, ap f x.1 ∙ none);
}

same_rows : (s t : Stream) → IsFront s t → s.ended ≡ true → t.rows ≡ s.rows
same_rows s t h e = h.longer ∙ ap (λ l. s.rows ++ l) (h.ended e).1 ∙ append-nil s.rows

at_end_front : (f : List Row → List Row) (s t : Stream) → IsFront s t → IsFront (at_end f s) (at_end f t)
at_end_front f s t h = by s.ended refl
  where
    by : (b : Bool) → s.ended ≡ b → IsFront (cond b (record { rows = f s.rows; ended = true }) silent) (at_end f t)
    by true e = subst (λ c. IsFront (record { rows = f s.rows; ended = true }) (cond c (record { rows = f t.rows; ended = true }) silent)) (sym (h.ended e).0)
        (record { rest = []; longer = ap f (same_rows s t h e) ∙ sym (append-nil (f s.rows)); ended = λ q. (refl, refl) })
    by false e = front_silent (at_end f t)

join_front : (on : List Pair) (r r' l l' : Stream) → IsFront r r' → IsFront l l' → IsFront (join_stream on r l) (join_stream on r' l')
join_front on r r' l l' h k = by r.ended refl
  where
    by : (b : Bool) → r.ended ≡ b → IsFront (cond b (by_rows (join_rows on r.rows) l) silent) (join_stream on r' l')
    by true e = subst (λ c. IsFront (by_rows (join_rows on r.rows) l) (cond c (by_rows (join_rows on r'.rows) l') silent)) (sym (h.ended e).0)
        (subst (λ rows. IsFront (by_rows (join_rows on r.rows) l) (by_rows (join_rows on rows) l')) (sym (same_rows r r' h e)) (rows_front (join_rows on r.rows) (join_join on r.rows) (join_nil on r.rows) l l' k))
    by false e = front_silent (join_stream on r' l')

or_left : (a b : Bool) → a ≡ true → (a || b) ≡ true
or_left true b h = refl
or_left false b h = absurd (cc)

or_right : (a b : Bool) → b ≡ true → (a || b) ≡ true
or_right true b h = refl
or_right false b h = h

le_yes : (a b : ℕ) → a ≤ b → nat_le a b ≡ true
le_yes a b h = grind (arith, nat_tests)

abbrev no_rows : List Row
no_rows = []

pub take_none : (n : ℕ) → take n no_rows ≡ no_rows
take_none n = take_all n no_rows (omega arith)

pub take_beyond : (n : ℕ) (xs ys : List Row) → length xs ≤ n → take n (xs ++ ys) ≡ xs ++ take (n - length xs) ys
take_beyond n [] ys h = let e : n ≡ n - 0 = omega arith in ap (λ k. take k ys) e
take_beyond zero (x ∷ xs) ys h = absurd (omega arith)
take_beyond (suc n) (x ∷ xs) ys h = let e : n - length xs ≡ suc n - suc (length xs) = omega arith in ap (λ l. x ∷ l) (take_beyond n xs ys (omega arith) ∙ ap (λ k. xs ++ take k ys) e)

module _ (n : ℕ) (s t : Stream) (h : IsFront s t) where
  full : take n t.rows ≡ take n (s.rows ++ h.rest)
  full = ap (take n) h.longer

  limit_reached : n ≤ length s.rows → IsFront (limit_stream n s) (limit_stream n t)
  limit_reached l = record {
    rest = [];
    longer = full ∙ take-append-le n s.rows h.rest l ∙ sym (append-nil (take n s.rows));
    ended = λ e. (or_right t.ended (nat_le n (length t.rows)) (le_yes n (length t.rows) (let q = ap length h.longer in omega (arith, length-append s.rows h.rest))), refl);
  }

  limit_open : length s.rows < n → IsFront (limit_stream n s) (limit_stream n t)
  limit_open g = record {
    rest = take (n - length s.rows) h.rest;
    longer = full ∙ take_beyond n s.rows h.rest (omega arith) ∙ ap (λ l. l ++ take (n - length s.rows) h.rest) (sym (take_all n s.rows (omega arith)));
    ended = λ e. over (or_cases s.ended (nat_le n (length s.rows)) e);
  }
    where
      over : (s.ended ≡ true) ⊎ (nat_le n (length s.rows) ≡ true) → ((t.ended || nat_le n (length t.rows)) ≡ true) × (take (n - length s.rows) h.rest ≡ [])
      over (inl x) = (or_left t.ended (nat_le n (length t.rows)) (h.ended x).0, ap (take (n - length s.rows)) (h.ended x).1 ∙ take_none (n - length s.rows))
      over (inr y) = let q = le_is n (length s.rows) y in absurd (omega arith)

limit_front : (n : ℕ) (s t : Stream) → IsFront s t → IsFront (limit_stream n s) (limit_stream n t)
limit_front n s t h = by (le_cases n (length s.rows))
  where
    by : (n ≤ length s.rows) ⊎ (length s.rows < n) → IsFront (limit_stream n s) (limit_stream n t)
    by (inl l) = limit_reached n s t h l
    by (inr g) = limit_open n s t h g

-- ---- ordered gathers

abbrev AreFronts : List Stream → List Stream → Type 0
AreFronts [] [] = Unit {0}
AreFronts (s ∷ ss) (t ∷ ts) = IsFront s t × AreFronts ss ts
AreFronts _ _ = ⊥

module _ (B : Row → Row → Bool) where
  -- what was chosen stays so, unless something had to be waited for
  abbrev Stays : Choice → Choice → Type 0
  Stays Waits c = Unit {0}
  Stays Over Over = Unit {0}
  Stays (Gives r ss) (Gives q ts) = (r ≡ q) × AreFronts ss ts
  Stays _ _ = ⊥

  none_left : Stream
  none_left = record { rows = []; ended = true }

  skipped_stays : (c d : Choice) → Stays c d → Stays (skipped c) (skipped d)
  skipped_stays Waits d h = tt
  skipped_stays Over Over h = tt
  skipped_stays (Gives r ss) (Gives q ts) h = (h.0, (front_itself (record { rows = []; ended = true }), h.1))
  skipped_stays Over Waits h = h
  skipped_stays Over (Gives q ts) h = h
  skipped_stays (Gives r ss) Waits h = h
  skipped_stays (Gives r ss) Over h = h

  one_more : (x : Row) (s t : Stream) → IsFront s t → IsFront (record { rows = x ∷ s.rows; ended = s.ended }) (record { rows = x ∷ t.rows; ended = t.ended })
  one_more x s t h = record { rest = h.rest; longer = ap (λ l. x ∷ l) h.longer; ended = h.ended }

  beside_stays : (x : Row) (s t : Stream) (ss ts : List Stream) (c d : Choice) → IsFront s t → AreFronts ss ts → Stays c d → Stays (beside B x s ss c) (beside B x t ts d)
  beside_stays x s t ss ts Waits d f fs h = tt
  beside_stays x s t ss ts Over Over f fs h = (refl, (f, fs))
  beside_stays x s t ss ts (Gives r us) (Gives q vs) f fs h = by (B r x) (B q x) (ap (λ z. B z x) h.0)
    where
      by : (b b' : Bool) → b ≡ b' → Stays (cond b (Gives r (record { rows = x ∷ s.rows; ended = s.ended } ∷ us)) (Gives x (s ∷ ss))) (cond b' (Gives q (record { rows = x ∷ t.rows; ended = t.ended } ∷ vs)) (Gives x (t ∷ ts)))
      by true true e = (h.0, (one_more x s t f, h.1))
      by false false e = (refl, (f, fs))
      by true false e = absurd (cc)
      by false true e = absurd (cc)
  beside_stays x s t ss ts Over Waits f fs h = absurd h
  beside_stays x s t ss ts Over (Gives q vs) f fs h = absurd h
  beside_stays x s t ss ts (Gives r us) Waits f fs h = absurd h
  beside_stays x s t ss ts (Gives r us) Over f fs h = absurd h

  choice_stays : (ss ts : List Stream) → AreFronts ss ts → Stays (choice_of B ss) (choice_of B ts)
  choice_stays [] [] f = tt
  choice_stays [] (t ∷ ts) f = absurd f
  choice_stays (s ∷ ss) [] f = absurd f
  choice_stays (s ∷ ss) (t ∷ ts) f = subst (λ rows. Stays (by_head B s.rows s.ended ss (choice_of B ss)) (by_head B rows t.ended ts (choice_of B ts))) (sym f.0.longer) (by s.rows s.ended t.ended f.0.rest f.0.ended (choice_stays ss ts f.1))
    where
      by : (rows : List Row) (e e' : Bool) (rest : List Row) → (e ≡ true → (e' ≡ true) × (rest ≡ [])) → Stays (choice_of B ss) (choice_of B ts) → Stays (by_head B rows e ss (choice_of B ss)) (by_head B (rows ++ rest) e' ts (choice_of B ts))
      by [] true e' rest g m = subst (λ l. Stays (skipped (choice_of B ss)) (by_head B l e' ts (choice_of B ts))) (sym (g refl).1) (subst (λ b. Stays (skipped (choice_of B ss)) (by_head B [] b ts (choice_of B ts))) (sym (g refl).0) (skipped_stays (choice_of B ss) (choice_of B ts) m))
      by [] false e' rest g m = tt
      by (x ∷ xs) e e' rest g m = beside_stays x (record { rows = xs; ended = e }) (record { rows = xs ++ rest; ended = e' }) ss ts (choice_of B ss) (choice_of B ts) (record { rest = rest; longer = refl; ended = g }) f.1 m

  ordered_front : (n m : ℕ) (ss ts : List Stream) → n ≤ m → AreFronts ss ts → IsFront (merge_stream B n ss) (merge_stream B m ts)
  ordered_front zero m ss ts l f = front_silent (merge_stream B m ts)
  ordered_front (suc n) zero ss ts l f = absurd (omega arith)
  ordered_front (suc n) (suc m) ss ts l f = by (choice_of B ss) (choice_of B ts) (choice_stays ss ts f) (λ us vs g. ordered_front n m us vs (omega arith) g)
    where
      by : (c d : Choice) → Stays c d → ((us vs : List Stream) → AreFronts us vs → IsFront (merge_stream B n us) (merge_stream B m vs)) → IsFront (going_on (merge_stream B n) c) (going_on (merge_stream B m) d)
      by Waits d h ih = front_silent (going_on (merge_stream B m) d)
      by Over Over h ih = front_itself (record { rows = []; ended = true })
      by (Gives r us) (Gives q vs) h ih =
          let i = ih us vs h.1 in
          record { rest = i.rest; longer = ap (λ x. x ∷ (merge_stream B m vs).rows) (sym h.0) ∙ ap (λ x. r ∷ x) i.longer; ended = i.ended }
      by Over Waits h ih = absurd h
      by Over (Gives q vs) h ih = absurd h
      by (Gives r us) Waits h ih = absurd h
      by (Gives r us) Over h ih = absurd h

-- ---- motions

pub came_join : (a : ℤ) (cs ds : List Came) → came_from a (cs ++ ds) ≡ came_from a cs ++ came_from a ds
came_join a [] ds = refl
came_join a (c ∷ cs) ds = by (int_eq c.from a) (came_join a cs ds)
  where
    by : (b : Bool) → came_from a (cs ++ ds) ≡ came_from a cs ++ came_from a ds → cond b (c.row ∷ came_from a (cs ++ ds)) (came_from a (cs ++ ds)) ≡ cond b (c.row ∷ came_from a cs) (came_from a cs) ++ came_from a ds
    by true ih = ap (λ l. c.row ∷ l) ih
    by false ih = ih

module _ (segments : ℕ) (l : Locus) (i j : Input) (h : TookMore (gang_at segments l) i j) where
  abbrev Stays' : ℤ → Type 0
  Stays' a = i.whole a ≡ true → (j.whole a ≡ true) × (came_from a h.more ≡ [])

  all_stay : (as' : List ℤ) → AllByRecursion Stays' as' → list_all i.whole as' ≡ true → (list_all j.whole as' ≡ true) × (flat_map (λ a. came_from a h.more) as' ≡ [])
  all_stay [] f e = (refl, refl)
  all_stay (a ∷ as') f e =
      let t = both_true (i.whole a) (list_all i.whole as') e in
      let r = all_stay as' f.1 t.1 in
      let q = f.0 t.0 in
      (ap (λ b. b && list_all j.whole as') q.0 ∙ r.0, ap (λ x. x ++ flat_map (λ b. came_from b h.more) as') q.1 ∙ r.1)

  mixed_front : IsFront (received None (gang_at segments l) i) (received None (gang_at segments l) j)
  mixed_front = record {
    rest = rows_in h.more;
    longer = ap rows_in h.took ∙ map-append (λ (c : Came). c.row) i.took h.more;
    ended = λ e.
        let r = all_stay (gang_at segments l) h.stays e in
        let long = perm_long (all_came h.more (gang_at segments l) (gang_once segments l) h.from) in
        let none = ap length r.1 in
        (r.0, nil_from_length (rows_in h.more) (omega arith));
  }

  streams_front : (as' : List ℤ) → AllByRecursion Stays' as' → AreFronts (map (stream_from i) as') (map (stream_from j) as')
  streams_front [] f = tt
  streams_front (a ∷ as') f = (
    record { rest = came_from a h.more; longer = ap (came_from a) h.took ∙ came_join a i.took h.more; ended = f.0 },
    streams_front as' f.1,
  )

  pub received_front : (o : Option (List Key)) → IsFront (received o (gang_at segments l) i) (received o (gang_at segments l) j)
  received_front None = mixed_front
  received_front (Some keys) = let e = ap length h.took in ordered_front (sorts_before keys) (suc (length i.took)) (suc (length j.took)) (map (stream_from i) (gang_at segments l)) (map (stream_from j) (gang_at segments l)) (omega (arith, length-append i.took h.more)) (streams_front (gang_at segments l) h.stays)

-- ---- each node

module _ (w : Site) (f g : Inputs) where
  pub grows : (n : ℕ) (p : Tree) (at : ℤ) → AreMore w f g n p at → IsFront (out w f n p at) (out w g n p at)
  grows n (Scan t) at h = front_itself (record { rows = scanned w t at; ended = true })
  grows n (Filter e c) at h = rows_front (filter_rows e) (filter_join e) (filter_nil e) (out w f n c at) (out w g n c at) (grows n c at h)
  grows n (Project cols c) at h = rows_front (project_rows cols) (project_join cols) (project_nil cols) (out w f n c at) (out w g n c at) (grows n c at h)
  grows n (Limit k c) at h = limit_front k (out w f n c at) (out w g n c at) (grows n c at h)
  grows n (Sort ks c) at h = at_end_front (sort_rows ks) (out w f n c at) (out w g n c at) (grows n c at h)
  grows n (Join on l r) at h = join_front on (out w f (n + motions_in l) r at) (out w g (n + motions_in l) r at) (out w f n l at) (out w g n l at) (grows (n + motions_in l) r at h.1) (grows n l at h.0)
  grows n (Single gr cs c) at h = at_end_front (aggregate_rows gr cs) (out w f n c at) (out w g n c at) (grows n c at h)
  grows n (Partial gr cs c) at h = at_end_front (aggregate_rows gr cs) (out w f n c at) (out w g n c at) (grows n c at h)
  grows n (Final c) at h = at_end_front (final_of (partial_under c)) (out w f n c at) (out w g n c at) (grows n c at h)
  grows n (Gather o c) at h = received_front w.segments (locus_of w.schemas c) (f n at) (g n at) h o
  grows n (Redistribute ks c) at h = received_front w.segments (locus_of w.schemas c) (f n at) (g n at) h None
  grows n (Broadcast c) at h = received_front w.segments (locus_of w.schemas c) (f n at) (g n at) h None
