-- Aggregates over segments, and in two stages.
use Rattle.std.proofs.Common.{◌≡◌, ℕ, suc, ◌+◌, ◌<◌, Bool, true, false, cond, List, [], ◌∷◌, ◌++◌, map, length, refl, sym, ap, ◌∙◌, subst, inl, inr, ⊎_elim, arith, append_assoc, length-append}
use Rattle.std.proofs.lemmas.List.{length-map, get_or_at, map-append}
use Rattle.std.specs.Prelude.{◌⊎◌, filter, flat_map}
use Rattle.ic_row.specs.declared.value.Value.{Value}
use Rattle.ic_row.specs.declared.value.Value.TheVariants.{Null}
use Rattle.pl_ops.specs.Rows.{Line as Row}
use Rattle.pl_parts.proofs.Forms.{Columns, totals, Slot, slot_value, brought_by, carried_from, firsts, aggregate_rows, final_rows, upto}
use Rattle.pl_tree.specs.declared.node.Call.{Call}
use Rattle.ic_row.specs.Values.{column, key_of}
use Rattle.pl_ops.specs.Groups.{same_line, group_keys, in_group, grouped, brought, over, joined_value}
use Rattle.pl_parts.proofs.Bags.{Perm, ptrans, alike, flat_all, filter-flat_map, map-flat_map}
use Rattle.pl_parts.proofs.Members.{In, NoTwice, same_members, In-map, In-from_map, In-flat, In-from_flat, map_perm, map_in, NoTwice-flat, filter_none}
use Rattle.pl_parts.proofs.Segments.{one_hit, NoTwice-upto}
use Rattle.pl_parts.proofs.Grouping.{row_cases, NoTwice-groups, group_of_row, row_of_group, In-group_iff, Fair, row_for}
use Rattle.pl_parts.proofs.Calls.{over-append, over-one, over-perm}

pub totals_fair : (slots : List Slot) → Fair (totals slots)
unfolding totals
totals_fair slots rows rows' p = map_in (slot_value rows) (slot_value rows') slots (λ s i. over-perm s.call (map_perm s.lift p))

-- Groups that lie each at one segment.
module _ (g : Columns) (c : Row → ℕ) (n : ℕ) (below : (key : Row) → c key < n) (P : ℕ → List Row) (at : (s : ℕ) (row : Row) → In row (P s) → c (key_of g row) ≡ s) where
  all : List Row
  all = flat_map P (upto n)

  filter_away : (key : Row) (s : ℕ) → (s ≡ c key → ⊥) → filter (in_group g key) (P s) ≡ []
  filter_away key s apart = filter_none (in_group g key) (P s) (λ row i. by row i (row_cases key (key_of g row)))
    where
      by : (row : Row) → In row (P s) → (same_line key (key_of g row) ≡ true) × (key ≡ key_of g row) ⊎ (same_line key (key_of g row) ≡ false) × (key ≡ key_of g row → ⊥) → in_group g key row ≡ false
      by row i (inl e) = absurd (apart (sym (at s row i) ∙ sym (ap c e.1)))
      by row i (inr e) = e.0

  filter_here : (key : Row) → filter (in_group g key) (flat_map P (upto n)) ≡ filter (in_group g key) (P (c key))
  filter_here key = filter-flat_map (in_group g key) P (upto n) ∙ one_hit (λ s. filter (in_group g key) (P s)) n (c key) (below key) (λ s. filter_away key s)

module _ (g0 : ℕ) (gs : Columns) (c : Row → ℕ) (n : ℕ) (below : (key : Row) → c key < n) (P : ℕ → List Row) (at : (s : ℕ) (row : Row) → In row (P s) → c (key_of (g0 ∷ gs) row) ≡ s) where
  key_at : (s : ℕ) (key : Row) → In key (group_keys (g0 ∷ gs) (P s)) → c key ≡ s
  key_at s key i = let r = row_of_group g0 gs key (P s) i in ap c r.2 ∙ at s r.0 r.1

  groups_split : Perm (flat_map (λ s. group_keys (g0 ∷ gs) (P s)) (upto n)) (group_keys (g0 ∷ gs) (flat_map P (upto n)))
  groups_split = same_members (flat_map (λ s. group_keys (g0 ∷ gs) (P s)) (upto n)) (group_keys (g0 ∷ gs) (flat_map P (upto n)))
      (NoTwice-flat (λ s. group_keys (g0 ∷ gs) (P s)) c key_at (λ s. NoTwice-groups (g0 ∷ gs) (P s)) (upto n) (NoTwice-upto n))
      (NoTwice-groups (g0 ∷ gs) (flat_map P (upto n)))
      (λ key i. let r = In-from_flat (λ s. group_keys (g0 ∷ gs) (P s)) key (upto n) i in In-group_iff (g0 ∷ gs) key (P r.0) (flat_map P (upto n)) (λ row j. In-flat P row r.0 (upto n) r.1 j) r.2)
      (λ key i.
      let r = row_of_group g0 gs key (flat_map P (upto n)) i in
      let q = In-from_flat P r.0 (upto n) r.1 in
      In-flat (λ s. group_keys (g0 ∷ gs) (P s)) key q.0 (upto n) q.1 (subst (λ k. In k (group_keys (g0 ∷ gs) (P q.0))) (sym r.2) (group_of_row (g0 ∷ gs) r.0 (P q.0) q.2)))

  -- an aggregate over the whole is those over the segments
  pub grouped_split : (summary : List Row → List Value) → Perm (flat_map (λ s. grouped (g0 ∷ gs) summary (P s)) (upto n)) (grouped (g0 ∷ gs) summary (flat_map P (upto n)))
  unfolding grouped
  grouped_split summary =
      let F : Row → Row = row_for (g0 ∷ gs) summary (flat_map P (upto n)) in
      ptrans (flat_all (λ s. map (row_for (g0 ∷ gs) summary (P s)) (group_keys (g0 ∷ gs) (P s))) (λ s. map F (group_keys (g0 ∷ gs) (P s))) (λ s. alike (map_in (row_for (g0 ∷ gs) summary (P s)) F (group_keys (g0 ∷ gs) (P s)) (λ key i.
      ap (λ l. key ++ summary l) (ap (λ t. filter (in_group (g0 ∷ gs) key) (P t)) (sym (key_at s key i)) ∙ sym (filter_here (g0 ∷ gs) c n below P at key))))) (upto n))
      (ptrans (alike (sym (map-flat_map F (λ s. group_keys (g0 ∷ gs) (P s)) (upto n)))) (map_perm F groups_split))

-- Two stages.
pub long_key : (g : Columns) (key : Row) (rows : List Row) → In key (group_keys g rows) → length key ≡ length g
long_key [] key rows (inl e) = ap length e
long_key [] key rows (inr h) = absurd h
long_key (c ∷ cs) key rows h = let r = row_of_group c cs key rows h in ap length r.2 ∙ length-map (c ∷ cs) (column r.0)

key_back : (pre key vs : Row) (at : ℕ) → length pre ≡ at → key_of (firsts at (length key)) (pre ++ (key ++ vs)) ≡ key
key_back pre [] vs at e = refl
key_back pre (k ∷ ks) vs at e =
    let e' : length (pre ++ k ∷ []) ≡ suc at = omega (arith, length-append pre (k ∷ [])) in
    ap (λ v. v ∷ key_of (firsts (suc at) (length ks)) (pre ++ (k ∷ (ks ++ vs)))) (get_or_at pre k (ks ++ vs) Null at e)
    ∙ ap (λ l. k ∷ l) (ap (key_of (firsts (suc at) (length ks))) (sym (append_assoc pre (k ∷ []) (ks ++ vs))) ∙ key_back (pre ++ k ∷ []) ks vs (suc at) e')

key_of_made : (g : Columns) (key vs : Row) → length key ≡ length g → key_of (firsts 0 (length g)) (key ++ vs) ≡ key
key_of_made g key vs e = ap (λ n. key_of (firsts 0 n) (key ++ vs)) (sym e) ∙ key_back [] key vs 0 refl

module _ (g : Columns) (cs : List Call) where
  made : List Row → Row → Row
  unfolding totals
  made b = row_for g (totals (brought_by cs)) b

  -- of the rows that a chunk's partial gives, a key's
  picked : (p : Row → Bool) (F : Row → Row) (key : Row) (ks : List Row) → NoTwice ks → ((k : Row) → In k ks → p (F k) ≡ same_line key k) → (In key ks × (filter p (map F ks) ≡ F key ∷ [])) ⊎ ((In key ks → ⊥) × (filter p (map F ks) ≡ []))
  picked p F key [] h e = inr ((λ i. i), refl)
  picked p F key (k ∷ ks) h e = by (row_cases key k) (picked p F key ks h.1 (λ z i. e z (inr i)))
    where
      head : (b : Bool) → same_line key k ≡ b → filter p (map F (k ∷ ks)) ≡ cond b (F k ∷ filter p (map F ks)) (filter p (map F ks))
      head b q = ap (λ t. cond t (F k ∷ filter p (map F ks)) (filter p (map F ks))) (e k (inl refl) ∙ q)

      by : (same_line key k ≡ true) × (key ≡ k) ⊎ (same_line key k ≡ false) × (key ≡ k → ⊥) → (In key ks × (filter p (map F ks) ≡ F key ∷ [])) ⊎ ((In key ks → ⊥) × (filter p (map F ks) ≡ [])) → (In key (k ∷ ks) × (filter p (map F (k ∷ ks)) ≡ F key ∷ [])) ⊎ ((In key (k ∷ ks) → ⊥) × (filter p (map F (k ∷ ks)) ≡ []))
      by (inl y) (inl r) = absurd (h.0 (subst (λ z. In z ks) y.1 r.0))
      by (inl y) (inr r) = inl (inl y.1, head true y.0 ∙ ap (λ l. F k ∷ l) r.1 ∙ ap (λ z. F z ∷ []) (sym y.1))
      by (inr n) (inl r) = inl (inr r.0, head false n.0 ∙ r.1)
      by (inr n) (inr r) = inr (⊎_elim n.1 r.0, head false n.0 ∙ r.1)

  abbrev piece : Row → List Row → List Row
  piece key b = filter (in_group (firsts 0 (length g)) key) (aggregate_rows g cs b)

  abbrev own : Row → List Row → List Row
  own key b = filter (in_group g key) b

  piece_is : (key : Row) (b : List Row) → (piece key b ≡ (key ++ totals (brought_by cs) (own key b)) ∷ []) ⊎ ((piece key b ≡ []) × (own key b ≡ []))
  unfolding grouped
  piece_is key b = ⊎_elim (λ y. inl y.1) (λ n. inr (n.1, filter_none (in_group g key) b (λ row i. none n.0 row i (row_cases key (key_of g row)))))
      (picked (in_group (firsts 0 (length g)) key) (row_for g (totals (brought_by cs)) b) key (group_keys g b) (NoTwice-groups g b) (λ k i. ap (same_line key) (key_of_made g k (totals (brought_by cs) (own k b)) (long_key g k b i))))
    where
      none : (In key (group_keys g b) → ⊥) → (row : Row) → In row b → (same_line key (key_of g row) ≡ true) × (key ≡ key_of g row) ⊎ (same_line key (key_of g row) ≡ false) × (key ≡ key_of g row → ⊥) → in_group g key row ≡ false
      none h row i (inl e) = absurd (h (subst (λ k. In k (group_keys g b)) (sym e.1) (group_of_row g row b i)))
      none h row i (inr e) = e.0

  brought-append : (pre post : List Call) → brought_by (pre ++ post) ≡ brought_by pre ++ brought_by post
  brought-append [] post = refl
  brought-append (call ∷ pre) post = ap (λ l. record { call = call; lift = brought call } ∷ l) (brought-append pre post)

  brought_long : (calls : List Call) → length (brought_by calls) ≡ length calls
  brought_long [] = refl
  brought_long (call ∷ calls) = ap suc (brought_long calls)

  value_at : (key : Row) (pre : List Call) (call : Call) (post : List Call) (rows : List Row) (at : ℕ) → at ≡ length key + length pre → column (key ++ totals (brought_by (pre ++ call ∷ post)) rows) at ≡ over call (map (brought call) rows)
  unfolding totals
  value_at key pre call post rows at e =
      let f : Slot → Value = slot_value rows in
      let before : Row = map f (brought_by pre) in
      let front : Row = key ++ before in
      let long : length front ≡ at = omega (arith, length-append key before, length-map (brought_by pre) f, brought_long pre) in
      ap (λ l. column (key ++ map f l) at) (brought-append pre (call ∷ post))
      ∙ ap (λ l. column (key ++ l) at) (map-append f (brought_by pre) (brought_by (call ∷ post)))
      ∙ ap (λ l. column l at) (sym (append_assoc key before (over call (map (brought call) rows) ∷ map f (brought_by post))))
      ∙ get_or_at front (over call (map (brought call) rows)) (map f (brought_by post)) Null at long

  -- one call over a key's partial rows is that call over its rows
  one_call : (key : Row) (call : Call) (at : ℕ) → ((rows : List Row) → column (key ++ totals (brought_by cs) rows) at ≡ over call (map (brought call) rows)) → (bs : List (List Row)) → over call (map (λ row. column row at) (flat_map (piece key) bs)) ≡ over call (map (brought call) (flat_map (own key) bs))
  one_call key call at h [] = refl
  one_call key call at h (b ∷ bs) =
      ap (over call) (map-append (λ row. column row at) (piece key b) (flat_map (piece key) bs))
      ∙ over-append call (map (λ row. column row at) (piece key b)) (map (λ row. column row at) (flat_map (piece key) bs))
      ∙ ap (λ v. joined_value call v (over call (map (λ row. column row at) (flat_map (piece key) bs)))) (by (piece_is key b))
      ∙ ap (joined_value call (over call (map (brought call) (own key b)))) (one_call key call at h bs)
      ∙ sym (over-append call (map (brought call) (own key b)) (map (brought call) (flat_map (own key) bs)))
      ∙ ap (over call) (sym (map-append (brought call) (own key b) (flat_map (own key) bs)))
    where
      by : (piece key b ≡ (key ++ totals (brought_by cs) (own key b)) ∷ []) ⊎ ((piece key b ≡ []) × (own key b ≡ [])) → over call (map (λ row. column row at) (piece key b)) ≡ over call (map (brought call) (own key b))
      by (inl e) = ap (λ l. over call (map (λ row. column row at) l)) e ∙ ap (λ v. over call (v ∷ [])) (h (own key b)) ∙ over-one call (map (brought call) (own key b))
      by (inr e) = ap (λ l. over call (map (λ row. column row at) l)) e.0 ∙ sym (ap (λ l. over call (map (brought call) l)) e.1)

  finals_are : (key : Row) (bs : List (List Row)) (pre calls : List Call) (at : ℕ) → cs ≡ pre ++ calls → at ≡ length key + length pre → totals (carried_from at calls) (flat_map (piece key) bs) ≡ totals (brought_by calls) (flat_map (own key) bs)
  unfolding totals
  finals_are key bs pre [] at e h = refl
  finals_are key bs pre (call ∷ calls) at e h =
      let longer : suc at ≡ length key + length (pre ++ call ∷ []) = omega (arith, length-append pre (call ∷ [])) in
      ap (λ v. v ∷ totals (carried_from (suc at) calls) (flat_map (piece key) bs)) (one_call key call at (λ rows. ap (λ l. column (key ++ totals (brought_by l) rows) at) e ∙ value_at key pre call calls rows at h) bs)
      ∙ ap (λ l. over call (map (brought call) (flat_map (own key) bs)) ∷ l) (finals_are key bs (pre ++ call ∷ []) calls (suc at) (e ∙ sym (append_assoc pre (call ∷ []) calls)) longer)

  chunks : List (List Row) → List Row
  chunks bs = flat_map (λ b. b) bs

  -- the rows of a group's partial carry its key
  key_of_partial : (b : List Row) (row : Row) → In row (aggregate_rows g cs b) → In (key_of (firsts 0 (length g)) row) (group_keys g b)
  unfolding grouped
  key_of_partial b row i =
      let r = In-from_map (row_for g (totals (brought_by cs)) b) row (group_keys g b) i in
      subst (λ k. In k (group_keys g b)) (sym (ap (key_of (firsts 0 (length g))) r.2 ∙ key_of_made g r.0 (totals (brought_by cs) (own r.0 b)) (long_key g r.0 b r.1))) r.1

  partial_of_key : (b : List Row) (key : Row) → In key (group_keys g b) → (row : Row) × (In row (aggregate_rows g cs b)) × (key ≡ key_of (firsts 0 (length g)) row)
  unfolding grouped
  partial_of_key b key i = (row_for g (totals (brought_by cs)) b key, In-map (row_for g (totals (brought_by cs)) b) key (group_keys g b) i, sym (key_of_made g key (totals (brought_by cs) (own key b)) (long_key g key b i)))

key_from_final : (g : Columns) (cs : List Call) (bs : List (List Row)) (key : Row) → In key (group_keys (firsts 0 (length g)) (flat_map (aggregate_rows g cs) bs)) → In key (group_keys g (flat_map (λ b. b) bs))
key_from_final [] cs bs key i = i
key_from_final (g0 ∷ gs) cs bs key i =
    let r = row_of_group 0 (firsts 1 (length gs)) key (flat_map (aggregate_rows (g0 ∷ gs) cs) bs) i in
    let q = In-from_flat (aggregate_rows (g0 ∷ gs) cs) r.0 bs r.1 in
    let k : In key (group_keys (g0 ∷ gs) q.0) = subst (λ z. In z (group_keys (g0 ∷ gs) q.0)) (sym r.2) (key_of_partial (g0 ∷ gs) cs q.0 r.0 q.2) in
    In-group_iff (g0 ∷ gs) key q.0 (flat_map (λ b. b) bs) (λ row j. In-flat (λ b. b) row q.0 bs q.1 j) k

key_to_final : (g : Columns) (cs : List Call) (bs : List (List Row)) (key : Row) → In key (group_keys g (flat_map (λ b. b) bs)) → In key (group_keys (firsts 0 (length g)) (flat_map (aggregate_rows g cs) bs))
key_to_final [] cs bs key i = i
key_to_final (g0 ∷ gs) cs bs key i =
    let r = row_of_group g0 gs key (flat_map (λ b. b) bs) i in
    let q = In-from_flat (λ b. b) r.0 bs r.1 in
    let p = partial_of_key (g0 ∷ gs) cs q.0 key (subst (λ z. In z (group_keys (g0 ∷ gs) q.0)) (sym r.2) (group_of_row (g0 ∷ gs) r.0 q.0 q.2)) in
    subst (λ z. In z (group_keys (firsts 0 (length (g0 ∷ gs))) (flat_map (aggregate_rows (g0 ∷ gs) cs) bs))) (sym p.2)
    (group_of_row (firsts 0 (length (g0 ∷ gs))) p.0 (flat_map (aggregate_rows (g0 ∷ gs) cs) bs) (In-flat (aggregate_rows (g0 ∷ gs) cs) p.0 q.0 bs q.1 p.1))

-- a final over the partials of any chunks is the single over all of them
pub two_stages : (g : Columns) (cs : List Call) (bs : List (List Row)) → Perm (final_rows g cs (flat_map (aggregate_rows g cs) bs)) (aggregate_rows g cs (flat_map (λ b. b) bs))
unfolding grouped
two_stages g cs bs =
    let g' : Columns = firsts 0 (length g) in
    let partials : List Row = flat_map (aggregate_rows g cs) bs in
    let rows : List Row = flat_map (λ b. b) bs in
    let keys : Perm (group_keys g' partials) (group_keys g rows) = same_members (group_keys g' partials) (group_keys g rows) (NoTwice-groups g' partials) (NoTwice-groups g rows) (key_from_final g cs bs) (key_to_final g cs bs) in
    ptrans (map_perm (row_for g' (totals (carried_from (length g) cs)) partials) keys)
    (alike (map_in (row_for g' (totals (carried_from (length g) cs)) partials) (row_for g (totals (brought_by cs)) rows) (group_keys g rows) (λ key i. ap (λ vs. key ++ vs)
    (ap (totals (carried_from (length g) cs)) (filter-flat_map (in_group g' key) (aggregate_rows g cs) bs)
    ∙ finals_are g cs key bs [] cs (length g) refl (let e = long_key g key rows i in omega arith)
    ∙ ap (totals (brought_by cs)) (sym (filter-flat_map (in_group g key) (λ b. b) bs))))))
