-- What each step of an aggregate makes of what it has answered.
use Rattle.std.proofs.Common.{◌≡◌, ℕ, zero, suc, ◌+◌, ◌<◌, ◌≤◌, Bool, true, false, if◌then◌else◌, List, [], ◌∷◌, ◌++◌, length, map, take, drop, filter, slice_get, Some, None, refl, sym, ap, ◌∙◌, subst, true≢false, arith, append-nil, append_assoc, inl, inr, length-append, rules}
use Rattle.std.specs.Prelude.{◌⊎◌, Result, Ok, Err, IfOk}
use Rattle.std.specs.declared.alloc.AllocError.{AllocError}
use Rattle.std.specs.Option.{option_map}
use Rattle.std.specs.List.{AllByRecursion}
use Rattle.std.proofs.lemmas.List.{length-map, take_all, take-append-le}
use Rattle.indexmap.specs.IndexMap.{insert_entry}
use Rattle.ic_row.specs.Values.{key_of, column}
use Rattle.pl_tree.specs.declared.node.Call.{Call}
use Rattle.pl_tree.specs.declared.node.Call.TheVariants.{Count, CountOf, Sum, Min, Max}
use Rattle.pl_ops.specs.declared.words.Side.{Side}
use Rattle.pl_ops.specs.declared.words.Side.TheVariants.{Left, Right}
use Rattle.pl_ops.specs.Rows.{Line}
use Rattle.pl_ops.specs.Groups.{same_line, in_group, group_keys, columns_from, value_of_none, over, brought, results_of, results_from, grouped, aggregate_rows, final_rows}
use Rattle.pl_ops.specs.Streams.{Stream, silent, at_end}
use Rattle.pl_ops.specs.Overflow.{HasRoom, AllHaveRoom, StaysWithin, Overflows}
use Rattle.pl_ops.specs.Giving.{IsAll, IsOver, with_row}
use Rattle.ex_agg.specs.Calls.{HaveRoom, results, renewed}
use Rattle.ex_agg.specs.Grouped.{Grouped, whole, results_of_key, groups_of, key_columns}
use Rattle.ex_agg.specs.Aggs.{Grouping, rows_of, out, Gives, IsWanting}
use Rattle.ex_agg.proofs.Adding.{results_none}
use Rattle.ex_agg.proofs.Grouping.{had, groups_step}

-- ---- columns of a final

columns_more : (f n : ℕ) → columns_from f (suc n) ≡ columns_from f n ++ (f + n) ∷ []
columns_more f zero = ap (λ c. c ∷ []) place
  where
    place : f ≡ f + 0
    place = omega arith
columns_more f (suc n) = ap (λ l. f ∷ l) (columns_more (f + 1) n ∙ ap (λ c. columns_from (f + 1) n ++ c ∷ []) place)
  where
    place : f + 1 + n ≡ f + suc n
    place = omega arith

pub columns_next : (n m : ℕ) → m ≡ n + 1 → columns_from 0 m ≡ columns_from 0 n ++ n ∷ []
columns_next n m e = ap (columns_from 0) (e ∙ next) ∙ columns_more 0 n ∙ ap (λ c. columns_from 0 n ++ c ∷ []) same
  where
    same : 0 + n ≡ n
    same = omega arith

    next : n + 1 ≡ suc n
    next = omega arith

-- ---- all groups as rows

whole_map : (F : Line → Line) (ks : List Line) → map whole (map (λ key. (key, F key)) ks) ≡ map (λ key. key ++ F key) ks
whole_map F [] = refl
whole_map F (k ∷ ks) = ap (λ l. (k ++ F k) ∷ l) (whole_map F ks)

results_single : (c : ℕ) (calls : List Call) (rows : List Line) → results false c calls rows ≡ results_of calls rows
results_single c [] rows = refl
results_single c (call ∷ calls) rows = ap (λ l. over call (map (brought call) rows) ∷ l) (results_single (c + 1) calls rows)

results_partial : (c : ℕ) (calls : List Call) (rows : List Line) → results true c calls rows ≡ results_from c calls rows
results_partial c [] rows = refl
results_partial c (call ∷ calls) rows = ap (λ l. over call (map (λ row. column row c) rows) ∷ l) (results_partial (c + 1) calls rows)

whole_single : (group : List ℕ) (calls : List Call) (rows : List Line) → map whole (groups_of false (length group) group calls rows) ≡ aggregate_rows group calls rows
unfolding grouped
whole_single group calls rows =
    whole_map (λ key. results false (length group) calls (filter (in_group group key) rows)) (group_keys group rows)
    ∙ (λ i. map (λ key. key ++ results_single (length group) calls (filter (in_group group key) rows) i) (group_keys group rows))

whole_final : (group : List ℕ) (calls : List Call) (rows : List Line) → map whole (groups_of true (length group) (columns_from 0 (length group)) calls rows) ≡ final_rows group calls rows
unfolding grouped
whole_final group calls rows =
    whole_map (λ key. results true (length group) calls (filter (in_group (columns_from 0 (length group)) key) rows)) (group_keys (columns_from 0 (length group)) rows)
    ∙ (λ i. map (λ key. key ++ results_partial (length group) calls (filter (in_group (columns_from 0 (length group)) key) rows) i) (group_keys (columns_from 0 (length group)) rows))

-- the groups, as rows, are the output
pub rows_are : (final : Bool) (group : List ℕ) (calls : List Call) (rows : List Line)
    → map whole (groups_of final (length group) (key_columns final group) calls rows) ≡ rows_of final group calls rows
rows_are true group calls rows = whole_final group calls rows
rows_are false group calls rows = whole_single group calls rows

over_at_end : (f : List Line → List Line) (s : Stream) (a : List Line) → s.ended ≡ true → a ≡ f s.rows → IsOver (at_end f s) a
over_at_end f s a e h = subst (λ b. IsOver (if b then record { rows = f s.rows; ended = true } else silent) a) (sym e) (record { ended = refl; rows = h })

all_at_end : (f : List Line → List Line) (s : Stream) (a : List Line) → s.ended ≡ false → a ≡ [] → IsAll (at_end f s) a
all_at_end f s a e h = subst (λ b. IsAll (if b then record { rows = f s.rows; ended = true } else silent) a) (sym e) (record { goes_on = refl; rows = h })

is_over_so : (final : Bool) (group : List ℕ) (calls : List Call) (s : Stream) (a : List Line) → s.ended ≡ true
    → a ≡ map whole (groups_of final (length group) (key_columns final group) calls s.rows) → IsOver (out final group calls s) a
is_over_so true group calls s a e h = over_at_end (final_rows group calls) s a e (h ∙ whole_final group calls s.rows)
is_over_so false group calls s a e h = over_at_end (aggregate_rows group calls) s a e (h ∙ whole_single group calls s.rows)

is_all_so : (final : Bool) (group : List ℕ) (calls : List Call) (s : Stream) (a : List Line) → s.ended ≡ false → a ≡ [] → IsAll (out final group calls s) a
is_all_so true group calls s a e h = all_at_end (final_rows group calls) s a e h
is_all_so false group calls s a e h = all_at_end (aggregate_rows group calls) s a e h

-- ---- what is left to answer

pub none_left : (groups : Grouped) (n : ℕ) → length groups ≤ n → map whole (drop n groups) ≡ []
none_left [] zero h = refl
none_left [] (suc n) h = refl
none_left (e ∷ es) zero h = absurd (omega (arith, h))
none_left (e ∷ es) (suc n) h = none_left es n (omega (arith, h))

pub none_there : (groups : Grouped) (n : ℕ) → None ≡ option_map whole (slice_get groups n) → map whole (drop n groups) ≡ []
none_there [] zero h = refl
none_there [] (suc n) h = refl
none_there (e ∷ es) zero h = absurd (cc)
none_there (e ∷ es) (suc n) h = none_there es n h

one_left : (groups : Grouped) (n : ℕ) (row : Line) → Some row ≡ option_map whole (slice_get groups n) → map whole (drop n groups) ≡ row ∷ map whole (drop (suc n) groups)
one_left [] n row h = absurd (cc)
one_left (e ∷ es) zero row h = ap (λ r. r ∷ map whole es) (some_same row (whole e) h)
  where
    some_same : (x y : Line) → Some x ≡ Some y → y ≡ x
    some_same x y h = cc
one_left (e ∷ es) (suc n) row h = one_left es n row h

pub next_left : (groups : Grouped) (n m : ℕ) (row : Line) → m ≡ n + 1 → Some row ≡ option_map whole (slice_get groups n) → map whole (drop n groups) ≡ row ∷ map whole (drop m groups)
next_left groups n m row e h = one_left groups n row h ∙ ap (λ k. row ∷ map whole (drop k groups)) (sym (e ∙ next))
  where
    next : n + 1 ≡ suc n
    next = omega arith

-- ---- room

append_room : (a b : Line) → AllByRecursion HasRoom a → AllByRecursion HasRoom b → AllByRecursion HasRoom (a ++ b)
append_room [] b p q = q
append_room (x ∷ a) b p q = (p.0, append_room a b p.1 q)

front_room : (a b : Line) → AllByRecursion HasRoom (a ++ b) → AllByRecursion HasRoom a
front_room [] b h = tt
front_room (x ∷ a) b h = (h.0, front_room a b h.1)

back_room : (a b : Line) → AllByRecursion HasRoom (a ++ b) → AllByRecursion HasRoom b
back_room [] b h = h
back_room (x ∷ a) b h = back_room a b h.1

-- groups have room once one is put in that has
insert_room : (g : Grouped) (k v : Line) → AllByRecursion HasRoom k → AllByRecursion HasRoom v → AllHaveRoom (map whole g) → AllHaveRoom (map whole (insert_entry same_line g k v))
insert_room [] k v p q h = (append_room k v p q, tt)
insert_room (e ∷ es) k v p q h = by (insert_room es k v p q h.1) (same_line k e.0)
  where
    by : AllHaveRoom (map whole (insert_entry same_line es k v)) → (b : Bool) → AllHaveRoom (map whole (if b then (e.0, v) ∷ es else e ∷ insert_entry same_line es k v))
    by r true = (append_room e.0 v (front_room e.0 e.1 h.0) q, h.1)
    by r false = (h.0, r)

-- what was put into groups that have room has room
inserted_room : (g : Grouped) (k v : Line) → AllHaveRoom (map whole (insert_entry same_line g k v)) → AllByRecursion HasRoom v
inserted_room [] k v h = back_room k v h.0
inserted_room (e ∷ es) k v h = by (inserted_room es k v) (same_line k e.0) h
  where
    by : (AllHaveRoom (map whole (insert_entry same_line es k v)) → AllByRecursion HasRoom v) → (b : Bool) → AllHaveRoom (map whole (if b then (e.0, v) ∷ es else e ∷ insert_entry same_line es k v)) → AllByRecursion HasRoom v
    by r true t = back_room e.0 v t.0
    by r false t = r t.1

-- of all values, or of those that the calls ask
asked_room : (calls : List Call) (values : Line) → AllByRecursion HasRoom values → HaveRoom calls values
asked_room [] values h = tt
asked_room (call ∷ calls) [] h = tt
asked_room (call ∷ calls) (value ∷ values) h = (h.0, asked_room calls values h.1)

renewed_room : (final : Bool) (c : ℕ) (calls : List Call) (rows : List Line) (row : Line) → HaveRoom calls (renewed final c calls (results final c calls rows) row)
    → AllByRecursion HasRoom (renewed final c calls (results final c calls rows) row)
renewed_room final c [] rows row h = tt
renewed_room final c (call ∷ calls) rows row h = (h.0, renewed_room final (c + 1) calls rows row h.1)

take_split : (n : ℕ) (rows : List Line) → (n ≤ length rows) ⊎ (length rows < n)
take_split n rows = grind arith

module _ (final : Bool) (group : List ℕ) (calls : List Call) (rows : List Line) (row : Line) where
  abbrev pub cols : List ℕ
  cols = key_columns final group

  abbrev pub k : Line
  k = key_of cols row

  abbrev pub old_groups : Grouped
  old_groups = groups_of final (length group) cols calls rows

  -- the results of the row's group with it
  abbrev pub new_results : Line
  new_results = renewed final (length group) calls (results final (length group) calls (filter (in_group cols k) rows)) row

  all_taken : (n : ℕ) → length rows < n → take n (rows ++ row ∷ []) ≡ rows ++ row ∷ []
  all_taken n h = take_all n (rows ++ row ∷ []) (omega (arith, h, length-append rows (row ∷ [])))

  -- the output of the rows with this one
  with_it : map whole (insert_entry same_line old_groups k new_results) ≡ rows_of final group calls (rows ++ row ∷ [])
  with_it =
      ap (λ v. map whole (insert_entry same_line old_groups k (renewed final (length group) calls v row))) (sym (had final (length group) cols calls rows row))
      ∙ ap (map whole) (sym (groups_step final (length group) cols calls rows row)) ∙ rows_are final group calls (rows ++ row ∷ [])

  pub within_step : StaysWithin (rows_of final group calls) rows → AllByRecursion HasRoom k → HaveRoom calls new_results → StaysWithin (rows_of final group calls) (rows ++ row ∷ [])
  within_step w p q n lt = by (take_split n rows)
    where
      before : AllHaveRoom (map whole old_groups)
      before = subst AllHaveRoom (ap (rows_of final group calls) (take_all (length rows) rows (omega arith)) ∙ sym (rows_are final group calls rows)) (w (length rows) (omega arith))

      after : AllHaveRoom (rows_of final group calls (rows ++ row ∷ []))
      after = subst AllHaveRoom with_it (insert_room old_groups k new_results p (renewed_room final (length group) calls (filter (in_group cols k) rows) row q) before)

      by : (n ≤ length rows) ⊎ (length rows < n) → AllHaveRoom (rows_of final group calls (take n (rows ++ row ∷ [])))
      by (inl h) = subst (λ l. AllHaveRoom (rows_of final group calls l)) (sym (take-append-le n rows (row ∷ []) h)) (w n h)
      by (inr h) = subst (λ l. AllHaveRoom (rows_of final group calls l)) (sym (all_taken n h)) after

  pub too_much : (HaveRoom calls new_results → ⊥) → Overflows (rows_of final group calls) (rows ++ row ∷ [])
  too_much no_room = (length (rows ++ row ∷ []), omega arith, λ all. no_room (asked_room calls new_results (inserted_room old_groups k new_results (subst AllHaveRoom (whole_length ∙ sym with_it) all))))
    where
      whole_length : rows_of final group calls (take (length (rows ++ row ∷ [])) (rows ++ row ∷ [])) ≡ rows_of final group calls (rows ++ row ∷ [])
      whole_length = ap (rows_of final group calls) (take_all (length (rows ++ row ∷ [])) (rows ++ row ∷ []) (omega arith))

-- ---- steps

abbrev pub next_results : Bool → ℕ → List ℕ → List Call → Grouped → Line → Line
next_results final first columns calls groups row = renewed final first calls (results_of_key calls groups (key_of columns row)) row

abbrev pub next_groups : Bool → ℕ → List ℕ → List Call → Grouped → Line → Grouped
next_groups final first columns calls groups row = insert_entry same_line groups (key_of columns row) (next_results final first columns calls groups row)

module _ (final : Bool) (group : List ℕ) (calls : List Call) (g : Grouping) (s : Stream) (a : List Line) (h : Gives final group calls g s a) where
  so_far : g.pending ≡ [] → a ≡ map whole g.groups
  so_far e = sym (append-nil a) ∙ ap (λ x. a ++ x) (sym e) ∙ h.rows

  pub is_over : g.ended ≡ true → g.pending ≡ [] → IsOver (out final group calls s) a
  is_over e p = is_over_so final group calls s a (sym h.told ∙ e) (so_far p ∙ ap (map whole) h.groups)

  pub is_all : g.ended ≡ false → IsAll (out final group calls s) a
  is_all e = is_all_so final group calls s a (sym h.told ∙ e) (h.none_before (sym h.told ∙ e))

  pub row_given : (row : Line) (rest : List Line) → g.ended ≡ true → g.pending ≡ row ∷ rest → Gives final group calls (record g { pending = rest }) s (a ++ row ∷ [])
  row_given row rest e p = record {
    final_is = h.final_is;
    columns = h.columns;
    first = h.first;
    calls_are = h.calls_are;
    told = h.told;
    groups = h.groups;
    within = h.within;
    none_before = λ n. absurd (true≢false (sym e ∙ h.told ∙ n));
    rows = append_assoc a (row ∷ []) rest ∙ ap (λ x. a ++ x) (sym p) ∙ h.rows;
  }

  module _ (row : Line) where
    results_are : next_results g.final g.first g.columns g.calls g.groups row ≡ new_results final group calls s.rows row
    results_are =
        (λ i. next_results (h.final_is i) (h.first i) (h.columns i) (h.calls_are i) (h.groups i) row)
        ∙ ap (λ v. renewed final (length group) calls v row) (had final (length group) (key_columns final group) calls s.rows row)

    pub row_taken : (groups : Grouped) (next : ℕ) → next ≡ 0 → s.ended ≡ false → groups ≡ next_groups g.final g.first g.columns g.calls g.groups row
        → AllByRecursion HasRoom (key_of g.columns row) → HaveRoom g.calls (next_results g.final g.first g.columns g.calls g.groups row)
        → Gives final group calls (record { final = g.final; columns = g.columns; first = g.first; calls = g.calls; groups = groups; pending = map whole (drop next groups); ended = g.ended; refused = g.refused }) (with_row s row) a
    row_taken groups next start e is key room = record {
      final_is = h.final_is;
      columns = h.columns;
      first = h.first;
      calls_are = h.calls_are;
      told = h.told;
      none_before = h.none_before;
      groups = is ∙ (λ i. next_groups (h.final_is i) (h.first i) (h.columns i) (h.calls_are i) (h.groups i) row) ∙ sym (groups_step final (length group) (key_columns final group) calls s.rows row);
      rows = (λ i. h.none_before e i ++ map whole (drop (start i) groups));
      within = within_step final group calls s.rows row h.within (subst (λ c. AllByRecursion HasRoom (key_of c row)) h.columns key)
          (subst (λ v. HaveRoom v (new_results final group calls s.rows row)) h.calls_are (subst (HaveRoom g.calls) results_are room));
    }

    pub row_refused : (HaveRoom g.calls (next_results g.final g.first g.columns g.calls g.groups row) → ⊥) → Overflows (rows_of final group calls) (s.rows ++ row ∷ [])
    row_refused no_room = too_much final group calls s.rows row
        (λ room. no_room (subst (HaveRoom g.calls) (sym results_are) (subst (λ v. HaveRoom v (new_results final group calls s.rows row)) (sym h.calls_are) room)))

-- ---- at the start

none_has_room : (call : Call) → HasRoom (value_of_none call)
unfolding value_of_none
none_has_room Count = search rules
none_has_room (CountOf c) = search rules
none_has_room (Sum c) = tt
none_has_room (Min c) = tt
none_has_room (Max c) = tt

none_have_room : (final : Bool) (c : ℕ) (calls : List Call) → AllByRecursion HasRoom (results final c calls [])
none_have_room final c [] = tt
none_have_room final c (call ∷ calls) = (none_has_room call, none_have_room final (c + 1) calls)

nothing_has_room : (final : Bool) (first : ℕ) (columns : List ℕ) (calls : List Call) → AllHaveRoom (map whole (groups_of final first columns calls []))
nothing_has_room final first [] calls = (none_have_room final first calls, tt)
nothing_has_room final first (c ∷ columns) calls = tt

none_taken : (n : ℕ) → take {A = Line} n [] ≡ []
none_taken zero = refl
none_taken (suc n) = refl

pub within_nothing : (final : Bool) (group : List ℕ) (calls : List Call) → StaysWithin (rows_of final group calls) []
within_nothing final group calls n le =
    subst (λ l. AllHaveRoom (rows_of final group calls l)) (sym (none_taken n))
    (subst AllHaveRoom (rows_are final group calls []) (nothing_has_room final (length group) (key_columns final group) calls))

pub one_group : (group : List ℕ) (calls : List Call) (result : Result Grouped AllocError) → group ≡ [] → IfOk result (λ g. g ≡ ([], map value_of_none calls) ∷ [])
    → IfOk result (λ g. (final : Bool) (first : ℕ) → g ≡ groups_of final first (key_columns final group) calls [])
one_group group calls (Ok g) e h = λ final first. h ∙ of_none final first ∙ ap (λ c. groups_of final first (key_columns final c) calls []) (sym e)
  where
    of_none : (final : Bool) (first : ℕ) → ([], map value_of_none calls) ∷ [] ≡ groups_of final first (key_columns final []) calls []
    of_none true first = ap (λ v. ([], v) ∷ []) (sym (results_none true first calls))
    of_none false first = ap (λ v. ([], v) ∷ []) (sym (results_none false first calls))
one_group group calls (Err x) e h = tt

-- ---- how many are left

insert_length : (groups : Grouped) (key values : Line) → length (insert_entry same_line groups key values) ≤ length groups + 1
insert_length [] key values = omega arith
insert_length (e ∷ es) key values = by (same_line key e.0) (insert_length es key values)
  where
    by : (b : Bool) → length (insert_entry same_line es key values) ≤ length es + 1 → length (if b then (e.0, values) ∷ es else e ∷ insert_entry same_line es key values) ≤ length (e ∷ es) + 1
    by true h = omega arith
    by false h = omega (arith, h)

pub one_more_left : (groups new : Grouped) (key values : Line) (next : ℕ) → next ≡ 0 → new ≡ insert_entry same_line groups key values
    → length (map whole (drop next new)) ≤ length (map whole (drop next groups)) + 1
one_more_left groups new key values next start e =
    subst (λ n. length (map whole (drop n new)) ≤ length (map whole (drop n groups)) + 1) (sym start)
    (omega (arith, length-map new whole, length-map groups whole, insert_length groups key values, ap (λ l. length l) e))

pub wanting_open : (side : Side) (g : Grouping) → IsWanting side g → g.ended ≡ false
wanting_open Left g w = w
wanting_open Right g w = absurd w
