-- What each step of a join makes of what it has answered.
use Rattle.std.proofs.Common.{◌≡◌, ℕ, zero, suc, ◌≤◌, Bool, true, false, cond, if◌then◌else◌, List, [], ◌∷◌, ◌++◌, length, filter, refl, sym, ap, ◌∙◌, subst, append-nil, append_assoc, true≢false, arith}
use Rattle.std.specs.Prelude.{flat_map, Result, Ok, Err, OnOk}
use Rattle.std.specs.declared.alloc.AllocError.{AllocError}
use Rattle.std.proofs.lemmas.List.{length-map}
use Rattle.std.proofs.lemmas.List.Concat.{flat_map-append}
use Rattle.std.proofs.lemmas.List.Elements.{filter-append}
use Rattle.ic_row.specs.Values.{key_of}
use Rattle.pl_tree.specs.declared.node.Pair.{Pair}
use Rattle.pl_ops.specs.declared.words.Side.{Side}
use Rattle.pl_ops.specs.declared.words.Side.TheVariants.{Left, Right}
use Rattle.pl_ops.specs.Rows.{Line, join_rows, side_by_side}
use Rattle.pl_ops.specs.Groups.{in_group}
use Rattle.pl_ops.specs.Streams.{Stream, silent, by_rows, join_stream}
use Rattle.ex_key.specs.Same.{same_line-equiv, same_line-is}
use Rattle.ex_join.specs.Tables.{Buckets, bucket, rows_at, total, Puts}
use Rattle.pl_ops.specs.Giving.{with_row, at_its_end, IsAll, IsOver}
use Rattle.ex_join.specs.Matches.{met, beside, has_null, Keeps}
use Rattle.pl_ops.specs.declared.words.Next.TheVariants.{Wants, End}
use Rattle.ex_join.specs.Joins.{Joining, Gives, Answers, Given, IsWanting, GivenWork}
use Rattle.ex_join.proofs.Meeting.{lefts, rights, met_is}

pub join_join : (on : List Pair) (r xs ys : List Line) → join_rows on r (xs ++ ys) ≡ join_rows on r xs ++ join_rows on r ys
unfolding join_rows
join_join on r xs ys = flat_map-append (λ l. flat_map (side_by_side on l) r) xs ys

pub join_nil : (on : List Pair) (r : List Line) → join_rows on r [] ≡ []
unfolding join_rows
join_nil on r = refl

one_joined : (on : List Pair) (r : List Line) (row : Line) → join_rows on r (row ∷ []) ≡ flat_map (side_by_side on row) r
unfolding join_rows
one_joined on r row = append-nil (flat_map (side_by_side on row) r)

no_front : (a b : List Line) → a ++ b ≡ [] → a ≡ []
no_front [] b h = refl
no_front (x ∷ a) b h = absurd (cc)

no_rest : (a b : List Line) → a ++ b ≡ [] → b ≡ []
no_rest [] b h = h
no_rest (x ∷ a) b h = absurd (cc)

-- ---- the output so far

abbrev pub with_pending : Joining → List Line → Joining
with_pending j rows = record j { pending = rows }

module _ (on : List Pair) (l r : Stream) (a : List Line) where
  -- nothing comes before the right side has ended
  pub all_before : r.ended ≡ false → a ≡ [] → IsAll (join_stream on r l) a
  all_before e h = subst (λ b. IsAll (if b then by_rows (join_rows on r.rows) l else silent) a) (sym e) (record { goes_on = refl; rows = h })

  pub all_after : r.ended ≡ true → l.ended ≡ false → a ≡ join_rows on r.rows l.rows → IsAll (join_stream on r l) a
  all_after e n h = subst (λ b. IsAll (if b then by_rows (join_rows on r.rows) l else silent) a) (sym e) (record { goes_on = n; rows = h })

  pub over_after : r.ended ≡ true → l.ended ≡ true → a ≡ join_rows on r.rows l.rows → IsOver (join_stream on r l) a
  over_after e n h = subst (λ b. IsOver (if b then by_rows (join_rows on r.rows) l else silent) a) (sym e) (record { ended = n; rows = h })

  -- for callers: what `Wants Left` says of both sides
  pub left_goes_on : r.ended ≡ true → IsAll (join_stream on r l) a → (l.ended ≡ false) × (a ≡ join_rows on r.rows l.rows)
  left_goes_on e h =
      let k : IsAll (by_rows (join_rows on r.rows) l) a = subst (λ b. IsAll (if b then by_rows (join_rows on r.rows) l else silent) a) e h in
      (k.goes_on, k.rows)

-- ---- steps

module _ (on : List Pair) (j : Joining) (l r : Stream) (a : List Line) (g : Gives on j l r a) where
  nothing : r.ended ≡ false → a ++ j.pending ≡ []
  nothing e = g.rows ∙ ap (join_rows on r.rows) (g.none_before e) ∙ join_nil on r.rows

  pub right_open : j.right_ended ≡ false → (r.ended ≡ false) × IsAll (join_stream on r l) a × Gives on (with_pending j []) l r a
  right_open e =
      let n : r.ended ≡ false = sym g.right_told ∙ e in
      let empty : a ≡ [] = no_front a j.pending (nothing n) in (
        n,
        all_before on l r a n empty,
        record {
          left_columns = g.left_columns;
          right_columns = g.right_columns;
          left_told = g.left_told;
          right_told = g.right_told;
          none_before = g.none_before;
          table = g.table;
          rows = append-nil a ∙ empty ∙ sym (nothing n) ∙ g.rows;
        },
      )

  so_far : j.pending ≡ [] → a ≡ join_rows on r.rows l.rows
  so_far e = sym (append-nil a) ∙ ap (λ x. a ++ x) (sym e) ∙ g.rows

  -- with other pending rows that make the same of what was answered
  repending : (b rows : List Line) → b ++ rows ≡ a ++ j.pending → Gives on (with_pending j rows) l r b
  repending b rows e = record {
    left_columns = g.left_columns;
    right_columns = g.right_columns;
    left_told = g.left_told;
    right_told = g.right_told;
    none_before = g.none_before;
    table = g.table;
    rows = e ∙ g.rows;
  }

  pub row_given : (row : Line) (rest : List Line) → j.pending ≡ row ∷ rest → Gives on (with_pending j rest) l r (a ++ row ∷ [])
  row_given row rest p = repending (a ++ row ∷ []) rest (append_assoc a (row ∷ []) rest ∙ ap (λ x. a ++ x) (sym p))

  met_rows : (row : Line) → beside row (met j.left_columns j.table row) ≡ flat_map (side_by_side on row) r.rows
  met_rows row = by (has_null (key_of (lefts on) row)) refl
    where
      by : (b : Bool) → has_null (key_of (lefts on) row) ≡ b → beside row (met j.left_columns j.table row) ≡ flat_map (side_by_side on row) r.rows
      by b e =
          ap (λ columns. beside row (met columns j.table row)) g.left_columns
          ∙ ap (λ c. beside row (if c then [] else bucket (key_of (lefts on) row) j.table)) e
          ∙ rest b e
          ∙ ap (λ c. beside row (if c then [] else filter (in_group (rights on) (key_of (lefts on) row)) r.rows)) (sym e)
          ∙ sym (met_is on row r.rows)
        where
          rest : (c : Bool) → has_null (key_of (lefts on) row) ≡ c → beside row (if c then [] else bucket (key_of (lefts on) row) j.table) ≡ beside row (if c then [] else filter (in_group (rights on) (key_of (lefts on) row)) r.rows)
          rest true e = refl
          rest false e = ap (beside row) (g.table (key_of (lefts on) row) e ∙ ap (λ columns. filter (in_group columns (key_of (lefts on) row)) r.rows) g.right_columns)

  pub left_given : (row : Line) (rows : List Line) → j.right_ended ≡ true → j.pending ≡ [] → rows ≡ beside row (met j.left_columns j.table row) → Gives on (with_pending j rows) (with_row l row) r a
  left_given row rows e p h = record {
    left_columns = g.left_columns;
    right_columns = g.right_columns;
    left_told = g.left_told;
    right_told = g.right_told;
    table = g.table;
    none_before = λ n. absurd (true≢false (sym e ∙ g.right_told ∙ n));
    rows = ap (λ x. x ++ rows) (so_far p) ∙ ap (λ x. join_rows on r.rows l.rows ++ x) (h ∙ met_rows row ∙ sym (one_joined on r.rows row)) ∙ sym (join_join on r.rows l.rows (row ∷ []));
  }

  pub right_given : (row : Line) (table : Buckets) → r.ended ≡ false → Keeps j.right_columns j.table table row
      → Gives on (record { left_columns = j.left_columns; right_columns = j.right_columns; table = table; pending = []; left_ended = j.left_ended; right_ended = j.right_ended; failed = j.failed }) l (with_row r row) a
  right_given row table e k =
      let none = g.none_before e in
      record {
        left_columns = g.left_columns;
        right_columns = g.right_columns;
        left_told = g.left_told;
        right_told = g.right_told;
        none_before = λ n. none;
        table = λ key n. k.buckets key n ∙ added (in_group j.right_columns key row) key n refl;
        rows = append-nil a ∙ no_front a j.pending (nothing e) ∙ sym (join_nil on (r.rows ++ row ∷ [])) ∙ ap (join_rows on (r.rows ++ row ∷ [])) (sym none);
      }
    where
      added : (b : Bool) (key : Line) → has_null key ≡ false → in_group j.right_columns key row ≡ b
          → (if b then bucket key j.table ++ row ∷ [] else bucket key j.table) ≡ filter (in_group j.right_columns key) (r.rows ++ row ∷ [])
      added b key n e =
          tail b ∙ (λ i. g.table key n i ++ cond (sym e i) (row ∷ []) [])
          ∙ sym (filter-append (in_group j.right_columns key) r.rows (row ∷ []))
        where
          tail : (c : Bool) → (if c then bucket key j.table ++ row ∷ [] else bucket key j.table) ≡ bucket key j.table ++ cond c (row ∷ []) []
          tail true = refl
          tail false = sym (append-nil (bucket key j.table))

  pub right_is_over : r.ended ≡ false → Gives on (record { left_columns = j.left_columns; right_columns = j.right_columns; table = j.table; pending = j.pending; left_ended = j.left_ended; right_ended = true; failed = j.failed }) l (at_its_end r) a
  right_is_over e = record {
    left_columns = g.left_columns;
    right_columns = g.right_columns;
    left_told = g.left_told;
    right_told = refl;
    table = g.table;
    none_before = λ n. absurd (true≢false n);
    rows = g.rows;
  }

  pub left_is_over : Gives on (record { left_columns = j.left_columns; right_columns = j.right_columns; table = j.table; pending = j.pending; left_ended = true; right_ended = j.right_ended; failed = j.failed }) (at_its_end l) r a
  left_is_over = record {
    left_columns = g.left_columns;
    right_columns = g.right_columns;
    left_told = refl;
    right_told = g.right_told;
    table = g.table;
    none_before = g.none_before;
    rows = g.rows;
  }

-- with no output row left, and the right side at its end, it wants a left row, or is at its end
pub none_left : (on : List Pair) (j : Joining) → j.right_ended ≡ true → j.pending ≡ [] → Answers on j (with_pending j []) (if j.left_ended then End else Wants Left)
none_left on j e p = by j.left_ended refl
  where
    by : (b : Bool) → j.left_ended ≡ b → Answers on j (with_pending j []) (if b then End else Wants Left)
    by true f = λ l r a g.
        let re : r.ended ≡ true = sym g.right_told ∙ e in
        let le : l.ended ≡ true = sym g.left_told ∙ f in
        (re, le, over_after on l r a re le (so_far on j l r a g p), repending on j l r a g a [] (ap (λ x. a ++ x) (sym p)))
    by false f = λ l r a g.
        let re : r.ended ≡ true = sym g.right_told ∙ e in
        let le : l.ended ≡ false = sym g.left_told ∙ f in
        (re, all_after on l r a re le (so_far on j l r a g p), repending on j l r a g a [] (ap (λ x. a ++ x) (sym p)))

-- ---- the table

pub row_kept : (columns : List ℕ) (old new : Buckets) (row : Line) → Puts old new (key_of columns row) row → Keeps columns old new row
row_kept columns old new row p = record {
  buckets = λ key n. p.buckets key ∙ ap (λ b. cond b (bucket key old ++ row ∷ []) (bucket key old)) (same_line-equiv.symm (key_of columns row) key);
  count = omega (arith, p.count);
}

-- one whose key has a null stands with no key that hasn't
pub row_dropped : (columns : List ℕ) (table : Buckets) (row : Line) → has_null (key_of columns row) ≡ true → Keeps columns table table row
row_dropped columns table row h = record {
  buckets = λ key n. by (in_group columns key row) key n refl;
  count = omega arith;
}
  where
    by : (b : Bool) (key : Line) → has_null key ≡ false → in_group columns key row ≡ b → bucket key table ≡ (if b then bucket key table ++ row ∷ [] else bucket key table)
    by true key n e = absurd (true≢false (sym h ∙ ap has_null (sym (same_line-is key (key_of columns row) e)) ∙ n))
    by false key n e = refl

pub all_kept : (columns : List ℕ) (old new : Buckets) (key row : Line) (result : Result (Unit {0}) AllocError) → key ≡ key_of columns row → OnOk result (Puts old new key row) → OnOk result (Keeps columns old new row)
all_kept columns old new key row (Ok u) e p = row_kept columns old new row (subst (λ k. Puts old new k row) e p)
all_kept columns old new key row (Err x) e p = tt

-- ---- rows given, by side

pub given_from : (side : Side) (i j new : Joining) (row : Line) → i ≡ j → ((on : List Pair) → Given side on i new row) → (on : List Pair) → Given side on j new row
given_from side i j new row e h on = subst (λ k. Given side on k new row) e (h on)

pub left_is_given : (side : Side) (j : Joining) (row : Line) (rows : List Line) → side ≡ Left → IsWanting side j → rows ≡ beside row (met j.left_columns j.table row)
    → (on : List Pair) → Given side on j (with_pending j rows) row
left_is_given Left j row rows e w h on = λ l r a n g. left_given on j l r a g row rows w.0 w.2 h
left_is_given Right j row rows e w h on = absurd (cc)

pub right_is_given : (side : Side) (j : Joining) (row : Line) (table : Buckets) → side ≡ Right → Keeps j.right_columns j.table table row → (on : List Pair)
    → Given side on j (record { left_columns = j.left_columns; right_columns = j.right_columns; table = table; pending = []; left_ended = j.left_ended; right_ended = j.right_ended; failed = j.failed }) row
right_is_given Right j row table e k on = λ l r a n g. right_given on j l r a g row table n k
right_is_given Left j row table e k on = absurd (cc)

rows_total : (t : Buckets) (at : ℕ) → length (rows_at t at) ≤ total t
rows_total [] at = omega arith
rows_total (e ∷ es) zero = omega arith
rows_total (e ∷ es) (suc at) = omega (arith, rows_total es at)

pub left_work : (side : Side) (j : Joining) (row : Line) (at : ℕ) → side ≡ Left → IsWanting side j → GivenWork side j (with_pending j (beside row (rows_at j.table at)))
left_work Left j row at e w = (omega (arith, length-map (rows_at j.table at) (λ right. row ++ right), rows_total j.table at), refl)
left_work Right j row at e w = absurd (cc)

pub work_from : (side : Side) (i j new : Joining) → i ≡ j → GivenWork side i new → GivenWork side j new
work_from side i j new e h = subst (λ k. GivenWork side k new) e h
