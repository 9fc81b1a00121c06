-- What an operator gives of a front of its input is a front of what it gives of the whole.
use Rattle.std.proofs.Common.{◌≡◌, ℕ, zero, suc, ◌+◌, ◌-◌, ◌≤◌, ◌<◌, Bool, true, false, cond, List, [], ◌∷◌, ◌++◌, map, length, take, refl, sym, ap, ◌∙◌, subst, inl, inr, arith, append-nil, append_assoc, length-append}
use Rattle.std.specs.Prelude.{flat_map, filter, nat_le, ◌||◌, ◌⊎◌}
use Rattle.std.proofs.lemmas.List.{take-append-le, take_all}
use Rattle.std.proofs.lemmas.List.Concat.{flat_map-append}
use Rattle.std.proofs.lemmas.List.Elements.{filter-append}
use Rattle.std.proofs.lemmas.Bool.Decides.{nat_tests}
use Rattle.ic_motion.proofs.Lists.{map_append}
use Rattle.ic_row.specs.Values.{key_of}
use Rattle.pl_expr.specs.declared.expr.Expr.{Expr}
use Rattle.pl_expr.specs.Holding.{keeps}
use Rattle.pl_tree.specs.declared.node.Pair.{Pair}
use Rattle.pl_ops.specs.Rows.{Line, filter_rows, project_rows, join_rows, sort_rows}
use Rattle.pl_ops.specs.Groups.{aggregate_rows, final_rows}
use Rattle.pl_ops.specs.Streams.{Stream, silent, by_rows, at_end, limit_stream, join_stream}
use Rattle.ex_join.proofs.Steps.{join_join, join_nil}
use Rattle.ex_agg.specs.Aggs as aggs
use Rattle.ex_tree.specs.Parts.{Single, Filters, Projects, Limits, Sorts, Groups, Blank, nothing, one_stream}

abbrev pub Begins : List Line → List Line → Type 0
Begins a b = (rest : List Line) × (b ≡ a ++ rest)

pub begins_on : (a b c : List Line) → Begins a b → Begins b c → Begins a c
begins_on a b c f g = (f.0 ++ g.0, g.1 ∙ ap (λ l. l ++ g.0) f.1 ∙ append_assoc a f.0 g.0)

-- what was given is a front of what is given now, and what had ended is all of it
pub record IsFront (old new : Stream) : Type 0 where
  pub rest : List Line
  pub longer : new.rows ≡ old.rows ++ rest
  pub ended : old.ended ≡ true → (new.ended ≡ true) × (rest ≡ [])

or_cases : (a b : Bool) → (a || b) ≡ true → (a ≡ true) ⊎ (b ≡ true)
or_cases true b h = inl refl
or_cases false b h = inr h

pub le_is : (a b : ℕ) → nat_le a b ≡ true → a ≤ b
le_is a b h = grind (arith, nat_tests)

le_cases : (a b : ℕ) → (a ≤ b) ⊎ (b < a)
le_cases a b = grind arith

filter_join : (test : Expr) (xs ys : List Line) → filter_rows test (xs ++ ys) ≡ filter_rows test xs ++ filter_rows test ys
unfolding filter_rows
filter_join test xs ys = filter-append (keeps test) xs ys

filter_nil : (test : Expr) → filter_rows test [] ≡ []
unfolding filter_rows
filter_nil test = refl

project_join : (columns : List ℕ) (xs ys : List Line) → project_rows columns (xs ++ ys) ≡ project_rows columns xs ++ project_rows columns ys
unfolding project_rows
project_join columns xs ys = map_append (key_of columns) xs ys

project_nil : (columns : List ℕ) → project_rows columns [] ≡ []
unfolding project_rows
project_nil columns = refl

front_silent : (t : Stream) → IsFront silent t
front_silent t = record { rest = t.rows; longer = refl; ended = λ e. absurd (cc) }

rows_front : (f : List Line → List Line) → ((xs ys : List Line) → f (xs ++ ys) ≡ f xs ++ f ys) → (f [] ≡ []) → (s t : Stream) → IsFront s t → IsFront (by_rows f s) (by_rows f t)
rows_front f parts none s t h = record {
  rest = f h.rest;
  longer = ap f h.longer ∙ parts s.rows h.rest;
  ended = λ e. let x = h.ended e in (x.0, ap f x.1 ∙ none);
}

pub same_rows : (s t : Stream) → IsFront s t → s.ended ≡ true → t.rows ≡ s.rows
same_rows s t h e = h.longer ∙ ap (λ l. s.rows ++ l) (h.ended e).1 ∙ append-nil s.rows

-- nothing before the end
end_front : (f : List Line → List Line) (s t : Stream) → IsFront s t → IsFront (at_end f s) (at_end f t)
end_front f s t h = by s.ended refl
  where
    by : (b : Bool) → s.ended ≡ b → IsFront (cond b (record { rows = f s.rows; ended = true }) silent) (at_end f t)
    by true e = subst (λ c. IsFront (record { rows = f s.rows; ended = true }) (cond c (record { rows = f t.rows; ended = true }) silent)) (sym (h.ended e).0)
        (record { rest = []; longer = ap f (same_rows s t h e) ∙ sym (append-nil (f s.rows)); ended = λ _. (refl, refl) })
    by false e = front_silent (at_end f t)

pub join_front : (on : List Pair) (r r' l l' : Stream) → IsFront r r' → IsFront l l' → IsFront (join_stream on r l) (join_stream on r' l')
join_front on r r' l l' h k = by r.ended refl
  where
    by : (b : Bool) → r.ended ≡ b → IsFront (cond b (by_rows (join_rows on r.rows) l) silent) (join_stream on r' l')
    by true e = subst (λ c. IsFront (by_rows (join_rows on r.rows) l) (cond c (by_rows (join_rows on r'.rows) l') silent)) (sym (h.ended e).0)
        (subst (λ rows. IsFront (by_rows (join_rows on r.rows) l) (by_rows (join_rows on rows) l')) (sym (same_rows r r' h e)) (rows_front (join_rows on r.rows) (join_join on r.rows) (join_nil on r.rows) l l' k))
    by false e = front_silent (join_stream on r' l')

or_left : (a b : Bool) → a ≡ true → (a || b) ≡ true
or_left true b h = refl
or_left false b h = absurd (cc)

or_right : (a b : Bool) → b ≡ true → (a || b) ≡ true
or_right true b h = refl
or_right false b h = h

le_yes : (a b : ℕ) → a ≤ b → nat_le a b ≡ true
le_yes a b h = grind (arith, nat_tests)

abbrev no_rows : List Line
no_rows = []

take_none : (n : ℕ) → take n no_rows ≡ no_rows
take_none n = take_all n no_rows (omega arith)

take_beyond : (n : ℕ) (xs ys : List Line) → length xs ≤ n → take n (xs ++ ys) ≡ xs ++ take (n - length xs) ys
take_beyond n [] ys h = let e : n ≡ n - 0 = omega arith in ap (λ k. take k ys) e
take_beyond zero (x ∷ xs) ys h = absurd (omega arith)
take_beyond (suc n) (x ∷ xs) ys h = let e : n - length xs ≡ suc n - suc (length xs) = omega arith in ap (λ l. x ∷ l) (take_beyond n xs ys (omega arith) ∙ ap (λ k. xs ++ take k ys) e)

module _ (n : ℕ) (s t : Stream) (h : IsFront s t) where
  full : take n t.rows ≡ take n (s.rows ++ h.rest)
  full = ap (take n) h.longer

  limit_reached : n ≤ length s.rows → IsFront (limit_stream n s) (limit_stream n t)
  limit_reached l = record {
    rest = [];
    longer = full ∙ take-append-le n s.rows h.rest l ∙ sym (append-nil (take n s.rows));
    ended = λ e. (or_right t.ended (nat_le n (length t.rows)) (le_yes n (length t.rows) (let q = ap length h.longer in omega (arith, length-append s.rows h.rest))), refl);
  }

  limit_open : length s.rows < n → IsFront (limit_stream n s) (limit_stream n t)
  limit_open g = record {
    rest = take (n - length s.rows) h.rest;
    longer = full ∙ take_beyond n s.rows h.rest (omega arith) ∙ ap (λ l. l ++ take (n - length s.rows) h.rest) (sym (take_all n s.rows (omega arith)));
    ended = λ e. over (or_cases s.ended (nat_le n (length s.rows)) e);
  }
    where
      over : (s.ended ≡ true) ⊎ (nat_le n (length s.rows) ≡ true) → ((t.ended || nat_le n (length t.rows)) ≡ true) × (take (n - length s.rows) h.rest ≡ [])
      over (inl x) = (or_left t.ended (nat_le n (length t.rows)) (h.ended x).0, ap (take (n - length s.rows)) (h.ended x).1 ∙ take_none (n - length s.rows))
      over (inr y) = let q = le_is n (length s.rows) y in absurd (omega arith)

limit_front : (n : ℕ) (s t : Stream) → IsFront s t → IsFront (limit_stream n s) (limit_stream n t)
limit_front n s t h = by (le_cases n (length s.rows))
  where
    by : (n ≤ length s.rows) ⊎ (length s.rows < n) → IsFront (limit_stream n s) (limit_stream n t)
    by (inl l) = limit_reached n s t h l
    by (inr g) = limit_open n s t h g

group_front : (final : Bool) (group : List ℕ) (calls : _) (s t : Stream) → IsFront s t → IsFront (aggs.out final group calls s) (aggs.out final group calls t)
group_front true group calls s t h = end_front (final_rows group calls) s t h
group_front false group calls s t h = end_front (aggregate_rows group calls) s t h

pub single_front : (p : Single) (s t : Stream) → IsFront s t → IsFront (one_stream p s) (one_stream p t)
single_front (Filters test) s t h = rows_front (filter_rows test) (filter_join test) (filter_nil test) s t h
single_front (Projects columns) s t h = rows_front (project_rows columns) (project_join columns) (project_nil columns) s t h
single_front (Limits n) s t h = limit_front n s t h
single_front (Sorts keys) s t h = end_front (sort_rows keys) s t h
single_front (Groups node final group calls) s t h = group_front final group calls s t h
single_front Blank s t h = end_front nothing s t h
