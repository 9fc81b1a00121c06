-- What a node without limits gave is a front of all that it can give; once it has ended it is all.
use Rattle.std.proofs.Common.{◌≡◌, ℕ, Bool, true, false, cond, List, [], ◌++◌, refl, sym, ap, ◌∙◌, subst, append-nil}
use Rattle.std.specs.Prelude.{flat_map}
use Rattle.std.proofs.lemmas.List.{map-append}
use Rattle.std.proofs.lemmas.List.Concat.{flat_map-append}
use Rattle.std.proofs.lemmas.List.Elements.{filter-append}
use Rattle.ic_row.specs.declared.order.Key.{Key}
use Rattle.ic_row.specs.Values.{key_of}
use Rattle.pl_expr.specs.declared.expr.Expr.{Expr}
use Rattle.pl_expr.specs.Holding.{keeps}
use Rattle.pl_tree.specs.declared.node.Pair.{Pair}
use Rattle.pl_tree.specs.Orders.{kept_order}
use Rattle.pl_ops.specs.Rows.{Line as Row, filter_rows, project_rows, side_by_side, join_rows, sort_rows}
use Rattle.pl_ops.specs.Streams.{Stream, silent, by_rows, at_end, join_stream}
use Rattle.pl_ops.specs.Merging.{sorts_before}
use Rattle.pl_parts.proofs.Bags.{Perm, ptrans, itself, alike, flat, flat_all, filter_perm}
use Rattle.pl_parts.proofs.Members.{map_perm}
use Rattle.pl_answers.proofs.InOrder.{InOrder}
use Rattle.pl_answers.proofs.Ordering.{none_before, order_none, order_filter, order_project}
use Rattle.pl_answers.proofs.Sorting.{sort_moves, sort_orders}

-- s may still be given `rest`; both together are the bag, in order
pub record Front (keys : List Key) (s : Stream) (m : List Row) : Type 0 where
  pub rest : List Row
  pub bag : Perm (s.rows ++ rest) m
  pub ordered : InOrder (sorts_before keys) (s.rows ++ rest)
  pub over : s.ended ≡ true → rest ≡ []

pub all_given : (keys : List Key) (s : Stream) (m : List Row) → Front keys s m → s.ended ≡ true → Perm s.rows m
all_given keys s m f e = ptrans (alike (sym (ap (λ l. s.rows ++ l) (f.over e) ∙ append-nil s.rows))) f.bag

pub in_no_order : (xs : List Row) → InOrder (sorts_before []) xs
in_no_order xs = order_none (sorts_before []) none_before xs

pub whole_front : (s : Stream) → Front [] s s.rows
whole_front s = record { rest = []; bag = alike (append-nil s.rows); ordered = in_no_order (s.rows ++ []); over = λ e. refl }

-- ---- row by row

pub filter_join : (test : Expr) (xs ys : List Row) → filter_rows test (xs ++ ys) ≡ filter_rows test xs ++ filter_rows test ys
unfolding filter_rows
filter_join test xs ys = filter-append (keeps test) xs ys

filter_bag : (test : Expr) (xs ys : List Row) → Perm xs ys → Perm (filter_rows test xs) (filter_rows test ys)
unfolding filter_rows
filter_bag test xs ys p = filter_perm (keeps test) p

pub filter_nil : (test : Expr) → filter_rows test [] ≡ []
unfolding filter_rows
filter_nil test = refl

filter_order : (test : Expr) (keys : List Key) (xs : List Row) → InOrder (sorts_before keys) xs → InOrder (sorts_before keys) (filter_rows test xs)
unfolding filter_rows
filter_order test keys xs h = order_filter (sorts_before keys) (keeps test) xs h

pub filter_front : (test : Expr) (keys : List Key) (s : Stream) (m : List Row) → Front keys s m → Front keys (by_rows (filter_rows test) s) (filter_rows test m)
filter_front test keys s m f = record {
  rest = filter_rows test f.rest;
  bag = ptrans (alike (sym (filter_join test s.rows f.rest))) (filter_bag test (s.rows ++ f.rest) m f.bag);
  ordered = subst (InOrder (sorts_before keys)) (filter_join test s.rows f.rest) (filter_order test keys (s.rows ++ f.rest) f.ordered);
  over = λ e. ap (filter_rows test) (f.over e) ∙ filter_nil test;
}

pub project_join : (cols : List ℕ) (xs ys : List Row) → project_rows cols (xs ++ ys) ≡ project_rows cols xs ++ project_rows cols ys
unfolding project_rows
project_join cols xs ys = map-append (key_of cols) xs ys

pub project_bag : (cols : List ℕ) (xs ys : List Row) → Perm xs ys → Perm (project_rows cols xs) (project_rows cols ys)
unfolding project_rows
project_bag cols xs ys p = map_perm (key_of cols) p

pub project_nil : (cols : List ℕ) → project_rows cols [] ≡ []
unfolding project_rows
project_nil cols = refl

pub project_front : (cols : List ℕ) (keys : List Key) (s : Stream) (m : List Row) → Front keys s m → Front (kept_order cols keys) (by_rows (project_rows cols) s) (project_rows cols m)
project_front cols keys s m f = record {
  rest = project_rows cols f.rest;
  bag = ptrans (alike (sym (project_join cols s.rows f.rest))) (project_bag cols (s.rows ++ f.rest) m f.bag);
  ordered = subst (InOrder (sorts_before (kept_order cols keys))) (project_join cols s.rows f.rest) (order_project cols keys (s.rows ++ f.rest) f.ordered);
  over = λ e. ap (project_rows cols) (f.over e) ∙ project_nil cols;
}

-- ---- at the end of the input

pub at_end_front : (f : List Row → List Row) (keys more : List Key) (s : Stream) (m all : List Row) → ((xs : List Row) → InOrder (sorts_before keys) (f xs)) → ((xs : List Row) → Perm xs m → Perm (f xs) all) → Perm (f m) all → Front more s m → Front keys (at_end f s) all
at_end_front f keys more s m all o p q h = by s.ended refl
  where
    by : (b : Bool) → s.ended ≡ b → Front keys (cond b (record { rows = f s.rows; ended = true }) silent) all
    by true e = record {
      rest = [];
      bag = ptrans (alike (append-nil (f s.rows))) (p s.rows (all_given more s m h e));
      ordered = subst (InOrder (sorts_before keys)) (sym (append-nil (f s.rows))) (o s.rows);
      over = λ e'. refl;
    }
    by false e = record { rest = f m; bag = q; ordered = o m; over = λ e'. absurd (cc) }

pub sort_front : (keys more : List Key) (s : Stream) (m : List Row) → Front more s m → Front keys (at_end (sort_rows keys) s) m
sort_front keys more s m h = at_end_front (sort_rows keys) keys more s m m (sort_orders keys) (λ xs p. ptrans (sort_moves keys xs) p) (sort_moves keys m) h

-- of an aggregate
pub bag_front : (f : List Row → List Row) (more : List Key) (s : Stream) (m : List Row) → ((xs ys : List Row) → Perm xs ys → Perm (f xs) (f ys)) → Front more s m → Front [] (at_end f s) (f m)
bag_front f more s m p h = at_end_front f [] more s m (f m) (λ xs. in_no_order (f xs)) (λ xs q. p xs m q) (itself (f m)) h

-- ---- joins

join_bag : (on : List Pair) (r r' l l' : List Row) → Perm r r' → Perm l l' → Perm (join_rows on r l) (join_rows on r' l')
unfolding join_rows
join_bag on r r' l l' p q = ptrans (flat (λ x. flat_map (side_by_side on x) r) q) (flat_all (λ x. flat_map (side_by_side on x) r) (λ x. flat_map (side_by_side on x) r') (λ x. flat (side_by_side on x) p) l')

pub join_join : (on : List Pair) (right xs ys : List Row) → join_rows on right (xs ++ ys) ≡ join_rows on right xs ++ join_rows on right ys
unfolding join_rows
join_join on right xs ys = flat_map-append (λ l. flat_map (side_by_side on l) right) xs ys

pub join_nil : (on : List Pair) (right : List Row) → join_rows on right [] ≡ []
unfolding join_rows
join_nil on right = refl

pub join_front : (on : List Pair) (kr kl : List Key) (r l : Stream) (mr ml : List Row) → Front kr r mr → Front kl l ml → Front [] (join_stream on r l) (join_rows on mr ml)
join_front on kr kl r l mr ml fr fl = by r.ended refl
  where
    by : (b : Bool) → r.ended ≡ b → Front [] (cond b (by_rows (join_rows on r.rows) l) silent) (join_rows on mr ml)
    by true e = record {
      rest = join_rows on r.rows fl.rest;
      bag = ptrans (alike (sym (join_join on r.rows l.rows fl.rest))) (join_bag on r.rows mr (l.rows ++ fl.rest) ml (all_given kr r mr fr e) fl.bag);
      ordered = in_no_order (join_rows on r.rows l.rows ++ join_rows on r.rows fl.rest);
      over = λ e'. ap (join_rows on r.rows) (fl.over e') ∙ join_nil on r.rows;
    }
    by false e = record { rest = join_rows on mr ml; bag = itself (join_rows on mr ml); ordered = in_no_order (join_rows on mr ml); over = λ e'. absurd (cc) }
