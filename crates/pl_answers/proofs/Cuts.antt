-- A limit at the segments, and projects over it.
use Rattle.std.proofs.Common.{◌≡◌, ℕ, ◌-◌, ◌≤◌, ◌<◌, ℤ, Bool, true, List, [], ◌++◌, length, take, drop, refl, sym, ap, ◌∙◌, subst, inl, inr, ⊎_elim, arith, append-nil, append_assoc, length-append, length-take, take-append-drop}
use Rattle.std.specs.Prelude.{◌⊎◌, nat_le}
use Rattle.std.proofs.lemmas.List.{take_all, drop_all, length-map}
use Rattle.ic_row.specs.declared.order.Key.{Key}
use Rattle.ic_row.specs.Values.{key_of}
use Rattle.pl_tree.specs.Trees.{Tree, Project, Limit}
use Rattle.pl_tree.specs.Loci.{locus_of}
use Rattle.pl_tree.specs.Orders.{kept_order, order_of}
use Rattle.pl_ops.specs.Rows.{Line as Row, project_rows}
use Rattle.pl_ops.specs.Streams.{Stream, by_rows, limit_stream}
use Rattle.pl_mean.specs.Parts.{Site, part}
use Rattle.pl_ops.specs.Merging.{sorts_before}
use Rattle.pl_mean.specs.Outputs.{out}
use Rattle.pl_answers.specs.Runs.{Taken, by_worker, IsRun}
use Rattle.pl_parts.proofs.Bags.{Perm, ptrans, alike}
use Rattle.pl_answers.proofs.InOrder.{InOrder}
use Rattle.pl_parts.proofs.Numbers.{or_cases, le_is, le_cases}
use Rattle.pl_answers.proofs.Ordering.{project_map, order_project}
use Rattle.pl_answers.proofs.Fronts.{Front, project_join, project_bag, project_nil}
use Rattle.pl_answers.proofs.Shares.{Share}
use Rattle.pl_answers.proofs.Motions.{Heard}
use Rattle.pl_answers.proofs.Nodes.{NoLimits, IsFine, StandsAt, moved_stands, fronts}

-- a limit of no fewer than n rows, and projects over it
abbrev pub UnderGather : ℕ → Tree → Type 0
UnderGather n (Project cols c) = UnderGather n c
UnderGather n (Limit m c) = (n ≤ m) × NoLimits c
UnderGather n p = NoLimits p

abbrev no_rows : List Row
no_rows = []

-- s may still be given `rest`, and `left` was cut off behind it, where there are no fewer than n rows
pub record Cut (n : ℕ) (keys : List Key) (s : Stream) (m : List Row) : Type 0 where
  pub rest : List Row
  pub left : List Row
  pub bag : Perm (s.rows ++ (rest ++ left)) m
  pub ordered : InOrder (sorts_before keys) (s.rows ++ (rest ++ left))
  pub over : s.ended ≡ true → rest ≡ []
  pub enough : (left ≡ []) ⊎ (n ≤ length (s.rows ++ rest))

front_cut : (n : ℕ) (keys : List Key) (s : Stream) (m : List Row) → Front keys s m → Cut n keys s m
front_cut n keys s m f =
    let e : s.rows ++ f.rest ≡ s.rows ++ (f.rest ++ []) = ap (λ l. s.rows ++ l) (sym (append-nil f.rest)) in
    record { rest = f.rest; left = []; bag = ptrans (alike (sym e)) f.bag; ordered = subst (InOrder (sorts_before keys)) e f.ordered; over = f.over; enough = inl refl }

pub project_long : (cols : List ℕ) (xs : List Row) → length (project_rows cols xs) ≡ length xs
project_long cols xs = ap length (project_map cols xs) ∙ length-map xs (key_of cols)

project_cut : (n : ℕ) (cols : List ℕ) (keys : List Key) (s : Stream) (m : List Row) → Cut n keys s m → Cut n (kept_order cols keys) (by_rows (project_rows cols) s) (project_rows cols m)
project_cut n cols keys s m c =
    let f = project_rows cols in
    let e : f (s.rows ++ (c.rest ++ c.left)) ≡ f s.rows ++ (f c.rest ++ f c.left) = project_join cols s.rows (c.rest ++ c.left) ∙ ap (λ l. f s.rows ++ l) (project_join cols c.rest c.left) in
    record {
      rest = f c.rest;
      left = f c.left;
      bag = ptrans (alike (sym e)) (project_bag cols (s.rows ++ (c.rest ++ c.left)) m c.bag);
      ordered = subst (InOrder (sorts_before (kept_order cols keys))) e (order_project cols keys (s.rows ++ (c.rest ++ c.left)) c.ordered);
      over = λ h. ap f (c.over h) ∙ project_nil cols;
      enough = ⊎_elim (λ h. inl (ap f h ∙ project_nil cols)) (λ h. inr (let p = project_long cols (s.rows ++ c.rest) in let q = ap length (project_join cols s.rows c.rest) in omega (arith, p, q))) c.enough;
    }

take_none : (d : ℕ) → take d no_rows ≡ no_rows
take_none d = take_all d no_rows (omega arith)

module _ (n m : ℕ) (keys : List Key) (s : Stream) (all : List Row) (h : n ≤ m) (f : Front keys s all) where
  limit_full : m ≤ length s.rows → Cut n keys (limit_stream m s) all
  limit_full l =
      let e : s.rows ++ f.rest ≡ take m s.rows ++ ([] ++ (drop m s.rows ++ f.rest)) = ap (λ x. x ++ f.rest) (sym (take-append-drop m s.rows)) ∙ append_assoc (take m s.rows) (drop m s.rows) f.rest in
      record {
        rest = [];
        left = drop m s.rows ++ f.rest;
        bag = ptrans (alike (sym e)) f.bag;
        ordered = subst (InOrder (sorts_before keys)) e f.ordered;
        over = λ q. refl;
        enough = inr (let a = length-append (take m s.rows) [] in let b = length-take m s.rows in omega (arith, a, b));
      }

  limit_open : length s.rows < m → Cut n keys (limit_stream m s) all
  limit_open g =
      let d = m - length s.rows in
      let t : take m s.rows ≡ s.rows = take_all m s.rows (omega arith) in
      let e : s.rows ++ f.rest ≡ take m s.rows ++ (take d f.rest ++ drop d f.rest) = ap (λ x. x ++ f.rest) (sym t) ∙ ap (λ x. take m s.rows ++ x) (sym (take-append-drop d f.rest)) in
      record {
        rest = take d f.rest;
        left = drop d f.rest;
        bag = ptrans (alike (sym e)) f.bag;
        ordered = subst (InOrder (sorts_before keys)) e f.ordered;
        over = λ q. over (or_cases s.ended (nat_le m (length s.rows)) q);
        enough = by (le_cases d (length f.rest));
      }
    where
      over : (s.ended ≡ true) ⊎ (nat_le m (length s.rows) ≡ true) → take (m - length s.rows) f.rest ≡ []
      over (inl x) = ap (take (m - length s.rows)) (f.over x) ∙ take_none (m - length s.rows)
      over (inr y) = let q = le_is m (length s.rows) y in absurd (omega arith)

      by : (m - length s.rows ≤ length f.rest) ⊎ (length f.rest < m - length s.rows) → (drop (m - length s.rows) f.rest ≡ []) ⊎ (n ≤ length (take m s.rows ++ take (m - length s.rows) f.rest))
      by (inl l) = inr (let a = length-append (take m s.rows) (take (m - length s.rows) f.rest) in let b = length-take m s.rows in let c = length-take (m - length s.rows) f.rest in omega (arith, a, b, c))
      by (inr l) = inl (drop_all (m - length s.rows) f.rest (omega arith))

  limit_cut : Cut n keys (limit_stream m s) all
  limit_cut = ⊎_elim limit_full limit_open (le_cases m (length s.rows))

module _ (w : Site) (taken : Taken) where
  pub cuts : (n v k : ℕ) (p : Tree) (a : ℤ) → IsFine w.schemas p → UnderGather n p → StandsAt (locus_of w.schemas p) a → IsRun w taken v k p a → Cut n (order_of p) (out w (by_worker taken v a) k p a) (part w p a)
  cuts n v k (Project cols c) a s u st r = project_cut n cols (order_of c) (out w (by_worker taken v a) k c a) (part w c a) (cuts n v k c a s u (moved_stands cols (locus_of w.schemas c) a st) r)
  cuts n v k (Limit m c) a s u st r = limit_cut n m (order_of c) (out w (by_worker taken v a) k c a) (part w c a) u.0 (fronts w taken v k c a s u.1 st r)
  cuts n v k p a s u st r = front_cut n (order_of p) (out w (by_worker taken v a) k p a) (part w p a) (fronts w taken v k p a s u st r)

-- ---- one connection

pub cut_share : (n : ℕ) (keys : List Key) (output : Stream) (m took : List Row) (whole : Bool) → Cut n keys output m → Heard output output.rows took whole → Share n took whole m
cut_share n keys output m took whole c h =
    let e : took ++ (h.rest ++ c.rest) ≡ output.rows ++ c.rest = sym (append_assoc took h.rest c.rest) ∙ ap (λ l. l ++ c.rest) h.front in
    record {
      rest = h.rest ++ c.rest;
      left = c.left;
      bag = ptrans (alike (sym (append_assoc took (h.rest ++ c.rest) c.left) ∙ ap (λ l. l ++ c.left) e ∙ append_assoc output.rows c.rest c.left)) c.bag;
      over = λ q. let a = h.over q in ap (λ l. l ++ c.rest) a.1 ∙ c.over a.0;
      enough = ⊎_elim inl (λ q. inr (subst (λ l. n ≤ length l) (sym e) q)) c.enough;
    }
