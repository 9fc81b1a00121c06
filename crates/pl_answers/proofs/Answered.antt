-- What the root gave goes on to an answer.
use Rattle.std.proofs.Common.{◌≡◌, ℕ, ◌-◌, ◌≤◌, ◌<◌, negsuc, true, List, [], ◌++◌, length, take, refl, sym, ap, ◌∙◌, subst, inl, inr, arith, append-nil}
use Rattle.std.specs.Prelude.{IsPermutation, min, nat_le, ◌⊎◌}
use Rattle.std.proofs.lemmas.List.{take-append-le, take_all}
use Rattle.ic_row.specs.declared.order.Key.{Key}
use Rattle.pl_tree.specs.Trees.{Tree, Limit}
use Rattle.pl_tree.specs.Loci.{locus_of}
use Rattle.pl_tree.specs.Orders.{order_of}
use Rattle.pl_plan.specs.Rules.{Given}
use Rattle.pl_plan.specs.Soundness.{IsSound}
use Rattle.pl_ops.specs.declared.loaded.Spread.{Spread}
use Rattle.pl_ops.specs.Rows.{Line as Row}
use Rattle.pl_ops.specs.Streams.{Stream, limit_stream}
use Rattle.pl_ops.specs.Merging.{sorts_before}
use Rattle.pl_mean.specs.Parts.{part}
use Rattle.pl_mean.specs.Logical.{logical, meaning}
use Rattle.pl_mean.specs.Answers.{AreAll, AreFirst, IsAnswer, IsLawful}
use Rattle.pl_parts.specs.Law.{AreLoaded, site_of, RootPartIsTheMeaning}
use Rattle.pl_parts.proofs.Bags.{shuffle, perm_from, ptrans}
use Rattle.pl_parts.proofs.Numbers.{or_cases, le_is, le_cases}
use Rattle.pl_answers.specs.Runs.{Taken, IsRun}
use Rattle.pl_answers.specs.Laws.{root_output, GoesOnTo}
use Rattle.pl_answers.proofs.Firsts.{perm_long}
use Rattle.pl_answers.proofs.InOrder.{IsTop}
use Rattle.pl_answers.proofs.Ordering.{is_sorted}
use Rattle.pl_answers.proofs.Nodes.{NoLimits, IsFine, StandsAt, fronts}
use Rattle.pl_answers.proofs.Tops.{Top, tops}
use Rattle.pl_answers.proofs.Growth.{take_none, take_beyond}
use Rattle.pl_answers.proofs.Rules.{LimitsStand, limits, is_fine, stands}

-- with more rows after them these rows are an answer, and without any if the stream has ended
record Going (p : Tree) (bag : List Row) (s : Stream) : Type 0 where
  rest : List Row
  answer : IsAnswer p bag (s.rows ++ rest)
  over : s.ended ≡ true → rest ≡ []

first_of : (keys : List Key) (n : ℕ) (bag rows : List Row) → IsTop (sorts_before keys) n bag rows → AreFirst keys n bag rows
first_of keys n bag rows t = record { left = t.left; permuted = t.bag; count = t.size; sorted = is_sorted keys rows t.ordered; first = t.top }

-- ---- under a limit

module _ (n : ℕ) (c : Tree) (bag : List Row) (s : Stream) (t : Top n (order_of c) s bag) where
  all : AreFirst (order_of c) n bag (take n (s.rows ++ t.rest))
  all = first_of (order_of c) n bag (take n (s.rows ++ t.rest)) t.first

  full : n ≤ length s.rows → Going (Limit n c) bag (limit_stream n s)
  full l = record {
    rest = [];
    answer = subst (AreFirst (order_of c) n bag) (take-append-le n s.rows t.rest l ∙ sym (append-nil (take n s.rows))) all;
    over = λ e. refl;
  }

  still : length s.rows < n → Going (Limit n c) bag (limit_stream n s)
  still g = record {
    rest = take (n - length s.rows) t.rest;
    answer = subst (AreFirst (order_of c) n bag) (take_beyond n s.rows t.rest (omega arith) ∙ ap (λ l. l ++ take (n - length s.rows) t.rest) (sym (take_all n s.rows (omega arith)))) all;
    over = λ e. by (or_cases s.ended (nat_le n (length s.rows)) e);
  }
    where
      by : (s.ended ≡ true) ⊎ (nat_le n (length s.rows) ≡ true) → take (n - length s.rows) t.rest ≡ []
      by (inl x) = ap (take (n - length s.rows)) (t.over x) ∙ take_none (n - length s.rows)
      by (inr y) = let q = le_is n (length s.rows) y in absurd (omega arith)

  limit_goes : Going (Limit n c) bag (limit_stream n s)
  limit_goes = by (le_cases n (length s.rows))
    where
      by : (n ≤ length s.rows) ⊎ (length s.rows < n) → Going (Limit n c) bag (limit_stream n s)
      by (inl l) = full l
      by (inr g) = still g

-- ---- the root

module _ (g : Given) (tables : List Spread) (taken : Taken) where
  whole_goes : (p : Tree) → IsFine g.schemas p → NoLimits p → StandsAt (locus_of g.schemas p) (negsuc 0) → IsRun (site_of g tables) taken 0 1 p (negsuc 0)
      → (rest : List Row) × AreAll (order_of p) (part (site_of g tables) p (negsuc 0)) ((root_output g tables p taken).rows ++ rest) × ((root_output g tables p taken).ended ≡ true → rest ≡ [])
  whole_goes p s u st r =
      let f = fronts (site_of g tables) taken 0 1 p (negsuc 0) s u st r in
      (f.rest, record { permuted = shuffle f.bag; sorted = is_sorted (order_of p) ((root_output g tables p taken).rows ++ f.rest) f.ordered }, f.over)

  goes : (p : Tree) → IsFine g.schemas p → LimitsStand g p → StandsAt (locus_of g.schemas p) (negsuc 0) → IsRun (site_of g tables) taken 0 1 p (negsuc 0) → Going p (part (site_of g tables) p (negsuc 0)) (root_output g tables p taken)
  goes (Limit n c) s u st r = limit_goes n c (part (site_of g tables) c (negsuc 0)) (root_output g tables c taken) (tops (site_of g tables) taken n 0 1 c 0 s u st r)
  goes p s u st r = let w = whole_goes p s u st r in record { rest = w.0; answer = w.1; over = w.2 }

-- an answer of another list of the same bag
moved : (p : Tree) (bag other rows : List Row) → IsPermutation bag other → IsAnswer p bag rows → IsAnswer p other rows
moved (Limit n c) bag other rows p t = record {
  left = t.left;
  permuted = shuffle (ptrans (perm_from (rows ++ t.left) bag t.permuted) (perm_from bag other p));
  count = t.count ∙ ap (min n) (perm_long (perm_from bag other p));
  sorted = t.sorted;
  first = t.first;
}
moved tree bag other rows p w = record { permuted = shuffle (ptrans (perm_from rows bag w.permuted) (perm_from bag other p)); sorted = w.sorted }

-- ---- the laws

module _ (means : RootPartIsTheMeaning) (g : Given) (wholes : List (List Row)) (tables : List Spread) (tree : Tree) (taken : Taken) (a : AreLoaded g wholes tables) (s : IsSound g tree) (r : IsRun (site_of g tables) taken 0 1 tree (negsuc 0)) where
  pub goes_on : GoesOnTo g wholes tree (root_output g tables tree taken)
  goes_on =
      let x = goes g tables taken tree (is_fine g tree s) (limits g tree s) (stands g tree 0 s) r in
      let t = root_output g tables tree taken in
      record { rest = x.rest; lawful = moved tree (part (site_of g tables) tree (negsuc 0)) (meaning g.schemas wholes (logical tree)) (t.rows ++ x.rest) (means g wholes tables tree a s) x.answer; over = x.over }

  pub lawful : (root_output g tables tree taken).ended ≡ true → IsLawful g.schemas wholes tree (root_output g tables tree taken).rows
  lawful e =
      let x = goes_on in
      let t = root_output g tables tree taken in
      subst (IsLawful g.schemas wholes tree) (ap (λ l. t.rows ++ l) (x.over e) ∙ append-nil t.rows) x.lawful
