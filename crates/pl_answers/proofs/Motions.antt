-- What a receiver took of a motion is a front of what its senders can give.
use Rattle.std.proofs.Common.{◌≡◌, ℕ, suc, ◌+◌, ℤ, pos, Bool, true, false, List, [], ◌∷◌, ◌++◌, map, length, drop, Option, Some, None, refl, sym, ap, ◌∙◌, subst, inl, arith, append-nil, append_assoc, length-append, take-append-drop}
use Rattle.std.specs.Prelude.{flat_map}
use Rattle.std.specs.List.{AllByRecursion, list_all}
use Rattle.std.proofs.lemmas.List.{drop_all, nil_from_length}
use Rattle.std.proofs.lemmas.List.Elements.{filter-append}
use Rattle.ic_row.specs.declared.order.Key.{Key}
use Rattle.pl_tree.specs.declared.schema.Locus.{Locus}
use Rattle.pl_tree.specs.Orders.{keys_in}
use Rattle.pl_plan.specs.Motions.{gang_at}
use Rattle.pl_ops.specs.Rows.{Line as Row}
use Rattle.pl_ops.specs.Routing.{Route, ToAll, ToHashed, is_routed, routed}
use Rattle.pl_ops.specs.Streams.{Stream}
use Rattle.pl_mean.specs.Parts.{Site, Parts, routed_to, sent_by}
use Rattle.pl_ops.specs.Merging.{merged, merge_stream}
use Rattle.pl_answers.proofs.Gathers.{AreFronts}
use Rattle.pl_ops.specs.Merging.{sorts_before}
use Rattle.pl_mean.specs.Outputs.{Input, came_from, rows_in, stream_from, received}
use Rattle.pl_answers.specs.Growing.{AreFrom}
use Rattle.pl_answers.specs.Runs.{Carries}
use Rattle.pl_parts.proofs.Bags.{Perm, pnil, ptrans, alike, joins, filter_perm, filter-flat_map, perm_from}
use Rattle.pl_parts.proofs.Members.{In, All-from_in, All-in}
use Rattle.pl_answers.proofs.InOrder.{InOrder}
use Rattle.pl_answers.proofs.Firsts.{top_of, perm_long}
use Rattle.pl_answers.proofs.Gathers.{IsFirst, ordered_first, take_merged, merged_short}
use Rattle.pl_answers.proofs.Ordering.{irrefl, apart, trans, fewer_keys, order_weaker}
use Rattle.pl_answers.proofs.Fronts.{Front, in_no_order}
use Rattle.pl_answers.proofs.Shares.{Share, share_all, share_perm, nothing_left, all_came, gang_once}

-- ---- one connection

-- what was taken is a front of the rows of the sender's output that are routed to the receiver
pub record Heard (output : Stream) (rows took : List Row) (whole : Bool) : Type 0 where
  pub rest : List Row
  pub front : took ++ rest ≡ rows
  pub over : whole ≡ true → (output.ended ≡ true) × (rest ≡ [])

pub heard : (output : Stream) (rows : List Row) (i : Input) (a : ℤ) → Carries output rows i a → Heard output rows (came_from a i.took) (i.whole a)
heard output rows i a c = record {
  rest = c.untaken ++ c.unput;
  front = sym (append_assoc (came_from a i.took) c.untaken c.unput) ∙ ap (λ l. l ++ c.unput) c.takes ∙ c.puts;
  over = λ e. let x = c.whole e in let y = c.ends x.0 in (y.0, ap (λ l. l ++ c.unput) x.1 ∙ y.1);
}

-- of a routing that is row by row
pub routed_share : (r : List Row → List Row) → ((xs ys : List Row) → r (xs ++ ys) ≡ r xs ++ r ys) → (r [] ≡ []) → ((xs ys : List Row) → Perm xs ys → Perm (r xs) (r ys))
    → (n : ℕ) (keys : List Key) (output : Stream) (m took : List Row) (whole : Bool) → Front keys output m → Heard output (r output.rows) took whole → Share n took whole (r m)
routed_share r parts none moves n keys output m took whole f h = record {
  rest = h.rest ++ r f.rest;
  left = [];
  bag = ptrans (alike (ap (λ l. took ++ l) (append-nil (h.rest ++ r f.rest)) ∙ sym (append_assoc took h.rest (r f.rest)) ∙ ap (λ l. l ++ r f.rest) h.front ∙ sym (parts output.rows f.rest))) (moves (output.rows ++ f.rest) m f.bag);
  over = λ e. let a = h.over e in ap (λ l. l ++ r f.rest) a.1 ∙ ap r (f.over a.0) ∙ none;
  enough = inl refl;
}

-- ---- motions without an order

pub each_all : (P Q : ℤ → Type 0) (as' : List ℤ) → ((a : ℤ) → In a as' → P a → Q a) → AllByRecursion P as' → AllByRecursion Q as'
each_all P Q as' f h = All-from_in Q as' (λ a i. f a i (All-in P a as' h i))

pub mixed_share : (segments : ℕ) (l : Locus) (n : ℕ) (i : Input) (m : ℤ → List Row) → AreFrom (gang_at segments l) i.took → AllByRecursion (λ a. Share n (came_from a i.took) (i.whole a) (m a)) (gang_at segments l) → Share n (rows_in i.took) (list_all i.whole (gang_at segments l)) (flat_map m (gang_at segments l))
mixed_share segments l n i m known each =
    let gang = gang_at segments l in
    share_perm n (rows_in i.took) (flat_map (λ a. came_from a i.took) gang) (flat_map m gang) (flat_map m gang) (list_all i.whole gang)
    (all_came i.took gang (gang_once segments l) known) (alike refl)
    (share_all n (λ a. came_from a i.took) m i.whole gang each)

pub mixed_front : (gang : List ℤ) (i : Input) (m : List Row) → Share (suc (length m)) (rows_in i.took) (list_all i.whole gang) m → Front [] (received None gang i) m
mixed_front gang i m s = record {
  rest = s.rest;
  bag = ptrans (alike (ap (λ r. rows_in i.took ++ r) (sym (append-nil s.rest) ∙ ap (λ r. s.rest ++ r) (sym (nothing_left (rows_in i.took) m (list_all i.whole gang) s))))) s.bag;
  ordered = in_no_order (rows_in i.took ++ s.rest);
  over = s.over;
}

-- ---- merges

abbrev pub IsPrefix : List Key → List Key → Type 0
IsPrefix keys all = (rest : List Key) × (keys ++ rest ≡ all)

-- each sender's list in order: all of it, and the front that came
pub record Merges (keys : List Key) (i : Input) (as' : List ℤ) (m : ℤ → List Row) : Type 0 where
  pub lists : List (List Row)
  pub sorted : AllByRecursion (InOrder (sorts_before keys)) lists
  pub bag : Perm (flat_map (λ l. l) lists) (flat_map m as')
  pub fronts : AreFronts (map (stream_from i) as') lists

pub merge_one : (keys ck : List Key) (i : Input) (a : ℤ) (output : Stream) (m : List Row) → IsPrefix keys ck → Front ck output m → Heard output output.rows (came_from a i.took) (i.whole a)
    → (l : List Row) × InOrder (sorts_before keys) l × Perm l m × ((rest : List Row) × (l ≡ came_from a i.took ++ rest) × (i.whole a ≡ true → rest ≡ []))
merge_one keys ck i a output m p f h = (
  output.rows ++ f.rest,
  order_weaker (sorts_before ck) (sorts_before keys) (λ x y e. fewer_keys keys p.0 x y (subst (λ k. sorts_before k x y ≡ false) (sym p.1) e)) (output.rows ++ f.rest) f.ordered,
  f.bag,
  (h.rest ++ f.rest, ap (λ l. l ++ f.rest) (sym h.front) ∙ append_assoc (came_from a i.took) h.rest f.rest, λ e. let b = h.over e in ap (λ l. l ++ f.rest) b.1 ∙ f.over b.0),
)

pub merge_all : (keys ck : List Key) (i : Input) (output : ℤ → Stream) (m : ℤ → List Row) (as' : List ℤ) → IsPrefix keys ck → AllByRecursion (λ a. Front ck (output a) (m a) × Heard (output a) (output a).rows (came_from a i.took) (i.whole a)) as' → Merges keys i as' m
merge_all keys ck i output m [] p h = record { lists = []; sorted = tt; bag = pnil; fronts = tt }
merge_all keys ck i output m (a ∷ as') p h =
    let one = merge_one keys ck i a (output a) (m a) p h.0.0 h.0.1 in
    let more = merge_all keys ck i output m as' p h.1 in
    record { lists = one.0 ∷ more.lists; sorted = (one.1, more.sorted); bag = joins one.2 more.bag; fronts = (one.3, more.fronts) }

-- a merge goes on to all rows
module _ (keys : List Key) (ls : List (List Row)) (t : Stream) (f : IsFirst (sorts_before keys) ls t) where
  pub goes_on : (n : ℕ) → t.rows ++ drop f.many (merged (sorts_before keys) (f.many + n) ls) ≡ merged (sorts_before keys) (f.many + n) ls
  goes_on n = ap (λ l. l ++ drop f.many (merged (sorts_before keys) (f.many + n) ls)) (f.rows ∙ sym (take_merged (sorts_before keys) f.many (f.many + n) ls (omega arith))) ∙ take-append-drop f.many (merged (sorts_before keys) (f.many + n) ls)

  pub stops : (n : ℕ) → t.ended ≡ true → drop f.many (merged (sorts_before keys) (f.many + n) ls) ≡ []
  stops n e = ap (drop f.many) (f.ended e n) ∙ drop_all f.many (merged (sorts_before keys) f.many ls) (merged_short (sorts_before keys) f.many ls)

  pub merge_front : (m : List Row) → AllByRecursion (InOrder (sorts_before keys)) ls → Perm (flat_map (λ l. l) ls) m → Front keys t m
  merge_front m o p =
      let n = length (flat_map (λ l. l) ls) in
      let all = merged (sorts_before keys) (f.many + n) ls in
      let top = top_of (sorts_before keys) (irrefl keys) (apart keys) (trans keys) (f.many + n) ls o in
      let bag = perm_from (all ++ top.left) (flat_map (λ l. l) ls) top.bag in
      let long = perm_long bag in
      let none : top.left ≡ [] = nil_from_length top.left (omega (arith, top.size, length-append all top.left)) in
      record {
        rest = drop f.many all;
        bag = ptrans (alike (goes_on n ∙ sym (ap (λ l. all ++ l) none ∙ append-nil all))) (ptrans bag p);
        ordered = subst (InOrder (sorts_before keys)) (sym (goes_on n)) top.ordered;
        over = stops n;
      }

-- ---- gathers

pub sent_is : (w : Site) (l : Locus) (p : Parts) → flat_map p (gang_at w.segments l) ≡ sent_by w l p
unfolding sent_by
sent_is w l p = refl

module _ (w : Site) (i : Input) (b : ℤ) (l : Locus) (ck : List Key) (output : ℤ → Stream) (p : Parts) (R : ℤ → Type 0) (ih : (a : ℤ) → In a (gang_at w.segments l) → R a → Front ck (output a) (p a)) (known : AreFrom (gang_at w.segments l) i.took) where
  -- of a routing that is row by row
  front_by : (route : Route) (r : List Row → List Row) → ((xs ys : List Row) → r (xs ++ ys) ≡ r xs ++ r ys) → (r [] ≡ []) → ((xs ys : List Row) → Perm xs ys → Perm (r xs) (r ys)) → ((rows : List Row) → routed_to w route b rows ≡ r rows)
      → (all : List Row) → flat_map (λ a. r (p a)) (gang_at w.segments l) ≡ all → AllByRecursion (λ a. Carries (output a) (routed_to w route b (output a).rows) i a × R a) (gang_at w.segments l) → Front [] (received None (gang_at w.segments l) i) all
  front_by route r parts none moves is all e h =
      let gang = gang_at w.segments l in
      mixed_front gang i all (subst (Share (suc (length all)) (rows_in i.took) (list_all i.whole gang)) e
      (mixed_share w.segments l (suc (length all)) i (λ a. r (p a)) known (each_all (λ a. Carries (output a) (routed_to w route b (output a).rows) i a × R a) (λ a. Share (suc (length all)) (came_from a i.took) (i.whole a) (r (p a))) gang
      (λ a j c. routed_share r parts none moves (suc (length all)) ck (output a) (p a) (came_from a i.took) (i.whole a) (ih a j c.1) (subst (λ rows. Heard (output a) rows (came_from a i.took) (i.whole a)) (is (output a).rows) (heard (output a) (routed_to w route b (output a).rows) i a c.0))) h)))

  pub plain_front : AllByRecursion (λ a. Carries (output a) (routed_to w ToAll b (output a).rows) i a × R a) (gang_at w.segments l) → Front [] (received None (gang_at w.segments l) i) (sent_by w l p)
  plain_front h = front_by ToAll (λ r. r) (λ xs ys. refl) refl (λ xs ys q. q) (λ rows. refl) (sent_by w l p) (sent_is w l p) h

  merged_front : (keys : List Key) → IsPrefix keys ck → AllByRecursion (λ a. Carries (output a) (routed_to w ToAll b (output a).rows) i a × R a) (gang_at w.segments l) → Front keys (received (Some keys) (gang_at w.segments l) i) (sent_by w l p)
  merged_front keys pre h =
      let gang = gang_at w.segments l in
      let g = merge_all keys ck i output p gang pre (each_all (λ a. Carries (output a) (routed_to w ToAll b (output a).rows) i a × R a) (λ a. Front ck (output a) (p a) × Heard (output a) (output a).rows (came_from a i.took) (i.whole a)) gang (λ a j c. (ih a j c.1, heard (output a) (output a).rows i a c.0)) h) in
      let f = ordered_first (sorts_before keys) (suc (length i.took)) (map (stream_from i) gang) g.lists g.fronts in
      merge_front keys g.lists (merge_stream (sorts_before keys) (suc (length i.took)) (map (stream_from i) gang)) f (sent_by w l p) g.sorted (ptrans g.bag (alike (sent_is w l p)))

  pub gather_front : (o : Option (List Key)) → IsPrefix (keys_in o) ck → AllByRecursion (λ a. Carries (output a) (routed_to w ToAll b (output a).rows) i a × R a) (gang_at w.segments l) → Front (keys_in o) (received o (gang_at w.segments l) i) (sent_by w l p)
  gather_front None pre h = plain_front h
  gather_front (Some keys) pre h = merged_front keys pre h

-- ---- redistributes

hashed_parts : (ks : List ℕ) (n s : ℕ) (xs ys : List Row) → routed (ToHashed ks) n s (xs ++ ys) ≡ routed (ToHashed ks) n s xs ++ routed (ToHashed ks) n s ys
unfolding routed
hashed_parts ks n s xs ys = filter-append (is_routed (ToHashed ks) n s) xs ys

hashed_none : (ks : List ℕ) (n s : ℕ) → routed (ToHashed ks) n s [] ≡ []
unfolding routed
hashed_none ks n s = refl

hashed_moves : (ks : List ℕ) (n s : ℕ) (xs ys : List Row) → Perm xs ys → Perm (routed (ToHashed ks) n s xs) (routed (ToHashed ks) n s ys)
unfolding routed
hashed_moves ks n s xs ys q = filter_perm (is_routed (ToHashed ks) n s) q

hashed_sent : (w : Site) (l : Locus) (p : Parts) (ks : List ℕ) (s : ℕ) → flat_map (λ a. routed (ToHashed ks) w.segments s (p a)) (gang_at w.segments l) ≡ routed (ToHashed ks) w.segments s (sent_by w l p)
unfolding routed sent_by
hashed_sent w l p ks s = sym (filter-flat_map (is_routed (ToHashed ks) w.segments s) p (gang_at w.segments l))

pub hashed_front : (w : Site) (i : Input) (s : ℕ) (l : Locus) (ck : List Key) (ks : List ℕ) (output : ℤ → Stream) (p : Parts) (R : ℤ → Type 0) → ((a : ℤ) → In a (gang_at w.segments l) → R a → Front ck (output a) (p a)) → AreFrom (gang_at w.segments l) i.took
    → AllByRecursion (λ a. Carries (output a) (routed_to w (ToHashed ks) (pos s) (output a).rows) i a × R a) (gang_at w.segments l) → Front [] (received None (gang_at w.segments l) i) (routed (ToHashed ks) w.segments s (sent_by w l p))
hashed_front w i s l ck ks output p R ih known h =
    front_by w i (pos s) l ck output p R ih known (ToHashed ks) (routed (ToHashed ks) w.segments s) (hashed_parts ks w.segments s) (hashed_none ks w.segments s) (hashed_moves ks w.segments s) (λ rows. refl) (routed (ToHashed ks) w.segments s (sent_by w l p)) (hashed_sent w l p ks s) h
