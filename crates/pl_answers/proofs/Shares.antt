-- What came from all senders of a motion, of what came from each.
use Rattle.std.proofs.Common.{◌≡◌, ℕ, zero, suc, ◌+◌, ◌≤◌, ◌<◌, ℤ, pos, Bool, true, cond, List, [], ◌∷◌, ◌++◌, length, refl, sym, ap, ◌∙◌, subst, inl, inr, ⊎_elim, arith, append_assoc, length-append}
use Rattle.std.specs.Prelude.{◌⊎◌, ◌&&◌, flat_map, Contains, slice_index_or}
use Rattle.std.specs.Ordering.{int_eq}
use Rattle.std.specs.List.{AllByRecursion, list_all}
use Rattle.pl_tree.specs.declared.schema.Locus.{Locus}
use Rattle.pl_tree.specs.declared.schema.Locus.TheVariants.{Entry, Hashed, Replicated, Strewn}
use Rattle.pl_plan.specs.Motions.{segments_from, gang_at}
use Rattle.pl_ops.specs.Rows.{Line as Row}
use Rattle.pl_mean.specs.Outputs.{Came, came_from, rows_in}
use Rattle.pl_parts.proofs.Bags.{Perm, pnil, pcons, ptrans, alike, back, behind, before, joins, exchanged, middle}
use Rattle.pl_parts.proofs.Members.{In, NoTwice}
use Rattle.pl_parts.proofs.Numbers.{both_true, int_same, int_other}
use Rattle.pl_answers.proofs.Firsts.{perm_long}

-- `rest` may still come, and `left` was cut off where there are no fewer than n rows
pub record Share (n : ℕ) (rows : List Row) (whole : Bool) (m : List Row) : Type 0 where
  pub rest : List Row
  pub left : List Row
  pub bag : Perm (rows ++ (rest ++ left)) m
  pub over : whole ≡ true → rest ≡ []
  pub enough : (left ≡ []) ⊎ (n ≤ length (rows ++ rest))

four : (a b c d : List Row) → Perm ((a ++ b) ++ (c ++ d)) ((a ++ c) ++ (b ++ d))
four a b c d = ptrans (alike (append_assoc a b (c ++ d))) (ptrans (behind a (exchanged b c d)) (alike (sym (append_assoc a c (b ++ d)))))

share_none : (n : ℕ) → Share n [] true []
share_none n = record { rest = []; left = []; bag = pnil; over = λ e. refl; enough = inl refl }

share_both : (n : ℕ) (a b m k : List Row) (v w : Bool) → Share n a v m → Share n b w k → Share n (a ++ b) (v && w) (m ++ k)
share_both n a b m k v w s t = record {
  rest = s.rest ++ t.rest;
  left = s.left ++ t.left;
  bag = ptrans (behind (a ++ b) (four s.rest t.rest s.left t.left)) (ptrans (four a b (s.rest ++ s.left) (t.rest ++ t.left)) (joins s.bag t.bag));
  over = λ e. let q = both_true v w e in ap (λ l. l ++ t.rest) (s.over q.0) ∙ t.over q.1;
  enough = by s.enough t.enough;
}
  where
    long : length ((a ++ b) ++ (s.rest ++ t.rest)) ≡ length (a ++ s.rest) + length (b ++ t.rest)
    long = perm_long (four a b s.rest t.rest) ∙ length-append (a ++ s.rest) (b ++ t.rest)

    by : (s.left ≡ []) ⊎ (n ≤ length (a ++ s.rest)) → (t.left ≡ []) ⊎ (n ≤ length (b ++ t.rest)) → (s.left ++ t.left ≡ []) ⊎ (n ≤ length ((a ++ b) ++ (s.rest ++ t.rest)))
    by (inl e) (inl f) = inl (ap (λ l. l ++ t.left) e ∙ f)
    by (inr h) y = inr (omega (arith, long))
    by (inl e) (inr h) = inr (omega (arith, long))

pub share_all : (n : ℕ) (came m : ℤ → List Row) (whole : ℤ → Bool) (as' : List ℤ) → AllByRecursion (λ a. Share n (came a) (whole a) (m a)) as' → Share n (flat_map came as') (list_all whole as') (flat_map m as')
share_all n came m whole [] h = share_none n
share_all n came m whole (a ∷ as') h = share_both n (came a) (flat_map came as') (m a) (flat_map m as') (whole a) (list_all whole as') h.0 (share_all n came m whole as' h.1)

pub share_perm : (n : ℕ) (xs ys m k : List Row) (w : Bool) → Perm xs ys → Perm m k → Share n ys w m → Share n xs w k
share_perm n xs ys m k w p q s = record {
  rest = s.rest;
  left = s.left;
  bag = ptrans (before (s.rest ++ s.left) p) (ptrans s.bag q);
  over = s.over;
  enough = ⊎_elim inl (λ h. inr (let e = perm_long p in omega (arith, length-append xs s.rest, length-append ys s.rest))) s.enough;
}

-- nothing was cut off where more rows are asked for than there are
pub nothing_left : (rows m : List Row) (w : Bool) → (s : Share (suc (length m)) rows w m) → s.left ≡ []
nothing_left rows m w s = ⊎_elim (λ e. e) (λ h. absurd (let e = perm_long s.bag in omega (arith, length-append rows (s.rest ++ s.left), length-append s.rest s.left, length-append rows s.rest))) s.enough

-- ---- rows in the order of the takes

pub contains_in : (xs : List ℤ) (x : ℤ) → Contains xs x → In x xs
contains_in xs x h = by xs h.0 h.1 h.2
  where
    by : (ys : List ℤ) (k : ℕ) → k < length ys → slice_index_or ys k x ≡ x → In x ys
    by [] k l e = absurd (omega arith)
    by (y ∷ ys) zero l e = inl (sym e)
    by (y ∷ ys) (suc k) l e = inr (by ys k (omega arith) e)

not_from : (c : Came) (cs : List Came) (as' : List ℤ) → (In c.from as' → ⊥) → flat_map (λ a. came_from a (c ∷ cs)) as' ≡ flat_map (λ a. came_from a cs) as'
not_from c cs [] h = refl
not_from c cs (a ∷ as') h =
    ap (λ l. l ++ flat_map (λ b. came_from b (c ∷ cs)) as') (ap (λ b. cond b (c.row ∷ came_from a cs) (came_from a cs)) (int_other c.from a (λ e. h (inl (sym e)))))
    ∙ ap (λ l. came_from a cs ++ l) (not_from c cs as' (λ i. h (inr i)))

from_one : (c : Came) (cs : List Came) (as' : List ℤ) → NoTwice as' → In c.from as' → Perm (c.row ∷ flat_map (λ a. came_from a cs) as') (flat_map (λ a. came_from a (c ∷ cs)) as')
from_one c cs [] t h = absurd h
from_one c cs (a ∷ as') t (inl e) =
    let same : came_from a (c ∷ cs) ≡ c.row ∷ came_from a cs = ap (λ b. cond b (c.row ∷ came_from a cs) (came_from a cs)) (subst (λ x. int_eq c.from x ≡ true) e (int_same c.from)) in
    alike (sym (ap (λ l. l ++ flat_map (λ b. came_from b (c ∷ cs)) as') same ∙ ap (λ l. (c.row ∷ came_from a cs) ++ l) (not_from c cs as' (λ i. t.0 (subst (λ x. In x as') e i)))))
from_one c cs (a ∷ as') t (inr i) =
    let other : came_from a (c ∷ cs) ≡ came_from a cs = ap (λ b. cond b (c.row ∷ came_from a cs) (came_from a cs)) (int_other c.from a (λ e. t.0 (subst (λ x. In x as') (sym e) i))) in
    ptrans (back (middle (came_from a cs) c.row (flat_map (λ b. came_from b cs) as')))
    (ptrans (behind (came_from a cs) (from_one c cs as' t.1 i)) (alike (ap (λ l. l ++ flat_map (λ b. came_from b (c ∷ cs)) as') (sym other))))

pub all_came : (cs : List Came) (as' : List ℤ) → NoTwice as' → AllByRecursion (λ c. Contains as' c.from) cs → Perm (rows_in cs) (flat_map (λ a. came_from a cs) as')
all_came [] as' t h = alike (sym (none as'))
  where
    none : (bs : List ℤ) → flat_map (λ a. came_from a []) bs ≡ []
    none [] = refl
    none (b ∷ bs) = none bs
all_came (c ∷ cs) as' t h = ptrans (pcons c.row (all_came cs as' t h.1)) (from_one c cs as' t (contains_in as' c.from h.0))

-- ---- gangs

numbers_high : (first n : ℕ) (a : ℤ) → In a (segments_from first n) → (k : ℕ) × (a ≡ pos k) × (first ≤ k)
numbers_high first zero a i = absurd i
numbers_high first (suc n) a (inl e) = (first, e, omega arith)
numbers_high first (suc n) a (inr i) = let h = numbers_high (suc first) n a i in (h.0, h.1, omega (arith, h.2))

numbers_once : (first n : ℕ) → NoTwice (segments_from first n)
numbers_once first zero = tt
numbers_once first (suc n) = ((λ i. let h = numbers_high (suc first) n (pos first) i in let e : pos first ≡ pos h.0 = h.1 in let q : first ≡ h.0 = cc in omega (arith, h.2, q)), numbers_once (suc first) n)

pub gang_once : (segments : ℕ) (l : Locus) → NoTwice (gang_at segments l)
gang_once n Replicated = numbers_once 0 1
gang_once n Entry = numbers_once 0 n
gang_once n (Hashed a) = numbers_once 0 n
gang_once n Strewn = numbers_once 0 n

pub gang_segments : (segments : ℕ) (l : Locus) (a : ℤ) → In a (gang_at segments l) → (s : ℕ) × (a ≡ pos s)
gang_segments n Replicated a i = let h = numbers_high 0 1 a i in (h.0, h.1)
gang_segments n Entry a i = let h = numbers_high 0 n a i in (h.0, h.1)
gang_segments n (Hashed b) a i = let h = numbers_high 0 n a i in (h.0, h.1)
gang_segments n Strewn a i = let h = numbers_high 0 n a i in (h.0, h.1)
