-- A call over a list of values: the list's order doesn't count.
use Rattle.std.specs.Prelude.{◌+ℤ◌}
use Rattle.std.proofs.Common.{◌≡◌, Bool, true, false, cond, pos, List, refl, sym, ap, ◌∙◌, arith, Ordering, Less, Equal, Greater, [], ◌∷◌, ◌++◌}
use Rattle.std.specs.Ordering.{is_lt, is_gt, flip_args, ordering_reverse}
use Rattle.std.specs.Cmp.{IsTotalOrder}
use Rattle.std.proofs.lemmas.Cmp.{back_total}
use Rattle.std.proofs.lemmas.Cmp as Cmp
use Rattle.std.proofs.lemmas.Int.{ints}
use Rattle.ic_row.specs.declared.value.Value.{Value}
use Rattle.ic_row.specs.declared.value.Value.TheVariants.{Null, Int, Wide}
use Rattle.ic_row.specs.Values.{is_null}
use Rattle.ic_row.specs.Order.{value_cmp}
use Rattle.ic_row.proofs.TotalLemmas.{value_cmp_total, value_cmp_same}
use Rattle.pl_tree.specs.declared.node.Call.{Call}
use Rattle.pl_tree.specs.declared.node.Call.TheVariants.{Count, CountOf, Sum, Min, Max}
use Rattle.pl_ops.specs.Groups.{number_in, absent_or, joined_value, value_of_none, over}
use Rattle.pl_parts.proofs.Bags.{Perm, pnil, pcons, pswap, ptrans}

abbrev add_counts : Value → Value → Value
add_counts a b = Int (number_in a +ℤ number_in b)

abbrev add_sums : Value → Value → Value
add_sums a b = Wide (number_in a +ℤ number_in b)

abbrev lesser : (Value → Value → Ordering) → Value → Value → Value
lesser R a b = cond (is_lt (R b a)) b a

record IsAdding (f : Value → Value → Value) (e : Value) : Type 0 where
  assoc : (a b c : Value) → f (f a b) c ≡ f a (f b c)
  comm : (a b : Value) → f a b ≡ f b a
  unit : (a b : Value) → f e (f a b) ≡ f a b
  itself : f e e ≡ e

module _ (f : Value → Value → Value) (assoc : (a b c : Value) → f (f a b) c ≡ f a (f b c)) (comm : (a b : Value) → f a b ≡ f b a) (keeps : (a b : Value) → is_null a ≡ false → is_null b ≡ false → is_null (f a b) ≡ false) where
  right_null : (v : Value) → absent_or f v Null ≡ v
  right_null Null = refl
  right_null _ = refl

  present : (v c : Value) → is_null v ≡ false → is_null c ≡ false → absent_or f v c ≡ f v c
  present Null c h k = absurd (cc)
  present v Null h k = absurd (cc)
  present v c h k = refl

  absent_assoc : (a b c : Value) → absent_or f (absent_or f a b) c ≡ absent_or f a (absent_or f b c)
  absent_assoc Null b c = refl
  absent_assoc a Null c = refl
  absent_assoc a b Null = right_null (f a b)
  absent_assoc a b c = present (f a b) c (keeps a b refl refl) refl ∙ assoc a b c ∙ sym (present a (f b c) refl (keeps b c refl refl))

  absent_comm : (a b : Value) → absent_or f a b ≡ absent_or f b a
  absent_comm Null b = sym (right_null b)
  absent_comm a Null = right_null a
  absent_comm a b = comm a b

  absent_adding : IsAdding (absent_or f) Null
  absent_adding = record { assoc = absent_assoc; comm = absent_comm; unit = λ a b. refl; itself = refl }

reversed : (o : Ordering) → is_lt (ordering_reverse o) ≡ is_gt o
reversed Less = refl
reversed Equal = refl
reversed Greater = refl

module _ (R : Value → Value → Ordering) (o : IsTotalOrder R) (equal : (a b : Value) → R a b ≡ Equal → a ≡ b) where
  flips : (a b : Value) → is_lt (R a b) ≡ is_gt (R b a)
  flips a b = ap is_lt (o.antisymm a b) ∙ reversed (R b a)

  both_ways : (a b : Value) (p q : Ordering) → R b a ≡ p → R a b ≡ q → p ≡ ordering_reverse q → cond (is_lt p) b a ≡ cond (is_lt q) a b
  both_ways a b Less Less e f h = absurd (cc)
  both_ways a b Less Equal e f h = absurd (cc)
  both_ways a b Less Greater e f h = refl
  both_ways a b Equal Less e f h = absurd (cc)
  both_ways a b Equal Equal e f h = equal a b f
  both_ways a b Equal Greater e f h = absurd (cc)
  both_ways a b Greater Less e f h = refl
  both_ways a b Greater Equal e f h = absurd (cc)
  both_ways a b Greater Greater e f h = absurd (cc)

  lesser_comm : (a b : Value) → lesser R a b ≡ lesser R b a
  lesser_comm a b = both_ways a b (R b a) (R a b) refl refl (o.antisymm b a)

  less_is : (a b : Value) → is_lt (R a b) ≡ true → R a b ≡ Less
  less_is a b = by (R a b)
    where
      by : (r : Ordering) → is_lt r ≡ true → r ≡ Less
      by Less h = refl
      by Equal h = absurd (cc)
      by Greater h = absurd (cc)

  lt_trans : (a b c : Value) → is_lt (R a b) ≡ true → is_lt (R b c) ≡ true → is_lt (R a c) ≡ true
  lt_trans a b c h k = ap is_lt (o.trans a b c (less_is a b h) (less_is b c k))

  not_lt_trans : (a b c : Value) → is_lt (R b a) ≡ false → is_lt (R c b) ≡ false → is_lt (R c a) ≡ false
  not_lt_trans a b c h k = flips c a ∙ Cmp.upto o a b c (sym (flips b a) ∙ h) (sym (flips c b) ∙ k)

  lesser_assoc : (a b c : Value) → lesser R (lesser R a b) c ≡ lesser R a (lesser R b c)
  lesser_assoc a b c = by (is_lt (R b a)) (is_lt (R c b)) refl refl
    where
      by : (p q : Bool) → is_lt (R b a) ≡ p → is_lt (R c b) ≡ q → lesser R (cond p b a) c ≡ lesser R a (cond q c b)
      by true true e f = ap (λ (t : Bool). cond t c b) f ∙ sym (ap (λ (t : Bool). cond t c a) (lt_trans c b a f e))
      by true false e f = ap (λ (t : Bool). cond t c b) f ∙ sym (ap (λ (t : Bool). cond t b a) e)
      by false true e f = refl
      by false false e f = ap (λ (t : Bool). cond t c a) (not_lt_trans a b c e f) ∙ sym (ap (λ (t : Bool). cond t b a) e)

  lesser_keeps : (a b : Value) → is_null a ≡ false → is_null b ≡ false → is_null (lesser R a b) ≡ false
  lesser_keeps a b h k = by (is_lt (R b a))
    where
      by : (t : Bool) → is_null (cond t b a) ≡ false
      by true = k
      by false = h

  lesser_adding : IsAdding (absent_or (lesser R)) Null
  lesser_adding = absent_adding (lesser R) lesser_assoc lesser_comm lesser_keeps

counts_adding : IsAdding add_counts (Int (pos 0))
counts_adding = record {
  assoc = λ a b c. ap Int (omega (arith, ints));
  comm = λ a b. ap Int (omega (arith, ints));
  unit = λ a b. ap Int (omega (arith, ints));
  itself = refl;
}

sums_adding : IsAdding (absent_or add_sums) Null
sums_adding = absent_adding add_sums (λ a b c. ap Wide (omega (arith, ints))) (λ a b. ap Wide (omega (arith, ints))) (λ a b h k. refl)

adding : (call : Call) → IsAdding (joined_value call) (value_of_none call)
unfolding joined_value value_of_none
adding Count = counts_adding
adding (CountOf c) = counts_adding
adding (Sum c) = sums_adding
adding (Min c) = lesser_adding value_cmp value_cmp_total value_cmp_same
adding (Max c) = lesser_adding (flip_args value_cmp) (back_total value_cmp_total) (λ a b h. sym (value_cmp_same b a h))

module _ (call : Call) where
  pub over-append : (xs ys : List Value) → over call (xs ++ ys) ≡ joined_value call (over call xs) (over call ys)
  over-append [] [] = sym (adding call).itself
  over-append [] (y ∷ ys) = sym ((adding call).unit y (over call ys))
  over-append (x ∷ xs) ys = ap (joined_value call x) (over-append xs ys) ∙ sym ((adding call).assoc x (over call xs) (over call ys))

  pub over-one : (vs : List Value) → over call (over call vs ∷ []) ≡ over call vs
  over-one [] = (adding call).itself
  over-one (v ∷ vs) = (adding call).comm (over call (v ∷ vs)) (value_of_none call) ∙ (adding call).unit v (over call vs)

  pub over-perm : {xs ys : List Value} → Perm xs ys → over call xs ≡ over call ys
  over-perm pnil = refl
  over-perm (pcons x p) = ap (joined_value call x) (over-perm p)
  over-perm (pswap x y zs) = sym ((adding call).assoc x y (over call zs)) ∙ ap (λ v. joined_value call v (over call zs)) ((adding call).comm x y) ∙ (adding call).assoc y x (over call zs)
  over-perm (ptrans p q) = over-perm p ∙ over-perm q

  -- one value more, taken at the end
  pub over_more : (vs : List Value) (v : Value) → over call (vs ++ v ∷ []) ≡ joined_value call (over call vs) v
  over_more [] v = (adding call).comm v (value_of_none call)
  over_more (x ∷ vs) v = ap (joined_value call x) (over_more vs v) ∙ sym ((adding call).assoc x (over call vs) v)
