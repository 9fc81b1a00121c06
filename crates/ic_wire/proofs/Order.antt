-- The order of copies.
use Rattle.std.proofs.Common.{◌≡◌, true, false, List, get_or, refl, sym, ap, ◌∙◌, subst, arith, inl, inr}
use Rattle.std.specs.declared.cmp.Ordering.{Ordering}
use Rattle.std.specs.declared.cmp.Ordering.TheVariants.{Less, Equal, Greater}
use Rattle.std.specs.Cmp.{IsTotalOrder, bool_cmp_total}
use Rattle.std.specs.Ordering.{ordering_reverse, is_lt}
use Rattle.std.specs.List.Sorted.{IsPartitionedBy}
use Rattle.std.proofs.lemmas.Bool.{cases_order}
use Rattle.std.proofs.lemmas.Cmp.{nat_cmp_total, on_total, then_total}
use Rattle.ic_wire.specs.declared.copies.CopyKey.{CopyKey}
use Rattle.ic_wire.specs.declared.copies.Kept.{Kept}
use Rattle.ic_wire.specs.Copies.{key_cmp, comes_before, IsUpTo, IsQueue}
use Rattle.ic_wire.proofs.Lists.{later_at}

key_total : IsTotalOrder key_cmp
key_total = then_total (on_total (λ (k : CopyKey). k.time) nat_cmp_total) (then_total (on_total (λ (k : CopyKey). k.number) nat_cmp_total) (on_total (λ (k : CopyKey). k.again) bool_cmp_total))

less_of : (o : Ordering) → is_lt o ≡ true → o ≡ Less
less_of Less h = refl
less_of Equal h = absurd cc
less_of Greater h = absurd cc

-- what comes before a key comes before what doesn't come before it
pub lesser : (a b k : CopyKey) → is_lt (key_cmp b a) ≡ false → is_lt (key_cmp b k) ≡ true → is_lt (key_cmp a k) ≡ true
lesser a b k up less = by_order (key_cmp a k) refl
  where
    by_order : (o : Ordering) → key_cmp a k ≡ o → is_lt (key_cmp a k) ≡ true
    by_order Less e = ap is_lt e
    by_order Equal e =
        let over : key_cmp k b ≡ Greater = key_total.antisymm k b ∙ ap ordering_reverse (less_of (key_cmp b k) less) in
        let under : key_cmp b a ≡ Less = key_total.antisymm b a ∙ ap ordering_reverse (key_total.congr a k b e ∙ over) in
        absurd (cc (up, ap is_lt under))
    by_order Greater e =
        let over : key_cmp k a ≡ Less = key_total.antisymm k a ∙ ap ordering_reverse e in
        absurd (cc (up, ap is_lt (key_total.trans b k a (less_of (key_cmp b k) less) over)))

-- the copies that come before a key come first
pub parted_at : (xs : List Kept) (key : CopyKey) → IsQueue xs → IsPartitionedBy (comes_before key) xs
parted_at xs key queue i j d le within passes =
    elim (cases_order i j) [
      | inl e ↦ subst (λ k. comes_before key (get_or xs k d) ≡ true) (sym e) passes
      | inr (inl lt) ↦ lesser (get_or xs i d).key (get_or xs j d).key key (later_at xs queue i j d lt within) passes
      | inr (inr gt) ↦ absurd (omega (arith, le, gt))
    ]

-- what comes before a copy is up to it
pub up_to : (a b : Kept) → comes_before b.key a ≡ true → IsUpTo a b
up_to a b less = ap is_lt (key_total.antisymm b.key a.key ∙ ap ordering_reverse (less_of (key_cmp a.key b.key) less))
