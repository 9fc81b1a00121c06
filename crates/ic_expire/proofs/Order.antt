-- The order of items.
use Rattle.std.proofs.Common.{◌≡◌, ◌≢◌, ℕ, ◌<◌, ◌≤◌, true, false, refl, ap, ◌∙◌, arith}
use Rattle.std.specs.declared.cmp.Ordering.{Ordering}
use Rattle.std.specs.declared.cmp.Ordering.TheVariants.{Less, Equal, Greater}
use Rattle.std.specs.Cmp.{IsTotalOrder}
use Rattle.std.specs.Ordering.{nat_cmp, ordering_then, ordering_reverse, is_lt}
use Rattle.std.proofs.lemmas.Cmp.{nat_cmp_total, on_total, then_total, ranked}
use Rattle.ic_expire.specs.declared.item.Item.{Item}
use Rattle.ic_expire.specs.Items.{item_cmp, IsBefore, packet_of, AreOthers}

pub item_total : IsTotalOrder item_cmp
item_total = then_total (on_total (λ (x : Item). x.due) nat_cmp_total) (then_total (on_total (λ (x : Item). x.conn) nat_cmp_total) (on_total (λ (x : Item). x.seq) nat_cmp_total))

-- ---- an order by one number and then by others

then_less : (o p : Ordering) → ordering_then o p ≡ Less → o ≢ Greater
then_less Less p h = λ e. absurd cc
then_less Equal p h = λ e. absurd cc
then_less Greater p h = absurd cc

then_equal : (o p : Ordering) → ordering_then o p ≡ Equal → (o ≡ Equal) × (p ≡ Equal)
then_equal Less p h = absurd cc
then_equal Equal p h = (refl, h)
then_equal Greater p h = absurd cc

not_greater : (a b : ℕ) → nat_cmp a b ≢ Greater → a ≤ b
not_greater a b h = by_order (nat_cmp a b) (ranked a b (nat_cmp a b) refl) h
  where
    by_order : (o : Ordering) → Rattle.std.specs.Ordering.MatchOrdering o (a < b) (a ≡ b) (b < a) → o ≢ Greater → a ≤ b
    by_order Less r h = omega (arith, r)
    by_order Equal r h = omega (arith, r)
    by_order Greater r h = absurd (h refl)

equal_numbers : (a b : ℕ) → nat_cmp a b ≡ Equal → a ≡ b
equal_numbers a b h = by_order (nat_cmp a b) (ranked a b (nat_cmp a b) refl) h
  where
    by_order : (o : Ordering) → Rattle.std.specs.Ordering.MatchOrdering o (a < b) (a ≡ b) (b < a) → o ≡ Equal → a ≡ b
    by_order Less r h = absurd cc
    by_order Equal r h = r
    by_order Greater r h = absurd cc

-- ---- items

-- what is before isn't due later
pub before_due : (a b : Item) → IsBefore a b → a.due ≤ b.due
before_due a b h = not_greater a.due b.due (then_less (nat_cmp a.due b.due) _ h)

pub equal_packets : (a b : Item) → item_cmp a b ≡ Equal → packet_of a ≡ packet_of b
equal_packets a b h =
    let rest = (then_equal (nat_cmp a.due b.due) _ h).1 in
    let conns = then_equal (nat_cmp a.conn b.conn) _ rest in
    let conn : a.conn ≡ b.conn = equal_numbers a.conn b.conn conns.0 in
    let seq : a.seq ≡ b.seq = equal_numbers a.seq b.seq conns.1 in
    cc

less_of : (o : Ordering) → is_lt o ≡ true → o ≡ Less
less_of Less h = refl
less_of Equal h = absurd cc
less_of Greater h = absurd cc

pub is_before_true : (a b : Item) → is_lt (item_cmp a b) ≡ true → IsBefore a b
is_before_true a b h = less_of (item_cmp a b) h

pub is_before_from : (a b : Item) → IsBefore a b → is_lt (item_cmp a b) ≡ true
is_before_from a b h = ap is_lt h

-- of two items about two packets one is before the other
pub is_before_false : (a b : Item) → AreOthers a b → is_lt (item_cmp a b) ≡ false → IsBefore b a
is_before_false a b others h = item_total.antisymm b a ∙ by_order (item_cmp a b) (λ e. others (equal_packets a b e)) h
  where
    by_order : (o : Ordering) → o ≢ Equal → is_lt o ≡ false → ordering_reverse o ≡ Less
    by_order Less ne h = absurd cc
    by_order Equal ne h = absurd (ne refl)
    by_order Greater ne h = refl

pub before_before : (a b c : Item) → IsBefore a b → IsBefore b c → IsBefore a c
before_before = item_total.trans
