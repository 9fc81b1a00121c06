-- Columns with and without a value, and keys in turn.
use Rattle.std.proofs.Common.{◌≡◌, ℕ, ◌≢◌, ◌+◌, ◌<◌, ◌≤◌, Bool, false, List, length, get_or, drop, refl, sym, ap, ◌∙◌, add-one, drop-cons}
use Rattle.std.proofs.Math.ListN.{drop_of_length-le}
use Rattle.std.specs.declared.cmp.Ordering.{Ordering}
use Rattle.std.specs.Ordering.{ordering_then}
use Rattle.ic_row.specs.declared.order.Key.{Key}
use Rattle.std.specs.declared.cmp.Ordering.TheVariants.{Less, Equal, Greater}
use Rattle.ic_row.specs.declared.value.Value.{Value}
use Rattle.ic_row.specs.declared.value.Value.TheVariants.{Null, Int, Wide, Chars}
use Rattle.ic_row.specs.Values.{is_null}
use Rattle.ic_row.specs.Order.{value_cmp, directed, column_cmp, key_cmp, compare_by}

pub null_after : (down : Bool) (b : Value) → is_null b ≡ false → column_cmp down Null b ≡ Greater
null_after down Null h = absurd cc
null_after down (Int n) h = refl
null_after down (Wide n) h = refl
null_after down (Chars t) h = refl

pub null_before : (down : Bool) (a : Value) → is_null a ≡ false → column_cmp down a Null ≡ Less
null_before down Null h = absurd cc
null_before down (Int n) h = refl
null_before down (Wide n) h = refl
null_before down (Chars t) h = refl

pub both_present : (down : Bool) (a b : Value) → is_null a ≡ false → is_null b ≡ false → column_cmp down a b ≡ directed down (value_cmp a b)
both_present down Null b p q = absurd cc
both_present down (Int n) Null p q = absurd cc
both_present down (Int n) (Int m) p q = refl
both_present down (Int n) (Wide m) p q = refl
both_present down (Int n) (Chars t) p q = refl
both_present down (Wide n) Null p q = absurd cc
both_present down (Wide n) (Int m) p q = refl
both_present down (Wide n) (Wide m) p q = refl
both_present down (Wide n) (Chars t) p q = refl
both_present down (Chars s) Null p q = absurd cc
both_present down (Chars s) (Int m) p q = refl
both_present down (Chars s) (Wide m) p q = refl
both_present down (Chars s) (Chars t) p q = refl

-- ---- keys in turn

-- the key at a place, and the keys after it
at_key : (keys : List Key) (a b : List Value) (i : ℕ) (k : Key) → i < length keys → compare_by (drop i keys) a b ≡ ordering_then (key_cmp (get_or keys i k) a b) (compare_by (drop (i + 1) keys) a b)
unfolding compare_by
at_key keys a b i k lt = rw (add-one, drop-cons keys i k) refl

pub passes : (keys : List Key) (a b : List Value) (i : ℕ) (k : Key) (total : Ordering) → i < length keys → key_cmp (get_or keys i k) a b ≡ Equal → total ≡ compare_by (drop i keys) a b → total ≡ compare_by (drop (i + 1) keys) a b
passes keys a b i k total lt equal so_far = so_far ∙ at_key keys a b i k lt ∙ ap (λ (o : Ordering). ordering_then o (compare_by (drop (i + 1) keys) a b)) equal

pub decides : (keys : List Key) (a b : List Value) (i : ℕ) (k : Key) (total : Ordering) → i < length keys → key_cmp (get_or keys i k) a b ≢ Equal → total ≡ compare_by (drop i keys) a b → key_cmp (get_or keys i k) a b ≡ total
decides keys a b i k total lt differs so_far = first (key_cmp (get_or keys i k) a b) (compare_by (drop (i + 1) keys) a b) differs ∙ sym (so_far ∙ at_key keys a b i k lt)
  where
    first : (o p : Ordering) → o ≢ Equal → o ≡ ordering_then o p
    first Less p h = refl
    first Equal p h = absurd (h refl)
    first Greater p h = refl

pub is_over : (keys : List Key) (a b : List Value) (i : ℕ) (total : Ordering) → length keys ≤ i → total ≡ compare_by (drop i keys) a b → Equal ≡ total
unfolding compare_by
is_over keys a b i total le so_far = sym (so_far ∙ ap (λ (l : List Key). compare_by l a b) (drop_of_length-le keys le))
