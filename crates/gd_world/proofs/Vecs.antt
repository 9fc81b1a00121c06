-- A vector in which an element is written over itself.
use Rattle.std.proofs.Common.{◌≡◌, ℕ, List, length, set, Some, Ok, Err, Result, OnErr, Vec, ap, sym, ◌∙◌, subst, slice_get}
use Rattle.std.specs.Vec.{with_item}
use lib.ListN.{length-set}
use native.Mathlib.Nat.{ℕ_set}
use Rattle.gd_world.proofs.Places.{set_same}

module _ {X Z : Type 0} (v : Vec X Z) where
  written : (xs : List X) → v.items ≡ xs → (p : v.len ≡ length xs) → record { ptr = v.ptr; len = v.len; cap = v.cap; alloc = v.alloc; items = xs; ok = (p, v.ok.1); small = v.small } ≡ v
  written xs same =
      subst (λ ys. (p : v.len ≡ length ys) → record { ptr = v.ptr; len = v.len; cap = v.cap; alloc = v.alloc; items = ys; ok = (p, v.ok.1); small = v.small } ≡ v) same
      (λ p. ap (λ (q : v.len ≡ length v.items). record { ptr = v.ptr; len = v.len; cap = v.cap; alloc = v.alloc; items = v.items; ok = (q, v.ok.1); small = v.small }) (ℕ_set v.len (length v.items) p v.ok.0))

  pub with_same : (k : ℕ) (x : X) → slice_get v.items k ≡ Some x → with_item v k x ≡ v
  with_same k x at = written (set v.items k x) (sym (set_same v.items k x at)) (v.ok.0 ∙ sym (length-set v.items k x))

-- of an error that comes by another one
pub error_by : {X : Type 0} {E : Type 0} (r : Result X E) (P : Type 0) → P → OnErr r P
error_by (Ok x) P p = tt
error_by (Err e) P p = p
