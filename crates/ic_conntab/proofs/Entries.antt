-- Entries of a hash map, read as a finite map.
use Rattle.std.proofs.Common.{◌≡◌, ◌==◌, ℕ, cond, List, [], ◌∷◌, None, Some, refl, sym, ap, ◌∙◌}
use Rattle.std.specs.Cmp.{nat_cmp_total, unsigned_ties, eq_by_cmp_equiv}
use Rattle.std.specs.Ordering.{nat_cmp, eq_by_cmp}
use Rattle.std.specs.Map.{lookup}
use Rattle.std.specs.FinMap.{FinMap, find, get, insert, remove, from_entries, get-from_entries, get-insert, get-remove, same_map, nat_cmp-IsAntisymmetric}

tied : (k q : ℕ) → eq_by_cmp nat_cmp q k ≡ (k == q)
tied k q = (eq_by_cmp_equiv nat_cmp_total).symm q k ∙ sym (unsigned_ties k q)

module _ {X : Type 0} where
  find_entry : (es : List (ℕ × X)) (q : ℕ) → find nat_cmp q es ≡ lookup (λ k. q == k) es
  find_entry [] q = refl
  find_entry (e ∷ es) q = (λ i. cond (sym (unsigned_ties q e.0) i) (Some e.1) (find_entry es q i))

  -- what the map that the entries make has at a key
  pub get_entry : (es : List (ℕ × X)) (q : ℕ) → get (from_entries {R = nat_cmp} es) q ≡ lookup (λ k. q == k) es
  get_entry es q = get-from_entries nat_cmp_total es q ∙ find_entry es q

  -- entries that differ by one put key make maps that differ so
  pub one_put : (es fs : List (ℕ × X)) (k : ℕ) (v : X) → ((q : ℕ) → lookup (λ x. q == x) fs ≡ cond (k == q) (Some v) (lookup (λ x. q == x) es))
      → from_entries {R = nat_cmp} fs ≡ insert (from_entries es) k v
  one_put es fs k v h = same_map nat_cmp_total nat_cmp-IsAntisymmetric _ _ (λ q. get_entry fs q ∙ h q
      ∙ (λ i. cond (sym (tied k q) i) (Some v) (sym (get_entry es q) i)) ∙ sym (get-insert nat_cmp_total (from_entries es) k v q))

  -- and entries that differ by one removed key
  pub one_taken : (es fs : List (ℕ × X)) (k : ℕ) → ((q : ℕ) → lookup (λ x. q == x) fs ≡ cond (k == q) None (lookup (λ x. q == x) es))
      → from_entries {R = nat_cmp} fs ≡ remove (from_entries es) k
  one_taken es fs k h = same_map nat_cmp_total nat_cmp-IsAntisymmetric _ _ (λ q. get_entry fs q ∙ h q
      ∙ (λ i. cond (sym (tied k q) i) None (sym (get_entry es q) i)) ∙ sym (get-remove nat_cmp_total (from_entries es) k q))

  -- ---- what a map has after one key was put or removed

  pub get_put : (m : FinMap nat_cmp X) (k : ℕ) (v : X) (q : ℕ) → get (insert m k v) q ≡ cond (k == q) (Some v) (get m q)
  get_put m k v q = get-insert nat_cmp_total m k v q ∙ ap (λ b. cond b (Some v) (get m q)) (tied k q)

  pub get_taken : (m : FinMap nat_cmp X) (k q : ℕ) → get (remove m k) q ≡ cond (k == q) None (get m q)
  get_taken m k q = get-remove nat_cmp_total m k q ∙ ap (λ b. cond b None (get m q)) (tied k q)
