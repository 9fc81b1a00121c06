-- The test on two keys.
use Rattle.std.proofs.Common.{◌≡◌, ◌↔◌, Bool, true, false, IsTrue, refl, sym, ap, ◌∙◌}
use Rattle.ic_base.specs.declared.keys.ConnKey.{ConnKey}
use Rattle.ic_base.specs.Keys.{key_eq}
use Rattle.ic_base.proofs.SameKeys.{key_eq-same, key_eq-tells}

true_is : (s : Bool) → (s ≡ true → ⊥) → false ≡ s
true_is true h = absurd (h refl)
true_is false h = refl

pub not_same : (a b : ConnKey) → (a ≡ b → ⊥) → false ≡ key_eq a b
not_same a b differ = true_is (key_eq a b) (λ h. differ (key_eq-tells a b h))

same : (a b : ConnKey) → a ≡ b → true ≡ key_eq a b
same a b is = sym (ap (λ k. key_eq k b) is ∙ key_eq-same b)

pub decided : (a b : ConnKey) (r : Bool) → (IsTrue r ↔ (a ≡ b)) → r ≡ key_eq a b
decided a b true h = same a b (h.0 refl)
decided a b false h = not_same a b (λ is. let t = h.1 is in cc)
