-- A map into which a key's position is put only if the key has none.
use Rattle.std.proofs.Common.{◌≡◌, ℕ, Bool, true, false, cond, Option, None, Some, is_some, refl, sym, ap, ◌∙◌, true≢false}
use Rattle.ic_base.specs.Keys.{key_eq}
use Rattle.ic_base.specs.declared.keys.ConnKey.{ConnKey}
use Rattle.ic_base.proofs.SameKeys.{key_eq-tells}
use Rattle.ic_conntab.proofs.EndsApart.{key_eq-flips}

-- if the key has a position, a key without one is another
pub none_stays : (found : ConnKey → Option ℕ) (key : ConnKey) (place : ℕ) → is_some (found key) ≡ true → (q : ConnKey) → found q ≡ None → found q ≡ cond (key_eq q key) (Some place) None
none_stays found key place there q none = none ∙ by (key_eq q key) refl
  where
    by : (b : Bool) → key_eq q key ≡ b → None ≡ cond (key_eq q key) (Some place) None
    by false e = sym (ap (λ b. cond b (Some place) None) e)
    by true e = absurd (true≢false (sym there ∙ ap is_some (ap found (sym (key_eq-tells q key e)) ∙ none)))

module _ (old new : ConnKey → Option ℕ) (key : ConnKey) (place : ℕ) (puts : (q : ConnKey) → new q ≡ cond (key_eq key q) (Some place) (old q)) where
  -- a key that has a place keeps it
  pub put_had : is_some (old key) ≡ false → (q : ConnKey) (at : ℕ) → old q ≡ Some at → new q ≡ Some at
  put_had absent q at had = puts q ∙ by (key_eq key q) refl
    where
      by : (b : Bool) → key_eq key q ≡ b → cond (key_eq key q) (Some place) (old q) ≡ Some at
      by false e = ap (λ b. cond b (Some place) (old q)) e ∙ had
      by true e = absurd (true≢false (ap is_some (sym had ∙ ap old (sym (key_eq-tells key q e))) ∙ absent))

  -- a key without a position gets this one if it is the key put
  pub put_had_not : (q : ConnKey) → old q ≡ None → new q ≡ cond (key_eq q key) (Some place) None
  put_had_not q none = puts q ∙ (λ i. cond (key_eq-flips key q i) (Some place) (none i))
