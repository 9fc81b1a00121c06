-- Keys that differ, as lists of them are built by hand.
use Rattle.std.proofs.Common.{◌≡◌, ◌==◌, ◌&&◌, false, [], ◌∷◌, ap, ◌∙◌}
use Rattle.std.proofs.Math.Bool.{and-false}
use Rattle.std.specs.Ordering.{int_eq}
use Rattle.std.specs.List.{IsDistinct}
use Rattle.ic_base.specs.Keys.{key_eq}
use Rattle.ic_base.specs.declared.keys.ConnKey.{ConnKey}

key_eq-motions : (a b : ConnKey) → (a.motion == b.motion) ≡ false → key_eq a b ≡ false
unfolding key_eq
key_eq-motions a b h =
    (λ i. (a.session == b.session) && ((a.query == b.query) && (h i && (int_eq a.from b.from && int_eq a.to b.to))))
    ∙ ap (λ x. (a.session == b.session) && x) (and-false (a.query == b.query)) ∙ and-false (a.session == b.session)

-- one key is distinct, and so are two of different motions
pub one_distinct : (a : ConnKey) → IsDistinct key_eq (a ∷ [])
unfolding IsDistinct
one_distinct a = (tt, tt)

pub two_distinct : (a b : ConnKey) → (a.motion == b.motion) ≡ false → IsDistinct key_eq (a ∷ b ∷ [])
unfolding IsDistinct
two_distinct a b h = ((key_eq-motions a b h, tt), (tt, tt))
