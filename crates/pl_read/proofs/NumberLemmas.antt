-- Numbers and lengths of JSON.
use Rattle.std.proofs.Common.{◌≡◌, ◌≢◌, List, [], ◌∷◌, length, refl}
use Rattle.serde_json.specs.View.{items_view}
use Rattle.serde_json.specs.declared.value.Value.{Value}
use Rattle.serde_json.specs.Events.{items_len}
use Rattle.serde_json.proofs.Views.{items_len-items_view}
use Rattle.pl_read.specs.declared.fault.Flaw.TheVariants.{Range}
use Rattle.pl_read.specs.Paths.{Step}
use Rattle.pl_read.specs.Faults.{refused}
use Rattle.pl_read.specs.Values.{two_of}

pub length_of_items : (vs : List Value) → items_len (items_view vs) ≡ length vs
length_of_items vs = items_len-items_view vs

pub two_none : (path : List Step) (vs : List Value) → length vs ≢ 2 → two_of path (items_view vs) ≡ refused path Range
two_none path [] ne = refl
two_none path (a ∷ []) ne = refl
two_none path (a ∷ b ∷ []) ne = absurd (ne refl)
two_none path (a ∷ b ∷ c ∷ vs) ne = refl
