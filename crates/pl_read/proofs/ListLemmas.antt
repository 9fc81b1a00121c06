-- Calls of a wrong length.
use Rattle.std.proofs.Common.{◌≡◌, ◌≤◌, List, [], ◌∷◌, length, refl, arith}
use Rattle.serde_json.specs.View.{items_view}
use Rattle.serde_json.specs.declared.value.Value.{Value}
use Rattle.pl_read.specs.declared.fault.Flaw.TheVariants.{Range}
use Rattle.pl_read.specs.declared.list.Function.{Function}
use Rattle.pl_read.specs.Paths.{Step}
use Rattle.pl_read.specs.Faults.{refused}
use Rattle.pl_read.specs.Lists.{called_at}

pub called_long : (f : Function) (path : List Step) (vs : List Value) → 2 ≤ length vs → called_at f path (items_view vs) ≡ refused path Range
called_long f path [] ge = absurd (omega (arith, ge))
called_long f path (a ∷ []) ge = absurd (omega (arith, ge))
called_long f path (a ∷ b ∷ vs) ge = refl
