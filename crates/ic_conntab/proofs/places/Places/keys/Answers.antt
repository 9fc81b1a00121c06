use Rattle.std.proofs.Common.{sym, subst}
use Rattle.std.specs.List.{IsDistinct}
use Rattle.ic_base.specs.Keys.{key_eq}
use Rattle.ic_conntab.proofs.places.Places.keys.Goals as goal

pub returns-clause-distinct : goal.returns-clause-distinct
unfolding key_eq
returns-clause-distinct c = subst (IsDistinct key_eq) (sym c.as_slice.ensures.keys) c.as_slice.ensures.unique
