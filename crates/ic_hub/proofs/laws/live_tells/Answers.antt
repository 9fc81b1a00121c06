use Rattle.std.proofs.Common.{refl}
use Rattle.ic_hub.proofs.laws.live_tells.Goals as goal

pub returns : goal.returns
returns c s h query stands = (
  λ live. let a = (stands.live query live.0).0 live.1 in record { at = a.at; living = a.living; here = a.here; number = a.number },
  λ it. (it.living.ends, (stands.live query it.living.ends).1 (record { at = it.at; living = it.living; here = it.here; number = it.number; ends_are = refl })),
)
