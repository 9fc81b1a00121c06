use Rattle.gd_world.proofs.Marking.{upto_is}
use Rattle.gd_world.proofs.world.World.close.Goals as goal

pub returns-clause-closes : goal.returns-clause-closes
returns-clause-closes c = λ q x stands. record { session_is = stands.session; recalls = stands.recalls; upto = λ k n here. upto_is q k x.events n (stands.reached k n here) }
