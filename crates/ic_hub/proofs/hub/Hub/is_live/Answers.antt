use Rattle.ic_hub.proofs.Leaving.{live_found}
use Rattle.ic_hub.proofs.hub.Hub.is_live.Goals as goal

pub returns : goal.returns
returns c = live_found c.args.self.now c.args.query c.place_of.result c.is_some.result c.place_of.ensures c.is_some.ensures
