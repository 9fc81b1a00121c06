use Rattle.ic_hub.proofs.laws.ends_tell.Goals as goal

pub returns : goal.returns
returns c s h query ends stands = stands.live query ends
