use Rattle.ic_hub.proofs.laws.keeps_law.Goals as goal

pub returns : goal.returns
returns c s h stands = (stands.goes.law, stands.goes.emission)
