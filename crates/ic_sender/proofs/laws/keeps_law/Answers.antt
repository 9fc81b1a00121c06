use Rattle.ic_sender.proofs.laws.keeps_law.Goals as goal

pub returns : goal.returns
returns c s held h stands = stands.law
