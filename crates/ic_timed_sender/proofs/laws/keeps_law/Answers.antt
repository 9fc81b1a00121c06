use Rattle.ic_timed_sender.proofs.laws.keeps_law.Goals as goal

pub returns : goal.returns
returns c o h old = old.sends.law
