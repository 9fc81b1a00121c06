use Rattle.icq_top.proofs.FirstFaults.{faults_are_first}
use Rattle.icq_top.proofs.judging.faults_are_first.Goals as goal

pub returns : goal.returns
returns c = faults_are_first
