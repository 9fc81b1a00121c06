use Rattle.ic_receiver.proofs.Others.{stands_memory}
use Rattle.ic_receiver.proofs.laws.memory_passes.Goals as goal

pub returns : goal.returns
returns c = λ s settings h ask stands. stands_memory settings s h ask stands
