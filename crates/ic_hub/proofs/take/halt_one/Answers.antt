use Rattle.std.proofs.Common.{Ok, ap}
use Rattle.ic_hub.specs.Taking.{HaltsIt}
use Rattle.ic_hub.proofs.take.halt_one.Goals as goal

pub returns-in-Ok-halt : goal.returns-in-Ok-halt
returns-in-Ok-halt c = HaltsIt c.in-Ok-halt.told (ap Ok c.listed_or_none.ensures) c.in-Ok-halt.ensures.halts c.in-Ok-halt.ensures.stands
