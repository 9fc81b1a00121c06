use Rattle.std.proofs.Common.{ap, sym, subst}
use Rattle.ic_receiver.specs.Receiving.{Receiving}
use Rattle.ic_receiver.specs.Standing.{TellsRows}
use Rattle.ic_receiver.proofs.Taken.{tells_rows}
use Rattle.ic_receiver.proofs.receiver.Receiver.rows.Goals as goal

pub returns-clause-tells : goal.returns-clause-tells
returns-clause-tells c = subst (TellsRows c.args.self.now) (sym (ap (λ (s : Receiving). s.rows) c.self.view_is)) (tells_rows c.args.self.now)
