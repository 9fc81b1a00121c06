use Rattle.std.proofs.Common.{◌≡◌, false, refl}
use Rattle.ic_base.specs.declared.keys.ConnEnd.{ConnEnd}
use Rattle.ic_base.specs.declared.port.PortAsk.TheVariants as ask
use Rattle.ic_base.specs.Ports.{did}
use Rattle.ic_desk.proofs.Owning.{any_widens}
use Rattle.ic_desk.proofs.Sitting.{Sat, sat}
use Rattle.ic_desk.proofs.desk.DeskPort.halt.Goals as goal

pub halt-answer-requires : goal.halt-answer-requires
halt-answer-requires c = record {
  hears = any_widens (λ (end : ConnEnd). (end.sending ≡ false) × (end.key.motion ≡ c.args.motion) × (end.key.from ≡ c.args.sender)) c.args.self.now.node.now.ends c.args.self.now.slice c.requires;
}

done : (c : goal.After-lawful-2) → Sat c.args.self.now.slice c.args.self.now.node.now c.halt-answer.new.self (ask.Halt c.args.motion c.args.sender) (did c.halt-answer.result)
done c =
    sat c.args.self.now.slice c.args.self.now.node.now c.halt-answer.new.self (ask.Halt c.args.motion c.args.sender) (did c.halt-answer.result)
    c.lawful.ensures c.lawful-2.ensures c.requires c.halt-answer.ensures.steps c.halt-answer.ensures.log

pub returns-clause-steps : goal.returns-clause-steps
returns-clause-steps c = (refl, refl, (done c).sits)

pub returns-clause-log : goal.returns-clause-log
returns-clause-log c = (done c).log
