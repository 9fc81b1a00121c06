use Rattle.std.proofs.Common.{◌≡◌, false, refl}
use Rattle.ic_base.specs.declared.keys.ConnEnd.{ConnEnd}
use Rattle.ic_base.specs.declared.port.PortAsk.TheVariants as ask
use Rattle.ic_base.specs.Ports.{gave}
use Rattle.ic_desk.proofs.Owning.{any_widens}
use Rattle.ic_desk.proofs.Sitting.{Sat, sat}
use Rattle.ic_desk.proofs.desk.DeskPort.take_from.Goals as goal

pub take_from-answer-requires : goal.take_from-answer-requires
take_from-answer-requires c = record {
  hears = any_widens (λ (end : ConnEnd). (end.sending ≡ false) × (end.key.motion ≡ c.args.motion) × (end.key.from ≡ c.args.sender)) c.args.self.now.node.now.ends c.args.self.now.slice c.requires;
}

done : (c : goal.After-lawful-2) → Sat c.args.self.now.slice c.args.self.now.node.now c.take_from-answer.new.self (ask.TakeFrom c.args.motion c.args.sender) (gave c.take_from-answer.result)
done c =
    sat c.args.self.now.slice c.args.self.now.node.now c.take_from-answer.new.self (ask.TakeFrom c.args.motion c.args.sender) (gave c.take_from-answer.result)
    c.lawful.ensures c.lawful-2.ensures c.requires c.take_from-answer.ensures.steps c.take_from-answer.ensures.log

pub returns-clause-steps : goal.returns-clause-steps
returns-clause-steps c = (refl, refl, (done c).sits)

pub returns-clause-log : goal.returns-clause-log
returns-clause-log c = (done c).log
