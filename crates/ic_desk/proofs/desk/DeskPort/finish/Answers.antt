use Rattle.std.proofs.Common.{◌≡◌, true, refl}
use Rattle.ic_base.specs.declared.keys.ConnEnd.{ConnEnd}
use Rattle.ic_base.specs.declared.port.PortAsk.TheVariants as ask
use Rattle.ic_base.specs.Ports.{did}
use Rattle.ic_port.specs.Noding.{place_of}
use Rattle.ic_desk.proofs.Owning.{any_widens, may_put}
use Rattle.ic_desk.proofs.Sitting.{Sat, sat}
use Rattle.ic_desk.proofs.desk.DeskPort.finish.Goals as goal

pub finish-answer-requires : goal.finish-answer-requires
finish-answer-requires c = record {
  sends = any_widens (λ (end : ConnEnd). (end.sending ≡ true) × (end.key.motion ≡ c.args.motion) × (end.key.to ≡ c.args.to)) c.args.self.now.node.now.ends c.args.self.now.slice c.requires;
}

done : (c : goal.After-lawful-2) → Sat c.args.self.now.slice c.args.self.now.node.now c.finish-answer.new.self (ask.Finish c.args.motion c.args.to) (did c.finish-answer.result)
done c =
    sat c.args.self.now.slice c.args.self.now.node.now c.finish-answer.new.self (ask.Finish c.args.motion c.args.to) (did c.finish-answer.result)
    c.lawful.ensures c.lawful-2.ensures c.requires c.finish-answer.ensures.steps c.finish-answer.ensures.log

pub returns-clause-steps : goal.returns-clause-steps
returns-clause-steps c = (refl, refl, (done c).sits)

pub returns-clause-log : goal.returns-clause-log
returns-clause-log c = (done c).log

pub returns-clause-refusals : goal.returns-clause-refusals
returns-clause-refusals c =
    may_put (place_of c.args.self.now.node.now) c.args.self.now.node.now.query c.args.self.now.node.now.ends c.args.self.now.slice c.args.motion c.args.to c.lawful.ensures.ends_are c.requires c.finish-answer.result c.finish-answer.ensures.refusals
