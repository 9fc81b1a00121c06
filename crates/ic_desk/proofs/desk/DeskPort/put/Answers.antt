use Rattle.std.proofs.Common.{◌≡◌, true, refl}
use Rattle.ic_base.specs.declared.keys.ConnEnd.{ConnEnd}
use Rattle.ic_base.specs.declared.port.PortAsk.TheVariants as ask
use Rattle.ic_base.specs.Ports.{did}
use Rattle.ic_port.specs.Noding.{place_of}
use Rattle.ic_desk.proofs.Owning.{any_widens, may_put}
use Rattle.ic_desk.proofs.Sitting.{Sat, sat}
use Rattle.ic_desk.proofs.desk.DeskPort.put.Goals as goal

pub put-answer-requires : goal.put-answer-requires
put-answer-requires c = record {
  sends = any_widens (λ (end : ConnEnd). (end.sending ≡ true) × (end.key.motion ≡ c.args.motion) × (end.key.to ≡ c.args.to)) c.args.self.now.node.now.ends c.args.self.now.slice c.requires;
}

done : (c : goal.After-lawful-2) → Sat c.args.self.now.slice c.args.self.now.node.now c.put-answer.new.self (ask.Put c.args.motion c.args.to c.args.chunk.now) (did c.put-answer.result)
done c =
    sat c.args.self.now.slice c.args.self.now.node.now c.put-answer.new.self (ask.Put c.args.motion c.args.to c.args.chunk.now) (did c.put-answer.result)
    c.lawful.ensures c.lawful-2.ensures c.requires c.put-answer.ensures.steps c.put-answer.ensures.log

pub returns-clause-steps : goal.returns-clause-steps
returns-clause-steps c = (refl, refl, (done c).sits)

pub returns-clause-log : goal.returns-clause-log
returns-clause-log c = (done c).log

pub returns-clause-refusals : goal.returns-clause-refusals
returns-clause-refusals c =
    may_put (place_of c.args.self.now.node.now) c.args.self.now.node.now.query c.args.self.now.node.now.ends c.args.self.now.slice c.args.motion c.args.to c.lawful.ensures.ends_are c.requires c.put-answer.result c.put-answer.ensures.refusals
