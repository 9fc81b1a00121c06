use Rattle.std.proofs.Common.{◌≡◌, false, refl}
use Rattle.ic_base.specs.declared.keys.ConnEnd.{ConnEnd}
use Rattle.ic_base.specs.declared.datagram.Parcel.{Parcel}
use Rattle.ic_base.specs.declared.port.PortAsk.TheVariants as ask
use Rattle.ic_base.specs.Ports.{gave, HearsFrom}
use Rattle.ic_desk.specs.Own.{own_ends}
use Rattle.ic_desk.proofs.Owning.{any_widens, heard_by_own, if_ok}
use Rattle.ic_desk.proofs.Sitting.{Sat, sat}
use Rattle.ic_desk.proofs.desk.DeskPort.take.Goals as goal

pub take-answer-requires : goal.take-answer-requires
take-answer-requires c = record {
  hears = any_widens (λ (end : ConnEnd). (end.sending ≡ false) × (end.key.motion ≡ c.args.motion)) c.args.self.now.node.now.ends c.args.self.now.slice c.requires;
}

done : (c : goal.After-lawful-2) → Sat c.args.self.now.slice c.args.self.now.node.now c.take-answer.new.self (ask.Take c.args.motion) (gave c.take-answer.result)
done c =
    sat c.args.self.now.slice c.args.self.now.node.now c.take-answer.new.self (ask.Take c.args.motion) (gave c.take-answer.result)
    c.lawful.ensures c.lawful-2.ensures c.requires c.take-answer.ensures.steps c.take-answer.ensures.log

pub returns-clause-steps : goal.returns-clause-steps
returns-clause-steps c = (refl, refl, (done c).sits)

pub returns-clause-log : goal.returns-clause-log
returns-clause-log c = (done c).log

pub returns-clause-from : goal.returns-clause-from
returns-clause-from c =
    if_ok (λ (p : Parcel). HearsFrom c.args.self.now.node.now.ends c.args.motion p.from) (λ (p : Parcel). HearsFrom (own_ends c.args.self.now.node.now.ends c.args.self.now.slice) c.args.motion p.from)
    (λ p from. heard_by_own c.args.self.now.node.now.ends c.args.self.now.slice c.args.motion p.from c.requires from) c.take-answer.result c.take-answer.ensures.from
