use Rattle.std.proofs.Common.{◌≡◌, sym, subst, IfOk}
use Rattle.std.specs.List.{Contains}
use Rattle.ic_base.specs.declared.port.PortAsk.TheVariants.{TakeFrom}
use Rattle.ic_base.specs.Ports.{gave, logged}
use Rattle.ic_motion.specs.Hearing.{senders_of}
use Rattle.ic_motion.proofs.Places.{lane_there, contains_at, among_from}
use Rattle.ic_motion.proofs.taking.take_one.Goals as goal

pub take_from-taken-requires : goal.take_from-taken-requires
take_from-taken-requires g c =
    let lanes = c.args.tracks.now.items in
    c.requires.listens.heard c.sender-sender.result (subst (Contains (senders_of lanes)) (sym c.sender-sender.ensures) (contains_at lanes c.args.place c.index.result.now c.requires.below c.index.ensures))

pub took-requires : goal.took-requires
took-requires g c =
    let lanes = c.args.tracks.now.items in
    among_from c.take_from-taken.result (senders_of lanes) c.sender-sender.result (subst (Contains (senders_of lanes)) (sym c.sender-sender.ensures) (contains_at lanes c.args.place c.index.result.now c.requires.below c.index.ensures)) c.take_from-taken.ensures.from

pub returns-clause-pulls : goal.returns-clause-pulls
returns-clause-pulls g c =
    let lanes = c.args.tracks.now.items in (
      c.index.result.now,
      lane_there lanes c.args.place c.index.result.now c.requires.below c.index.ensures,
      c.take_from-taken.result,
      subst (λ a. g.P.Port.log c.take_from-taken.new.self ≡ logged (TakeFrom c.args.end.now.motion a) (gave c.take_from-taken.result) (g.P.Port.log c.args.port.now)) c.sender-sender.ensures c.take_from-taken.ensures.log,
      c.take_from-taken.ensures.refusals,
      subst (λ a. IfOk c.take_from-taken.result (λ p. p.from ≡ a)) c.sender-sender.ensures c.take_from-taken.ensures.from,
      c.took.ensures.takes,
    )
