use Rattle.std.proofs.Common.{refl, arith}
use Rattle.std.proofs.lemmas.Option.{slice_get_read}
use Rattle.ic_timed_sender.specs.Standing.{GivesPacketUp}
use Rattle.ic_hub.specs.Ticking.{MayResend, RefusedFor, RefusedFirst}
use Rattle.ic_hub.proofs.Ticking.{refused_first, handed_on}
use Rattle.ic_hub.proofs.tick.dues.Goals as goal

pub returns-in_err-due_of-clause-err : goal.returns-in_err-due_of-clause-err
returns-in_err-due_of-clause-err c =
    let xs = c.args.senders.now in
    let at = slice_get_read xs _ c.loop-sender.sender-index c.sender-item.result refl (omega arith) c.sender-item.is in
    handed_on (RefusedFirst MayResend (RefusedFor GivesPacketUp) xs) _ c.in_err-due_of.field-0.0 c.from_residual.ensures.1
    (refused_first MayResend (RefusedFor GivesPacketUp) xs c.loop-sender.sender-index c.sender-item.result c.in_err-due_of.field-0.0 at c.loop-sender.invariant.may c.in_err-due_of.ensures.err)
