use Rattle.std.proofs.Common.{[], refl, Some, subst}
use Rattle.ic_header.specs.declared.flags.Flags.TheVariants.{Ack}
use Rattle.ic_receiver.specs.Receiving.{Receiving, HearsQuery, QueryStopped, QueryTold}
use Rattle.ic_header.specs.Packets.{IsAnswer}
use Rattle.ic_receiver.proofs.receiver.Receiver.tell.Goals as goal

pub returns-in_ok-answer_packet-in-None : goal.returns-in_ok-answer_packet-in-None
returns-in_ok-answer_packet-in-None c =
    subst (λ (s : Receiving). HearsQuery s c.args.seq (Some c.in_ok-answer_packet-in-None.field-0)) c.self.view_is (QueryStopped c.in_ok-answer_packet-in-None.field-0 c.in-None.is c.in_ok-answer_packet-in-None.ensures refl)

pub returns-in_ok-answer_packet-in-Some : goal.returns-in_ok-answer_packet-in-Some
returns-in_ok-answer_packet-in-Some c =
    subst (λ (s : Receiving). HearsQuery s c.args.seq (Some c.in_ok-answer_packet-in-Some.field-0)) c.self.view_is
    (QueryTold c.in_ok-answer_packet-in-Some.field-0 c.in-Some.ring c.run_end.result c.in-Some.is c.run_end.ensures.value
    (subst (λ n. IsAnswer c.self.inside.end Ack c.run_end.result n [] c.in_ok-answer_packet-in-Some.field-0) c.consumed.ensures.value c.in_ok-answer_packet-in-Some.ensures) refl)
