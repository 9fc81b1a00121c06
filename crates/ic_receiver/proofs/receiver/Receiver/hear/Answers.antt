use Rattle.std.proofs.Common.{ap, subst}
use Rattle.std.specs.Prelude.{IfOk}
use Rattle.ic_recvring.specs.Ring.{Packet}
use Rattle.ic_receiver.specs.declared.receiver.Receiver.TheInside.{Inside}
use Rattle.ic_receiver.specs.Receiving.{Receiving, Hears}
use Rattle.ic_receiver.proofs.Made.{stopped_made, running_made}
use Rattle.ic_receiver.proofs.receiver.Receiver.hear.Goals as goal
use Rattle.ic_receiver.proofs.receiver.Receiver.hear.Goals.{in-None+in_ok-answer_packet-in-None, in-Some}

seen : Inside → Receiving
seen r = record { end = r.end; ring = r.ring; whole = r.whole; rows = r.rows }

pub returns-clause-hears : goal.returns-clause-hears
unfolding seen
returns-clause-hears c =
    let q : Packet = record { seq = c.args.seq; last = c.args.last; payload = c.args.payload.now } in
    let now = seen c.match-self.self-inside in
    elim c.match-self.branch [
      | in-None+in_ok-answer_packet-in-None w ↦ subst (λ (s : Receiving). IfOk c.match-self.result (λ a. Hears s q a now)) c.self.view_is
          (stopped_made (seen c.self.inside) now q c.match-self.result w.in_ok-answer_packet-in-None.field-0 w.in-None.is w.in_ok-answer_packet-in-None.ensures (ap seen w.self-inside-is) w.result-is)
      | in-Some w ↦ subst (λ (s : Receiving). IfOk c.match-self.result (λ a. Hears s q a now)) c.self.view_is
          (running_made (seen c.self.inside) now q c.match-self.result w.hear.result w.in-Some.ring w.hear.new.ring w.in-Some.is w.hear.ensures.hears (ap seen w.self-inside-is) w.result-is)
    ]
