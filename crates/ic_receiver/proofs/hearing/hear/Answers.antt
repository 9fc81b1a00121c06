use Rattle.std.proofs.Common.{refl, ap, sym, ◌∙◌, subst}
use Rattle.std.specs.List.{Contains}
use Rattle.ic_recvring.specs.Numbers.{IsRunEnd}
use Rattle.ic_recvring.specs.Ring.{Ring, Packet, numbers, stored_of, placed, without}
use Rattle.ic_recvring.proofs.Stored.{seq_in, placed_there, stored_there}
use Rattle.ic_recvring.proofs.Back.{placed_back}
use Rattle.ic_receiver.specs.Receiving.{TellsStored, Again, Far, Kept}
use Rattle.ic_receiver.proofs.Numbers.{run_behind}
use Rattle.ic_receiver.proofs.hearing.hear.Goals as goal

pub tell_stored-requires-clause-here : goal.tell_stored-requires-clause-here
tell_stored-requires-clause-here c =
    let q : Packet = record { seq = c.args.seq; last = c.args.last; payload = c.args.payload.now } in
    let w = c.in-Stored.ensures.stores c.run_end-run.result c.run_end-run.ensures.value in
    subst (λ (t : Ring). Contains (stored_of t) c.args.seq) (sym w.2) (stored_there c.args.ring.now q)

pub tell_stored-requires-clause-run_end : goal.tell_stored-requires-clause-run_end
tell_stored-requires-clause-run_end c = λ gap.
    let q : Packet = record { seq = c.args.seq; last = c.args.last; payload = c.args.payload.now } in
    let w = c.in-Stored.ensures.stores c.run_end-run.result c.run_end-run.ensures.value in
    subst (λ (t : Ring). IsRunEnd (stored_of t) c.run_end-run.result) (sym w.2) (run_behind c.args.ring.now q c.run_end-run.result c.run_end-run.ensures.value gap w.0.1)

pub returns-in_ok-answer_packet-in-Duplicate-clause-hears : goal.returns-in_ok-answer_packet-in-Duplicate-clause-hears
returns-in_ok-answer_packet-in-Duplicate-clause-hears c =
    let w = c.in-Duplicate.ensures.stores c.run_end-run.result c.run_end-run.ensures.value in
    Again c.in_ok-answer_packet-in-Duplicate.field-0 c.run_end-run.result c.run_end-run.ensures.value w.0 c.in_ok-answer_packet-in-Duplicate.ensures refl w.1

pub returns-in-Beyond-clause-hears : goal.returns-in-Beyond-clause-hears
returns-in-Beyond-clause-hears c =
    let w = c.in-Beyond.ensures.stores c.run_end-run.result c.run_end-run.ensures.value in
    Far c.run_end-run.result c.run_end-run.ensures.value w.0 w.1 refl w.2

pub returns-in-Ok-clause-hears : goal.returns-in-Ok-clause-hears
returns-in-Ok-clause-hears c =
    let w = c.in-Stored.ensures.stores c.run_end-run.result c.run_end-run.ensures.value in
    Kept c.in-Ok.told c.run_end-run.result c.run_end-run.ensures.value w.0 w.1 (subst (λ (t : Ring). TellsStored c.args.end.now t c.run_end-run.result c.args.seq c.in-Ok.told) w.2 c.in-Ok.ensures) refl w.2

pub take_back-requires : goal.take_back-requires
take_back-requires c =
    let q : Packet = record { seq = c.args.seq; last = c.args.last; payload = c.args.payload.now } in
    let w = c.in-Stored.ensures.stores c.run_end-run.result c.run_end-run.ensures.value in
    subst (λ (t : Ring). Contains (numbers t.kept) c.args.seq) (sym w.2) (seq_in (placed q c.args.ring.now.kept) q (placed_there q c.args.ring.now.kept))

pub returns-in-Err-clause-memory : goal.returns-in-Err-clause-memory
returns-in-Err-clause-memory c =
    let s = c.args.ring.now in
    let q : Packet = record { seq = c.args.seq; last = c.args.last; payload = c.args.payload.now } in
    let w = c.in-Stored.ensures.stores c.run_end-run.result c.run_end-run.ensures.value in
    c.take_back.ensures ∙ ap (without c.args.seq) w.2 ∙ ap (λ l. record s { kept = l }) (placed_back q s.consumed s.kept c.run_end-run.ensures.ring.ahead w.0.1)
