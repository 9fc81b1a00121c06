use Rattle.std.proofs.Common.{◌≡◌, List, [], sym, subst, Ok}
use Rattle.ic_base.specs.declared.datagram.Datagram.{Datagram}
use Rattle.ic_header.specs.declared.flags.Flags.{Flags}
use Rattle.ic_header.specs.declared.flags.Flags.TheVariants.{Stop, Nak, Disorder}
use Rattle.ic_sender.specs.Entries.{IsHearing}
use Rattle.ic_timed_sender.specs.Timed.{HearsBy}
use Rattle.ic_timed_sender.proofs.Going.{as_kind}
use Rattle.ic_timed_sender.proofs.events.answer.Goals as goal

pub returns-in-Nak-clause-stands : goal.returns-in-Nak-clause-stands
returns-in-Nak-clause-stands c h e clock is old =
    let head = c.args.head.now in
    c.on_nak.ensures.stands head.extra h e clock
    (as_kind c.args.sender.now.end.key head.flags Nak head.seq head.extra c.args.body.now [] c.on_nak.result e c.in-Nak.is (λ bad. absurd (let no : Nak ≡ Disorder = bad in cc)) is) old

pub returns-in-Disorder-clause-hears : goal.returns-in-Disorder-clause-hears
returns-in-Disorder-clause-hears c =
    let head = c.args.head.now in
    subst (λ (kind : Flags). HearsBy kind head.seq head.extra c.args.body.now c.args.sender.now c.args.waits.now c.args.now c.on_disorder.result c.on_disorder.new.self c.on_disorder.new.expiry) (sym c.in-Disorder.is) c.on_disorder.ensures.hears

pub returns-in-Stop-clause-stands : goal.returns-in-Stop-clause-stands
returns-in-Stop-clause-stands c h e clock is old =
    let head = c.args.head.now in
    c.on_stop.ensures.stands c.args.now head.seq head.extra h e clock
    (as_kind c.args.sender.now.end.key head.flags Stop head.seq head.extra c.args.body.now [] (Ok []) e c.in-Stop.is (λ bad. absurd (let no : Stop ≡ Disorder = bad in cc))
    (subst (λ (ds : List Datagram). IsHearing c.args.sender.now.end.key head.flags head.seq head.extra c.args.body.now (Ok ds) e) c.new.ensures is)) old
