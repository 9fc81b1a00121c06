use Rattle.std.proofs.Common.{◌+◌, ◌++◌, map, ap, sym, ◌∙◌}
use Rattle.ic_sender.specs.Sending.{row_of, kept_at, flight_of}
use Rattle.ic_sender.specs.Views.{with_newest}
use Rattle.ic_sender.proofs.Packets.{one_going}
use Rattle.ic_sender.proofs.planning.going.Goals as goal

pub loop-behind-preserved : goal.loop-behind-preserved
loop-behind-preserved c =
    let kept = with_newest c.args.ring.now c.args.newest in
    c.in_ok-push_at.ensures ∙ ap (λ l. l ++ map (flight_of c.args.end.now c.args.now) (row_of (kept_at kept (c.args.sent + 1 + c.loop-behind.behind)))) c.loop-behind.invariant
    ∙ sym (one_going c.args.end.now c.args.now kept c.args.sent c.loop-behind.behind)
