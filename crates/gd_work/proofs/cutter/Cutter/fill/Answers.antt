use Rattle.std.proofs.Common.{◌≡◌, Ok, ap, ◌∙◌}
use Rattle.gd_work.specs.Cutting.{unput}
use Rattle.gd_work.proofs.Pieces.{gave_next, is_ready}
use Rattle.gd_work.proofs.cutter.Cutter.fill.Goals as goal

pub returns-clause-same : goal.returns-clause-same
returns-clause-same c =
    let s = c.loop-row.self in
    let h = c.next.ensures.chunk (c.in_ok-next.was ∙ ap Ok c.if-not-branch.false) in
    gave_next s.packet s.begun c.args.rows.now s.splitter c.next.new.self s.chunk.items c.next.new.out.items h.0 c.loop-row.invariant.empty h.1 h.2 ∙ c.loop-row.invariant.same

pub returns-clause-ready : goal.returns-clause-ready
returns-clause-ready c =
    let s = c.loop-row.self in
    let h = c.next.ensures.chunk (c.in_ok-next.was ∙ ap Ok c.if-not-branch.false) in
    is_ready c.next.new.out.items s.chunk.items h.0 (unput (record { packet = s.packet; begun = s.begun; splitter = c.next.new.self; chunk = c.next.new.out }) c.args.rows.now) c.loop-row.invariant.empty h.2
