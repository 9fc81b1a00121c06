-- An entry that doesn't concern a sending connection leaves it standing.
use Rattle.std.proofs.Common.{refl, ◌∙◌}
use Rattle.ic_sender.proofs.Beginning.{others_pass as sender_passes}
use Rattle.ic_sender.proofs.Passing.{clock_stays, finished_stays}
use Rattle.ic_timed_sender.specs.Laws.{OthersPass}
use Rattle.ic_timed_sender.proofs.Counting.{ends_none, sends_none, rows_after, resent_after}

pub others_pass : OthersPass
others_pass o h e silent old =
    let s = o.sending in
    record {
      clock = clock_stays h e silent.still ∙ old.clock;
      finished = finished_stays s.end.key h e silent.nothing.finishes_none ∙ old.finished;
      sends = sender_passes s o.held h e silent old.sends;
      rows = rows_after s.end.key o.rows o.rows h e (ends_none s.end.key o.rows e silent.nothing.puts_none) old.rows;
      resent = resent_after s s h e (sends_none s s e refl refl silent.nothing.rows) old.resent;
    }
