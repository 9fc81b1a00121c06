use Rattle.std.proofs.Common.{sym, ◌∙◌}
use Rattle.ic_hub.specs.Hubbing.{place_in}
use Rattle.ic_hub.proofs.Gathers.{gather_ends, segment_end}
use Rattle.ic_hub.proofs.tests.driving.begin.Goals as goal

pub begin-requires : goal.begin-requires
begin-requires c =
    record {
      ends =
          gather_ends (place_in c.args.hub.now) c.args.query c.receiving.result c.receiving-then-eq.result c.receiving.ensures.here c.receiving-then-eq.ensures.here
          (c.receiving.ensures.from ∙ c.in_ok-segment.ensures) c.receiving.ensures.to (c.receiving-then-eq.ensures.from ∙ c.in_ok-segment-2.ensures) c.receiving-then-eq.ensures.to;
    }

pub begin-requires-else-eq : goal.begin-requires-else-eq
begin-requires-else-eq c =
    record {
      ends =
          segment_end (place_in c.args.hub.now) c.args.query c.at.result c.sending.result c.sending.ensures.here (sym c.if-eq.ensures) (c.sending.ensures.from ∙ sym c.at.ensures) c.sending.ensures.to;
    }
