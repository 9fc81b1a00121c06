use Rattle.std.proofs.Common.{◌∙◌}
use Rattle.ic_hub.specs.Hubbing.{place_in}
use Rattle.ic_hub.proofs.Gathers.{stream_ends}
use Rattle.ic_hub.proofs.tests.ordering.begin.Goals as goal

pub begin-requires : goal.begin-requires
begin-requires c =
    record {
      ends =
          stream_ends (place_in c.args.hub.now) 1 c.sending.result c.sending-2.result c.sending.ensures.here c.sending-2.ensures.here (c.sending.ensures.from ∙ c.requires) c.sending.ensures.to
          (c.sending-2.ensures.from ∙ c.requires) (c.sending-2.ensures.to ∙ c.in_ok-segment.ensures);
    }
