use Rattle.std.proofs.Common.{subst}
use Rattle.ic_header.specs.Packets.{IsSegment}
use Rattle.ic_sender.proofs.sender.named.Goals as goal

pub returns : goal.returns
returns c = record {
  session = c.are_words.ensures.session;
  query = c.are_words.ensures.query;
  motion = c.are_words.ensures.motion;
  send_slice = c.are_words.ensures.send_slice;
  recv_slice = c.are_words.ensures.recv_slice;
  from = subst IsSegment c.number-from.ensures.value (c.number-from.ensures.least, c.number-from.ensures.greatest);
  to = subst IsSegment c.number-to.ensures.value (c.number-to.ensures.least, c.number-to.ensures.greatest);
}
