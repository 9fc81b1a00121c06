use Rattle.std.proofs.Common.{◌≡◌, ◌*◌, length, ap, ◌∙◌, arith}
use Rattle.ic_header.specs.Packets.{listing}
use Rattle.ic_header.proofs.Words.{length-words}
use Rattle.ic_header.proofs.Listing.{answered}
use Rattle.ic_header.proofs.packets.listing_packet.Goals as goal

pub datagram-requires : goal.datagram-requires
datagram-requires c =
    let are : c.as_slice.result.now ≡ listing c.args.numbers.now = c.as_slice.ensures.value ∙ c.in_ok-body.ensures in
    let size : length c.as_slice.result.now ≡ 4 * length c.args.numbers.now = ap length are ∙ length-words c.args.numbers.now in
    omega (arith, size, c.requires.few)

pub returns : goal.returns
returns c =
    answered c.args.end.now c.args.flags c.args.seq c.args.extra c.args.numbers.now c.as_slice.result.now c.header_of-header.result c.datagram.result
    c.header_of-header.ensures (c.as_slice.ensures.value ∙ c.in_ok-body.ensures) c.requires.allowed c.datagram.ensures.is c.datagram.ensures.heads
