use Rattle.std.proofs.Common.{◌≡◌, ◌+◌, ◌<◌, [], length, ap, ◌∙◌, subst, arith}
use Rattle.ic_recvring.specs.Numbers.{missing}
use Rattle.ic_recvring.specs.Ring.{stored_of}
use Rattle.ic_header.specs.declared.flags.Flags.TheVariants.{Ack, Disorder}
use Rattle.ic_header.specs.Packets.{listing}
use Rattle.ic_receiver.specs.Receiving.{Next, Gap}
use Rattle.ic_header.specs.Packets.{IsAnswer}
use Rattle.ic_receiver.proofs.Numbers.{missing_first, few_missing, greatest_near}
use Rattle.ic_receiver.proofs.Made.{if_ok, listing_allowed}
use Rattle.ic_receiver.proofs.hearing.tell_stored.Goals as goal

pub returns-then-seq-run-eq1 : goal.returns-then-seq-run-eq1
returns-then-seq-run-eq1 c =
    let next : c.args.seq ≡ c.args.run + 1 = omega (arith, c.if-seq-run-eq1.true) in
    if_ok c.answer_packet.result _ _ (λ d a. Next c.run_end.result next c.run_end.ensures.value (subst (λ n. IsAnswer c.args.end.now Ack c.run_end.result n [] d) c.consumed.ensures.value a)) c.answer_packet.ensures

pub listing_packet-requires-clause-few : goal.listing_packet-requires-clause-few
listing_packet-requires-clause-few c =
    let gap : c.args.run + 1 < c.args.seq = omega (arith, c.if-seq-run-eq1.false, c.requires.ahead) in
    let one = c.requires.run_end gap in
    let is : c.as_slice.result.now ≡ missing (stored_of c.args.ring.now) c.args.run c.greatest.result = c.as_slice.ensures ∙ c.in_ok-missing.ensures.ok c.args.run c.greatest.result one c.greatest.ensures.value in
    let few = few_missing (stored_of c.args.ring.now) c.args.run c.greatest.result in
    let near = greatest_near c.args.ring.now c.args.run c.greatest.result c.greatest.ensures.ring one c.greatest.ensures.value in
    let long = ap length is in
    omega (arith, few, near, long, c.requires.depth)

pub listing_packet-requires-clause-allowed : goal.listing_packet-requires-clause-allowed
listing_packet-requires-clause-allowed c =
    let gap : c.args.run + 1 < c.args.seq = omega (arith, c.if-seq-run-eq1.false, c.requires.ahead) in
    let one = c.requires.run_end gap in
    let is : c.as_slice.result.now ≡ missing (stored_of c.args.ring.now) c.args.run c.greatest.result = c.as_slice.ensures ∙ c.in_ok-missing.ensures.ok c.args.run c.greatest.result one c.greatest.ensures.value in
    let most = c.greatest.ensures.value.bound c.args.seq c.requires.here in
    let first = missing_first (stored_of c.args.ring.now) c.args.run c.greatest.result one (omega (arith, most, c.requires.ahead)) in
    let long = ap length (is ∙ first) in
    listing_allowed (length c.as_slice.result.now) (omega (arith, long))

pub returns : goal.returns
returns c =
    let gap : c.args.run + 1 < c.args.seq = omega (arith, c.if-seq-run-eq1.false, c.requires.ahead) in
    let one = c.requires.run_end gap in
    let is : c.as_slice.result.now ≡ missing (stored_of c.args.ring.now) c.args.run c.greatest.result = c.as_slice.ensures ∙ c.in_ok-missing.ensures.ok c.args.run c.greatest.result one c.greatest.ensures.value in
    if_ok c.listing_packet.result _ _ (λ d a. Gap c.greatest.result gap c.greatest.ensures.value (subst (λ l. IsAnswer c.args.end.now Disorder c.args.seq c.greatest.result (listing l) d) is a)) c.listing_packet.ensures
