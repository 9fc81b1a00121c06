use Rattle.std.proofs.Common.{ap, sym, ◌∙◌, arith, length, slice_get}
use Rattle.gd_world.specs.Sessions.{Sessional, sent_by}
use Rattle.gd_world.specs.Worlds.{all_events}
use Rattle.gd_world.proofs.Sending.{sent_is}
use Rattle.gd_world.proofs.tests.hand_over.Goals as goal

pub deliver_sent-requires-clause-sent : goal.deliver_sent-requires-clause-sent
deliver_sent-requires-clause-sent c = (
  c.requires.query,
  c.requires.account,
  c.requires.stands,
  ap (λ l. slice_get l c.args.number) (sym (sent_is (all_events c.requires.account) c.args.world.now.session c.requires.stands.recalls)) ∙ ap (λ (s : Sessional). slice_get (sent_by s) c.args.number) (sym c.session.ensures)
      ∙ sym c.in_ok-datagram.ensures ∙ c.in-Some.is,
  omega (arith, c.place_of-place.ensures.place, c.if-place-count.false, ap length c.nodes-count.ensures, ap (λ (s : Sessional). length s.nodes) c.session-2.ensures, c.requires.stands.session.count),
)
