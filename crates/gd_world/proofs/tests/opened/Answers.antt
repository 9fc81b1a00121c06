use Rattle.std.proofs.Common.{subst}
use Rattle.gd_world.specs.Sessions.{IsSessionOf}
use Rattle.gd_world.specs.Inside.{AreFresh}
use Rattle.gd_world.proofs.Tested.{first_is}
use Rattle.gd_world.proofs.tests.opened.Goals as goal

pub returns : goal.returns
returns c =
    let j = c.args.plan.now in
    let s = c.in_ok-session.session in
    first_is j c.args.loaded.now s c.new-2.result
    (subst (λ n. IsSessionOf 7 n j.settings s) c.segments.ensures (subst (λ t. IsSessionOf 7 c.segments.result t s) c.settings.ensures c.in_ok-session.ensures.session)) c.in_ok-session.ensures.recalls
    (subst (λ n. AreFresh 7 n j.settings s) c.segments.ensures (subst (λ t. AreFresh 7 c.segments.result t s) c.settings.ensures c.in_ok-session.ensures.fresh)) c.new-2.ensures
