use Rattle.std.proofs.Common.{refl, ap, sym, ◌∙◌, slice_get}
use Rattle.std.specs.List.{flat_map}
use Rattle.gd_world.specs.Sessions.{Sessional, emitted_by}
use Rattle.gd_world.proofs.Finding.{found, walked, none}
use Rattle.gd_world.proofs.session.Session.sent.Goals as goal

pub loop-did-init : goal.loop-did-init
loop-did-init c = refl

pub returns-then-left-count : goal.returns-then-left-count
returns-then-left-count c =
    let f = emitted_by c.args.self.now.nodes in
    ap (λ d. Rattle.std.proofs.Common.Some d) c.in_ok-share.ensures
    ∙ found f c.deref-did-items.result.now c.loop-did.did-index c.args.number c.loop-did.left c.did-item.result c.emitted-datagrams.result.now c.index-datagrams-left.result c.loop-did-test.true c.did-item.is c.emitted-datagrams.ensures c.if-left-count.true c.index-datagrams-left.is
    c.loop-did.invariant
    ∙ ap (λ l. slice_get (flat_map f l) c.args.number) (c.deref-did-items.ensures.value ∙ ap (λ (s : Sessional). s.past) c.self.view_is)

pub loop-did-preserved : goal.loop-did-preserved
loop-did-preserved c =
    walked (emitted_by c.args.self.now.nodes) c.deref-did-items.result.now c.loop-did.did-index c.args.number c.loop-did.left c.did-item.result c.emitted-datagrams.result.now c.loop-did-test.true c.did-item.is c.emitted-datagrams.ensures c.if-left-count.false c.loop-did.invariant

pub returns : goal.returns
returns c =
    let f = emitted_by c.args.self.now.nodes in
    none f c.deref-did-items.result.now c.loop-did.did-index c.args.number c.loop-did.left c.loop-did-test.false c.loop-did.invariant
    ∙ ap (λ l. slice_get (flat_map f l) c.args.number) (c.deref-did-items.ensures.value ∙ ap (λ (s : Sessional). s.past) c.self.view_is)
