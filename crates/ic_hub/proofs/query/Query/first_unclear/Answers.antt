use Rattle.std.proofs.Common.{ap, sym, arith}
use Rattle.ic_hub.specs.Hubbing.{Living}
use Rattle.ic_hub.proofs.Leaving.{slot_less, unclear_here, clear_more, all_clear}
use Rattle.ic_hub.proofs.query.Query.first_unclear.Goals as goal

pub loop-place-init : goal.loop-place-init
loop-place-init c settings h stands i end less at = absurd (omega (arith, less))

pub bounds-ends-place : goal.bounds-ends-place
bounds-ends-place c = slot_less c.self.inside.places c.ends-ends.result.now c.order-slot-items.result.now c.loop-place.place c.ends-ends.ensures c.order-slot-items.ensures.value c.loop-place-test.true

pub bounds-ends-place-then-not-is_over : goal.bounds-ends-place-then-not-is_over
bounds-ends-place-then-not-is_over c = slot_less c.self.inside.places c.ends-ends.result.now c.order-slot-items.result.now c.loop-place.place c.ends-ends.ensures c.order-slot-items.ensures.value c.loop-place-test.true

pub returns-then-not-is_over : goal.returns-then-not-is_over
returns-then-not-is_over c =
    unclear_here c.args.self.now c.self.inside.places c.ends-ends.result.now c.order-slot-items.result.now c.loop-place.place c.index-ends-place.result c.is_over.result (ap (λ (l : Living). l.ends) (sym c.self.view_is))
    c.ends-ends.ensures c.order-slot-items.ensures.value c.loop-place-test.true c.loop-place.invariant c.is_over.ensures c.if-not-is_over.true

pub loop-place-preserved : goal.loop-place-preserved
loop-place-preserved c =
    clear_more c.args.self.now c.self.inside.places c.order-slot-items.result.now c.loop-place.place c.is_over.result (ap (λ (l : Living). l.ends) (sym c.self.view_is)) c.order-slot-items.ensures.value c.loop-place-test.true c.loop-place.invariant
    c.is_over.ensures c.if-not-is_over.false

pub returns : goal.returns
returns c =
    all_clear c.args.self.now c.self.inside.places c.order-slot-items.result.now c.loop-place.place (ap (λ (l : Living). l.ends) (sym c.self.view_is)) c.order-slot-items.ensures.value (λ less. let past = c.loop-place-test.false in omega (arith, less, past)) c.loop-place.invariant
