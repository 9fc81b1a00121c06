use Rattle.std.proofs.Common.{◌≡◌, ◌+◌, ◌∷◌, map, drop, ap, sym, ◌∙◌, arith, subst}
use Rattle.ic_expire.specs.Queue.{Queue}
use Rattle.ic_sender.specs.declared.flight.Flight.{Flight}
use Rattle.ic_sender.specs.Sending.{waiting}
use Rattle.ic_sender.specs.Views.{MayWait}
use Rattle.ic_sender.proofs.MayWaiting.{next_left, may_now, may_next}
use Rattle.ic_sender.proofs.waiting.wait_all.Goals as goal

pub put-requires-clause-absent : goal.put-requires-clause-absent
put-requires-clause-absent c =
    let x = c.flight-item.result in
    let i = c.loop-flight.flight-index in
    let next : drop i c.args.flights.now ≡ x ∷ drop (i + 1) c.args.flights.now = next_left c.args.flights.now i x (omega (arith, c.loop-flight-test.true)) c.flight-item.is in
    let rest = map (λ (f : Flight). f.seq) (drop (i + 1) c.args.flights.now) in
    (may_now c.args.conn x.seq rest c.loop-flight.expiry (subst (λ l. MayWait c.args.conn (map (λ (f : Flight). f.seq) l) c.loop-flight.expiry) next c.loop-flight.invariant.may)).0

pub put-requires-clause-room : goal.put-requires-clause-room
put-requires-clause-room c =
    let x = c.flight-item.result in
    let i = c.loop-flight.flight-index in
    let next : drop i c.args.flights.now ≡ x ∷ drop (i + 1) c.args.flights.now = next_left c.args.flights.now i x (omega (arith, c.loop-flight-test.true)) c.flight-item.is in
    let rest = map (λ (f : Flight). f.seq) (drop (i + 1) c.args.flights.now) in
    (may_now c.args.conn x.seq rest c.loop-flight.expiry (subst (λ l. MayWait c.args.conn (map (λ (f : Flight). f.seq) l) c.loop-flight.expiry) next c.loop-flight.invariant.may)).1

pub loop-flight-preserved : goal.loop-flight-preserved
loop-flight-preserved c =
    let x = c.flight-item.result in
    let i = c.loop-flight.flight-index in
    let q = c.loop-flight.expiry in
    let next : drop i c.args.flights.now ≡ x ∷ drop (i + 1) c.args.flights.now = next_left c.args.flights.now i x (omega (arith, c.loop-flight-test.true)) c.flight-item.is in
    let rest = map (λ (f : Flight). f.seq) (drop (i + 1) c.args.flights.now) in
    let may = may_next c.args.conn x.seq c.args.due rest q (subst (λ l. MayWait c.args.conn (map (λ (f : Flight). f.seq) l) q) next c.loop-flight.invariant.may) in
    record {
      may = subst (λ (y : Queue). MayWait c.args.conn rest y) (sym c.put.ensures.ok) may;
      held = ap (λ (y : Queue). waiting c.args.conn c.args.due rest y.held) c.put.ensures.ok ∙ ap (λ l. waiting c.args.conn c.args.due (map (λ (f : Flight). f.seq) l) q.held) (sym next) ∙ c.loop-flight.invariant.held;
      asked = ap (λ (y : Queue). y.asked) c.put.ensures.ok ∙ c.loop-flight.invariant.asked;
      room = ap (λ (y : Queue). y.room) c.put.ensures.ok ∙ c.loop-flight.invariant.room;
    }
