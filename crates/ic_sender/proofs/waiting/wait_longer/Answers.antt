use Rattle.std.proofs.Common.{◌≡◌, ◌+◌, drop, ap, sym, ◌∙◌, arith, subst, slice_index_or}
use Rattle.ic_expire.specs.Queue.{Queue, with_item}
use Rattle.ic_window.specs.Waiting.{wait_of}
use Rattle.ic_law.specs.Timers.{wait_in}
use Rattle.ic_sender.specs.Sending.{later_waits, tries_of, flight_at}
use Rattle.ic_sender.specs.Views.{MayWait}
use Rattle.ic_sender.proofs.MayWaiting.{next_at, may_now, may_next}
use Rattle.ic_sender.proofs.waiting.wait_longer.Goals as goal

pub put-requires-clause-absent : goal.put-requires-clause-absent
put-requires-clause-absent c =
    let i = c.loop-seq.seq-index in
    let x = slice_index_or c.args.numbers.now i 0 in
    let next = next_at c.args.numbers.now i 0 (omega (arith, c.loop-seq-test.true)) in
    (may_now c.args.conn x (drop (i + 1) c.args.numbers.now) c.loop-seq.expiry (subst (λ l. MayWait c.args.conn l c.loop-seq.expiry) next c.loop-seq.invariant.may)).0

pub put-requires-clause-room : goal.put-requires-clause-room
put-requires-clause-room c =
    let i = c.loop-seq.seq-index in
    let x = slice_index_or c.args.numbers.now i 0 in
    let next = next_at c.args.numbers.now i 0 (omega (arith, c.loop-seq-test.true)) in
    (may_now c.args.conn x (drop (i + 1) c.args.numbers.now) c.loop-seq.expiry (subst (λ l. MayWait c.args.conn l c.loop-seq.expiry) next c.loop-seq.invariant.may)).1

pub loop-seq-preserved : goal.loop-seq-preserved
loop-seq-preserved c =
    let i = c.loop-seq.seq-index in
    let x = slice_index_or c.args.numbers.now i 0 in
    let q = c.loop-seq.expiry in
    let w = c.args.window.now in
    let rest = drop (i + 1) c.args.numbers.now in
    let next = next_at c.args.numbers.now i 0 (omega (arith, c.loop-seq-test.true)) in
    let due = c.args.now + c.wait.result in
    let may = may_next c.args.conn x due rest q (subst (λ l. MayWait c.args.conn l q) next c.loop-seq.invariant.may) in
    let is_due : due ≡ c.args.now + wait_in w (tries_of (flight_at c.args.flights.now x) + 1) =
    ap (λ n. c.args.now + n) (c.wait.ensures.value ∙ ap (λ n. wait_of (n + 1) w.round_trip) c.tries_at-tries.ensures.value) in
    record {
      may = subst (λ (y : Queue). MayWait c.args.conn rest y) (sym c.put.ensures.ok) may;
      held = ap (λ (y : Queue). later_waits c.args.now c.args.conn w c.args.flights.now rest y.held) c.put.ensures.ok
          ∙ ap (λ d. later_waits c.args.now c.args.conn w c.args.flights.now rest (with_item (record { due = d; conn = c.args.conn; seq = x }) q.held)) is_due
          ∙ ap (λ l. later_waits c.args.now c.args.conn w c.args.flights.now l q.held) (sym next) ∙ c.loop-seq.invariant.held;
      asked = ap (λ (y : Queue). y.asked) c.put.ensures.ok ∙ c.loop-seq.invariant.asked;
      room = ap (λ (y : Queue). y.room) c.put.ensures.ok ∙ c.loop-seq.invariant.room;
    }
