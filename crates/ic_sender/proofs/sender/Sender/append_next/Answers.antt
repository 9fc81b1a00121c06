use Rattle.std.proofs.Common.{◌≡◌, ◌≤◌, ◌+◌, ◌++◌, [], ◌∷◌, List, ℕ, false, length, map, ap, sym, ◌∙◌, arith, subst}
use Rattle.std.specs.Option.{option_map}
use Rattle.ic_sendring.specs.Ring.{Ring}
use Rattle.ic_header.specs.Packets.{RowPacket}
use Rattle.ic_sender.specs.declared.flight.Flight.{Flight}
use Rattle.ic_sender.specs.declared.numbers.Numbers.{Numbers}
use Rattle.ic_sender.specs.Sending.{Sending, sealing, waiting}
use Rattle.ic_sender.specs.Calls.{Gives, WaitsAlone, unsent}
use Rattle.ic_sender.specs.Views.{asked_of, rows_in, Plans, MayWait}
use Rattle.ic_sender.proofs.Ending.{PlansFor, ends, plan_may, due_within, few_joined, asks_few, row_sealed}
use Rattle.ic_sender.specs.contracts.sender.Sender.{the_view}
use Rattle.ic_sender.proofs.sender.Sender.append_next.Goals as goal

pub wait_all-requires-clause-may : goal.wait_all-requires-clause-may
wait_all-requires-clause-may c =
    let s = the_view c.self.inside in
    let m : Sending = record (sealing s.opened false s) { opened = c.args.chunk.now } in
    let p = c.in_ok-plan.plan in
    let plans : PlansFor m c.args.now p =
    subst (λ (n : Numbers). Plans s.end (s.kept ++ record { seq = n.sealed; payload = s.opened; last = false } ∷ []) n s.window s.settings.receive_depth s.asked c.args.now p) c.with_one-numbers.ensures
    (subst (λ l. Plans s.end (s.kept ++ record { seq = c.with_one-numbers.result.sealed; payload = l; last = false } ∷ []) c.with_one-numbers.result s.window s.settings.receive_depth s.asked c.args.now p)
    (c.as_slice.ensures.value) c.in_ok-plan.ensures.plans) in
    let room = subst (λ (x : Sending). length c.args.expiry.now.held + (unsent x + 1) ≤ c.args.expiry.now.room) (sym c.self.view_is) c.requires.room in
    let may = plan_may m p c.args.now c.args.expiry.now plans
    (subst (λ (x : Sending). WaitsAlone x c.args.expiry.now) (sym c.self.view_is) c.requires.alone) (omega (arith, room)) in
    subst (λ l. MayWait c.self.inside.conn (map (λ (f : Flight). f.seq) l) c.args.expiry.now) (sym c.as_slice-3.ensures.value) may

pub wait_all-requires-clause-from : goal.wait_all-requires-clause-from
wait_all-requires-clause-from c = (due_within c.self.inside.window c.args.now c.in_ok-plan.plan.due c.args.expiry.now c.requires.now c.in_ok-plan.ensures.plans.due).0

pub wait_all-requires-clause-upto : goal.wait_all-requires-clause-upto
wait_all-requires-clause-upto c = (due_within c.self.inside.window c.args.now c.in_ok-plan.plan.due c.args.expiry.now c.requires.now c.in_ok-plan.ensures.plans.due).1

pub invariant_of-self-2 : goal.invariant_of-self-2
invariant_of-self-2 c =
    let s = the_view c.self.inside in
    let m : Sending = record (sealing s.opened false s) { opened = c.args.chunk.now } in
    let p = c.in_ok-plan.plan in
    let old = c.self.invariant in
    let plans : PlansFor m c.args.now p =
    subst (λ (n : Numbers). Plans s.end (s.kept ++ record { seq = n.sealed; payload = s.opened; last = false } ∷ []) n s.window s.settings.receive_depth s.asked c.args.now p) c.with_one-numbers.ensures
    (subst (λ l. Plans s.end (s.kept ++ record { seq = c.with_one-numbers.result.sealed; payload = l; last = false } ∷ []) c.with_one-numbers.result s.window s.settings.receive_depth s.asked c.args.now p)
    (c.as_slice.ensures.value) c.in_ok-plan.ensures.plans) in
    let flights : c.join.new.flights.items ≡ s.flights ++ p.flights.items = c.join.ensures ∙ ap (λ l. l ++ p.flights.items) c.in_ok-reserve.ensures.items in
    let len : length c.refill.new.opened.items ≡ length c.args.chunk.now = ap length c.refill.ensures.items in
    let fits = subst (λ (x : Sending). length c.args.chunk.now + 68 ≤ x.settings.packet) (sym c.self.view_is) c.requires.fits in
    record {
      checked = old.checked;
      fits = omega (arith, len, fits);
      room = omega (arith, old.room, c.refill.ensures.capacity);
      depth = ap (λ (r : Ring). r.depth) c.seal.ensures ∙ old.depth;
      packet = ap (λ (r : Ring). r.packet) c.seal.ensures ∙ old.packet;
      sealed = ap (λ (r : Ring). r.sealed) c.seal.ensures ∙ ap (λ n. n + 1) old.sealed;
      up = omega (arith, old.up);
      tries = few_joined s.settings.retries m p c.args.now s.flights c.join.new.flights.items plans old.tries flights;
      asks = asks_few s.settings.retries m p c.args.now plans old.asks;
    }

pub returns-clause-ok : goal.returns-clause-ok
returns-clause-ok c =
    let s = the_view c.self.inside in
    let m : Sending = record (sealing s.opened false s) { opened = c.args.chunk.now } in
    let p = c.in_ok-plan.plan in
    let q = c.args.expiry.now in
    let plans : PlansFor m c.args.now p =
    subst (λ (n : Numbers). Plans s.end (s.kept ++ record { seq = n.sealed; payload = s.opened; last = false } ∷ []) n s.window s.settings.receive_depth s.asked c.args.now p) c.with_one-numbers.ensures
    (subst (λ l. Plans s.end (s.kept ++ record { seq = c.with_one-numbers.result.sealed; payload = l; last = false } ∷ []) c.with_one-numbers.result s.window s.settings.receive_depth s.asked c.args.now p)
    (c.as_slice.ensures.value) c.in_ok-plan.ensures.plans) in
    let sent : c.from_vec.result ≡ [] ++ map (λ (f : Flight). f.datagram) p.flights.items =
    c.from_vec.ensures ∙ c.in_ok-plan.ensures.adds ∙ ap (λ l. l ++ map (λ (f : Flight). f.datagram) p.flights.items) c.new-datagrams.ensures.items in
    let flights : c.join.new.flights.items ≡ s.flights ++ p.flights.items = c.join.ensures ∙ ap (λ l. l ++ p.flights.items) c.in_ok-reserve.ensures.items in
    let kept : rows_in c.seal.new.ring ≡ s.kept ++ record { seq = s.sealed + 1; payload = s.opened; last = false } ∷ [] =
    ap rows_in c.seal.ensures ∙ row_sealed c.self.inside.ring c.as_slice-2.result.now false s.sealed c.self.invariant.sealed
    ∙ ap (λ l. s.kept ++ record { seq = s.sealed + 1; payload = l; last = false } ∷ []) (c.as_slice-2.ensures.value) in
    let waits : c.wait_all.new.expiry ≡ record q { held = waiting s.conn p.due (map (λ (f : Flight). f.seq) p.flights.items) q.held } =
    c.wait_all.ensures ∙ ap (λ l. record q { held = waiting s.conn p.due (map (λ (f : Flight). f.seq) l) q.held }) c.as_slice-3.ensures.value in
    let made : List ℕ → List RowPacket → List Flight → Sending =
    (λ o k f. record s { opened = o; sealed = s.sealed + 1; kept = k; sent = s.sent + p.count; flights = f; asked = option_map asked_of p.asked }) in
    let after = made c.refill.new.opened.items (rows_in c.seal.new.ring) c.join.new.flights.items in
    let state : after ≡ record m { sent = m.sent + p.count; flights = m.flights ++ p.flights.items; asked = option_map asked_of p.asked } =
    ap (λ o. made o (rows_in c.seal.new.ring) c.join.new.flights.items) c.refill.ensures.items ∙ ap (λ k. made c.args.chunk.now k c.join.new.flights.items) kept ∙ ap (made c.args.chunk.now m.kept) flights in
    subst (λ (x : Sending). Gives (record (sealing x.opened false x) { opened = c.args.chunk.now }) q.held c.args.now [] c.from_vec.result after q c.wait_all.new.expiry) c.self.view_is
    (ends m p q.held c.args.now [] c.from_vec.result after q c.wait_all.new.expiry plans sent state waits)
