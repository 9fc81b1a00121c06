use Rattle.std.proofs.Common.{◌≡◌, ◌≤◌, ◌+◌, ◌++◌, [], List, ℕ, length, map, ap, sym, ◌∙◌, arith, subst, append-nil}
use Rattle.std.specs.Option.{option_map}
use Rattle.ic_sender.specs.declared.flight.Flight.{Flight}
use Rattle.ic_sender.specs.Sending.{Sending, waiting}
use Rattle.ic_sender.specs.Calls.{Gives, WaitsAlone, unsent}
use Rattle.ic_sender.specs.Views.{asked_of, rows_in, Plans, MayWait}
use Rattle.ic_sender.proofs.Ending.{PlansFor, numbers_of, ends, plan_may, due_within, few_joined, asks_few, length-append}
use Rattle.ic_sender.specs.contracts.sender.Sender.{the_view}
use Rattle.ic_sender.proofs.sender.Sender.append.Goals as goal

pub wait_all-requires-clause-may : goal.wait_all-requires-clause-may
wait_all-requires-clause-may c =
    let s = the_view c.self.inside in
    let plans : PlansFor s c.args.now c.in_ok-plan.plan =
    subst (λ l. Plans s.end l (numbers_of s) s.window s.settings.receive_depth s.asked c.args.now c.in_ok-plan.plan) (append-nil (rows_in c.self.inside.ring)) c.in_ok-plan.ensures.plans in
    let may = plan_may s c.in_ok-plan.plan c.args.now c.args.expiry.now plans
    (subst (λ (x : Sending). WaitsAlone x c.args.expiry.now) (sym c.self.view_is) c.requires.alone)
    (subst (λ (x : Sending). length c.args.expiry.now.held + unsent x ≤ c.args.expiry.now.room) (sym c.self.view_is) c.requires.room) in
    subst (λ l. MayWait c.self.inside.conn (map (λ (f : Flight). f.seq) l) c.args.expiry.now) (sym c.as_slice.ensures.value) may

pub wait_all-requires-clause-from : goal.wait_all-requires-clause-from
wait_all-requires-clause-from c = (due_within c.self.inside.window c.args.now c.in_ok-plan.plan.due c.args.expiry.now c.requires.now c.in_ok-plan.ensures.plans.due).0

pub invariant_of-self-2 : goal.invariant_of-self-2
invariant_of-self-2 c =
    let s = the_view c.self.inside in
    let p = c.in_ok-plan.plan in
    let old = c.self.invariant in
    let plans : PlansFor s c.args.now p = subst (λ l. Plans s.end l (numbers_of s) s.window s.settings.receive_depth s.asked c.args.now p) (append-nil (rows_in c.self.inside.ring)) c.in_ok-plan.ensures.plans in
    let len : length c.fill.new.opened.items ≡ length s.opened + length c.args.chunk.now = ap length c.fill.ensures.items ∙ length-append s.opened c.args.chunk.now in
    let fits = subst (λ (x : Sending). length x.opened + length c.args.chunk.now + 68 ≤ x.settings.packet) (sym c.self.view_is) c.requires.fits in
    let flights : c.join.new.flights.items ≡ s.flights ++ p.flights.items = c.join.ensures ∙ ap (λ l. l ++ p.flights.items) c.in_ok-reserve.ensures.items in
    record {
      checked = old.checked;
      fits = omega (arith, len, fits);
      room = omega (arith, old.room, c.fill.ensures.capacity);
      depth = old.depth;
      packet = old.packet;
      sealed = old.sealed;
      up = omega (arith, old.up);
      tries = few_joined s.settings.retries s p c.args.now s.flights c.join.new.flights.items plans old.tries flights;
      asks = asks_few s.settings.retries s p c.args.now plans old.asks;
    }

pub returns-clause-ok : goal.returns-clause-ok
returns-clause-ok c =
    let s = the_view c.self.inside in
    let p = c.in_ok-plan.plan in
    let q = c.args.expiry.now in
    let m : Sending = record s { opened = s.opened ++ c.args.chunk.now } in
    let plans : PlansFor m c.args.now p = subst (λ l. Plans s.end l (numbers_of s) s.window s.settings.receive_depth s.asked c.args.now p) (append-nil (rows_in c.self.inside.ring)) c.in_ok-plan.ensures.plans in
    let sent : c.from_vec.result ≡ [] ++ map (λ (f : Flight). f.datagram) p.flights.items =
    c.from_vec.ensures ∙ c.in_ok-plan.ensures.adds ∙ ap (λ l. l ++ map (λ (f : Flight). f.datagram) p.flights.items) c.new-datagrams.ensures.items in
    let flights : c.join.new.flights.items ≡ s.flights ++ p.flights.items = c.join.ensures ∙ ap (λ l. l ++ p.flights.items) c.in_ok-reserve.ensures.items in
    let made : List ℕ → List Flight → Sending = (λ o f. record s { opened = o; sent = s.sent + p.count; flights = f; asked = option_map asked_of p.asked }) in
    let waits : c.wait_all.new.expiry ≡ record q { held = waiting s.conn p.due (map (λ (f : Flight). f.seq) p.flights.items) q.held } =
    c.wait_all.ensures ∙ ap (λ l. record q { held = waiting s.conn p.due (map (λ (f : Flight). f.seq) l) q.held }) c.as_slice.ensures.value in
    let state : made c.fill.new.opened.items c.join.new.flights.items ≡ record m { sent = m.sent + p.count; flights = m.flights ++ p.flights.items; asked = option_map asked_of p.asked } =
    ap (λ o. made o c.join.new.flights.items) c.fill.ensures.items ∙ ap (made (s.opened ++ c.args.chunk.now)) flights in
    subst (λ (x : Sending). Gives (record x { opened = x.opened ++ c.args.chunk.now }) q.held c.args.now [] c.from_vec.result (made c.fill.new.opened.items c.join.new.flights.items) q c.wait_all.new.expiry) c.self.view_is
    (ends m p q.held c.args.now [] c.from_vec.result (made c.fill.new.opened.items c.join.new.flights.items) q c.wait_all.new.expiry plans sent state waits)
