use Rattle.std.proofs.Common.{◌≡◌, ◌≤◌, ◌+◌, ◌++◌, [], max, List, ℕ, Option, length, map, ap, sym, ◌∙◌, arith, subst, append-nil}
use Rattle.std.specs.Prelude.{nat_lt, filter}
use Rattle.std.specs.Option.{option_map}
use Rattle.ic_expire.specs.Items.{is_upto}
use Rattle.ic_expire.specs.Queue.{Queue, without}
use Rattle.ic_sendring.specs.Ring.{Ring}
use Rattle.ic_window.specs.State.{WindowState}
use Rattle.ic_header.specs.Packets.{RowPacket}
use Rattle.ic_law.specs.Timers as law
use Rattle.ic_base.specs.declared.datagram.Datagram.{Datagram}
use Rattle.ic_sender.specs.declared.flight.Flight.{Flight}
use Rattle.ic_sender.specs.declared.numbers.Numbers.{Numbers}
use Rattle.ic_sender.specs.declared.planning.Plan.{Plan}
use Rattle.ic_sender.specs.declared.answers.Answer as declared
use Rattle.ic_sender.specs.Sending.{Sending, waiting, run_with, hearing, datagrams_again, freed_window, lost_with, copies, marked, named, counted}
use Rattle.ic_sender.specs.Calls.{Gives, WaitsAlone, unsent}
use Rattle.ic_sender.specs.Views.{asked_of, rows_in, Plans, MayWait, told}
use Rattle.ic_sender.proofs.MayWaiting.{alone_without, length-without}
use Rattle.ic_sender.proofs.Ending.{PlansFor, ends, plan_may, due_within, few_joined, asks_few, plans_freed, ring_freed, few_heard, later_few}
use Rattle.ic_sender.specs.contracts.sender.Sender.{the_view}
use Rattle.ic_sender.proofs.sender.Sender.hear.Goals as goal

-- the connection with packets up to run freed
heard : Sending → ℕ → declared.Answer → ℕ → Sending
heard s now a run =
    let fs = filter (λ (f : Flight). nat_lt run f.seq) s.flights in
    record s {
      kept = filter (λ (x : RowPacket). nat_lt run x.seq) s.kept;
      acked = run;
      consumed = max s.consumed a.consumed;
      flights = map (λ f. marked a.lists.now (named a.names f)) fs;
      window = lost_with (copies fs a.lists.now) (freed_window now run s);
      asked = option_map (law.asked_later now (freed_window now run s)) s.asked;
      resent = counted s.resent (length (copies fs a.lists.now));
    }

-- of the plan as it was made
planned : (s : Sending) (now run consumed : ℕ) (a : declared.Answer) (p : Plan) (w freed : WindowState) (o : Option law.Asked) (out before : List Datagram) (fs : List Flight) → run ≤ s.sent → consumed ≡ max s.consumed a.consumed
    → freed ≡ freed_window now run s → w ≡ lost_with out freed → out ≡ before ++ copies (filter (λ (f : Flight). nat_lt run f.seq) fs) a.lists.now → before ≡ [] → fs ≡ s.flights → o ≡ option_map (law.asked_later now freed) s.asked
    → Plans s.end (s.kept ++ []) (record { sealed = s.sealed; sent = s.sent; acked = run; consumed = consumed }) w s.settings.receive_depth o now p → PlansFor (heard s now a run) now p
unfolding heard
planned s now run consumed a p w freed o out before fs le is_consumed is_freed is_w is_out none is_fs is_o plans =
    let again = copies (filter (λ (f : Flight). nat_lt run f.seq) s.flights) a.lists.now in
    let sent : out ≡ again = is_out ∙ ap (λ l. l ++ copies (filter (λ (f : Flight). nat_lt run f.seq) fs) a.lists.now) none ∙ ap (λ l. copies (filter (λ (f : Flight). nat_lt run f.seq) l) a.lists.now) is_fs in
    let window : w ≡ lost_with again (freed_window now run s) = is_w ∙ ap (λ l. lost_with l freed) sent ∙ ap (lost_with again) is_freed in
    let asked : o ≡ option_map (law.asked_later now (freed_window now run s)) s.asked = is_o ∙ ap (λ v. option_map (law.asked_later now v) s.asked) is_freed in
    let depth = s.settings.receive_depth in
    let n : ℕ → Numbers = (λ k. record { sealed = s.sealed; sent = s.sent; acked = run; consumed = k }) in
    let one = subst (λ l. Plans s.end l (n consumed) w depth o now p) (append-nil s.kept) plans in
    let two = subst (λ k. Plans s.end s.kept (n k) w depth o now p) is_consumed one in
    let three = subst (λ v. Plans s.end s.kept (n (max s.consumed a.consumed)) v depth o now p) window two in
    let four = subst (λ x. Plans s.end s.kept (n (max s.consumed a.consumed)) (lost_with again (freed_window now run s)) depth x now p) asked three in
    plans_freed s.end s.kept (n (max s.consumed a.consumed)) (lost_with again (freed_window now run s)) depth (option_map (law.asked_later now (freed_window now run s)) s.asked) now p run le four

pub wait_all-requires-clause-may : goal.wait_all-requires-clause-may
unfolding heard
wait_all-requires-clause-may c =
    let s = the_view c.self.inside in
    let a = c.args.answer.now in
    let p = c.in_ok-plan.plan in
    let run = c.max-run.result in
    let m : Sending = heard s c.args.now a run in
    let up : run ≤ s.sent = omega (arith, c.max-run.ensures, c.self.invariant.up, subst (λ (x : Sending). a.run ≤ x.sent) (sym c.self.view_is) c.requires.run) in
    let plans : PlansFor m c.args.now p =
    planned s c.args.now run c.max.result a p c.with_loss-window.result c.freed_window-freed.result (option_map asked_of c.later-asked.result) c.as_slice-2.result.now c.new-datagrams.result.items c.as_slice.result.now up c.max.ensures
    (c.freed_window-freed.ensures ∙ ap (freed_window c.args.now run) (sym c.self.view_is)) c.with_loss-window.ensures (c.as_slice-2.ensures.value ∙ c.in_ok-push_copies_above.ensures) c.new-datagrams.ensures.items c.as_slice.ensures.value c.later-asked.ensures c.in_ok-plan.ensures.plans in
    let q = c.args.expiry.now in
    let cut : Queue = record q { held = without (is_upto s.conn run) q.held } in
    let room = subst (λ (x : Sending). length q.held + unsent x ≤ q.room) (sym c.self.view_is) c.requires.room in
    let less = length-without (is_upto s.conn run) q.held in
    let alone = alone_without s.conn s.sent (is_upto s.conn run) q.held (subst (λ (x : Sending). WaitsAlone x q) (sym c.self.view_is) c.requires.alone) in
    let may = plan_may m p c.args.now cut plans alone (omega (arith, room, less)) in
    subst (λ l. MayWait s.conn (map (λ (f : Flight). f.seq) l) c.cut.new.self) (sym c.as_slice-3.ensures.value)
    (subst (λ (x : Queue). MayWait s.conn (map (λ (f : Flight). f.seq) p.flights.items) x) (sym c.cut.ensures.ok) may)

pub wait_all-requires-clause-from : goal.wait_all-requires-clause-from
wait_all-requires-clause-from c =
    let asked : c.cut.new.self.asked ≡ c.args.expiry.now.asked = ap (λ (x : Queue). x.asked) c.cut.ensures.ok in
    let within = (due_within c.with_loss-window.result c.args.now c.in_ok-plan.plan.due c.args.expiry.now c.requires.now c.in_ok-plan.ensures.plans.due).0 in
    omega (arith, asked, within)

pub wait_all-requires-clause-upto : goal.wait_all-requires-clause-upto
wait_all-requires-clause-upto c =
    let asked : c.cut.new.self.asked ≡ c.args.expiry.now.asked = ap (λ (x : Queue). x.asked) c.cut.ensures.ok in
    let within = (due_within c.with_loss-window.result c.args.now c.in_ok-plan.plan.due c.args.expiry.now c.requires.now c.in_ok-plan.ensures.plans.due).1 in
    omega (arith, asked, within)

pub invariant_of-self-2 : goal.invariant_of-self-2
unfolding heard
invariant_of-self-2 c =
    let s = the_view c.self.inside in
    let a = c.args.answer.now in
    let p = c.in_ok-plan.plan in
    let run = c.max-run.result in
    let m : Sending = heard s c.args.now a run in
    let up : run ≤ s.sent = omega (arith, c.max-run.ensures, c.self.invariant.up, subst (λ (x : Sending). a.run ≤ x.sent) (sym c.self.view_is) c.requires.run) in
    let plans : PlansFor m c.args.now p =
    planned s c.args.now run c.max.result a p c.with_loss-window.result c.freed_window-freed.result (option_map asked_of c.later-asked.result) c.as_slice-2.result.now c.new-datagrams.result.items c.as_slice.result.now up c.max.ensures
    (c.freed_window-freed.ensures ∙ ap (freed_window c.args.now run) (sym c.self.view_is)) c.with_loss-window.ensures (c.as_slice-2.ensures.value ∙ c.in_ok-push_copies_above.ensures) c.new-datagrams.ensures.items c.as_slice.ensures.value c.later-asked.ensures c.in_ok-plan.ensures.plans in
    let old = c.self.invariant in
    let fs : c.hear_listed.new.flights.items ≡ m.flights =
    c.hear_listed.ensures.items ∙ ap (map (λ f. marked a.lists.now (named a.names f))) (c.free.ensures.items ∙ ap (filter (λ (f : Flight). nat_lt run f.seq)) c.in_ok-reserve.ensures.items) in
    let flights : c.join.new.flights.items ≡ m.flights ++ p.flights.items = c.join.ensures ∙ ap (λ l. l ++ p.flights.items) fs in
    let ring = c.acked-freed.ensures.kept in
    record {
      checked = old.checked;
      fits = old.fits;
      room = old.room;
      depth = ap (λ (r : Ring). r.depth) ring ∙ old.depth;
      packet = ap (λ (r : Ring). r.packet) ring ∙ old.packet;
      sealed = ap (λ (r : Ring). r.sealed) ring ∙ old.sealed;
      up = omega (arith, up);
      tries = few_joined s.settings.retries m p c.args.now m.flights c.join.new.flights.items plans (few_heard s.settings.retries a.names a.lists.now (λ (f : Flight). nat_lt run f.seq) s.flights old.tries) flights;
      asks = asks_few s.settings.retries m p c.args.now plans (later_few s.settings.retries c.args.now (freed_window c.args.now run s) s.asked);
    }

pub returns-clause-ok : goal.returns-clause-ok
unfolding heard
returns-clause-ok c =
    let s = the_view c.self.inside in
    let a = c.args.answer.now in
    let p = c.in_ok-plan.plan in
    let run = c.max-run.result in
    let m : Sending = heard s c.args.now a run in
    let up : run ≤ s.sent = omega (arith, c.max-run.ensures, c.self.invariant.up, subst (λ (x : Sending). a.run ≤ x.sent) (sym c.self.view_is) c.requires.run) in
    let plans : PlansFor m c.args.now p =
    planned s c.args.now run c.max.result a p c.with_loss-window.result c.freed_window-freed.result (option_map asked_of c.later-asked.result) c.as_slice-2.result.now c.new-datagrams.result.items c.as_slice.result.now up c.max.ensures
    (c.freed_window-freed.ensures ∙ ap (freed_window c.args.now run) (sym c.self.view_is)) c.with_loss-window.ensures (c.as_slice-2.ensures.value ∙ c.in_ok-push_copies_above.ensures) c.new-datagrams.ensures.items c.as_slice.ensures.value c.later-asked.ensures c.in_ok-plan.ensures.plans in
    let q = c.args.expiry.now in
    let again = copies (filter (λ (f : Flight). nat_lt run f.seq) s.flights) a.lists.now in
    let out : c.push_copies_above.new.out.items ≡ again =
    c.in_ok-push_copies_above.ensures ∙ ap (λ l. l ++ copies (filter (λ (f : Flight). nat_lt run f.seq) c.as_slice.result.now) a.lists.now) c.new-datagrams.ensures.items
    ∙ ap (λ l. copies (filter (λ (f : Flight). nat_lt run f.seq) l) a.lists.now) c.as_slice.ensures.value in
    let sent : c.from_vec.result ≡ again ++ map (λ (f : Flight). f.datagram) p.flights.items =
    c.from_vec.ensures ∙ c.in_ok-plan.ensures.adds ∙ ap (λ l. l ++ map (λ (f : Flight). f.datagram) p.flights.items) out in
    let fs : c.hear_listed.new.flights.items ≡ m.flights =
    c.hear_listed.ensures.items ∙ ap (map (λ f. marked a.lists.now (named a.names f))) (c.free.ensures.items ∙ ap (filter (λ (f : Flight). nat_lt run f.seq)) c.in_ok-reserve.ensures.items) in
    let flights : c.join.new.flights.items ≡ m.flights ++ p.flights.items = c.join.ensures ∙ ap (λ l. l ++ p.flights.items) fs in
    let kept : rows_in c.acked-freed.new.self ≡ m.kept = ap rows_in c.acked-freed.ensures.kept ∙ ring_freed c.self.inside.ring run in
    let window : c.with_loss-window.result ≡ m.window =
    c.with_loss-window.ensures ∙ ap (λ l. lost_with l c.freed_window-freed.result) (c.as_slice-2.ensures.value ∙ out) ∙ ap (lost_with again) (c.freed_window-freed.ensures ∙ ap (freed_window c.args.now run) (sym c.self.view_is)) in
    let len : c.len-again.result ≡ length again = c.len-again.ensures ∙ (let l : length c.push_copies_above.new.out.items ≡ length again = ap length out in omega (arith, l, c.push_copies_above.new.out.ok.0)) in
    let count : c.saturating_add-self-inside.result ≡ m.resent = c.saturating_add-self-inside.ensures ∙ ap (counted s.resent) len in
    let made : List RowPacket → ℕ → List Flight → WindowState → ℕ → Sending =
    (λ k n f w r. record s { kept = k; acked = run; consumed = n; sent = s.sent + p.count; flights = f; window = w; asked = option_map asked_of p.asked; resent = r }) in
    let after = made (rows_in c.acked-freed.new.self) c.max.result c.join.new.flights.items c.with_loss-window.result c.saturating_add-self-inside.result in
    let state : after ≡ record m { sent = m.sent + p.count; flights = m.flights ++ p.flights.items; asked = option_map asked_of p.asked } =
    ap (λ k. made k c.max.result c.join.new.flights.items c.with_loss-window.result c.saturating_add-self-inside.result) kept
    ∙ ap (λ n. made m.kept n c.join.new.flights.items c.with_loss-window.result c.saturating_add-self-inside.result) c.max.ensures
    ∙ ap (λ f. made m.kept m.consumed f c.with_loss-window.result c.saturating_add-self-inside.result) flights
    ∙ ap (λ w. made m.kept m.consumed (m.flights ++ p.flights.items) w c.saturating_add-self-inside.result) window
    ∙ ap (λ r. made m.kept m.consumed (m.flights ++ p.flights.items) m.window r) count in
    let seqs = map (λ (f : Flight). f.seq) p.flights.items in
    let waits : c.wait_all.new.expiry ≡ record q { held = waiting s.conn p.due seqs (without (is_upto s.conn run) q.held) } =
    c.wait_all.ensures ∙ ap (λ l. record c.cut.new.self { held = waiting s.conn p.due (map (λ (f : Flight). f.seq) l) c.cut.new.self.held }) c.as_slice-3.ensures.value
    ∙ ap (λ (x : Queue). record x { held = waiting s.conn p.due seqs x.held }) c.cut.ensures.ok in
    let gives = ends m p (without (is_upto s.conn run) q.held) c.args.now again c.from_vec.result after q c.wait_all.new.expiry plans sent state waits in
    subst (λ (x : Sending). Gives (hearing c.args.now (told a) x) (without (is_upto x.conn (run_with (told a) x)) q.held) c.args.now (datagrams_again c.args.now (told a) x) c.from_vec.result after q c.wait_all.new.expiry) c.self.view_is
    (subst (λ r. Gives (heard s c.args.now a r) (without (is_upto s.conn r) q.held) c.args.now (copies (filter (λ (f : Flight). nat_lt r f.seq) s.flights) a.lists.now) c.from_vec.result after q c.wait_all.new.expiry) c.max-run.ensures gives)
