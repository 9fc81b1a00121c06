use Rattle.std.proofs.Common.{◌≡◌, ◌++◌, ◌∷◌, [], ◌+◌, ◌≤◌, ℕ, List, length, ap, sym, ◌∙◌, subst}
use Rattle.std.specs.List.{Contains}
use Rattle.ic_expire.specs.Queue.{Queue, IsHeld}
use Rattle.ic_law.specs.declared.history.Entry.{Entry}
use Rattle.ic_law.specs.Numbers.{IsIncreasingFrom}
use Rattle.ic_sender.specs.Sending.{Sending}
use Rattle.ic_sender.specs.Entries.{IsTicking}
use Rattle.ic_timed_sender.specs.Timed.{TimedState, MayTick, next_tick, datagrams_due, queries_due, ticking}
use Rattle.ic_timed_sender.specs.Standing.{Stands, IsSound}
use Rattle.ic_timed_sender.proofs.Steps.{state}
use Rattle.ic_timed_sender.proofs.Ticking.{due_increase, due_taken, due_room, tick_stands, tick_sound, passed, ticked_as}
use Rattle.ic_timed_sender.proofs.timed.TimedSender.ticked.Goals as goal

may : (c : goal.After-again-arg-2-1) → MayTick (state c.self.inside.sender c.self.inside.waits.held c.self.inside.tick c.self.inside.rows) c.args.numbers.now
may c = subst (λ (o : TimedState). MayTick o c.args.numbers.now) (sym c.self.view_is) c.requires

passed_is : (c : goal.After-again-arg-2-1) → c.pass.new.self ≡ passed c.self.inside.waits (next_tick c.self.inside.tick)
passed_is c = c.pass.ensures.ok ∙ ap (passed c.self.inside.waits) c.tick_behind-next.ensures

pub again-requires-clause-increase : goal.again-requires-clause-increase
again-requires-clause-increase c = subst (IsIncreasingFrom 1) (sym (may c).due) (due_increase c.self.inside.sender c.self.inside.waits c.self.inside.tick c.self.inside.rows c.self.invariant c.bounded.ensures.queue)

pub again-requires-clause-taken : goal.again-requires-clause-taken
again-requires-clause-taken c n at held =
    due_taken c.self.inside.sender c.self.inside.waits c.self.inside.tick c.self.inside.rows c.self.invariant c.bounded.ensures.queue n (subst (λ (l : List ℕ). Contains l n) (may c).due at)
    (subst (λ (x : Queue). IsHeld c.self.inside.sender.conn n x.held) (passed_is c) held)

pub again-requires-clause-room : goal.again-requires-clause-room
again-requires-clause-room c =
    subst (λ (x : Queue). length x.held + length c.args.numbers.now ≤ x.room) (sym (passed_is c))
    (subst (λ (l : List ℕ). length (passed c.self.inside.waits (next_tick c.self.inside.tick)).held + length l ≤ c.self.inside.waits.room) (sym (may c).due)
    (due_room c.self.inside.sender c.self.inside.waits c.self.inside.tick c.self.inside.rows c.self.invariant c.bounded.ensures.queue))

may_tick : (c : goal.After-self-1) → MayTick (state c.self.inside.sender c.self.inside.waits.held c.self.inside.tick c.self.inside.rows) c.args.numbers.now
may_tick c = subst (λ (o : TimedState). MayTick o c.args.numbers.now) (sym c.self.view_is) c.requires

abbrev made_of : (c : goal.After-self-1) → TimedState
made_of c = ticking (state c.self.inside.sender c.self.inside.waits.held c.self.inside.tick c.self.inside.rows)

new_is : (c : goal.After-self-1) → (c.asked.new.sender ≡ (made_of c).sending) × (c.again.new.waits ≡ record { held = (made_of c).held; asked = next_tick c.self.inside.tick; room = c.self.inside.waits.room })
new_is c =
    ticked_as c.self.inside.sender c.self.inside.waits c.pass.new.self c.again.new.waits c.self.inside.tick c.self.inside.rows c.tick_behind-next.result c.args.numbers.now c.again.new.sender c.asked.new.sender c.tick_behind-next.ensures (may_tick c) c.pass.ensures.ok
    c.again.ensures.state c.again.ensures.waits c.asked.ensures

pub invariant_of-self : goal.invariant_of-self
invariant_of-self c =
    let s = c.self.inside.sender in
    let q = c.self.inside.waits in
    let now = c.self.inside.tick in
    let rows = c.self.inside.rows in
    subst (λ (x : Sending). IsSound x c.again.new.waits c.tick_behind-next.result rows) (sym (new_is c).0)
    (subst (λ (x : Queue). IsSound (ticking (state s q.held now rows)).sending x c.tick_behind-next.result rows) (sym (new_is c).1)
    (subst (λ (n : ℕ). IsSound (ticking (state s q.held now rows)).sending (record { held = (ticking (state s q.held now rows)).held; asked = next_tick now; room = q.room }) n rows) (sym c.tick_behind-next.ensures)
    (tick_sound s q now rows c.args.numbers.now c.self.invariant c.bounded.ensures.queue (may_tick c))))

pub returns-clause-stands : goal.returns-clause-stands
returns-clause-stands c =
    let s = c.self.inside.sender in
    let q = c.self.inside.waits in
    let now = c.self.inside.tick in
    let rows = c.self.inside.rows in
    let made : TimedState = ticking (state s q.held now rows) in
    let new : state c.asked.new.sender c.again.new.waits.held c.tick_behind-next.result rows ≡ made =
    ap (λ (x : Sending). state x c.again.new.waits.held c.tick_behind-next.result rows) (new_is c).0 ∙ ap (λ (x : Queue). state made.sending x.held c.tick_behind-next.result rows) (new_is c).1 ∙ ap (λ (n : ℕ). state made.sending made.held n rows) c.tick_behind-next.ensures in
    subst (λ (o : TimedState). (h : List Entry) (e : Entry) → IsTicking o.sending.end.key (datagrams_due o ++ queries_due o) e → Stands o h → Stands (state c.asked.new.sender c.again.new.waits.held c.tick_behind-next.result rows) (h ++ e ∷ []))
    c.self.view_is (λ h e is old. subst (λ (o : TimedState). Stands o (h ++ e ∷ [])) (sym new) (tick_stands s q now rows c.args.numbers.now c.self.invariant c.bounded.ensures.queue (may_tick c) h e is old))
