use Rattle.std.proofs.Common.{◌++◌, ◌∷◌, [], List, subst}
use Rattle.std.specs.Prelude.{IfOk}
use Rattle.ic_expire.specs.Queue.{Queue}
use Rattle.ic_law.specs.declared.history.Entry.{Entry}
use Rattle.ic_sender.specs.Entries.{IsHearing}
use Rattle.ic_timed_sender.specs.Emitted.{AreOutgoing}
use Rattle.ic_timed_sender.specs.Timed.{TimedState, queue_of, HearsBy}
use Rattle.ic_timed_sender.specs.Standing.{Stands}
use Rattle.ic_timed_sender.proofs.Room.{waits_alone, leaves_room}
use Rattle.ic_timed_sender.proofs.Steps.{state, queue_is}
use Rattle.ic_timed_sender.proofs.Going.{hear_stands, hear_sound, hear_formed}
use Rattle.ic_timed_sender.proofs.timed.TimedSender.hear.Goals as goal

pub answer-requires-clause-alone : goal.answer-requires-clause-alone
answer-requires-clause-alone c = waits_alone c.self.inside.sender c.self.inside.waits c.self.inside.tick c.self.inside.rows c.self.invariant

pub answer-requires-clause-room : goal.answer-requires-clause-room
answer-requires-clause-room c = leaves_room c.self.inside.sender c.self.inside.waits c.self.inside.tick c.self.inside.rows c.self.invariant c.bounded.ensures.queue c.bounded.ensures.kept

pub invariant_of-self : goal.invariant_of-self
invariant_of-self c =
    let head = c.args.head.now in
    hear_sound head.flags head.seq head.extra c.args.body.now c.self.inside.sender c.self.inside.waits c.self.inside.tick c.self.inside.rows c.answer.result c.answer.new.sender c.answer.new.waits c.requires.back c.requires.allowed c.self.invariant c.answer.ensures.hears
    c.answer.ensures.stands c.requires.fits c.are_words.ensures.seq c.are_words.ensures.extra

pub returns-clause-formed : goal.returns-clause-formed
returns-clause-formed c =
    let head = c.args.head.now in
    subst (λ (o : TimedState). IfOk c.answer.result (AreOutgoing o.sending)) c.self.view_is
    (hear_formed head.flags head.seq head.extra c.args.body.now c.self.inside.sender c.self.inside.waits c.self.inside.tick c.self.inside.rows c.answer.result c.answer.new.sender c.answer.new.waits c.requires.back c.requires.allowed c.self.invariant c.answer.ensures.hears
    c.answer.ensures.stands (invariant_of-self c))

pub returns-clause-stands : goal.returns-clause-stands
returns-clause-stands c =
    let head = c.args.head.now in
    subst (λ (o : TimedState). (h : List Entry) (e : Entry) → IsHearing o.sending.end.key head.flags head.seq head.extra c.args.body.now c.answer.result e → Stands o h → Stands (state c.answer.new.sender c.answer.new.waits.held c.self.inside.tick c.self.inside.rows) (h ++ e ∷ [])) c.self.view_is
    (hear_stands head.flags head.seq head.extra c.args.body.now c.self.inside.sender c.self.inside.waits c.self.inside.tick c.self.inside.rows c.answer.result c.answer.new.sender c.answer.new.waits c.requires.back c.requires.allowed c.self.invariant c.answer.ensures.hears
    c.answer.ensures.stands)

pub returns-clause-hears : goal.returns-clause-hears
returns-clause-hears c =
    let head = c.args.head.now in
    let s = c.self.inside.sender in
    let q = c.self.inside.waits in
    let now = c.self.inside.tick in
    let rows = c.self.inside.rows in
    let after = c.answer.new.sender in
    let left = c.answer.new.waits in
    subst (λ (o : TimedState). HearsBy head.flags head.seq head.extra c.args.body.now o.sending (queue_of o) o.now c.answer.result after (queue_of (state after left.held now rows))) c.self.view_is
    (subst (λ (x : Queue). HearsBy head.flags head.seq head.extra c.args.body.now s x now c.answer.result after (queue_of (state after left.held now rows))) (queue_is s q now rows c.self.invariant)
    (subst (λ (x : Queue). HearsBy head.flags head.seq head.extra c.args.body.now s q now c.answer.result after x) (queue_is after left now rows (invariant_of-self c)) c.answer.ensures.hears))
