use Rattle.std.proofs.Common.{◌++◌, ◌∷◌, [], List, ap, ◌∙◌, subst}
use Rattle.std.specs.Prelude.{IfOk}
use Rattle.ic_law.specs.declared.history.Entry.{Entry}
use Rattle.ic_sender.specs.Entries.{IsFinishing}
use Rattle.ic_timed_sender.specs.Emitted.{AreOutgoing}
use Rattle.ic_timed_sender.specs.Timed.{TimedState}
use Rattle.ic_timed_sender.specs.Standing.{Stands}
use Rattle.ic_timed_sender.proofs.Room.{waits_alone, leaves_more_room}
use Rattle.ic_timed_sender.proofs.Steps.{state}
use Rattle.ic_timed_sender.proofs.Going.{finish_stands, finish_sound, finish_formed}
use Rattle.ic_timed_sender.proofs.timed.TimedSender.finish.Goals as goal

pub finish-requires-clause-alone : goal.finish-requires-clause-alone
finish-requires-clause-alone c = waits_alone c.self.inside.sender c.self.inside.waits c.self.inside.tick c.self.inside.rows c.self.invariant

pub finish-requires-clause-room : goal.finish-requires-clause-room
finish-requires-clause-room c = leaves_more_room c.self.inside.sender c.self.inside.waits c.self.inside.tick c.self.inside.rows c.self.invariant c.bounded.ensures.queue c.bounded.ensures.kept

pub invariant_of-self : goal.invariant_of-self
invariant_of-self c =
    finish_sound c.self.inside.sender c.self.inside.waits c.self.inside.tick c.self.inside.rows c.finish.result c.finish.new.self c.finish.new.expiry c.self.invariant (ap (λ (o : TimedState). o.sending.finished) c.self.view_is ∙ c.requires.unfinished) c.finish.ensures.puts
    c.finish.ensures.stands

pub returns-clause-formed : goal.returns-clause-formed
returns-clause-formed c =
    subst (λ (o : TimedState). IfOk c.finish.result (AreOutgoing o.sending)) c.self.view_is
    (finish_formed c.self.inside.sender c.self.inside.waits c.self.inside.tick c.self.inside.rows c.finish.result c.finish.new.self c.finish.new.expiry c.self.invariant (ap (λ (o : TimedState). o.sending.finished) c.self.view_is ∙ c.requires.unfinished)
    c.finish.ensures.puts c.finish.ensures.stands)

pub returns-clause-stands : goal.returns-clause-stands
returns-clause-stands c =
    subst (λ (o : TimedState). (h : List Entry) (e : Entry) → IsFinishing o.sending.end.key c.finish.result e → Stands o h → Stands (state c.finish.new.self c.finish.new.expiry.held c.self.inside.tick c.self.inside.rows) (h ++ e ∷ [])) c.self.view_is
    (finish_stands c.self.inside.sender c.self.inside.waits c.self.inside.tick c.self.inside.rows c.finish.result c.finish.new.self c.finish.new.expiry c.self.invariant (ap (λ (o : TimedState). o.sending.finished) c.self.view_is ∙ c.requires.unfinished)
    c.finish.ensures.puts c.finish.ensures.stands)
