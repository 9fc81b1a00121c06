use Rattle.std.proofs.Common.{◌++◌, ◌∷◌, [], List, subst}
use Rattle.std.specs.Prelude.{IfOk}
use Rattle.ic_law.specs.declared.history.Entry.{Entry}
use Rattle.ic_sender.specs.Entries.{IsPutting}
use Rattle.ic_timed_sender.specs.Emitted.{AreOutgoing}
use Rattle.ic_timed_sender.specs.Timed.{TimedState}
use Rattle.ic_timed_sender.specs.Standing.{Stands}
use Rattle.ic_timed_sender.proofs.Room.{waits_alone, leaves_more_room}
use Rattle.ic_timed_sender.proofs.Steps.{state}
use Rattle.ic_timed_sender.proofs.Going.{put_stands, put_sound, put_formed}
use Rattle.ic_timed_sender.proofs.timed.TimedSender.put.Goals as goal

pub put-given-requires-clause-alone : goal.put-given-requires-clause-alone
put-given-requires-clause-alone c = waits_alone c.self.inside.sender c.self.inside.waits c.self.inside.tick c.self.inside.rows c.self.invariant

pub put-given-requires-clause-room : goal.put-given-requires-clause-room
put-given-requires-clause-room c = leaves_more_room c.self.inside.sender c.self.inside.waits c.self.inside.tick c.self.inside.rows c.self.invariant c.bounded.ensures.queue c.bounded.ensures.kept

pub invariant_of-self : goal.invariant_of-self
invariant_of-self c =
    put_sound c.self.inside.sender c.self.inside.waits c.self.inside.tick c.self.inside.rows c.rows_with-self-inside.result c.args.chunk.now c.put-given.result c.put-given.new.self c.put-given.new.expiry c.self.invariant c.put-given.ensures.puts c.put-given.ensures.stands c.rows_with-self-inside.ensures.counts

pub returns-clause-formed : goal.returns-clause-formed
returns-clause-formed c =
    subst (λ (o : TimedState). IfOk c.put-given.result (AreOutgoing o.sending)) c.self.view_is
    (put_formed c.self.inside.sender c.self.inside.waits c.self.inside.tick c.self.inside.rows c.rows_with-self-inside.result c.args.chunk.now c.put-given.result c.put-given.new.self c.put-given.new.expiry c.self.invariant c.put-given.ensures.puts c.put-given.ensures.stands c.rows_with-self-inside.ensures.counts)

pub returns-clause-stands : goal.returns-clause-stands
returns-clause-stands c =
    subst (λ (o : TimedState). (h : List Entry) (e : Entry) → IsPutting o.sending.end.key c.args.chunk.now c.put-given.result e → Stands o h → Stands (state c.put-given.new.self c.put-given.new.expiry.held c.self.inside.tick c.rows_with-self-inside.result) (h ++ e ∷ [])) c.self.view_is
    (put_stands c.self.inside.sender c.self.inside.waits c.self.inside.tick c.self.inside.rows c.rows_with-self-inside.result c.args.chunk.now c.put-given.result c.put-given.new.self c.put-given.new.expiry c.self.invariant c.put-given.ensures.puts c.put-given.ensures.stands c.rows_with-self-inside.ensures.counts)
