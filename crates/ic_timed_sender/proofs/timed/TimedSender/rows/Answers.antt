use Rattle.std.proofs.Common.{◌≡◌, List, length, min, subst}
use Rattle.ic_row.specs.declared.value.Value.{Value}
use Rattle.ic_law.specs.declared.history.Entry.{Entry}
use Rattle.ic_law.specs.Putting.{chunks_put_of}
use Rattle.ic_law.specs.Streams.{AreSent}
use Rattle.ic_chunk.specs.Counts.{greatest_count}
use Rattle.ic_chunk.proofs.Ended.{tells}
use Rattle.std.specs.Prelude.{false}
use Rattle.ic_timed_sender.specs.Timed.{TimedState}
use Rattle.ic_timed_sender.specs.Standing.{Stands}
use Rattle.ic_timed_sender.proofs.timed.TimedSender.rows.Goals as goal

pub returns-clause-tells : goal.returns-clause-tells
returns-clause-tells c =
    subst (λ (o : TimedState). (h : List Entry) (rows : List (List Value)) → Stands o h → AreSent o.sending.end.key h rows → c.self.inside.rows ≡ min greatest_count (length rows)) c.self.view_is
    (λ h rows old sent. tells (chunks_put_of c.self.inside.sender.end.key h) rows sent.rest false c.self.inside.rows sent.assemble old.rows)
