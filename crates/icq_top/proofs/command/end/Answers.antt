use Rattle.std.proofs.Common.{◌+◌, ◌∙◌, ap, length}
use Rattle.icq_top.specs.declared.stop.Stop.TheVariants.{Memory}
use Rattle.icq_top.specs.Stops.{error_text, fault_text}
use Rattle.icq_top.specs.Work.{Says, EndWrites}
use Rattle.icq_top.proofs.Telling.{told-as, end_none, end_line, end_short}
use Rattle.icq_top.proofs.command.end.Goals as goal

pub returns-in_default-clause-told : goal.returns-in_default-clause-told
returns-in_default-clause-told g c = end_none c.args.run (g.K.Sink.wrote c.args.sink.now) c.in_default.is

pub returns-in-Ok-clause-told : goal.returns-in-Ok-clause-told
returns-in-Ok-clause-told g c =
    told-as (Says c.fault_status.result c.as_bytes.result.now) (EndWrites c.args.run) (g.K.Sink.wrote c.args.sink.now) (g.K.Sink.wrote c.tell.new.sink) c.tell.result.status
    (end_line c.args.run c.in-Some.fault c.fault_status.result c.as_bytes.result.now c.in-Some.is c.fault_status.ensures
    (c.as_bytes.ensures.value ∙ c.in-Ok.ensures ∙ ap (λ l. fault_text (length l + 1) c.in-Some.fault) c.as_slice.ensures)) c.tell.ensures.told

pub returns-clause-told : goal.returns-clause-told
returns-clause-told g c =
    told-as (Says 10 (error_text Memory)) (EndWrites c.args.run) (g.K.Sink.wrote c.args.sink.now) (g.K.Sink.wrote c.tell-in-Err.new.sink) c.tell-in-Err.result.status
    (end_short c.args.run) c.tell-in-Err.ensures.told
