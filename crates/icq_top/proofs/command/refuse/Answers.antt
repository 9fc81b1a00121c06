use Rattle.std.proofs.Common.{◌∙◌}
use Rattle.icq_top.specs.declared.stop.Stop.TheVariants.{Memory}
use Rattle.icq_top.specs.Stops.{error_text}
use Rattle.icq_top.specs.Work.{Says, StopWrites}
use Rattle.icq_top.proofs.Telling.{told-as, stop_line, stop_short}
use Rattle.icq_top.proofs.command.refuse.Goals as goal

pub returns-in-Ok-clause-told : goal.returns-in-Ok-clause-told
returns-in-Ok-clause-told g c =
    told-as (Says c.status.result c.as_bytes.result.now) (StopWrites c.args.stop.now) (g.K.Sink.wrote c.args.sink.now) (g.K.Sink.wrote c.tell.new.sink) c.tell.result.status
    (stop_line c.args.stop.now c.status.result c.as_bytes.result.now c.status.ensures.status (c.as_bytes.ensures.value ∙ c.in-Ok.ensures)) c.tell.ensures.told

pub returns-clause-told : goal.returns-clause-told
returns-clause-told g c =
    told-as (Says 10 (error_text Memory)) (StopWrites c.args.stop.now) (g.K.Sink.wrote c.args.sink.now) (g.K.Sink.wrote c.tell-in-Err.new.sink) c.tell-in-Err.result.status
    (stop_short c.args.stop.now) c.tell-in-Err.ensures.told
