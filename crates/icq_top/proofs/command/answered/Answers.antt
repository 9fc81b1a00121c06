use Rattle.std.proofs.Common.{Err, subst}
use Rattle.icq_top.specs.Work.{PrintsRun}
use Rattle.icq_top.proofs.Telling.{ran_ok, ran_failed, ran_memory_told}
use Rattle.icq_top.proofs.command.answered.Goals as goal

pub returns-in-Ok-clause-told : goal.returns-in-Ok-clause-told
returns-in-Ok-clause-told g c =
    ran_ok c.args.ran (g.K.Sink.wrote c.args.sink.now) (g.K.Sink.wrote c.print_run.new.sink) (g.K.Sink.wrote c.end.new.sink) c.end.result.status c.in-Ok.ensures.printed c.end.ensures.told

pub returns-in-Err-Failed-clause-told : goal.returns-in-Err-Failed-clause-told
returns-in-Err-Failed-clause-told g c =
    ran_failed c.args.ran (g.K.Sink.wrote c.args.sink.now) (g.K.Sink.wrote c.print_run.new.sink)
    (subst (λ e. PrintsRun (g.K.Sink.wrote c.args.sink.now) (g.K.Sink.wrote c.print_run.new.sink) c.args.ran (Err e)) c.in-Err-Failed.field-0-is c.in-Err-Failed.ensures.printed)

pub returns-clause-told : goal.returns-clause-told
returns-clause-told g c =
    ran_memory_told c.args.ran (g.K.Sink.wrote c.args.sink.now) (g.K.Sink.wrote c.print_run.new.sink) (g.K.Sink.wrote c.tell.new.sink) c.tell.result.status
    (subst (λ e. PrintsRun (g.K.Sink.wrote c.args.sink.now) (g.K.Sink.wrote c.print_run.new.sink) c.args.ran (Err e)) c.in-Err-Memory.field-0-is c.in-Err-Memory.ensures.printed) c.tell.ensures.told
