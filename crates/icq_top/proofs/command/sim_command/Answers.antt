use Rattle.std.proofs.Common.{map, string_bytes, inl, inr}
use Rattle.icq_top.specs.Work.{StopWrites, RanWrites}
use Rattle.icq_top.proofs.Causes.{ran_may, ran_causes, ran_ended, ran_delivered, ran_none, stop_may, stop_causes, stop_runs_not, told_causes, told_written, told_cut}
use Rattle.icq_top.proofs.command.sim_command.Goals as goal

pub answered-requires : goal.answered-requires
answered-requires g c = c.in-Ok.ensures.works.ran_of.bounded

pub returns-in-Ok-clause-delivered : goal.returns-in-Ok-clause-delivered
returns-in-Ok-clause-delivered g c =
    ran_delivered (map string_bytes c.args.words.now) (g.S.Source.left c.args.source.now) (g.K.Sink.wrote c.args.sink.now) (g.K.Sink.wrote c.answered.new.sink)
    c.in-Ok.ran c.answered.result.status c.answered.result.ended c.in-Ok.ensures.works c.answered.ensures.told c.answered.ensures.ended

pub returns-in-Ok-clause-faulted : goal.returns-in-Ok-clause-faulted
returns-in-Ok-clause-faulted g c =
    ran_ended (map string_bytes c.args.words.now) (g.S.Source.left c.args.source.now) (g.K.Sink.wrote c.args.sink.now) (g.K.Sink.wrote c.answered.new.sink)
    c.in-Ok.ran c.answered.result.status c.answered.result.ended c.in-Ok.ensures.works c.answered.ensures.told c.answered.ensures.ended

pub returns-in-Ok-clause-end : goal.returns-in-Ok-clause-end
returns-in-Ok-clause-end g c =
    λ _. c.in-Ok.ensures.end

pub returns-in-Ok-clause-ended : goal.returns-in-Ok-clause-ended
returns-in-Ok-clause-ended g c =
    ran_none (g.K.Sink.wrote c.args.sink.now) (g.K.Sink.wrote c.answered.new.sink) c.in-Ok.ran c.answered.result.status c.answered.result.ended c.answered.ensures.told c.answered.ensures.ended

pub returns-in-Ok-clause-status : goal.returns-in-Ok-clause-status
returns-in-Ok-clause-status g c =
    told_causes (RanWrites c.in-Ok.ran) (map string_bytes c.args.words.now) (g.S.Source.left c.args.source.now) (g.S.Source.count c.args.source.now) (g.S.Source.count c.work.new.source)
    (g.K.Sink.wrote c.args.sink.now) (g.K.Sink.wrote c.answered.new.sink) c.answered.result.status (ran_causes (map string_bytes c.args.words.now) (g.S.Source.left c.args.source.now) (g.S.Source.count c.args.source.now) (g.S.Source.count c.work.new.source) c.in-Ok.ran c.in-Ok.ensures.works c.in-Ok.ensures.usage) c.answered.ensures.told

pub returns-in-Ok-clause-written : goal.returns-in-Ok-clause-written
returns-in-Ok-clause-written g c =
    told_written (RanWrites c.in-Ok.ran) (map string_bytes c.args.words.now) (g.S.Source.left c.args.source.now) (g.K.Sink.wrote c.args.sink.now) (g.K.Sink.wrote c.answered.new.sink) c.answered.result.status (ran_may (map string_bytes c.args.words.now) (g.S.Source.left c.args.source.now) c.in-Ok.ran c.in-Ok.ensures.works) c.answered.ensures.told

pub returns-in-Ok-clause-cut : goal.returns-in-Ok-clause-cut
returns-in-Ok-clause-cut g c =
    told_cut (RanWrites c.in-Ok.ran) (map string_bytes c.args.words.now) (g.S.Source.left c.args.source.now) (g.S.Source.count c.args.source.now) (g.S.Source.count c.work.new.source)
    (g.K.Sink.wrote c.args.sink.now) (g.K.Sink.wrote c.answered.new.sink) c.answered.result.status (ran_causes (map string_bytes c.args.words.now) (g.S.Source.left c.args.source.now) (g.S.Source.count c.args.source.now) (g.S.Source.count c.work.new.source) c.in-Ok.ran c.in-Ok.ensures.works c.in-Ok.ensures.usage) (ran_may (map string_bytes c.args.words.now) (g.S.Source.left c.args.source.now) c.in-Ok.ran c.in-Ok.ensures.works) c.answered.ensures.told

pub returns-in-Err-clause-delivered : goal.returns-in-Err-clause-delivered
returns-in-Err-clause-delivered g c =
    λ is. absurd (stop_runs_not c.in-Err.stop (g.K.Sink.wrote c.args.sink.now) (g.K.Sink.wrote c.refuse.new.sink) c.refuse.result.status c.refuse.ensures.told (inl is))

pub returns-in-Err-clause-faulted : goal.returns-in-Err-clause-faulted
returns-in-Err-clause-faulted g c =
    λ is. absurd (stop_runs_not c.in-Err.stop (g.K.Sink.wrote c.args.sink.now) (g.K.Sink.wrote c.refuse.new.sink) c.refuse.result.status c.refuse.ensures.told (inr is))

pub returns-in-Err-clause-end : goal.returns-in-Err-clause-end
returns-in-Err-clause-end g c =
    λ is. absurd (stop_runs_not c.in-Err.stop (g.K.Sink.wrote c.args.sink.now) (g.K.Sink.wrote c.refuse.new.sink) c.refuse.result.status c.refuse.ensures.told is)

pub returns-in-Err-clause-status : goal.returns-in-Err-clause-status
returns-in-Err-clause-status g c =
    told_causes (StopWrites c.in-Err.stop) (map string_bytes c.args.words.now) (g.S.Source.left c.args.source.now) (g.S.Source.count c.args.source.now) (g.S.Source.count c.work.new.source)
    (g.K.Sink.wrote c.args.sink.now) (g.K.Sink.wrote c.refuse.new.sink) c.refuse.result.status (stop_causes (map string_bytes c.args.words.now) (g.S.Source.left c.args.source.now) (g.S.Source.count c.args.source.now) (g.S.Source.count c.work.new.source) c.in-Err.stop c.in-Err.ensures.works c.in-Err.ensures.usage c.in-Err.ensures.failed) c.refuse.ensures.told

pub returns-in-Err-clause-written : goal.returns-in-Err-clause-written
returns-in-Err-clause-written g c =
    told_written (StopWrites c.in-Err.stop) (map string_bytes c.args.words.now) (g.S.Source.left c.args.source.now) (g.K.Sink.wrote c.args.sink.now) (g.K.Sink.wrote c.refuse.new.sink) c.refuse.result.status (stop_may (map string_bytes c.args.words.now) (g.S.Source.left c.args.source.now) c.in-Err.stop c.in-Err.ensures.works) c.refuse.ensures.told

pub returns-in-Err-clause-cut : goal.returns-in-Err-clause-cut
returns-in-Err-clause-cut g c =
    told_cut (StopWrites c.in-Err.stop) (map string_bytes c.args.words.now) (g.S.Source.left c.args.source.now) (g.S.Source.count c.args.source.now) (g.S.Source.count c.work.new.source)
    (g.K.Sink.wrote c.args.sink.now) (g.K.Sink.wrote c.refuse.new.sink) c.refuse.result.status (stop_causes (map string_bytes c.args.words.now) (g.S.Source.left c.args.source.now) (g.S.Source.count c.args.source.now) (g.S.Source.count c.work.new.source) c.in-Err.stop c.in-Err.ensures.works c.in-Err.ensures.usage c.in-Err.ensures.failed) (stop_may (map string_bytes c.args.words.now) (g.S.Source.left c.args.source.now) c.in-Err.stop c.in-Err.ensures.works) c.refuse.ensures.told
