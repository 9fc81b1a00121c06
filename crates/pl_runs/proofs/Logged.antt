-- Logs, and runs over all nodes.
use Rattle.std.proofs.Common.{[], ◌∷◌, ◌++◌, refl, ap, sym, ◌∙◌, append_assoc}
use Rattle.ic_law.proofs.Lists.{Contains-head}
use Rattle.ic_base.specs.Keys.{key_eq}
use Rattle.pl_runs.specs.Logs.{logs, log_of}
use Rattle.pl_runs.specs.Distributed.{dispatcher}
use Rattle.pl_runs.specs.Laws.{LogGrows, RunsGiveTheOutput}
use Rattle.pl_runs.specs.WorkedLogs.{WorkersApart}

pub log_grows : LogGrows
log_grows ends [] more = refl
log_grows ends (e ∷ h) more = ap (λ l. logs ends e ++ l) (log_grows ends h more) ∙ sym (append_assoc (logs ends e) (log_of ends h) (log_of ends more))

pub workers_apart : WorkersApart
unfolding key_eq
workers_apart = (refl, refl, refl)

pub runs_give : RunsGiveTheOutput
runs_give q nodes courses rows run over =
    let here = Contains-head dispatcher [] in
    let worked = run.workers 0 dispatcher here in
    let done = over.workers 0 dispatcher here in
    record { ended = (worked.run.over done).ended refl; all = worked.run.lets_out.all refl done ∙ sym run.rows_are }
