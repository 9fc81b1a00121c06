use Rattle.std.proofs.Common.{ℕ, subst}
use Rattle.std.specs.Prelude.{IfOk}
use Rattle.ic_sender.specs.Calls.{Queries}
use Rattle.ic_timed_sender.specs.Timed.{TimedState, next_tick}
use Rattle.ic_timed_sender.specs.Emitted.{AreOutgoing}
use Rattle.ic_timed_sender.specs.Standing.{KeepsQuery, GivesQueryUp, Tells}
use Rattle.ic_timed_sender.proofs.Spending.{queries_tell, queries_formed}
use Rattle.ic_timed_sender.specs.Looking.{GivesQuery}
use Rattle.ic_timed_sender.proofs.Steps.{state}
use Rattle.ic_timed_sender.proofs.Looked.{queries_give}
use Rattle.ic_timed_sender.proofs.timed.TimedSender.query.Goals as goal

looked : (c : goal.After-query_gives) → Queries c.self.inside.sender (next_tick c.self.inside.tick) c.query_gives.result
looked c = subst (λ (n : ℕ). Queries c.self.inside.sender n c.query_gives.result) c.tick_behind.ensures c.query_gives.ensures

pub returns-clause-tells : goal.returns-clause-tells
returns-clause-tells c =
    subst (λ (o : TimedState). Tells o KeepsQuery GivesQueryUp c.query_gives.result) c.self.view_is (queries_tell c.self.inside.sender c.self.inside.waits.held c.self.inside.tick c.self.inside.rows c.query_gives.result (looked c))

pub returns-clause-formed : goal.returns-clause-formed
returns-clause-formed c =
    subst (λ (o : TimedState). IfOk c.query_gives.result (AreOutgoing o.sending)) c.self.view_is
    (queries_formed c.self.inside.sender c.self.inside.waits c.self.inside.tick c.self.inside.rows (next_tick c.self.inside.tick) c.query_gives.result c.self.invariant (looked c))

pub returns-clause-ok : goal.returns-clause-ok
returns-clause-ok c =
    subst (λ (o : TimedState). IfOk c.query_gives.result (GivesQuery o)) c.self.view_is (queries_give (state c.self.inside.sender c.self.inside.waits.held c.self.inside.tick c.self.inside.rows) c.query_gives.result (looked c))
