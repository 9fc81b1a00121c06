use Rattle.std.proofs.Common.{[], ◌∷◌, sym, ◌∙◌, subst}
use Rattle.ic_turn.specs.declared.counter.Counted.TheVariants.{Sum}
use Rattle.ic_turn.specs.Entries.{StandsWith}
use Rattle.ic_turn.specs.Counting.{Count, StandsAt}
use Rattle.ic_turn.proofs.Sums.{stands_at_sum, stands_at_over}
use Rattle.ic_turn.proofs.counter.CounterMachine.act.Goals as goal

pub returns-in-Sum-clause-stands : goal.returns-in-Sum-clause-stands
returns-in-Sum-clause-stands c =
    let limit = c.self.inside.limit in
    let now = c.in-Sum.sum in
    subst (λ (s : Count). StandsWith (StandsAt s.limit s.sum) (StandsAt limit now) (record { ask = c.args.ask; reply = Sum now } ∷ [])) c.self.view_is
    (stands_at_sum limit c.self.inside.sum c.args.ask now (sym c.in-Sum.is ∙ c.reply_to-reply.ensures))

pub returns-in-Over-clause-stands : goal.returns-in-Over-clause-stands
returns-in-Over-clause-stands c =
    let reply = c.reply_to-reply.result in
    subst (λ (s : Count). StandsWith (StandsAt s.limit s.sum) (StandsAt s.limit s.sum) (record { ask = c.args.ask; reply = reply } ∷ [])) c.self.view_is
    (stands_at_over c.self.inside.limit c.self.inside.sum c.args.ask reply c.reply_to-reply.ensures c.in-Over.is)
