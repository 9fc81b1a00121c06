use Rattle.std.proofs.Common.{sym, subst}
use Rattle.ex_slice.specs.Turning.{StandsAt}
use Rattle.ex_slice.specs.Acting.{stage_ended}
use Rattle.ex_slice.proofs.Endings.{stands_ended}
use Rattle.ex_slice.proofs.slice.Slice.finish.Goals as goal

pub returns-clause-stands : goal.returns-clause-stands
returns-clause-stands g c =
    subst (λ s. StandsAt s c.turned_ended.result) (sym c.stage_ended-self.ensures) (subst (λ r. StandsAt (stage_ended c.end_next-answer.result) r) (sym c.turned_ended.ensures) (stands_ended c.end_next-answer.result))
