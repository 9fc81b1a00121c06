use Rattle.std.proofs.Common.{subst, sym}
use Rattle.ex_tree.specs.declared.op.Op.TheVariants as ops
use Rattle.ex_tree.specs.Operators.{Gives, RefusesRow}
use Rattle.ex_tree.proofs.Singles.{agg_refuses}
use Rattle.ex_tree.proofs.op.Op.give.Goals as goal

pub returns-in-Ok-clause-gives : goal.returns-in-Ok-clause-gives
returns-in-Ok-clause-gives c p s a e g = let h = subst (λ o. Gives p o s a) c.in-Filter.is g in (h.0, h.1, c.in-Ok.ensures.gives h.0 s a e h.2)

pub returns-in-Ok-give-clause-gives : goal.returns-in-Ok-give-clause-gives
returns-in-Ok-give-clause-gives c p s a e g = let h = subst (λ o. Gives p o s a) c.in-Project.is g in (h.0, h.1, c.in-Ok-give.ensures.gives h.0 s a e h.2)

pub returns-in-Ok-give-2-clause-gives : goal.returns-in-Ok-give-2-clause-gives
returns-in-Ok-give-2-clause-gives c p s a e g = let h = subst (λ o. Gives p o s a) c.in-Limit.is g in (h.0, h.1, c.in-Ok-give-2.ensures.gives h.0 s a e h.2)

pub returns-in-Ok-give-3-clause-gives : goal.returns-in-Ok-give-3-clause-gives
returns-in-Ok-give-3-clause-gives c p s a e g = let h = subst (λ o. Gives p o s a) c.in-Sort.is g in (h.0, h.1, c.in-Ok-give-3.ensures.gives h.0 s a e h.2)

pub returns-in-Ok-give-4-clause-gives : goal.returns-in-Ok-give-4-clause-gives
returns-in-Ok-give-4-clause-gives c p s a e g = let h = subst (λ o. Gives p o s a) c.in-Agg.is g in (h.0, h.1, h.2, c.in-Ok-give-4.ensures.goes_on, h.4, c.in-Ok-give-4.ensures.gives h.0 h.1 h.2 s a e h.5)

pub returns-in-Err-give-4-clause-refuses : goal.returns-in-Err-give-4-clause-refuses
returns-in-Err-give-4-clause-refuses c =
    subst (λ o. RefusesRow o c.args.row c.no_of.result) (sym c.in-Agg.is)
    (subst (RefusesRow (ops.Agg c.in-Agg.agg c.in-Agg.node) c.args.row) (sym c.no_of.ensures) (agg_refuses c.in-Agg.agg c.in-Agg.node c.args.row c.in-Err-give-4.no c.in-Err-give-4.ensures.over))
