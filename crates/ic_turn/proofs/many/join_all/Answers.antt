use Rattle.std.proofs.Common.{◌++◌, ◌∷◌, [], sym, ap, ◌∙◌, append_assoc}
use Rattle.ic_turn.proofs.Manies.{joins_push}
use Rattle.ic_turn.proofs.many.join_all.Goals as goal

pub loop-other-preserved : goal.loop-other-preserved
loop-other-preserved g c =
    let i = c.loop-other.invariant in
    let e = c.join-pass.ensures in (
      ap (λ p. p.turn) e ∙ i.0,
      joins_push c.args.pass c.loop-other.yielded c.in-Some.other c.loop-other.pass c.join-pass.result i.1 e,
      append_assoc c.loop-other.yielded (c.in-Some.other ∷ []) c.next.new.self.rest.items ∙ ap (λ l. c.loop-other.yielded ++ l) (sym c.in-Some.ensures.steps.0) ∙ i.2,
    )
