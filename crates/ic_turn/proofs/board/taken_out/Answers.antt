use Rattle.std.specs.Option.{unwrap_or}
use Rattle.std.proofs.Common.{ap, sym, ◌∙◌, subst, ◌≡◌, Some}
use mathlib.Core.Option.{some-injective}
use Rattle.ic_turn.specs.Parts.{unnumbered}
use Rattle.ic_turn.specs.Views.{list_of}
use Rattle.ic_turn.proofs.Keeps.{finishes}
use Rattle.ic_turn.proofs.board.taken_out.Goals as goal

pub unreachable-requires : goal.unreachable-requires
unreachable-requires g c =
    let fin = finishes g.M.Machine.kept g.M.Machine.state g.M.Machine.stands _ _ c.args.seat.id c.args.seat.me.0 (list_of c.args.seat.me.0.stage) _ _ c.requires.ended c.close_with-closed.ensures.values.2 in
    let same : Some fin.0 ≡ c.take-slot.result = some-injective (Some fin.0) c.take-slot.result (sym fin.1 ∙ c.take-slot.ensures.value) in
    c.in_default.not-Some fin.0 (sym same)

pub returns-clause-kept : goal.returns-clause-kept
returns-clause-kept g c =
    let fin = finishes g.M.Machine.kept g.M.Machine.state g.M.Machine.stands _ _ c.args.seat.id c.args.seat.me.0 (list_of c.args.seat.me.0.stage) _ _ c.requires.ended c.close_with-closed.ensures.values.2 in
    let same : Some fin.0 ≡ c.take-slot.result = some-injective (Some fin.0) c.take-slot.result (sym fin.1 ∙ c.take-slot.ensures.value) in
    let bench : fin.0 ≡ c.in-Some.bench = ap (λ o. unwrap_or o fin.0) (same ∙ c.in-Some.is) in
    fin.3 c.requires.some_part ∙ ap (λ b. Some (g.M.Machine.kept b.machine)) bench

pub returns-clause-stands : goal.returns-clause-stands
returns-clause-stands g c =
    let fin = finishes g.M.Machine.kept g.M.Machine.state g.M.Machine.stands _ _ c.args.seat.id c.args.seat.me.0 (list_of c.args.seat.me.0.stage) _ _ c.requires.ended c.close_with-closed.ensures.values.2 in
    let same : Some fin.0 ≡ c.take-slot.result = some-injective (Some fin.0) c.take-slot.result (sym fin.1 ∙ c.take-slot.ensures.value) in
    let bench : fin.0 ≡ c.in-Some.bench = ap (λ o. unwrap_or o fin.0) (same ∙ c.in-Some.is) in
    subst (λ b. g.M.Machine.stands (g.M.Machine.kept b.machine) (g.M.Machine.state b.machine) (unnumbered (list_of c.args.seat.me.0.stage))) bench fin.2
