use Rattle.std.proofs.Common.{sym, subst}
use Rattle.ic_turn.specs.Parts.{ArePartsOf}
use Rattle.ic_turn.specs.Views.{list_of}
use Rattle.ic_turn.specs.Passes.{held}
use Rattle.ic_turn.proofs.PassLemmas.{all_of_seat, parts_of_pass}
use Rattle.ic_turn.proofs.turn.Turn.read_off.Goals as goal

pub end-requires-clause-all : goal.end-requires-clause-all
end-requires-clause-all g c =
    let p = c.pass.inside in
    all_of_seat p.turn.value p.seat.me.0 c.args.pass c.pass.view_is c.pass.invariant.4 c.pass.invariant.5.2 c.requires.all

pub returns-clause-parts : goal.returns-clause-parts
returns-clause-parts g c =
    let p = c.pass.inside in
    subst (λ s. ArePartsOf (list_of s.me.0.stage) (held c.args.pass)) (sym c.of.ensures)
    (parts_of_pass p.turn.value p.seat.me.0 c.args.pass c.pass.view_is c.pass.invariant.4 c.pass.invariant.5.2 _ c.end.ensures.list.2)
