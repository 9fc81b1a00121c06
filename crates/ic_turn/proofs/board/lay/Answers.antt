use Rattle.std.proofs.Common.{ap, sym, ◌∙◌, subst, ◌≡◌, Some, [], ◌∷◌, arith}
use Rattle.std.proofs.lemmas.Grind.{common_steps}
use Rattle.ic_turn.proofs.Keeps.{starts}
use Rattle.ic_turn.proofs.board.lay.Goals as goal

pub new-requires : goal.new-requires
new-requires g c =
    let items : c.push_reserved.new.self.items ≡ Some c.args.bench ∷ [] = grind (arith, common_steps) in
    rw items (starts g.M.Machine.kept g.M.Machine.state g.M.Machine.stands _ _ c.args.bench c.requires.passes (ap g.M.Machine.kept (sym c.requires.first))
    (subst (λ k. g.M.Machine.stands (g.M.Machine.kept k) (g.M.Machine.state c.args.bench.machine) []) (sym c.requires.first) c.requires.stands))

pub first_of-requires : goal.first_of-requires
first_of-requires g c =
    let items : c.push_reserved.new.self.items ≡ Some c.args.bench ∷ [] = grind (arith, common_steps) in
    (c.args.bench, c.in-Err.ensures.err ∙ items)
