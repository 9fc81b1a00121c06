use Rattle.std.proofs.Common.{rules}
use Rattle.ic_turn.proofs.Keeps.{joins}
use Rattle.ic_turn.proofs.turn.Turn.join.Goals as goal

pub join_seat-requires : goal.join_seat-requires
join_seat-requires g c =
    let a = c.a.invariant.5 in
    let b = c.b.invariant.5 in
    (search rules, search rules, b.1, search rules, joins g.M.Machine.kept g.M.Machine.state g.M.Machine.stands _ _ _ _ _ _ a.0 b.0 a.2)
