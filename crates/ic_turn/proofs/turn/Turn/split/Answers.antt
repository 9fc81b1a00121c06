use Rattle.std.proofs.Common.{rules}
use Rattle.ic_turn.proofs.Keeps.{splits}
use Rattle.ic_turn.proofs.turn.Turn.split.Goals as goal

pub split_seat-requires : goal.split_seat-requires
split_seat-requires g c =
    let idle = c.pass.invariant.5 in
    (search rules, search rules, splits g.M.Machine.kept g.M.Machine.state g.M.Machine.stands _ _ _ _ idle.0 idle.2 (search rules))
