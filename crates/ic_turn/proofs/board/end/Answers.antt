use Rattle.std.proofs.Common.{rules}
use Rattle.ic_turn.proofs.Keeps.{ends}
use Rattle.ic_turn.proofs.board.end.Goals as goal

pub load-requires : goal.load-requires
load-requires g c = (c.requires.of, search rules, ends g.M.Machine.kept g.M.Machine.state g.M.Machine.stands _ _ g.M.Machine.lawful g.met.M.Machine.stands_lawful _ _ _ c.requires.idle.0 c.requires.idle.2 c.requires.all)
