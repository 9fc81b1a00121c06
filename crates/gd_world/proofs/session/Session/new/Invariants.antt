use Rattle.gd_world.proofs.Made.{AreNew}
use Rattle.gd_world.proofs.session.Session.new.Given as goal

abbrev pub invariant-loop-number : goal.invariant-loop-number
invariant-loop-number l = AreNew l.session l.settings l.number l.nodes.items
