use Rattle.std.proofs.Common.{take}
use Rattle.std.specs.List.{AllByRecursion}
use Rattle.ic_port.specs.Noding.{IsLawful}
use Rattle.gd_world.proofs.session.Session.lawful.Given as goal

abbrev pub invariant-loop-node : goal.invariant-loop-node
invariant-loop-node l = AllByRecursion IsLawful (take l.node-index l.self.nodes)
