use Rattle.std.proofs.Common.{subst}
use Rattle.ic_port.specs.Noding.{IsLawful}
use Rattle.ic_port.specs.contracts.node.Node.{the_view}
use Rattle.ic_port.proofs.Keeping.{node_lawful}
use Rattle.ic_port.proofs.node.Node.lawful.Goals as goal

pub returns : goal.returns
returns c = subst IsLawful c.self.view_is (node_lawful (the_view c.self.inside) c.self.invariant)
