use Rattle.std.proofs.Common.{ap, ◌∙◌}
use Rattle.ic_port.specs.Noding.{Noding, place_of}
use Rattle.ic_port.proofs.Tested.{hearing_ends, heard}
use Rattle.ic_port.proofs.tests.Hearing.new.Goals as goal

pub begin-requires-clause-ends : goal.begin-requires-clause-ends
begin-requires-clause-ends c =
    hearing_ends (place_of c.in_ok-node.node) c.in_ok-ends.ends.items c.end.result c.end-2.result c.in_ok-first.first c.in_ok-second.second (ap (λ (n : Noding). n.hub.session) c.in_ok-node.ensures) (ap (λ (n : Noding). n.hub.at) c.in_ok-node.ensures)
    c.in_ok-ends.ensures.items c.end.ensures c.end-2.ensures c.in_ok-first.ensures c.in_ok-second.ensures

pub invariant_of-result : goal.invariant_of-result
invariant_of-result c =
    heard c.begin.new.self.ends c.end.result c.end-2.result c.in_ok-first.first c.in_ok-second.second (c.in-Ok.ensures.ok.ends_are ∙ c.in_ok-ends.ensures.items) c.end.ensures c.end-2.ensures c.in_ok-second.ensures
