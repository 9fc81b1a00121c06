use Rattle.std.proofs.Common.{◌≡◌, drop, slice_get}
use Rattle.std.specs.List.{flat_map}
use Rattle.gd_world.specs.Sessions.{emitted_by}
use Rattle.gd_world.proofs.session.Session.sent.Given as goal

abbrev pub invariant-loop-did : goal.invariant-loop-did
invariant-loop-did l = slice_get (flat_map (emitted_by l.self.nodes) l.did-items) l.number ≡ slice_get (flat_map (emitted_by l.self.nodes) (drop l.did-index l.did-items)) l.left
