use Rattle.ic_edge.proofs.Known.{Consumes-trans, Err-given}
use Rattle.ic_edge.proofs.whole.read_in_pieces.Goals as goal

pub returns-in_err-extend_from_slice-clause-leaves :
    goal.returns-in_err-extend_from_slice-clause-leaves
returns-in_err-extend_from_slice-clause-leaves g c =
    let taken = Consumes-trans _ _ _ _ _ c.loop-source.invariant.taken c.in-Ok.ensures.bytes.0 in
    Err-given c.from_residual.result (_, taken)
