use Rattle.std.proofs.Common.{◌<◌, All, length, sym, subst}
use Rattle.ic_conntab.specs.Ends.{receiving_ends, motions_of}
use Rattle.ic_conntab.proofs.Found.{row_within}
use Rattle.ic_conntab.proofs.places.Places.receivers.Goals as goal

pub returns-clause-within : goal.returns-clause-within
returns-clause-within c =
    subst (λ ends. All (λ place. place < length (receiving_ends ends)) c.as_slice.result.now) c.self.view_is
    (subst (All (λ place. place < length (receiving_ends c.self.inside.ends.items))) (sym c.as_slice.ensures)
    (row_within c.self.inside.ends.items c.self.inside.rows.items c.args.motion c.index.result.now c.self.invariant.receivers_are
    (subst (λ ends. c.args.motion < length (motions_of ends)) (sym c.self.view_is) c.requires) c.index.ensures))
