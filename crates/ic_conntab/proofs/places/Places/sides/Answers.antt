use Rattle.std.proofs.Common.{◌<◌, length, IfSome, sym, subst}
use Rattle.ic_conntab.specs.Ends.{sending_ends, receiving_ends, keys_of}
use Rattle.ic_conntab.proofs.Within.{sides_within}
use Rattle.ic_conntab.proofs.places.Places.sides.Goals as goal

pub returns-clause-sender_within : goal.returns-clause-sender_within
returns-clause-sender_within c =
    subst (λ ends. IfSome c.index.result.now.sender (λ i. i < length (sending_ends ends))) c.self.view_is
    (sides_within c.self.inside.ends.items c.self.inside.sides.items c.args.place c.index.result.now c.self.invariant.sides_are
    (subst (λ ends. c.args.place < length (keys_of ends)) (sym c.self.view_is) c.requires) c.index.ensures).0

pub returns-clause-receiver_within : goal.returns-clause-receiver_within
returns-clause-receiver_within c =
    subst (λ ends. IfSome c.index.result.now.receiver (λ i. i < length (receiving_ends ends))) c.self.view_is
    (sides_within c.self.inside.ends.items c.self.inside.sides.items c.args.place c.index.result.now c.self.invariant.sides_are
    (subst (λ ends. c.args.place < length (keys_of ends)) (sym c.self.view_is) c.requires) c.index.ensures).1
