use Rattle.std.proofs.Common.{sym, subst}
use Rattle.ic_hub.specs.Hubbing.{Hubbing, IsHub}
use Rattle.ic_hub.specs.Counting.{CountsFound}
use Rattle.ic_hub.proofs.Shape.{shape_of}
use Rattle.ic_hub.proofs.Counted.{counts_tell}
use Rattle.ic_hub.proofs.hub.Hub.counts.Goals as goal

pub returns-then-sending : goal.returns-then-sending
returns-then-sending c =
    let is = subst (λ (s : Hubbing). IsHub s c.self.inside.table) c.self.view_is c.self.invariant in
    let found = subst (λ b. CountsFound b c.args.self.now c.args.key.now c.count_sent.result) (sym c.if-sending.true) c.count_sent.ensures in
    record { found = found; tells = λ h stands. counts_tell c.args.sending c.args.self.now h c.args.key.now c.count_sent.result (shape_of c.args.self.now c.self.inside.table is) stands found }

pub returns-else-sending : goal.returns-else-sending
returns-else-sending c =
    let is = subst (λ (s : Hubbing). IsHub s c.self.inside.table) c.self.view_is c.self.invariant in
    let found = subst (λ b. CountsFound b c.args.self.now c.args.key.now c.count_taken.result) (sym c.if-sending.false) c.count_taken.ensures in
    record { found = found; tells = λ h stands. counts_tell c.args.sending c.args.self.now h c.args.key.now c.count_taken.result (shape_of c.args.self.now c.self.inside.table is) stands found }
