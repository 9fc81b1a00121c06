use Rattle.std.proofs.Common.{[], ◌∷◌, ◌++◌, Ok, sym, subst}
use Rattle.ic_hub.specs.Hubbing.{Hubbing, IsHub}
use Rattle.ic_hub.specs.Standing.{Stands}
use Rattle.ic_hub.specs.Entries.{arrive_entry}
use Rattle.ic_hub.specs.Coming.{Became}
use Rattle.ic_hub.proofs.Shape.{shape_of}
use Rattle.ic_hub.proofs.ComingSteps.{err_of}
use Rattle.ic_hub.proofs.ComingSame.{arrives_without, counts_drop, counted_stands, on_err}
use Rattle.ic_hub.proofs.ComingStands.{without}
use Rattle.ic_hub.proofs.ComingQuery.{arrives_stands}
use Rattle.ic_hub.proofs.hub.Hub.arrive.Goals as goal

pub returns-in_err-how-clause-memory : goal.returns-in_err-how-clause-memory
returns-in_err-how-clause-memory c = on_err c.from_residual.result c.from_residual.ensures.0 (arrives_without c.args.self.now c.args.datagram.now c.in_err-how.field-0.0 c.hear_any.new.self c.in_err-how.ensures)

pub returns-in_err-how-clause-stands : goal.returns-in_err-how-clause-stands
returns-in_err-how-clause-stands c h stands =
    let is = subst (λ (s : Hubbing). IsHub s c.self.inside.table) c.self.view_is c.self.invariant in
    let w = err_of c.from_residual.result c.from_residual.ensures.0 in
    let same = arrives_without c.args.self.now c.args.datagram.now c.in_err-how.field-0.0 c.hear_any.new.self c.in_err-how.ensures in
    subst (λ (s : Hubbing). Stands s (h ++ arrive_entry c.args.datagram.now c.from_residual.result ∷ [])) (sym same)
    (subst (λ (r : Became). Stands c.args.self.now (h ++ arrive_entry c.args.datagram.now r ∷ [])) (sym w.1) (without c.args.self.now h c.args.datagram.now w.0 (shape_of c.args.self.now c.self.inside.table is) stands))

pub returns-clause-dropped : goal.returns-clause-dropped
returns-clause-dropped c =
    counts_drop c.args.self.now c.args.datagram.now c.in_ok-how.how c.in_ok-how.datagrams c.hear_any.new.self c.count.new.self c.in_ok-how.ensures c.count.ensures

pub returns-clause-stands : goal.returns-clause-stands
returns-clause-stands c h stands =
    let is = subst (λ (s : Hubbing). IsHub s c.self.inside.table) c.self.view_is c.self.invariant in
    let e = arrive_entry c.args.datagram.now (Ok (c.in_ok-how.how, c.in_ok-how.datagrams)) in
    subst (λ (s : Hubbing). Stands s (h ++ e ∷ [])) (sym c.count.ensures)
    (counted_stands c.in_ok-how.how c.hear_any.new.self (h ++ e ∷ [])
    (arrives_stands c.args.self.now c.hear_any.new.self h c.args.datagram.now (Ok (c.in_ok-how.how, c.in_ok-how.datagrams)) (shape_of c.args.self.now c.self.inside.table is) stands c.in_ok-how.ensures))
