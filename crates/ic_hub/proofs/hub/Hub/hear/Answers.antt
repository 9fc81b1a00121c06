use Rattle.std.proofs.Common.{ℤ, None, Ok, true, false, refl, ap, subst}
use Rattle.ic_base.specs.declared.keys.ConnKey.{ConnKey}
use Rattle.ic_hub.specs.declared.finding.Found.TheVariants as says
use Rattle.ic_hub.specs.Hubbing.{Hubbing}
use Rattle.ic_hub.specs.Finding.{IsFound}
use Rattle.ic_hub.specs.Coming.{Addresses, IsAddressed, ComesToNone, ToNobody, Astray, ToQuery}
use Rattle.ic_hub.proofs.ComingSteps.{addressed_key, comes_foreign, comes_ended, comes_unbegun}
use Rattle.ic_hub.proofs.hub.Hub.hear.Goals as goal

pub returns-in_default : goal.returns-in_default
returns-in_default c =
    ToNobody (Astray (subst (λ (s : Hubbing). Addresses s.at c.args.datagram.now c.args.head.now None) c.self.view_is c.in_default.ensures)) (ap Ok c.dropped.ensures) refl

pub returns-in-Foreign : goal.returns-in-Foreign
returns-in-Foreign c =
    let leads = addressed_key c.self.inside.at c.args.datagram.now c.args.head.now c.in-Some.key c.in-Some.ensures in
    comes_foreign c.args.self.now c.args.datagram.now c.args.head.now c.args.body.now (Ok c.dropped-in-Foreign.result) (subst (λ (k : ConnKey). IsFound c.args.self.now k says.Foreign) leads.1 c.in-Foreign.ensures) (ap Ok c.dropped-in-Foreign.ensures)

pub returns-in-Ended : goal.returns-in-Ended
returns-in-Ended c =
    let at = ap (λ (s : Hubbing). s.at) c.self.view_is in
    let leads = addressed_key c.self.inside.at c.args.datagram.now c.args.head.now c.in-Some.key c.in-Some.ensures in
    comes_ended c.args.self.now c.args.datagram.now c.args.head.now c.args.body.now c.turn_back.result (subst (λ (k : ConnKey). IsFound c.args.self.now k says.Ended) leads.1 c.in-Ended.ensures)
    (subst (λ (n : ℤ). IsAddressed n c.args.datagram.now c.args.head.now) at leads.0) (subst (λ (n : ℤ). ComesToNone n c.args.datagram.now c.args.head.now true c.turn_back.result) at c.turn_back.ensures)

pub returns-in-NotBegun : goal.returns-in-NotBegun
returns-in-NotBegun c =
    let at = ap (λ (s : Hubbing). s.at) c.self.view_is in
    let leads = addressed_key c.self.inside.at c.args.datagram.now c.args.head.now c.in-Some.key c.in-Some.ensures in
    comes_unbegun c.args.self.now c.args.datagram.now c.args.head.now c.args.body.now c.turn_back-in-NotBegun.result (subst (λ (k : ConnKey). IsFound c.args.self.now k says.NotBegun) leads.1 c.in-NotBegun.ensures)
    (subst (λ (n : ℤ). IsAddressed n c.args.datagram.now c.args.head.now) at leads.0) (subst (λ (n : ℤ). ComesToNone n c.args.datagram.now c.args.head.now false c.turn_back-in-NotBegun.result) at c.turn_back-in-NotBegun.ensures)

pub hear_there-requires-clause-found : goal.hear_there-requires-clause-found
hear_there-requires-clause-found c =
    let leads = addressed_key c.self.inside.at c.args.datagram.now c.args.head.now c.in-Some.key c.in-Some.ensures in
    subst (λ (k : ConnKey). IsFound c.args.self.now k (says.Here c.in-Here.query c.in-Here.sides)) leads.1 c.in-Here.ensures

pub returns-in-Here : goal.returns-in-Here
returns-in-Here c =
    let at = ap (λ (s : Hubbing). s.at) c.self.view_is in
    let leads = addressed_key c.self.inside.at c.args.datagram.now c.args.head.now c.in-Some.key c.in-Some.ensures in
    ToQuery (subst (λ (n : ℤ). IsAddressed n c.args.datagram.now c.args.head.now) at leads.0) c.in-Here.query c.in-Here.sides
    (subst (λ (k : ConnKey). IsFound c.args.self.now k (says.Here c.in-Here.query c.in-Here.sides)) leads.1 c.in-Here.ensures) c.hear_there.ensures
