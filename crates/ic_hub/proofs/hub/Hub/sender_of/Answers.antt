use Rattle.std.proofs.Common.{true, ap, sym, ◌∙◌, subst}
use Rattle.ic_conntab.specs.declared.slots.Sides.{Sides}
use Rattle.ic_hub.specs.Hubbing.{Hubbing, IsHub}
use Rattle.ic_hub.specs.Finding.{IsFound}
use Rattle.ic_hub.proofs.Shape.{shape_of}
use Rattle.ic_hub.proofs.Finds.{finds_sender, has_no, no_sender, here_is}
use Rattle.ic_hub.proofs.hub.Hub.sender_of.Goals as goal

pub returns-in-Some : goal.returns-in-Some
returns-in-Some c =
    let is = subst (λ (s : Hubbing). IsHub s c.self.inside.table) c.self.view_is c.self.invariant in
    finds_sender c.args.self.now c.args.key.now c.in-Here.query c.in-Some.place c.in-Here.sides (shape_of c.args.self.now c.self.inside.table is) (subst (IsFound c.args.self.now c.args.key.now) c.in-Here.is c.find.ensures) c.in-Some.is

pub returns-in-None : goal.returns-in-None
returns-in-None c =
    let is = subst (λ (s : Hubbing). IsHub s c.self.inside.table) c.self.view_is c.self.invariant in
    has_no c.args.self.now c.args.key.now true c.find.result (shape_of c.args.self.now c.self.inside.table is) c.find.ensures
    (λ i sides l here at sender receiver. no_sender l c.args.key.now (sym sender ∙ ap (λ (x : Sides). x.sender) (here_is i c.in-Here.query sides c.in-Here.sides (sym here ∙ c.in-Here.is)) ∙ c.in-None.is))

pub returns-in_default : goal.returns-in_default
returns-in_default c =
    let is = subst (λ (s : Hubbing). IsHub s c.self.inside.table) c.self.view_is c.self.invariant in
    has_no c.args.self.now c.args.key.now true c.find.result (shape_of c.args.self.now c.self.inside.table is) c.find.ensures (λ i sides l here at sender receiver. absurd (c.in_default.not-Here i sides here))
