use Rattle.std.proofs.Common.{◌≡◌, [], sym, subst, ap, ◌∙◌}
use Rattle.ic_conntab.specs.Table.{Table}
use Rattle.ic_hub.specs.Hubbing.{Hubbing, fresh}
use Rattle.ic_hub.specs.Standing.{Stands}
use Rattle.ic_hub.proofs.Beginning.{fresh_hub, fresh_stands}
use Rattle.ic_hub.proofs.hub.Hub.new.Goals as goal

pub invariant_of-result : goal.invariant_of-result
invariant_of-result c = fresh_hub c.args.session c.args.at c.args.settings c.in_ok-new.field-0 c.new-2.result.items c.in_ok-new.ensures c.new-2.ensures.items c.requires

pub returns-clause-stands : goal.returns-clause-stands
returns-clause-stands c =
    let is : record { session = c.args.session; at = c.args.at; settings = c.args.settings; tick = 0; dropped = 0; top = c.in_ok-new.field-0.top; live = c.new-2.result.items } ≡ fresh c.args.session c.args.at c.args.settings =
    ap (λ (t : Table). record { session = c.args.session; at = c.args.at; settings = c.args.settings; tick = 0; dropped = 0; top = t.top; live = c.new-2.result.items }) c.in_ok-new.ensures
    ∙ ap (λ xs. record (fresh c.args.session c.args.at c.args.settings) { live = xs }) c.new-2.ensures.items in
    subst (λ (s : Hubbing). Stands s []) (sym is) (fresh_stands c.args.session c.args.at c.args.settings)
