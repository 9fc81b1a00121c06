use Rattle.std.proofs.Common.{◌++◌, [], ◌∷◌, Err, ap, sym, subst}
use Rattle.ic_law.specs.Asking.{AreEnds}
use Rattle.ic_hub.specs.Hubbing.{Hubbing, place_in}
use Rattle.ic_hub.specs.Entries.{begin_entry}
use Rattle.ic_hub.specs.Standing.{Stands}
use Rattle.ic_hub.proofs.Begun.{refused_stands}
use Rattle.ic_hub.proofs.hub.Hub.begin.Goals as goal

pub returns-in-Err-clause-stands : goal.returns-in-Err-clause-stands
returns-in-Err-clause-stands c h stands =
    let v : Hubbing = record { session = c.self.inside.session; at = c.self.inside.at; settings = c.self.inside.settings; tick = c.self.inside.tick; dropped = c.self.inside.dropped; top = c.self.inside.table.top; live = c.self.inside.live.items } in
    let are : AreEnds (place_in v) c.args.query c.args.ends.now = subst (λ (s : Hubbing). AreEnds (place_in s) c.args.query c.args.ends.now) (sym c.self.view_is) c.requires.ends in
    let was : Stands v h = subst (λ (s : Hubbing). Stands s h) (sym c.self.view_is) stands in
    subst (λ (s : Hubbing). Stands s (h ++ begin_entry c.args.query c.args.ends.now (Err c.in-Err.no) ∷ [])) c.self.view_is
    (refused_stands v c.self.inside.table h c.args.query c.args.ends.now c.in-Err.no c.self.invariant was are (λ top same. (c.in-Err.ensures.old top).0 (ap Err same)) (λ same. c.in-Err.ensures.twice.0 (ap Err same)))
