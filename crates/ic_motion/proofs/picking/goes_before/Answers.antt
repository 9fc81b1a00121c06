use Rattle.std.proofs.Common.{sym, ◌∙◌, ap}
use Rattle.pl_ops.specs.Merging.{sorts_before}
use Rattle.ic_motion.specs.Picking.{goes_before}
use Rattle.ic_motion.proofs.Places.{lane_there, first_there}
use Rattle.ic_motion.proofs.picking.goes_before.Goals as goal

pub returns-in-None : goal.returns-in-None
returns-in-None c =
    let at = lane_there c.args.tracks.now c.args.place c.index-tracks-place.result c.requires c.index-tracks-place.is in
    sym (ap (λ o. goes_before (sorts_before c.args.keys.now) o c.args.row.now) (first_there c.args.tracks.now c.args.place c.index-tracks-place.result at ∙ sym c.in-None.ensures))

pub returns-in-Some : goal.returns-in-Some
returns-in-Some c =
    let at = lane_there c.args.tracks.now c.args.place c.index-tracks-place.result c.requires c.index-tracks-place.is in
    c.sorts_before.ensures ∙ sym (ap (λ o. goes_before (sorts_before c.args.keys.now) o c.args.row.now) (first_there c.args.tracks.now c.args.place c.index-tracks-place.result at ∙ sym c.in-Some.ensures))
