use Rattle.std.proofs.Common.{sym, ◌∙◌, ap}
use Rattle.ic_motion.specs.Picking.{row_or_more}
use Rattle.ic_motion.proofs.Places.{lane_there, first_there, popped}
use Rattle.ic_motion.proofs.picking.give.Goals as goal

pub returns-in-Some-clause-got : goal.returns-in-Some-clause-got
returns-in-Some-clause-got c =
    let at = lane_there c.args.tracks.now.items c.args.place c.index_mut.result.now c.requires c.index_mut.ensures.value in
    ap row_or_more (c.in-Some.ensures.row ∙ sym (first_there c.args.tracks.now.items c.args.place c.index_mut.result.now at))

pub returns-in-Some-clause-left : goal.returns-in-Some-clause-left
returns-in-Some-clause-left c =
    let at = lane_there c.args.tracks.now.items c.args.place c.index_mut.result.now c.requires c.index_mut.ensures.value in
    popped c.args.tracks.now.items c.args.place c.index_mut.result.now c.pop.new.self at c.in-Some.ensures.left

pub returns-in-None-clause-got : goal.returns-in-None-clause-got
returns-in-None-clause-got c =
    let at = lane_there c.args.tracks.now.items c.args.place c.index_mut.result.now c.requires c.index_mut.ensures.value in
    ap row_or_more (c.in-None.ensures.row ∙ sym (first_there c.args.tracks.now.items c.args.place c.index_mut.result.now at))

pub returns-in-None-clause-left : goal.returns-in-None-clause-left
returns-in-None-clause-left c =
    let at = lane_there c.args.tracks.now.items c.args.place c.index_mut.result.now c.requires c.index_mut.ensures.value in
    popped c.args.tracks.now.items c.args.place c.index_mut.result.now c.pop.new.self at c.in-None.ensures.left
