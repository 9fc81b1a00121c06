use Rattle.std.proofs.Common.{sym}
use Rattle.gd_sim.proofs.Feeds.{sure, runs_feed}
use Rattle.gd_sim.proofs.plans.sure_feed.Goals as goal

pub returns-in-Some-clause-feed : goal.returns-in-Some-clause-feed
returns-in-Some-clause-feed c =
    runs_feed c.args.segments c.args.loaded.now c.requires.runs.wholes c.args.plan.now c.in-Some.feed c.requires.least c.is_judged.ensures c.requires.runs.segments_are c.requires.runs.fits (sym c.in-Some.ensures)

pub returns-in-None-clause-gathers : goal.returns-in-None-clause-gathers
returns-in-None-clause-gathers c = absurd (sure c.args.plan.now c.is_judged.ensures c.requires.runs.gathers (sym c.in-None.ensures))

pub returns-in-None-clause-feed : goal.returns-in-None-clause-feed
returns-in-None-clause-feed c = absurd (sure c.args.plan.now c.is_judged.ensures c.requires.runs.gathers (sym c.in-None.ensures))
