use Rattle.std.proofs.Common.{◌-◌, ◌∙◌, sym, rules, ap}
use Rattle.ic_window.specs.Window.{times, wider}
use Rattle.ic_window.proofs.Steps.{one_more, none_left, at_rest, widest_stays, wider_least, wider_greatest}
use Rattle.ic_window.proofs.window.widened.Goals as goal

pub loop-left-preserved : goal.loop-left-preserved
loop-left-preserved c =
    let step = wider c.args.depth c.args.threshold in
    let inv = c.loop-left.invariant in
    record {
      same = ap (times (c.loop-left.left - 1) step) c.wider-window.ensures ∙ one_more c.loop-left.left step c.loop-left.window (search rules) ∙ inv.same;
      least = rw c.wider-window.ensures (wider_least c.args.depth c.args.threshold c.loop-left.window inv.least inv.greatest);
      greatest = rw c.wider-window.ensures (wider_greatest c.args.depth c.args.threshold c.loop-left.window);
    }

pub returns-else-window-depth-clause-value : goal.returns-else-window-depth-clause-value
returns-else-window-depth-clause-value c =
    let inv = c.loop-left.invariant in
    sym (at_rest c.loop-left.left (wider c.args.depth c.args.threshold) c.loop-left.window (widest_stays c.args.depth c.args.threshold c.loop-left.window inv.greatest (search rules))) ∙ inv.same

pub returns-after-loop-left-clause-value : goal.returns-after-loop-left-clause-value
returns-after-loop-left-clause-value c =
    sym (none_left c.loop-left.left (wider c.args.depth c.args.threshold) c.loop-left.window (search rules)) ∙ c.loop-left.invariant.same
