use Rattle.std.proofs.Common.{◌≡◌, ◌≤◌}
use Rattle.ic_window.specs.Window.{times, widest, wider}
use Rattle.ic_window.proofs.window.widened.Given as goal

-- the remaining steps lead to the same window as all of them
abbrev pub invariant-loop-left : goal.invariant-loop-left
invariant-loop-left l =
    record {
      same : times l.left (wider l.depth l.threshold) l.window ≡ times l.packets (wider l.depth l.threshold) l.fn.window;
      least : 256 ≤ l.window;
      greatest : l.window ≤ widest l.depth;
    }

abbrev pub decreases-loop-left : goal.decreases-loop-left
decreases-loop-left l = l.left
