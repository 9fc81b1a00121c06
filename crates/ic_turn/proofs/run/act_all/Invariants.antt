use Rattle.std.proofs.Common.{◌≡◌, ◌++◌, length, ◌≤◌, vec_capacity}
use Rattle.std.specs.List.{AllByRecursion}
use Rattle.std.specs.Vec.Iter.{into_iter_items}
use Rattle.ic_turn.specs.Entries.{entries_of, StandsWith}
use Rattle.ic_turn.proofs.run.act_all.Given as goal

-- the asks so far were acted on, each has its reply, and there is room for the other replies
abbrev pub invariant-loop-ask : goal.invariant-loop-ask
invariant-loop-ask g l =
    record {
      all : l.fn.asks.items ≡ l.yielded ++ into_iter_items l.ask-iterator;
      same : length l.replies.items ≡ length l.yielded;
      room : length l.fn.asks.items ≤ vec_capacity l.replies;
      kept : g.M.Machine.kept l.machine ≡ g.M.Machine.kept l.fn.machine;
      answers : AllByRecursion (λ e. g.M.Machine.answers (g.M.Machine.kept l.fn.machine) e.ask e.reply) (entries_of l.yielded l.replies.items);
      stands : StandsWith (g.M.Machine.stands (g.M.Machine.kept l.fn.machine) (g.M.Machine.state l.fn.machine))
          (g.M.Machine.stands (g.M.Machine.kept l.machine) (g.M.Machine.state l.machine)) (entries_of l.yielded l.replies.items);
    }
