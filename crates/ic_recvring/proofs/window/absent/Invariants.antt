use Rattle.std.proofs.Common.{◌≡◌, ◌+◌}
use Rattle.std.specs.List.{filter}
use Rattle.ic_recvring.specs.Numbers.{numbers_from}
use Rattle.ic_recvring.specs.Views.{is_absent}
use Rattle.ic_recvring.proofs.window.absent.Given as goal

abbrev pub invariant-loop-behind : goal.invariant-loop-behind
invariant-loop-behind l = l.seqs.items ≡ filter (is_absent l.slots l.depth) (numbers_from (l.run + 1) l.behind)
