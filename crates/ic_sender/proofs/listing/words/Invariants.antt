use Rattle.std.proofs.Common.{◌≡◌, ◌++◌, ◌-◌, ◌*◌, drop}
use Rattle.ic_law.specs.Numbers.{words_in, words_from}
use Rattle.ic_sender.proofs.listing.words.Given as goal

abbrev pub invariant-loop-place : goal.invariant-loop-place
invariant-loop-place l = l.words.items ++ words_from (l.count - l.place) (drop (4 * l.place) l.bytes) ≡ words_in l.bytes
