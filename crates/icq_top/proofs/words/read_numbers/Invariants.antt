use Rattle.std.proofs.Common.{◌≡◌, drop, map}
use Rattle.icq_top.specs.Words.{numbers_of}
use Rattle.icq_top.proofs.SoFar.{after}
use Rattle.icq_top.proofs.words.read_numbers.Given as goal

-- what was read, in front of what is left, is all
abbrev pub invariant-loop-text : goal.invariant-loop-text
invariant-loop-text l = after l.numbers.items (numbers_of (map (λ text. text.now) (drop l.text-index l.texts))) ≡ numbers_of (map (λ text. text.now) l.texts)
