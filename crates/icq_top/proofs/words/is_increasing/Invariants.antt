use Rattle.std.proofs.Common.{◌≡◌, ◌∷◌, drop}
use Rattle.icq_top.specs.Words.{is_increasing}
use Rattle.icq_top.proofs.words.is_increasing.Given as goal

-- what is left, behind the number before it, increases as all do
abbrev pub invariant-loop-number : goal.invariant-loop-number
invariant-loop-number l = is_increasing (l.before ∷ drop l.number-index l.rest) ≡ is_increasing l.numbers
