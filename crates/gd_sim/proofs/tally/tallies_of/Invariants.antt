use Rattle.std.proofs.Common.{◌≡◌, ℕ, length, Some}
use Rattle.std.specs.List.{slice_get}
use Rattle.gd_law.specs.Answers.{gather_key}
use Rattle.gd_sim.specs.declared.tally.Tally.{Tally}
use Rattle.gd_sim.specs.Tallying.{IsTallyOf}
use Rattle.gd_sim.proofs.tally.tallies_of.Given as goal

abbrev pub invariant-loop-number : goal.invariant-loop-number
invariant-loop-number l =
    record {
      count : length l.items.items ≡ l.number;
      each : (segment : ℕ) (t : Tally) → slice_get l.items.items segment ≡ Some t → IsTallyOf l.histories (gather_key l.session l.query segment) t;
    }
