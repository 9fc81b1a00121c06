use Rattle.std.proofs.Common.{◌≡◌, ℕ, map, take, Some}
use Rattle.std.specs.List.{slice_get}
use Rattle.icq_top.specs.declared.print.Answer.{Answer}
use Rattle.icq_top.specs.Print.{rows_in}
use Rattle.icq_top.specs.Work.{HasTallies}
use Rattle.icq_top.proofs.running.answers_of.Given as goal

abbrev pub invariant-loop-rows : goal.invariant-loop-rows
invariant-loop-rows l =
    record {
      place : l.place ≡ l.rows-index;
      rows : map rows_in l.answers.items ≡ take l.rows-index l.ran.run.rows;
      told : (place : ℕ) (a : Answer) → slice_get l.answers.items place ≡ Some a → HasTallies l.ran place a;
    }
