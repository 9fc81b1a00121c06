-- The worked runs, by the check.
use Rattle.std.proofs.Common.{◌≡◌, true, false, refl}
use Rattle.ic_row.specs.Hash.{segment_for, basis, hash_step}
use Rattle.ic_row.specs.Spelling.{spelling_of, int_spelling, text_spelling}
use Rattle.ic_row.specs.Order.{compare_by}
use Rattle.ic_chunk.specs.Chunks.{spelled}
use Rattle.ic_chunk.specs.Cutting.{count_of}
use Rattle.pl_ops.specs.Rows.{join_rows, sort_rows}
use Rattle.pl_ops.specs.Routing.{routed}
use Rattle.pl_ops.specs.Merging.{sorts_before}
use Rattle.pl_runs.specs.Slices.{Worker}
use Rattle.pl_runs.specs.Runs.{Course}
use Rattle.pl_runs.specs.Checking.{is_run}
use Rattle.pl_runs.specs.Lawful.{LimitRuns, EmptyLimitRuns, MergeRuns, JoinRuns}
use Rattle.pl_runs.specs.Unlawful.{IsNoRun, DoneAtOnce, LimitGoesOn, HaltsEarly, AsksAgain, PutsOtherRows, FinishesEarly, LeavesOut, RoutesByGang, GivesOnEmpty, TakesUnwanted, TakesEarly}
use Rattle.pl_runs.proofs.Checked.{run-from, run-to}

refuted : (w : Worker) (c : Course) → is_run w c ≡ false → IsNoRun w c
refuted w c e run = let d : is_run w c ≡ true = run-from w c run in absurd (cc)

-- ---- lawful

pub limit_runs : LimitRuns
unfolding spelling_of int_spelling spelled count_of
limit_runs = (run-to _ _ refl, run-to _ _ refl)

pub empty_limit_runs : EmptyLimitRuns
empty_limit_runs = run-to _ _ refl

pub merge_runs : MergeRuns
unfolding spelling_of int_spelling text_spelling spelled count_of sorts_before compare_by sort_rows
merge_runs = (run-to _ _ refl, run-to _ _ refl)

pub join_runs : JoinRuns
unfolding spelling_of int_spelling text_spelling spelled count_of join_rows routed segment_for basis hash_step
join_runs = (run-to _ _ refl, run-to _ _ refl, run-to _ _ refl)

-- ---- unlawful

pub done_at_once : DoneAtOnce
unfolding spelling_of int_spelling spelled count_of
done_at_once = (refuted _ _ refl, refuted _ _ refl)

pub limit_goes_on : LimitGoesOn
limit_goes_on = (refuted _ _ refl, refuted _ _ refl, refuted _ _ refl)

pub halts_early : HaltsEarly
halts_early = refuted _ _ refl

pub asks_again : AsksAgain
unfolding spelling_of int_spelling spelled count_of
asks_again = (refuted _ _ refl, refuted _ _ refl)

pub puts_other_rows : PutsOtherRows
unfolding spelling_of int_spelling spelled count_of
puts_other_rows = (refuted _ _ refl, refuted _ _ refl)

pub finishes_early : FinishesEarly
unfolding spelling_of int_spelling spelled count_of
finishes_early = (refuted _ _ refl, refuted _ _ refl)

pub leaves_out : LeavesOut
unfolding spelling_of int_spelling spelled count_of
leaves_out = refuted _ _ refl

pub routes_by_gang : RoutesByGang
unfolding spelling_of int_spelling text_spelling spelled count_of routed segment_for basis hash_step
routes_by_gang = (refuted _ _ refl, refuted _ _ refl)

pub gives_on_empty : GivesOnEmpty
unfolding sorts_before compare_by
gives_on_empty = refuted _ _ refl

pub takes_unwanted : TakesUnwanted
unfolding sorts_before compare_by
takes_unwanted = (refuted _ _ refl, refuted _ _ refl)

pub takes_early : TakesEarly
unfolding spelling_of int_spelling text_spelling spelled count_of join_rows
takes_early = refuted _ _ refl
