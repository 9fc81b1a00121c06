-- The worked rules, by computation.
use Rattle.std.proofs.Common.{zero, suc, ◌<◌, ◌+◌, [], ◌∷◌, refl, arith}
use Rattle.ic_row.specs.Order.{compare_by, IsSortedBy}
use Rattle.pl_ops.specs.Merging.{sorts_before}
use Rattle.pl_mean.specs.Worked.{two, int, letter, by_first}
use Rattle.pl_mean.proofs.Stories.{is_merged}
use Rattle.ic_row.specs.declared.value.Value.TheVariants.{Null}
use Rattle.pl_answers.specs.Worked.{GathersWait, LimitsKeepTheLeast}

pub gathers_wait : GathersWait
unfolding sorts_before compare_by
gathers_wait = is_merged

sorted_two : IsSortedBy by_first (two (int 1) (letter 122) ∷ two (int 2) (letter 120) ∷ [])
unfolding compare_by
sorted_two zero d low high = refl
sorted_two (suc k) d low high = let e : suc k + 1 < 2 = high in absurd (omega (arith, e))

pub limits_keep_the_least : LimitsKeepTheLeast
unfolding sorts_before compare_by
limits_keep_the_least = record {
  left = two (int 2) (letter 119) ∷ two Null (letter 121) ∷ [];
  permuted = record { moves = (2, 3) ∷ (1, 3) ∷ (0, 1) ∷ []; below = (omega arith, omega arith, (omega arith, omega arith, (omega arith, omega arith, tt))); is = refl };
  count = refl;
  sorted = sorted_two;
  first = ((refl, (refl, tt)), ((refl, (refl, tt)), tt));
}
