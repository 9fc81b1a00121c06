-- The worked plans, by computation.
use Rattle.std.proofs.Common.{[], ◌∷◌, refl, arith}
use Rattle.ic_row.specs.Hash.{segment_for, basis, hash_step}
use Rattle.ic_row.specs.Spelling.{int_spelling, text_spelling}
use Rattle.pl_ops.specs.Rows.{join_rows}
use Rattle.pl_ops.specs.Groups.{grouped, joined_value, value_of_none, brought}
use Rattle.pl_ops.specs.Routing.{routed}
use Rattle.pl_mean.specs.Parts.{sent_by}
use Rattle.pl_parts.specs.Worked.{GroupsAreWhole, BroadcastsReachAll, CopiesAreSentOnce, RowsMeet}

pub groups_are_whole : GroupsAreWhole
unfolding grouped joined_value value_of_none brought
groups_are_whole = record { moves = (1, 2) ∷ []; below = (omega arith, omega arith, tt); is = refl }

pub broadcasts_reach_all : BroadcastsReachAll
unfolding join_rows
broadcasts_reach_all = record {
  moves = (0, 1) ∷ (1, 2) ∷ (2, 3) ∷ (3, 4) ∷ [];
  below = (omega arith, omega arith, (omega arith, omega arith, (omega arith, omega arith, (omega arith, omega arith, tt))));
  is = refl;
}

pub copies_are_sent_once : CopiesAreSentOnce
copies_are_sent_once = record { moves = []; below = tt; is = refl }

pub rows_meet : RowsMeet
unfolding routed sent_by join_rows segment_for basis hash_step int_spelling text_spelling
rows_meet = record { moves = (2, 3) ∷ (3, 4) ∷ []; below = (omega arith, omega arith, (omega arith, omega arith, tt)); is = refl }
