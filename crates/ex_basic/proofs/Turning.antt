-- How many steps a sort can make.
use Rattle.std.proofs.Common.{◌≡◌, ◌+◌, ◌<◌, Bool, true, false, List, length, refl, sym, arith, true≢false}
use Rattle.ic_row.specs.declared.order.Key.{Key}
use Rattle.pl_ops.specs.declared.words.Side.{Side}
use Rattle.pl_ops.specs.declared.words.Side.TheVariants.{Left, Right}
use Rattle.pl_ops.specs.Rows.{Line}
use Rattle.pl_ops.specs.Giving.{open_count}
use Rattle.ex_basic.specs.Sorts.{Sorting, IsWanting, kept_in}
use Rattle.ex_basic.proofs.Sorting.{sort_length}

pub wanting : (side : Side) (o : Sorting) → IsWanting side o → o.ended ≡ false
wanting Left o w = w
wanting Right o w = absurd w

pub end_falls : (sorted : Bool) (keys : List Key) (ended : Bool) (rows : List Line) → ended ≡ false → (sorted ≡ true → ended ≡ true)
    → length (kept_in sorted keys true rows) + open_count true < length (kept_in sorted keys ended rows) + open_count ended
end_falls true keys true rows e h = absurd (true≢false e)
end_falls true keys false rows e h = absurd (true≢false (sym (h refl)))
end_falls false keys true rows e h = absurd (true≢false e)
end_falls false keys false rows e h = omega (arith, sort_length keys rows)
