-- What a query gathers: the rows of a table at the segments that send them.
use Rattle.std.specs.Prelude.{ℕ, ◌<◌, ◌≤◌, pos, List, map}
use Rattle.std.specs.List.{All, range_with_len}
use Rattle.ic_row.specs.declared.value.Value.{Value}
use Rattle.ic_row.specs.Spelling.{HasLengths}
use Rattle.pl_ops.specs.declared.loaded.Spread.{Spread}
use Rattle.pl_ops.specs.Placed.{rows_at}
use Rattle.gd_sim.specs.declared.feed.Feed.{Feed}

-- the rows of the feed's table at a segment
abbrev pub part_of : List Spread → Feed → ℕ → List (List Value)
part_of loaded feed segment = rows_at loaded feed.table (pos segment)

-- the parts of the segments that send, from 0 on
abbrev pub parts_of : List Spread → Feed → List (List (List Value))
parts_of loaded feed = map (part_of loaded feed) (range_with_len 0 feed.senders)

-- one segment sends or more do, of so many, and what they send can be spelled
pub record IsFeed (segments : ℕ) (loaded : List Spread) (feed : Feed) : Type 0 where
  pub least : 0 < feed.senders
  pub most : feed.senders ≤ segments
  pub lengths : (segment : ℕ) → segment < feed.senders → All HasLengths (part_of loaded feed segment)
