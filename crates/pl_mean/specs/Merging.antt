-- What is left of each sender's stream after so many steps of an ordered gather.
use Rattle.std.specs.Prelude.{ℕ, zero, suc, Bool, List}
use Rattle.pl_ops.specs.Rows.{Line}
use Rattle.pl_ops.specs.Streams.{Stream}
use Rattle.pl_ops.specs.Merging.{Choice, Waits, Over, Gives, choice_of}

-- of these streams, if this is chosen of them
abbrev pub left_by : List Stream → (List Stream → List Stream) → Choice → List Stream
left_by streams more Waits = streams
left_by streams more Over = streams
left_by streams more (Gives row left) = more left

-- what is left of each stream after so many steps
abbrev pub left_after : (Line → Line → Bool) → ℕ → List Stream → List Stream
left_after before zero streams = streams
left_after before (suc n) streams = left_by streams (left_after before n) (choice_of before streams)
