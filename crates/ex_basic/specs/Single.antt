-- How an operator with one input behaves, whatever it was given and whatever it answered before. `Gives` says of a state
-- that it was given this stream and has answered these rows; `output` is what the operator gives of a stream.
use Rattle.std.specs.Prelude.{◌≡◌, Bool, true, false, List, [], ◌∷◌, ◌++◌, Result, MatchResult}
use Rattle.pl_ops.specs.declared.words.Side.TheVariants.{Left, Right}
use Rattle.pl_ops.specs.declared.words.Next.{Next}
use Rattle.pl_ops.specs.declared.words.Next.TheVariants.{Row, Wants, End}
use Rattle.pl_ops.specs.declared.words.OpNo.{OpNo}
use Rattle.pl_ops.specs.declared.words.OpNo.TheVariants.{Memory}
use Rattle.pl_ops.specs.Rows.{Line}
use Rattle.pl_ops.specs.Streams.{Stream}
use Rattle.pl_ops.specs.Giving.{with_row, at_its_end, IsAll, IsOver}

-- The answer to `next`, by the states before and after it. A row is the next of the output. If it wants a row, then its
-- input goes on, and it has answered each row of its output so far. At the end its output has ended, and it has answered
-- each row of it. It never wants a row of a right side.
abbrev pub Answers : {S : Type 0} → (S → Stream → List Line → Type 0) → (Stream → Stream) → S → S → Next → Type 0
Answers Gives output old new (Row row) = (s : Stream) (a : List Line) → Gives old s a → Gives new s (a ++ row ∷ [])
Answers Gives output old new (Wants Left) = (s : Stream) (a : List Line) → Gives old s a
    → (s.ended ≡ false) × IsAll (output s) a × Gives new s a
Answers Gives output old new (Wants Right) = ⊥
Answers Gives output old new End = (s : Stream) (a : List Line) → Gives old s a → IsOver (output s) a × Gives new s a

-- it was given one more row
abbrev pub Given : {S : Type 0} → (S → Stream → List Line → Type 0) → S → S → Line → Type 0
Given Gives old new row = (s : Stream) (a : List Line) → s.ended ≡ false → Gives old s a → Gives new (with_row s row) a

-- it was told that no more rows come
abbrev pub Ended : {S : Type 0} → (S → Stream → List Line → Type 0) → S → S → Type 0
Ended Gives old new = (s : Stream) (a : List Line) → s.ended ≡ false → Gives old s a → Gives new (at_its_end s) a

-- whether it failed is what the call answered: out of memory, or not
abbrev pub Remembers : {X : Type 0} → Result X OpNo → Bool → Type 0
Remembers result failed = MatchResult result (λ _. failed ≡ false) (λ no. (no ≡ Memory) × (failed ≡ true))
