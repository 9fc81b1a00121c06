-- What a cutter of rows has still to give.
use Rattle.std.specs.Prelude.{◌≡◌, ℕ, List, [], ◌∷◌, ◌++◌, map, drop}
use Rattle.ic_row.specs.declared.value.Value.{Value}
use Rattle.ic_chunk.specs.Chunks.{spelled}
use Rattle.gd_work.specs.declared.cutter.Cutter.{Cutter}
use Rattle.gd_work.specs.Sending.{cut}

-- the next chunk, if it is ready
abbrev pub pending : List ℕ → List (List ℕ)
pending [] = []
pending (b ∷ bytes) = (b ∷ bytes) ∷ []

-- the chunks still to come of the rows that were begun
abbrev pub left_of : Cutter → List (List ℕ)
left_of c = pending c.chunk.items ++ map spelled c.splitter

-- the chunks still to come of all these rows
abbrev pub unput : Cutter → List (List Value) → List (List ℕ)
unput c rows = left_of c ++ cut c.packet (drop c.begun rows)

-- the next chunk is ready, or none is left
abbrev pub IsReadyWith : List ℕ → List (List ℕ) → Type 0
IsReadyWith [] chunks = chunks ≡ []
IsReadyWith (b ∷ bytes) chunks = Unit {0}

abbrev pub IsReady : Cutter → List (List Value) → Type 0
IsReady c rows = IsReadyWith c.chunk.items (unput c rows)

-- no row was begun
pub record IsFirst (packet : ℕ) (c : Cutter) : Type 0 where
  pub size : c.packet ≡ packet
  pub begun : c.begun ≡ 0
  pub left : left_of c ≡ []
