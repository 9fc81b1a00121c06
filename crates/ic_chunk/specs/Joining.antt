-- A joiner, and the payloads that it took.
use Rattle.std.specs.Prelude.{◌≡◌, ◌≢◌, ℕ, min, length, drop, List, [], ◌++◌, Bool, true, false, Option, Some, None}
use Rattle.std.specs.List.{AllByRecursion}
use Rattle.ic_row.specs.declared.value.Value.{Value}
use Rattle.ic_chunk.specs.Chunks.{Chunk, IsChunk, payload_of}
use Rattle.ic_chunk.specs.Reading.{Standing, Step, chunk_at, goes_on, run}
use Rattle.ic_chunk.specs.Assembly.{Assembles}

-- what a joiner keeps: the bytes of an unfinished row, and whether the stream has ended
pub record Held : Type 0 where
  pub rest : List ℕ
  pub ended : Bool

-- a joiner that took these payloads and gave these rows keeps this
abbrev pub Stands : Held → List (List ℕ) → List (List Value) → Type 0
Stands held payloads rows = Assembles payloads rows held.rest held.ended

-- a number as it is told in four bytes: if it is too great, the greatest that they hold
abbrev pub told : ℕ → ℕ
told n = min n 4294967295

-- some number has this property, and k is how it is told
abbrev pub IsTold : (ℕ → Type 0) → ℕ → Type 0
IsTold P k = (n : ℕ) × P n × (k ≡ told n)

-- ---- while a payload is read

-- the state of a stream whose unfinished row begins after this many of the bytes
abbrev pub standing_at : ℕ → List ℕ → Bool → Standing
standing_at from bytes ended = record { rest = drop from bytes; ended = ended }

-- new is old with more bytes after it
abbrev pub Keeps : List ℕ → List ℕ → Type 0
Keeps old new = (more : List ℕ) × (new ≡ old ++ more)

-- the chunk was taken, and this is what it did; or it can't come next, and was refused
abbrev pub Took : Option Step → Bool → List (List Value) → List (List Value) → Standing → Type 0
Took (Some step) true old new s = (new ≡ old ++ step.0) × (s ≡ step.1)
Took (Some step) false old new s = ⊥
Took None true old new s = ⊥
Took None false old new s = Unit {0}

-- no chunk at the front of these bytes can come next in the stream
abbrev pub IsStuck : Standing → Option (Chunk × List ℕ) → Type 0
IsStuck s None = Unit {0}
IsStuck s (Some found) = goes_on s found.0 ≡ None

-- these bytes begin with this many chunks, which were taken
pub record Came (bytes left : List ℕ) (count : ℕ) (from to : Standing) (old new : List (List Value)) : Type 0 where
  pub chunks : List Chunk
  pub rows : List (List Value)
  pub are : bytes ≡ payload_of chunks ++ left
  pub number : count ≡ length chunks
  pub each : AllByRecursion IsChunk chunks
  pub goes : run from chunks ≡ Some (rows, to)
  pub added : new ≡ old ++ rows

-- these bytes begin with this many chunks that can come next, and some bytes are left with which no such chunk begins
pub record Stops (bytes : List ℕ) (count : ℕ) (from : Standing) : Type 0 where
  pub left : List ℕ
  pub to : Standing
  pub rows : List (List Value)
  pub came : Came bytes left count from to [] rows
  pub more : left ≢ []
  pub stuck : IsStuck to (chunk_at left)
