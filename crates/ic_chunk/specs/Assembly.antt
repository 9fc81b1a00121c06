-- What payloads assemble to.
use Rattle.std.specs.Prelude.{◌≡◌, ◌≢◌, ℕ, List, [], ◌∷◌, ◌++◌, length, map, Bool, true, false, if◌then◌else◌}
use Rattle.std.specs.List.{AllByRecursion, AllZip}
use Rattle.ic_row.specs.declared.value.Value.{Value}
use Rattle.ic_row.specs.Spelling.{Spells}
use Rattle.ic_chunk.specs.declared.chunk.ChunkKind.{ChunkKind}
use Rattle.ic_chunk.specs.declared.chunk.ChunkKind.TheVariants.{Whole, Start, Middle, End, EndOfStream, Empty}
use Rattle.ic_chunk.specs.Chunks.{Chunk, IsChunk, spelled, payload_of, end_of_stream, joined}

-- any chunk but the end of stream
pub record IsPart (c : Chunk) : Type 0 where
  pub allowed : IsChunk c
  pub goes_on : c.kind ≢ EndOfStream

abbrev pub is_empty : ChunkKind → Bool
is_empty Empty = true
is_empty _ = false

-- the chunks without the empty ones
abbrev pub without_empty : List Chunk → List Chunk
without_empty [] = []
without_empty (c ∷ cs) = if is_empty c.kind then without_empty cs else c ∷ without_empty cs

-- middles, and then an end
abbrev pub IsTail : List Chunk → Type 0
IsTail [] = ⊥
IsTail (c ∷ []) = c.kind ≡ End
IsTail (c ∷ d ∷ ds) = (c.kind ≡ Middle) × IsTail (d ∷ ds)

-- the chunks of one row: a whole one, or a start, any middles and an end
abbrev pub IsGroup : List Chunk → Type 0
IsGroup [] = ⊥
IsGroup (c ∷ []) = c.kind ≡ Whole
IsGroup (c ∷ d ∷ ds) = (c.kind ≡ Start) × IsTail (d ∷ ds)

abbrev pub AreMiddles : List Chunk → Type 0
AreMiddles [] = Unit {0}
AreMiddles (c ∷ cs) = (c.kind ≡ Middle) × AreMiddles cs

-- nothing, or a start with its middles
abbrev pub IsPending : List Chunk → Type 0
IsPending [] = Unit {0}
IsPending (c ∷ cs) = (c.kind ≡ Start) × AreMiddles cs

-- the lists joined, one after another
abbrev pub together : {A : Type 0} → List (List A) → List A
together [] = []
together (xs ∷ xss) = xs ++ together xss

-- the end of stream, if the flag says so
abbrev pub ending : Bool → List Chunk
ending true = end_of_stream ∷ []
ending false = []

-- chunks at the front of a stream: groups that spell rows, the chunks of an unfinished row, and perhaps the end
pub record IsFront (chunks : List Chunk) (rows : List (List Value)) (rest : List ℕ) (ended : Bool) : Type 0 where
  pub parts : List Chunk
  pub groups : List (List Chunk)
  pub pending : List Chunk
  pub all : chunks ≡ parts ++ ending ended
  pub each : AllByRecursion IsPart parts
  pub read : without_empty parts ≡ together groups ++ pending
  pub whole : AllByRecursion IsGroup groups
  pub spell : AllZip Spells rows (map joined groups)
  pub begun : IsPending pending
  pub left : rest ≡ joined pending
  pub between : ended ≡ true → pending ≡ []

-- payloads that assemble to rows, to the bytes of an unfinished row, and to an end of stream or none
pub record Assembles (payloads : List (List ℕ)) (rows : List (List Value)) (rest : List ℕ) (ended : Bool) : Type 0 where
  pub chunks : List (List Chunk)
  pub are : payloads ≡ map payload_of chunks
  pub front : IsFront (together chunks) rows rest ended

-- payloads that are the front of a stream
pub record IsStream (payloads : List (List ℕ)) : Type 0 where
  pub rows : List (List Value)
  pub rest : List ℕ
  pub ended : Bool
  pub assemble : Assembles payloads rows rest ended

-- The chunk of this number, from 0, is the first of the payload that can't come next after the payloads before it: the
-- chunks before it in this payload can, some bytes are left after them, and no chunk at the front of these bytes can
-- come next.
pub record IsFaultAt (before : List (List ℕ)) (payload : List ℕ) (place : ℕ) : Type 0 where
  pub chunks : List Chunk
  pub left : List ℕ
  pub count : length chunks ≡ place
  pub are : payload ≡ payload_of chunks ++ left
  pub go_on : IsStream (before ++ payload_of chunks ∷ [])
  pub more : left ≢ []
  pub stop : (c : Chunk) (behind : List ℕ) → left ≡ spelled c ++ behind → IsStream (before ++ payload_of (chunks ++ c ∷ []) ∷ []) → ⊥
