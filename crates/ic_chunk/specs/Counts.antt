-- Rows counted by the chunks with which they end.
use Rattle.std.specs.Prelude.{◌≡◌, ℕ, ◌+◌, ◌-◌, ◌^◌, min, List, [], ◌∷◌, length, take, drop, nat_lt, ◌==◌, if◌then◌else◌, Option, Some, None}
use Rattle.std.specs.Int.{w16, from_be_bytes}
use Rattle.std.specs.List.{AllByRecursion}
use Rattle.ic_chunk.specs.declared.chunk.ChunkKind.{ChunkKind}
use Rattle.ic_chunk.specs.declared.chunk.ChunkKind.TheVariants.{Whole, Start, Middle, End, EndOfStream, Empty}
use Rattle.ic_chunk.specs.Chunks.{Chunk, IsChunk, payload_of}

-- ---- rows in chunks

-- 1 if a row ends with a chunk of this kind
abbrev pub ends_row : ChunkKind → ℕ
ends_row Whole = 1
ends_row Start = 0
ends_row Middle = 0
ends_row End = 1
ends_row EndOfStream = 0
ends_row Empty = 0

-- how many rows end with these chunks
abbrev pub rows_ended : List Chunk → ℕ
rows_ended [] = 0
rows_ended (c ∷ cs) = ends_row c.kind + rows_ended cs

-- the kind number of the chunk at the front of the bytes, and the bytes after the chunk
unfoldable pub front_at : List ℕ → Option (ℕ × List ℕ)
front_at bytes =
    if nat_lt (length bytes) 4 then None else
    (if nat_lt (length (drop 4 bytes)) (from_be_bytes w16 (take 2 bytes)) then None else
    Some (from_be_bytes w16 (take 2 (drop 2 bytes)), drop (from_be_bytes w16 (take 2 bytes)) (drop 4 bytes)))

-- 1 if a row ends with a chunk of this kind number
abbrev pub ends_by : ℕ → ℕ
ends_by n = if n == 0 then 1 else (if n == 3 then 1 else 0)

-- if the bytes are a payload, this many rows end in it
abbrev pub HasEnded : List ℕ → ℕ → Type 0
HasEnded payload n = (chunks : List Chunk) → AllByRecursion IsChunk chunks → payload ≡ payload_of chunks → n ≡ rows_ended chunks

-- this many rows end in these payloads
abbrev pub HaveEnded : List (List ℕ) → ℕ → Type 0
HaveEnded [] n = n ≡ 0
HaveEnded (payload ∷ payloads) n = (k : ℕ) × (m : ℕ) × HasEnded payload k × HaveEnded payloads m × (n ≡ k + m)

-- ---- a count of 64 bits

-- the greatest value of the count, at which it stays
abbrev pub greatest_count : ℕ
greatest_count = 2 ^ 64 - 1

-- the count for payloads in which some number of rows end
pub record HasCounted (payloads : List (List ℕ)) (count : ℕ) : Type 0 where
  pub ended : ℕ
  pub have : HaveEnded payloads ended
  pub told : count ≡ min greatest_count ended
