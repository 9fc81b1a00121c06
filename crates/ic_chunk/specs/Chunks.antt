-- The format: chunks, and payloads made of them.
use Rattle.std.specs.Prelude.{◌≡◌, ℕ, ◌<◌, ◌^◌, List, [], ◌++◌, length, Bool, true, nat_lt, ◌==◌}
use Rattle.std.specs.Int.{w16, to_be_bytes}
use Rattle.std.specs.List.{flat_map}
use Rattle.ic_chunk.specs.declared.chunk.ChunkKind.{ChunkKind}
use Rattle.ic_chunk.specs.declared.chunk.ChunkKind.TheVariants.{Whole, Start, Middle, End, EndOfStream, Empty}

-- a chunk: its kind, and the bytes that it carries
pub record Chunk : Type 0 where
  pub kind : ChunkKind
  pub body : List ℕ

abbrev pub chunk_of : ChunkKind → List ℕ → Chunk
chunk_of kind body = record { kind = kind; body = body }

-- the number of a kind
abbrev pub kind_number : ChunkKind → ℕ
kind_number Whole = 0
kind_number Start = 1
kind_number Middle = 2
kind_number End = 3
kind_number EndOfStream = 4
kind_number Empty = 5

-- whether a chunk of this kind may have a body of this size: at least 1 byte if it carries bytes of a row, and
-- otherwise none
abbrev pub allows : ChunkKind → ℕ → Bool
allows Whole size = nat_lt 0 size
allows Start size = nat_lt 0 size
allows Middle size = nat_lt 0 size
allows End size = nat_lt 0 size
allows EndOfStream size = size == 0
allows Empty size = size == 0

-- an allowed chunk: its size fits in two bytes, and its kind allows it
pub record IsChunk (c : Chunk) : Type 0 where
  pub small : length c.body < 2 ^ 16
  pub allowed : allows c.kind (length c.body) ≡ true

-- the bytes of a chunk: its size and its kind in two bytes each, and then its body
unfoldable pub spelled : Chunk → List ℕ
spelled c = to_be_bytes w16 (length c.body) ++ to_be_bytes w16 (kind_number c.kind) ++ c.body

-- a payload: chunks that fill it exactly
abbrev pub payload_of : List Chunk → List ℕ
payload_of chunks = flat_map spelled chunks

-- the end of stream
abbrev pub end_of_stream : Chunk
end_of_stream = record { kind = EndOfStream; body = [] }

-- what a chunk carries
abbrev pub body_of : Chunk → List ℕ
body_of c = c.body

-- what these chunks carry, joined
abbrev pub joined : List Chunk → List ℕ
joined chunks = flat_map body_of chunks
