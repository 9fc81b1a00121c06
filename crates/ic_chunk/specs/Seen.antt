-- What was found in memory, as plain values.
use Rattle.std.specs.Prelude.{ℕ, ◌<◌, slice_index, List, Option}
use Rattle.std.specs.Option.{option_map}
use Rattle.std.specs.Borrow.{Bor}
use Rattle.ic_chunk.specs.declared.chunk.ChunkKind.{ChunkKind}
use Rattle.ic_chunk.specs.Chunks.{Chunk}

-- a chunk and the bytes after it
abbrev pub seen : Option (ChunkKind × Bor (List ℕ) × Bor (List ℕ)) → Option (Chunk × List ℕ)
seen found = option_map (λ x. (record { kind = x.0; body = x.1.now }, x.2.now)) found

-- each element is a byte
abbrev pub IsBytes : List ℕ → Type 0
IsBytes bytes = (i : ℕ) → slice_index bytes i < 256
