-- Which bytes can be put.
use Rattle.std.specs.Prelude.{◌≡◌, ◌≢◌, ℕ, List}
use Rattle.ic_chunk.specs.declared.chunk.ChunkKind.TheVariants.{EndOfStream}
use Rattle.ic_chunk.specs.Chunks.{Chunk, IsChunk, spelled}

-- one tuple chunk that isn't an end of stream
pub record IsTuple (bytes : List ℕ) : Type 0 where
  pub chunk : Chunk
  pub allowed : IsChunk chunk
  pub goes_on : chunk.kind ≢ EndOfStream
  pub are : bytes ≡ spelled chunk
