use Rattle.std.proofs.Common.{◌≡◌, ◌+◌, ◌≤◌, List, length}
use Rattle.std.specs.List.{AllByRecursion}
use Rattle.ic_chunk.specs.Chunks.{Chunk, IsChunk, payload_of}
use Rattle.ic_chunk.proofs.Ended.{IsLeft}
use Rattle.ic_chunk.proofs.counting.rows_ended.Given as goal

abbrev pub invariant-loop-kind : goal.invariant-loop-kind
invariant-loop-kind l =
    record {
      left : (chunks : List Chunk) → AllByRecursion IsChunk chunks → l.payload ≡ payload_of chunks → IsLeft chunks l.rest l.count;
      small : l.count + length l.rest ≤ length l.payload;
    }

abbrev pub decreases-loop-kind : goal.decreases-loop-kind
decreases-loop-kind l = length l.rest
