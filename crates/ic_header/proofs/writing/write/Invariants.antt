use Rattle.std.proofs.Common.{◌≡◌, ◌*◌, take, length}
use Rattle.std.specs.List.{flat_map}
use Rattle.std.specs.Int.{w32, to_be_bytes}
use Rattle.ic_header.proofs.writing.write.Given as goal

abbrev pub invariant-loop-place : goal.invariant-loop-place
invariant-loop-place l =
    record {
      same : length l.out ≡ 64;
      words : take (4 * l.place) l.out ≡ flat_map (to_be_bytes w32) (take l.place l.word-items);
    }
