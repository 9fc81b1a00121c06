use Rattle.std.proofs.Common.{◌≡◌, take}
use Rattle.ic_row.specs.Hash.{hash_of, key_bytes}
use Rattle.ic_row.proofs.hash.segment_of.Given as goal

abbrev pub invariant-loop-place : goal.invariant-loop-place
invariant-loop-place l = l.hash ≡ hash_of (key_bytes (take l.place-index l.columns) l.row)
