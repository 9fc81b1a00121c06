use Rattle.std.proofs.Common.{◌≡◌, take}
use Rattle.std.specs.List.{fold}
use Rattle.ic_row.specs.Hash.{hash_step}
use Rattle.ic_row.proofs.hash.mix_all.Given as goal

abbrev pub invariant-loop-byte : goal.invariant-loop-byte
invariant-loop-byte l = l.mixed ≡ fold hash_step l.hash (take l.byte-index l.bytes)
