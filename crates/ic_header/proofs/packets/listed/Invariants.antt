use Rattle.std.proofs.Common.{◌≡◌, ◌++◌, drop}
use Rattle.ic_header.specs.Packets.{listing}
use Rattle.ic_header.proofs.packets.listed.Given as goal

-- what was appended, followed by what is left to append, is all
abbrev pub invariant-loop-n : goal.invariant-loop-n
invariant-loop-n l = l.bytes.items ++ listing (drop l.n-index l.numbers) ≡ listing l.numbers
