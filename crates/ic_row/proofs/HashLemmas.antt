-- The segment goes by the key.
use Rattle.std.proofs.Common.{◌≡◌, ℕ, ◌%◌, List, ap}
use Rattle.std.specs.List.{flat_map}
use Rattle.ic_row.specs.declared.value.Value.{Value}
use Rattle.ic_row.specs.Values.{key_of}
use Rattle.ic_row.specs.Spelling.{value_spelling}
use Rattle.ic_row.specs.Hash.{hash_of, segment_for}

pub hashes_by_key : (a b : List Value) (x y : List ℕ) (segments : ℕ) → key_of x a ≡ key_of y b → segment_for x a segments ≡ segment_for y b segments
unfolding segment_for
hashes_by_key a b x y segments same = ap (λ (key : List Value). hash_of (flat_map value_spelling key) % segments) same
