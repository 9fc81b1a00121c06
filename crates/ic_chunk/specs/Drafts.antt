-- A payload while it is read.
use Rattle.std.specs.Prelude.{ℕ, List, [], drop, Bool, Option}
use Rattle.ic_chunk.specs.declared.draft.Draft.{Draft}
use Rattle.ic_chunk.specs.Reading.{Standing, Step}
use Rattle.ic_chunk.specs.Joining.{Took, Came}

-- the state of the stream at this point of the payload
abbrev pub standing : Draft → Standing
standing d = record { rest = drop d.from d.bytes.items; ended = d.ended }

-- the chunk was taken, and this is what it did; or it can't come next, and was refused
abbrev pub Takes : Option Step → Draft → Draft → Bool → Type 0
Takes step old new went = Took step went old.rows new.rows (standing new)

-- the whole payload was read
abbrev pub Reads : List ℕ → Draft → Draft → Type 0
Reads payload old new = (count : ℕ) × Came payload [] count (standing old) (standing new) old.rows new.rows
