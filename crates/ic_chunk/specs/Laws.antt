-- Laws of the format and of assembly.
use Rattle.std.specs.Prelude.{◌≡◌, ℕ, ◌≤◌, List, [], ◌++◌, map, Bool}
use Rattle.std.specs.List.{AllZip, flat_map}
use Rattle.ic_row.specs.declared.value.Value.{Value}
use Rattle.ic_row.specs.Spelling.{Spells}
use Rattle.ic_chunk.specs.Chunks.{Chunk, payload_of}
use Rattle.ic_chunk.specs.Cutting.{chunks_of}
use Rattle.ic_chunk.specs.Assembly.{Assembles, together, ending}

-- payloads assemble in at most one way
abbrev pub OneAssembly : Type 0
OneAssembly =
    (payloads : List (List ℕ)) (rows others : List (List Value)) (rest other_rest : List ℕ) (ended other_ended : Bool)
    → Assembles payloads rows rest ended → Assembles payloads others other_rest other_ended
    → (rows ≡ others) × (rest ≡ other_rest) × (ended ≡ other_ended)

-- the first payloads of a stream assemble too, to the first of its rows
abbrev pub FrontAssembles : Type 0
FrontAssembles =
    (payloads more : List (List ℕ)) (rows : List (List Value)) (rest : List ℕ) (ended : Bool)
    → Assembles (payloads ++ more) rows rest ended
    → (first others : List (List Value)) × (begun : List ℕ) × (over : Bool) × Assembles payloads first begun over × (rows ≡ first ++ others)

-- the chunks into which rows are cut assemble to these rows, with or without the end of stream after them, however they
-- are distributed over payloads
abbrev pub CutAssembles : Type 0
CutAssembles =
    (packet : ℕ) (rows : List (List Value)) (spellings : List (List ℕ)) (payloads : List (List Chunk)) (ended : Bool)
    → 128 ≤ packet → packet ≤ 65507 → AllZip Spells rows spellings
    → together payloads ≡ flat_map (chunks_of packet) spellings ++ ending ended
    → Assembles (map payload_of payloads) rows [] ended
