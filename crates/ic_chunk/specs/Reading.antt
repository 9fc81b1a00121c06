-- Chunks read from the front of bytes, and what each of them does to a stream.
use Rattle.std.specs.Prelude.{ℕ, List, [], ◌∷◌, ◌++◌, length, take, drop, Bool, true, false, not, nat_lt, ◌==◌, if◌then◌else◌, Option, Some, None, Result, Ok, Err}
use Rattle.std.specs.Option.{option_and_then}
use Rattle.std.specs.Int.{w16, from_be_bytes}
use Rattle.ic_row.specs.declared.value.Value.{Value}
use Rattle.ic_row.specs.Reading.{read_row_of}
use Rattle.ic_chunk.specs.declared.chunk.ChunkKind.{ChunkKind}
use Rattle.ic_chunk.specs.declared.chunk.ChunkKind.TheVariants.{Whole, Start, Middle, End, EndOfStream, Empty}
use Rattle.ic_chunk.specs.Chunks.{Chunk, allows}

-- ---- one chunk

-- the kind with this number
unfoldable pub kind_at : ℕ → Option ChunkKind
kind_at n =
    if n == 0 then Some Whole else
    (if n == 1 then Some Start else
    (if n == 2 then Some Middle else
    (if n == 3 then Some End else
    (if n == 4 then Some EndOfStream else
    (if n == 5 then Some Empty else None)))))

-- a chunk of this kind and size whose body is at the front of the bytes, and the bytes after it
abbrev pub body_at : ℕ → List ℕ → ChunkKind → Option (Chunk × List ℕ)
body_at size bytes kind =
    if nat_lt (length bytes) size then None else
    (if allows kind size then Some (record { kind = kind; body = take size bytes }, drop size bytes) else None)

-- the size in two bytes, the kind in two, and the body; None if they can't be read
unfoldable pub chunk_at : List ℕ → Option (Chunk × List ℕ)
chunk_at bytes =
    if nat_lt (length bytes) 4 then None else
    option_and_then (body_at (from_be_bytes w16 (take 2 bytes)) (drop 4 bytes)) (kind_at (from_be_bytes w16 (take 2 (drop 2 bytes))))

-- ---- a stream

-- the state of a stream: the bytes of an unfinished row, none between rows, and whether the stream has ended
pub record Standing : Type 0 where
  pub rest : List ℕ
  pub ended : Bool

-- rows, and the state of the stream after them
abbrev pub Step : Type 0
Step = List (List Value) × Standing

abbrev pub is_nil : List ℕ → Bool
is_nil [] = true
is_nil (b ∷ bytes) = false

-- whether a chunk of this kind is allowed after these bytes of an unfinished row: a whole row, a start and the end of
-- stream only between rows, a middle and an end only within a row, an empty chunk anywhere
abbrev pub may_stand : ChunkKind → List ℕ → Bool
may_stand Whole rest = is_nil rest
may_stand Start rest = is_nil rest
may_stand Middle rest = not (is_nil rest)
may_stand End rest = not (is_nil rest)
may_stand EndOfStream rest = is_nil rest
may_stand Empty rest = true

-- no row ends here, and these are the bytes of the unfinished one
abbrev pub goes : List ℕ → Option Step
goes rest = Some ([], record { rest = rest; ended = false })

-- a row ends here
abbrev pub ends : Result (List Value) ℕ → Option Step
ends (Ok row) = Some (row ∷ [], record { rest = []; ended = false })
ends (Err place) = None

-- what a chunk does if it is allowed here
abbrev pub does : ChunkKind → List ℕ → List ℕ → Option Step
does Whole rest body = ends (read_row_of body)
does Start rest body = goes body
does Middle rest body = goes (rest ++ body)
does End rest body = ends (read_row_of (rest ++ body))
does EndOfStream rest body = Some ([], record { rest = []; ended = true })
does Empty rest body = goes rest

-- the stream after one more chunk; None if the chunk can't come next
unfoldable pub goes_on : Standing → Chunk → Option Step
goes_on s c = if s.ended then None else (if may_stand c.kind s.rest then does c.kind s.rest c.body else None)

abbrev pub behind : List (List Value) → Option Step → Option Step
behind rows None = None
behind rows (Some step) = Some (rows ++ step.0, step.1)

-- the stream after many more chunks
abbrev pub run : Standing → List Chunk → Option Step
run s [] = Some ([], s)
run s (c ∷ cs) = option_and_then (λ step. behind step.0 (run step.1 cs)) (goes_on s c)

-- a stream before its first chunk
abbrev pub fresh : Standing
fresh = record { rest = []; ended = false }
