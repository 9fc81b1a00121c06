-- A row's spelling, cut into chunks.
use Rattle.std.specs.Prelude.{ℕ, zero, suc, ◌+◌, ◌-◌, ◌/◌, List, [], ◌∷◌, length, take, drop, Bool, true, false, ◌==◌, if◌then◌else◌}
use Rattle.ic_chunk.specs.declared.chunk.ChunkKind.TheVariants.{Whole, Start, Middle, End}
use Rattle.ic_chunk.specs.declared.chunk.ChunkKind.{ChunkKind}
use Rattle.ic_chunk.specs.Chunks.{Chunk}

-- The greatest length of a chunk's body in packets of this size. The packet header takes 64 bytes, the chunk's head 4,
-- and 4 are kept for the end of stream.
abbrev pub room_in : ℕ → ℕ
room_in packet = packet - 72

-- this many pieces from the front of the bytes, each as long as there is room for, or what is left
abbrev pub pieces : ℕ → ℕ → List ℕ → List (List ℕ)
pieces room zero bytes = []
pieces room (suc n) bytes = take room bytes ∷ pieces room n (drop room bytes)

-- how many pieces there are if none is empty
unfoldable pub count_of : ℕ → List ℕ → ℕ
count_of room bytes = (length bytes + room - 1) / room

-- the bytes cut into bodies: each fills the room, except that the last has what is left
abbrev pub bodies_of : ℕ → List ℕ → List (List ℕ)
bodies_of room bytes = pieces room (count_of room bytes) bytes

-- the chunks after a row's start: middles, and then an end
abbrev pub tail_of : List (List ℕ) → List Chunk
tail_of [] = []
tail_of (b ∷ []) = record { kind = End; body = b } ∷ []
tail_of (b ∷ c ∷ bs) = record { kind = Middle; body = b } ∷ tail_of (c ∷ bs)

-- the chunks of a row: a whole one, or a start and its tail
abbrev pub group_of : List (List ℕ) → List Chunk
group_of [] = []
group_of (b ∷ []) = record { kind = Whole; body = b } ∷ []
group_of (b ∷ c ∷ bs) = record { kind = Start; body = b } ∷ tail_of (c ∷ bs)

-- the chunks of a row with this spelling, in packets of this size
abbrev pub chunks_of : ℕ → List ℕ → List Chunk
chunks_of packet row = group_of (bodies_of (room_in packet) row)

-- the chunks still to come after this many bytes of the row were written
abbrev pub left_of : ℕ → List ℕ → ℕ → List Chunk
left_of room row done = if done == 0 then group_of (bodies_of room row) else tail_of (bodies_of room (drop done row))

-- the kind of a chunk by whether it has the row's first bytes, and whether it has the last ones
abbrev pub kind_of : Bool → Bool → ChunkKind
kind_of true true = Whole
kind_of true false = Start
kind_of false false = Middle
kind_of false true = End
