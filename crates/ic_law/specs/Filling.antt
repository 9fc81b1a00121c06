-- How the chunks that were put fill packets.
use Rattle.std.specs.Prelude.{ℕ, ◌+◌, ◌-◌, nat_le, List, [], ◌∷◌, ◌++◌, length, map, Bool, true, false, if◌then◌else◌}
use Rattle.ic_base.specs.declared.keys.ConnKey.{ConnKey}
use Rattle.ic_base.specs.declared.settings.Settings.{Settings}
use Rattle.ic_chunk.specs.Chunks.{spelled, end_of_stream}
use Rattle.ic_chunk.specs.Assembly.{together}
use Rattle.ic_law.specs.declared.history.Entry.{Entry}
use Rattle.ic_law.specs.Putting.{chunks_put_of, finished_of}
use Rattle.ic_law.specs.Hearing.{run_heard}

-- what a packet of rows carries, and whether the stream ends with it
pub record Sealed : Type 0 where
  pub payload : List ℕ
  pub last : Bool

-- the packet of these chunks; and as the last packet, with the end of stream after them
abbrev pub plain : List (List ℕ) → Sealed
plain group = record { payload = together group; last = false }

abbrev pub final : List (List ℕ) → Sealed
final group = record { payload = together group ++ spelled end_of_stream; last = true }

-- the chunks of each full packet, and those of the packet that is being filled
pub record Filling : Type 0 where
  pub full : List (List (List ℕ))
  pub opened : List (List ℕ)

-- whether the chunk fits too: a header takes 64 bytes of a packet, and 4 are kept for the end of stream
abbrev pub fits : ℕ → List (List ℕ) → List ℕ → Bool
fits packet opened chunk = nat_le (length (together opened) + length chunk + 68) packet

-- a chunk that fits is appended; otherwise the packet that is being filled is full, and the next one begins with the
-- chunk
abbrev pub fill_one : ℕ → Filling → List ℕ → Filling
fill_one packet f chunk =
    if fits packet f.opened chunk then record { full = f.full; opened = f.opened ++ chunk ∷ [] } else record { full = f.full ++ f.opened ∷ []; opened = chunk ∷ [] }

abbrev pub fill_from : ℕ → Filling → List (List ℕ) → Filling
fill_from packet f [] = f
fill_from packet f (chunk ∷ chunks) = fill_from packet (fill_one packet f chunk) chunks

abbrev pub filling : ℕ → List (List ℕ) → Filling
filling packet puts = fill_from packet (record { full = []; opened = [] }) puts

-- the sealed packets: the full ones, and once the stream is finished also the last one
abbrev pub sealed : Filling → Bool → List Sealed
sealed f true = map plain f.full ++ final f.opened ∷ []
sealed f false = map plain f.full

-- how the chunks put on c fill packets
abbrev pub filling_of : ConnKey → Settings → List Entry → Filling
filling_of c settings h = filling settings.packet (chunks_put_of c h)

-- the sealed packets of c, packet 1 first
abbrev pub sealed_of : ConnKey → Settings → List Entry → List Sealed
sealed_of c settings h = sealed (filling_of c settings h) (finished_of c h)

-- how many of them aren't acknowledged, whether emitted or not
abbrev pub kept_of : ConnKey → Settings → List Entry → ℕ
kept_of c settings h = length (sealed_of c settings h) - run_heard c h
