-- Which calls a hub may be given.
use Rattle.std.specs.Prelude.{◌≡◌, ◌≢◌, ℕ, ◌+◌, ◌≤◌, List, ◌++◌, ◌∷◌, length, true, false, not, Contains}
use Rattle.ic_base.specs.declared.keys.ConnKey.{ConnKey}
use Rattle.ic_base.specs.declared.keys.ConnEnd.{ConnEnd}
use Rattle.ic_chunk.specs.declared.chunk.ChunkKind.TheVariants.{EndOfStream}
use Rattle.ic_chunk.specs.Chunks.{Chunk, IsChunk, spelled}
use Rattle.ic_law.specs.declared.history.HubAsk.{HubAsk}
use Rattle.ic_law.specs.declared.history.HubAsk.TheVariants.{Begin, Put, Finish, Take, TakeFrom, Halt, Arrive, Tick, Clear, Leave}
use Rattle.ic_law.specs.declared.history.Entry.{Entry}
use Rattle.ic_law.specs.Putting.{IsFinished}
use Rattle.ic_law.specs.Points.{Place, IsLive, IsHere}

-- an end of a query that begins here: of this session and query, and its own side is at this segment
pub record IsEndHere (place : Place) (query : ℕ) (end : ConnEnd) : Type 0 where
  pub session : end.key.session ≡ place.session
  pub query_is : end.key.query ≡ query
  pub sends_here : end.sending ≡ true → end.key.from ≡ place.at
  pub receives_here : end.sending ≡ false → end.key.to ≡ place.at

-- The ends of a query that begins here. No two have the same key and side. A connection from the segment to itself has
-- both its ends.
pub record AreEnds (place : Place) (query : ℕ) (ends : List ConnEnd) : Type 0 where
  pub each : (end : ConnEnd) → Contains ends end → IsEndHere place query end
  pub once : (front between back : List ConnEnd) (a b : ConnEnd) → ends ≡ front ++ a ∷ between ++ b ∷ back → a.key ≡ b.key → a.sending ≢ b.sending
  pub both : (end : ConnEnd) → Contains ends end → end.key.from ≡ end.key.to → (other : ConnEnd) × Contains ends other × (other.key ≡ end.key) × (other.sending ≡ not end.sending)

-- one tuple chunk, not an end of stream, that fits in a packet
pub record IsPuttable (place : Place) (bytes : List ℕ) : Type 0 where
  pub chunk : Chunk
  pub allowed : IsChunk chunk
  pub goes_on : chunk.kind ≢ EndOfStream
  pub are : bytes ≡ spelled chunk
  pub room : length bytes + 68 ≤ place.settings.packet

-- if the connection has a sending end here, it isn't finished; nothing is asked of a query that has ended
abbrev pub GoesOn : List Entry → ConnKey → Type 0
GoesOn before key = (end : ConnEnd) → IsHere end before → end.key ≡ key → end.sending ≡ true → IsFinished key before → ⊥

-- the call meets its conditions: nothing is put after the end of stream, and Clear is asked only of a live query
abbrev pub IsAllowed : Place → List Entry → HubAsk → Type 0
IsAllowed place before (Begin query ends) = AreEnds place query ends
IsAllowed place before (Put key chunk) = IsPuttable place chunk × GoesOn before key
IsAllowed place before (Finish key) = GoesOn before key
IsAllowed place before (Take query motion) = Unit {0}
IsAllowed place before (TakeFrom key) = Unit {0}
IsAllowed place before (Halt key) = Unit {0}
IsAllowed place before (Arrive d) = Unit {0}
IsAllowed place before Tick = Unit {0}
IsAllowed place before (Clear query) = (ends : List ConnEnd) × IsLive query ends before
IsAllowed place before (Leave query) = Unit {0}
