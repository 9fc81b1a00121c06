-- What a sending end answers, given what was put on it and what it heard before.
use Rattle.std.specs.Prelude.{◌≡◌, ◌≢◌, ℕ, ◌+◌, ◌^◌, ◌<◌, ◌≤◌, ◌⊎◌, List, [], length, true, false, Some, Ok, Err}
use Rattle.ic_base.specs.declared.keys.ConnKey.{ConnKey}
use Rattle.ic_base.specs.declared.keys.ConnEnd.{ConnEnd}
use Rattle.ic_base.specs.declared.settings.Settings.{Settings}
use Rattle.ic_base.specs.declared.datagram.Datagram.{Datagram}
use Rattle.ic_header.specs.declared.flags.Flags.{Flags}
use Rattle.ic_header.specs.declared.flags.Flags.TheVariants.{Rows, LastRows, Query, Ack, Stop, Nak, Disorder, Duplicate}
use Rattle.ic_law.specs.declared.history.HubAsk.TheVariants.{Put, Finish, Arrive}
use Rattle.ic_law.specs.declared.history.HubReply.{HubReply}
use Rattle.ic_law.specs.declared.history.HubReply.TheVariants.{Gave, Came, Memory}
use Rattle.ic_law.specs.declared.history.Arrived.TheVariants.{Handled, Dropped}
use Rattle.ic_law.specs.declared.history.DropCause.TheVariants as cause
use Rattle.ic_law.specs.declared.history.HubNo.TheVariants as refused
use Rattle.ic_law.specs.declared.history.Entry.{Entry}
use Rattle.ic_header.specs.Packets.{Packet, packet_of, key_of, goes_forth}
use Rattle.ic_law.specs.History.{sent_upto}
use Rattle.ic_law.specs.Hearing.{IsStopped}
use Rattle.ic_law.specs.Filling.{filling_of, fits, sealed_of, kept_of}
use Rattle.ic_law.specs.Points.{IsDirected}
use Rattle.ic_law.specs.Numbers.{words_in, IsIncreasingFrom, last_or}

-- ---- puts

-- There is no room for one more packet: as many are kept as the send depth (IsFull), or its number wouldn't fit in 32
-- bits (IsTooLong).
abbrev pub IsFull : Settings → ConnKey → List Entry → Type 0
IsFull settings c before = settings.send_depth ≤ kept_of c settings before

abbrev pub IsTooLong : Settings → ConnKey → List Entry → Type 0
IsTooLong settings c before = 2 ^ 32 ≤ length (sealed_of c settings before) + 1

-- the chunk fits in the packet that is being filled
abbrev pub Fits : Settings → ConnKey → List Entry → List ℕ → Type 0
Fits settings c before chunk = fits settings.packet (filling_of c settings before).opened chunk ≡ true

-- The answer to a put or a finish, which may need a new packet or not. A stopped connection takes nothing more.
pub data AnswersPut (settings : Settings) (end : ConnEnd) (before : List Entry) (needs : Type 0) (reply : HubReply) : Type 0 where
  Stopped : IsStopped end.key before → reply ≡ Gave (Err refused.Stopped) → AnswersPut settings end before needs reply
  Full : (IsStopped end.key before → ⊥) → needs → IsFull settings end.key before → reply ≡ Gave (Err refused.Full) → AnswersPut settings end before needs reply
  TooLong : (IsStopped end.key before → ⊥) → needs → (IsFull settings end.key before → ⊥) → IsTooLong settings end.key before
      → reply ≡ Gave (Err (refused.TooLong end.key)) → AnswersPut settings end before needs reply
  Given : (IsStopped end.key before → ⊥) → (needs → (IsFull settings end.key before → ⊥) × (IsTooLong settings end.key before → ⊥))
      → (ds : List Datagram) → reply ≡ Gave (Ok ds) → AnswersPut settings end before needs reply

-- ---- answers that come

-- An answer to what wasn't emitted, or one that contradicts itself.
abbrev pub IsStrayBy : Flags → ℕ → Packet → Type 0
IsStrayBy Rows sent p = ⊥
IsStrayBy LastRows sent p = ⊥
IsStrayBy Query sent p = ⊥
IsStrayBy Ack sent p = (sent < p.head.seq) ⊎ (p.head.seq < p.head.extra)
IsStrayBy Stop sent p = ⊥
IsStrayBy Nak sent p = sent < p.head.seq
IsStrayBy Disorder sent p =
    (sent < p.head.seq) ⊎ ((sent < p.head.extra) ⊎ ((IsIncreasingFrom 1 (words_in p.body) → ⊥) ⊎ (p.head.extra ≤ last_or 0 (words_in p.body))))
IsStrayBy Duplicate sent p = (sent < p.head.seq) ⊎ (sent < p.head.extra)

abbrev pub IsStray : ConnKey → List Entry → Packet → Type 0
IsStray c before p = IsStrayBy p.head.flags (sent_upto c before) p

-- the reply when an answer comes, except which datagrams it holds
pub data AnswersHeard (end : ConnEnd) (before : List Entry) (p : Packet) (reply : HubReply) : Type 0 where
  Unheard : IsStopped end.key before → reply ≡ Came Handled [] → AnswersHeard end before p reply
  Strayed : (IsStopped end.key before → ⊥) → IsStray end.key before p → reply ≡ Came (Dropped cause.Stray) [] → AnswersHeard end before p reply
  Heard : (IsStopped end.key before → ⊥) → (IsStray end.key before p → ⊥) → (ds : List Datagram) → reply ≡ Came Handled ds → AnswersHeard end before p reply

-- ---- the points of a sending end

-- what each call on this end is answered, unless the reply is Memory
pub record Refuses (settings : Settings) (end : ConnEnd) (before : List Entry) (e : Entry) : Type 0 where
  pub put : (chunk : List ℕ) → e.ask ≡ Put end.key chunk → e.reply ≢ Memory → AnswersPut settings end before (Fits settings end.key before chunk → ⊥) e.reply
  pub finish : e.ask ≡ Finish end.key → e.reply ≢ Memory → AnswersPut settings end before (Unit {0}) e.reply
  pub heard : (d : Datagram) (p : Packet) → e.ask ≡ Arrive d → IsDirected false d end.key → packet_of d ≡ Some p → goes_forth p.head.flags ≡ false → key_of p.head ≡ end.key → e.reply ≢ Memory
      → AnswersHeard end before p e.reply
