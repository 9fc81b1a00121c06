-- What a receiving end answers, given what it stored and what was taken before.
use Rattle.std.specs.Prelude.{◌≡◌, ◌≢◌, ℕ, zero, suc, ◌+◌, ◌-◌, ◌<◌, ◌≤◌, ◌⊎◌, List, [], ◌∷◌, ◌++◌, length, Bool, true, not, filter, ◌==◌, Some, Ok, Err}
use Rattle.std.specs.Prelude.{Contains}
use Rattle.std.specs.List.{flat_map, list_any}
use Rattle.std.specs.Int.{w32, to_be_bytes}
use Rattle.ic_base.specs.declared.keys.ConnKey.{ConnKey}
use Rattle.ic_base.specs.declared.keys.ConnEnd.{ConnEnd}
use Rattle.ic_base.specs.declared.settings.Settings.{Settings}
use Rattle.ic_base.specs.declared.datagram.Datagram.{Datagram}
use Rattle.ic_base.specs.declared.datagram.Parcel.{Parcel}
use Rattle.ic_header.specs.declared.flags.Flags.TheVariants.{Query, Ack, Stop, Disorder, Duplicate}
use Rattle.ic_law.specs.declared.history.HubAsk.{HubAsk}
use Rattle.ic_law.specs.declared.history.HubAsk.TheVariants.{Begin, Put, Finish, Take, TakeFrom, Halt, Arrive, Tick, Clear, Leave}
use Rattle.ic_law.specs.declared.history.HubReply.{HubReply}
use Rattle.ic_law.specs.declared.history.HubReply.TheVariants.{Gave, Took, Came, Memory}
use Rattle.ic_law.specs.declared.history.Arrived.TheVariants.{Handled, Dropped}
use Rattle.ic_law.specs.declared.history.DropCause.TheVariants.{Beyond}
use Rattle.ic_law.specs.declared.history.HubNo.TheVariants.{Empty, Ended}
use Rattle.ic_law.specs.declared.history.Entry.{Entry}
use Rattle.ic_header.specs.Packets.{listing, Packet, RowPacket, packet_of, key_of, answer_datagram}
use Rattle.ic_law.specs.History.{rows_in}
use Rattle.ic_law.specs.Taking.{parcels_of, IsHalted}
use Rattle.ic_law.specs.Storing.{stored_of, stored_numbers_of}
use Rattle.ic_law.specs.Points.{IsDirected, IsEnded, IsHere, TakesNext, Tells, StopsAsked}

-- ---- numbers that came

-- r is the end of the unbroken run of these numbers from 1
pub record IsRunEnd (numbers : List ℕ) (r : ℕ) : Type 0 where
  pub run : (n : ℕ) → 1 ≤ n → n ≤ r → Contains numbers n
  pub end : Contains numbers (r + 1) → ⊥

-- g is the greatest of these numbers
pub record IsGreatest (numbers : List ℕ) (g : ℕ) : Type 0 where
  pub bound : (n : ℕ) → Contains numbers n → n ≤ g
  pub here : Contains numbers g

-- whether n is among the numbers
abbrev pub has : List ℕ → ℕ → Bool
has numbers n = list_any (λ m. m == n) numbers

-- this many numbers, from n on
abbrev pub numbers_from : ℕ → ℕ → List ℕ
numbers_from n zero = []
numbers_from n (suc count) = n ∷ numbers_from (n + 1) count

-- the numbers above r, up to g, that aren't among these
abbrev pub missing : List ℕ → ℕ → ℕ → List ℕ
missing numbers r g = filter (λ n. not (has numbers n)) (numbers_from (r + 1) (g - r))

-- ---- arrivals

abbrev pub handled : Datagram → HubReply
handled d = Came Handled (d ∷ [])

-- how many packets were taken
abbrev pub consumed_of : ConnKey → List Entry → ℕ
consumed_of c h = length (parcels_of c h)

-- The answer to a packet of rows. If the end is halted: Stop. If the number is in the run, or stored: Duplicate with
-- the run's end. If the packet is beyond the room, or too long: it is dropped. If it is the next of the run: stored,
-- and Ack with the new run end and the number of packets taken. If it is after a gap: stored, and Disorder with the
-- greatest stored number and the missing ones below it.
pub data AnswersRows (settings : Settings) (end : ConnEnd) (before : List Entry) (q : RowPacket) (reply : HubReply) : Type 0 where
  Stopped : IsHalted end.key before → reply ≡ handled (answer_datagram end Stop q.seq 0 []) → AnswersRows settings end before q reply
  Again : (r : ℕ) → (IsHalted end.key before → ⊥) → IsRunEnd (stored_numbers_of end.key before) r
      → (q.seq ≤ r) ⊎ Contains (stored_numbers_of end.key before) q.seq
      → reply ≡ handled (answer_datagram end Duplicate q.seq r []) → AnswersRows settings end before q reply
  Far : (r : ℕ) → (IsHalted end.key before → ⊥) → IsRunEnd (stored_numbers_of end.key before) r
      → r < q.seq → (Contains (stored_numbers_of end.key before) q.seq → ⊥)
      → (consumed_of end.key before + settings.receive_depth < q.seq) ⊎ (settings.packet < length q.payload + 64)
      → reply ≡ Came (Dropped Beyond) [] → AnswersRows settings end before q reply
  Next : (r : ℕ) → (IsHalted end.key before → ⊥) → IsRunEnd (stored_numbers_of end.key before) (q.seq - 1) → 1 ≤ q.seq
      → q.seq ≤ consumed_of end.key before + settings.receive_depth → length q.payload + 64 ≤ settings.packet
      → IsRunEnd (stored_numbers_of end.key before ++ q.seq ∷ []) r
      → reply ≡ handled (answer_datagram end Ack r (consumed_of end.key before) []) → AnswersRows settings end before q reply
  Gap : (r g : ℕ) → (IsHalted end.key before → ⊥) → IsRunEnd (stored_numbers_of end.key before) r → r + 1 < q.seq
      → (Contains (stored_numbers_of end.key before) q.seq → ⊥)
      → q.seq ≤ consumed_of end.key before + settings.receive_depth → length q.payload + 64 ≤ settings.packet
      → IsGreatest (stored_numbers_of end.key before ++ q.seq ∷ []) g
      → reply ≡ handled (answer_datagram end Disorder q.seq g (listing (missing (stored_numbers_of end.key before ++ q.seq ∷ []) r g)))
      → AnswersRows settings end before q reply

-- the answer to a status query
pub data AnswersQuery (end : ConnEnd) (before : List Entry) (seq : ℕ) (reply : HubReply) : Type 0 where
  QueryStopped : IsHalted end.key before → reply ≡ handled (answer_datagram end Stop seq 0 []) → AnswersQuery end before seq reply
  QueryTold : (r : ℕ) → (IsHalted end.key before → ⊥) → IsRunEnd (stored_numbers_of end.key before) r
      → reply ≡ handled (answer_datagram end Ack r (consumed_of end.key before) []) → AnswersQuery end before seq reply

-- ---- takes and halts

-- this packet is the next to be taken
pub record IsNext (c : ConnKey) (before : List Entry) (p : RowPacket) : Type 0 where
  pub stored : Contains (stored_of c before) p
  pub number : p.seq ≡ consumed_of c before + 1

-- its parcel is taken, and an Ack tells the run's end and the number of packets taken, with this one
pub record IsTaken (end : ConnEnd) (before : List Entry) (parcel : Parcel) (ds : List Datagram) : Type 0 where
  pub packet : RowPacket
  pub next : IsNext end.key before packet
  pub from : parcel.from ≡ end.key.from
  pub payload : parcel.payload ≡ packet.payload
  pub last : parcel.last ≡ packet.last
  pub run : ℕ
  pub run_end : IsRunEnd (stored_numbers_of end.key before) run
  pub told : ds ≡ answer_datagram end Ack run (consumed_of end.key before + 1) [] ∷ []

-- the answer to a take from this end
pub data AnswersTake (end : ConnEnd) (before : List Entry) (reply : HubReply) : Type 0 where
  Over : IsEnded end.key before → reply ≡ Took (Err Ended) → AnswersTake end before reply
  None : (IsEnded end.key before → ⊥) → ((p : RowPacket) → IsNext end.key before p → ⊥) → reply ≡ Took (Err Empty) → AnswersTake end before reply
  Taken : (IsEnded end.key before → ⊥) → (parcel : Parcel) (ds : List Datagram) → IsTaken end before parcel ds → reply ≡ Took (Ok (parcel, ds)) → AnswersTake end before reply

-- the answer to a halt of this end: Stop at first, and nothing if there is nothing more to take
pub data AnswersHalt (end : ConnEnd) (before : List Entry) (reply : HubReply) : Type 0 where
  HaltedNow : (IsEnded end.key before → ⊥) → reply ≡ Gave (Ok (answer_datagram end Stop 0 0 [] ∷ [])) → AnswersHalt end before reply
  HaltedAgain : IsEnded end.key before → reply ≡ Gave (Ok []) → AnswersHalt end before reply

abbrev pub TakesFrom : ConnKey → HubAsk → Parcel → Type 0
TakesFrom c (Begin query ends) p = ⊥
TakesFrom c (Put key chunk) p = ⊥
TakesFrom c (Finish key) p = ⊥
TakesFrom c (Take query motion) p = (query ≡ c.query) × (motion ≡ c.motion) × (p.from ≡ c.from)
TakesFrom c (TakeFrom key) p = (key ≡ c) × (p.from ≡ c.from)
TakesFrom c (Halt key) p = ⊥
TakesFrom c (Arrive d) p = ⊥
TakesFrom c Tick p = ⊥
TakesFrom c (Clear query) p = ⊥
TakesFrom c (Leave query) p = ⊥

-- the entry takes this parcel of c, and emits these datagrams
pub record IsTaking (c : ConnKey) (p : Parcel) (ds : List Datagram) (e : Entry) : Type 0 where
  pub ask : TakesFrom c e.ask p
  pub reply : e.reply ≡ Took (Ok (p, ds))

-- ---- the points of a receiving end

-- what each call on this end is answered, unless the reply is Memory
pub record Answers (settings : Settings) (end : ConnEnd) (before : List Entry) (e : Entry) : Type 0 where
  pub rows : (d : Datagram) (q : RowPacket) → e.ask ≡ Arrive d → IsDirected true d end.key → rows_in end.key d ≡ q ∷ [] → e.reply ≢ Memory
      → AnswersRows settings end before q e.reply
  pub query : (d : Datagram) (p : Packet) → e.ask ≡ Arrive d → IsDirected true d end.key → packet_of d ≡ Some p → key_of p.head ≡ end.key → p.head.flags ≡ Query → e.reply ≢ Memory
      → AnswersQuery end before p.head.seq e.reply
  pub take : (parcel : Parcel) (ds : List Datagram) → IsTaking end.key parcel ds e → (IsEnded end.key before → ⊥) × IsTaken end before parcel ds
  pub take_from : e.ask ≡ TakeFrom end.key → e.reply ≢ Memory → AnswersTake end before e.reply
  pub halt : e.ask ≡ Halt end.key → e.reply ≢ Memory → AnswersHalt end before e.reply

-- the entry obeys the law for this receiving end
pub record Receives (settings : Settings) (end : ConnEnd) (before : List Entry) (e : Entry) : Type 0 where
  pub taken : TakesNext end.key before e
  pub told : Tells end.key (before ++ e ∷ []) e
  pub stopped : StopsAsked end.key (before ++ e ∷ []) e
  pub answered : IsHere end before → Answers settings end before e
