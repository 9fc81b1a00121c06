-- What each call answers, and what it leaves.
use Rattle.std.specs.Prelude.{◌≡◌, ℕ, ◌+◌, ◌-◌, ◌^◌, ◌<◌, ◌≤◌, ◌⊎◌, nat_le, nat_lt, if◌then◌else◌, List, [], ◌∷◌, ◌++◌, length, take, Bool, true, false, ◌==◌, ◌&&◌, Option, Some, None, Result, Ok, Err}
use Rattle.std.specs.Int.{w32, from_be_bytes}
use Rattle.ic_base.specs.declared.datagram.Datagram.{Datagram}
use Rattle.ic_expire.specs.declared.item.Item.{Item}
use Rattle.ic_expire.specs.Items.{is_upto}
use Rattle.ic_expire.specs.Queue.{Queue, IsHeld, without}
use Rattle.ic_header.specs.Packets.{query_datagram}
use Rattle.ic_law.specs.Numbers.{words_in, IsIncreasingFrom, last_or}
use Rattle.ic_law.specs.Clock.{last_tick}
use Rattle.ic_law.specs.Timers.{Asked}
use Rattle.ic_law.specs.Emitting.{query_due}
use Rattle.ic_sender.specs.declared.send_no.SendNo.{SendNo}
use Rattle.ic_sender.specs.declared.send_no.SendNo.TheVariants as refused
use Rattle.ic_sender.specs.Sending.{Sending, Answer, fits_opened, emitting, datagrams_next, waits_next, run_with, hearing, datagrams_again, spent_of, copies}

-- ---- what each call is given

-- this is the tick of the queue's last question, or the one before it
pub record IsNow (now : ℕ) (q : Queue) : Type 0 where
  pub from : now ≤ q.asked
  pub upto : q.asked ≤ now + 1
  pub last : now ≤ last_tick

-- no packet of this connection waits that it hasn't emitted
abbrev pub WaitsAlone : Sending → Queue → Type 0
WaitsAlone s q = (seq : ℕ) → IsHeld s.conn seq q.held → seq ≤ s.sent

-- so many more may wait
abbrev pub LeavesRoom : ℕ → Queue → Type 0
LeavesRoom more q = length q.held + more ≤ q.room

-- the packets that were not emitted
abbrev pub unsent : Sending → ℕ
unsent s = s.sealed - s.sent

-- and one more, if one more can be sealed
abbrev pub unsealed : Sending → ℕ
unsealed s = unsent s + (if nat_lt (length s.kept) s.settings.send_depth then 1 else 0)

-- what an event gives that makes m of a connection, and what it leaves
pub record Gives (m : Sending) (held : List Item) (now : ℕ) (before ds : List Datagram) (after : Sending) (q left : Queue) : Type 0 where
  pub datagrams : ds ≡ before ++ datagrams_next m
  pub state : after ≡ emitting now m
  pub waits : left ≡ record q { held = waits_next now m held }

-- ---- putting

-- What a put, or a finish, answers, if the packet that is being filled must be sealed for it or not, and if it
-- makes filled of the connection. A stopped connection takes nothing more.
pub data Puts (s : Sending) (q : Queue) (now : ℕ) (needs : Type 0) (filled : Sending) (result : Result (List Datagram) SendNo) (after : Sending) (left : Queue) : Type 0 where
  Stopped : s.stopped ≡ true → result ≡ Err refused.Stopped → after ≡ s → left ≡ q → Puts s q now needs filled result after left
  Full : s.stopped ≡ false → needs → s.settings.send_depth ≤ length s.kept → result ≡ Err refused.Full → after ≡ s → left ≡ q → Puts s q now needs filled result after left
  TooLong : s.stopped ≡ false → needs → length s.kept < s.settings.send_depth → 2 ^ 32 ≤ s.sealed + 1 → result ≡ Err (refused.TooLong s.end.key) → after ≡ s → left ≡ q
      → Puts s q now needs filled result after left
  Given : s.stopped ≡ false → (needs → (length s.kept < s.settings.send_depth) × (s.sealed + 1 < 2 ^ 32)) → result ≡ Ok (datagrams_next filled)
      → after ≡ emitting now filled → left ≡ record q { held = waits_next now filled q.held } → Puts s q now needs filled result after left
  NoMemory : result ≡ Err refused.Memory → after ≡ s → left ≡ q → Puts s q now needs filled result after left

-- the chunk doesn't fit in the packet that is being filled
abbrev pub NeedsPacket : Sending → List ℕ → Type 0
NeedsPacket s chunk = fits_opened s chunk ≡ false

-- ---- hearing

-- an acknowledgement, of the run up to seq and so many consumed
abbrev pub acknowledging : ℕ → ℕ → Answer
acknowledging seq extra = record { run = seq; consumed = extra; names = None; lists = [] }

-- packet seq came before, and the run ends at extra
abbrev pub repeating : ℕ → ℕ → Answer
repeating seq extra = record { run = extra; consumed = 0; names = Some seq; lists = [] }

-- packet seq came, and these numbers are missing: the run ends before the first of them
abbrev pub missing_of : ℕ → List ℕ → Answer
missing_of seq body = record { run = from_be_bytes w32 (take 4 body) - 1; consumed = 0; names = Some seq; lists = words_in body }

-- packet seq came, and no such connection was there
abbrev pub unknown : ℕ → Answer
unknown seq = record { run = 0; consumed = 0; names = Some seq; lists = [] }

-- an answer to what wasn't emitted, or one that contradicts itself
abbrev pub IsStrayAck : Sending → ℕ → ℕ → Type 0
IsStrayAck s seq extra = (s.sent < seq) ⊎ (seq < extra)

abbrev pub IsStrayDuplicate : Sending → ℕ → ℕ → Type 0
IsStrayDuplicate s seq extra = (s.sent < seq) ⊎ (s.sent < extra)

abbrev pub IsStrayListing : ℕ → ℕ → ℕ → List ℕ → Type 0
IsStrayListing sent seq extra numbers = (sent < seq) ⊎ ((sent < extra) ⊎ ((IsIncreasingFrom 1 numbers → ⊥) ⊎ (extra ≤ last_or 0 numbers)))

abbrev pub IsStrayDisorder : Sending → ℕ → ℕ → List ℕ → Type 0
IsStrayDisorder s seq extra body = IsStrayListing s.sent seq extra (words_in body)

abbrev pub IsStrayNak : Sending → ℕ → Type 0
IsStrayNak s seq = s.sent < seq

-- What an answer is answered, which would be a stray one or not. A stopped connection hears nothing more.
pub data Hears (s : Sending) (q : Queue) (now : ℕ) (stray : Type 0) (a : Answer) (result : Result (List Datagram) SendNo) (after : Sending) (left : Queue) : Type 0 where
  Unheard : s.stopped ≡ true → result ≡ Ok [] → after ≡ s → left ≡ q → Hears s q now stray a result after left
  Strayed : s.stopped ≡ false → stray → result ≡ Err refused.Stray → after ≡ s → left ≡ q → Hears s q now stray a result after left
  Heard : s.stopped ≡ false → (stray → ⊥) → result ≡ Ok (datagrams_again now a s ++ datagrams_next (hearing now a s)) → after ≡ emitting now (hearing now a s)
      → left ≡ record q { held = waits_next now (hearing now a s) (without (is_upto s.conn (run_with a s)) q.held) } → Hears s q now stray a result after left
  HeardWithout : result ≡ Err refused.Memory → after ≡ s → left ≡ q → Hears s q now stray a result after left

-- ---- ticks

-- the resendings of these packets; or the first of them with no resending left
pub data Tries (s : Sending) (numbers : List ℕ) (result : Result (List Datagram) SendNo) : Type 0 where
  Again : spent_of s numbers ≡ None → result ≡ Ok (copies s.flights numbers) → Tries s numbers result
  Spent : (n : ℕ) → spent_of s numbers ≡ Some n → result ≡ Err (refused.Spent s.end.key n s.settings.retries) → Tries s numbers result
  AgainWithout : result ≡ Err refused.Memory → Tries s numbers result

-- a query that is due with no resending left
abbrev pub is_unanswered : ℕ → ℕ → Option Asked → Bool
is_unanswered retries now None = false
is_unanswered retries now (Some a) = nat_le a.due now && (a.tries == retries)

abbrev pub queries_when : Sending → Bool → List Datagram
queries_when s true = query_datagram s.end s.sent ∷ []
queries_when s false = []

-- the status query that goes out, after the greatest number emitted
abbrev pub queries_next : ℕ → Sending → List Datagram
queries_next now s = queries_when s (query_due now s.asked)

-- the status query that is due, if one is; or it has no resending left
pub data Queries (s : Sending) (now : ℕ) (result : Result (List Datagram) SendNo) : Type 0 where
  Asks : is_unanswered s.settings.retries now s.asked ≡ false → result ≡ Ok (queries_next now s) → Queries s now result
  Unanswered : is_unanswered s.settings.retries now s.asked ≡ true → result ≡ Err (refused.Spent s.end.key s.sent s.settings.retries) → Queries s now result
  AsksWithout : result ≡ Err refused.Memory → Queries s now result

-- why no packet more can be sealed
pub data Refused (s : Sending) (no : SendNo) : Type 0 where
  IsFull : s.settings.send_depth ≤ length s.kept → no ≡ refused.Full → Refused s no
  IsTooLong : length s.kept < s.settings.send_depth → 2 ^ 32 ≤ s.sealed + 1 → no ≡ refused.TooLong s.end.key → Refused s no
