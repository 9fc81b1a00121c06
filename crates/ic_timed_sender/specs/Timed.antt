-- A sending connection with what waits for its answers, and the tick at which it is.
use Rattle.std.specs.Prelude.{◌≡◌, ℕ, ◌+◌, min, List, [], ◌∷◌, map, Bool, false, Option, None, Result, Ok, Err}
use Rattle.ic_base.specs.declared.keys.ConnEnd.{ConnEnd}
use Rattle.ic_base.specs.declared.settings.Settings.{Settings}
use Rattle.ic_base.specs.declared.datagram.Datagram.{Datagram}
use Rattle.ic_header.specs.declared.flags.Flags.{Flags}
use Rattle.ic_header.specs.declared.flags.Flags.TheVariants.{Rows, LastRows, Query, Ack, Stop, Nak, Disorder, Duplicate}
use Rattle.ic_expire.specs.declared.item.Item.{Item}
use Rattle.ic_expire.specs.declared.dues.Due.{Due}
use Rattle.ic_expire.specs.Items.{is_due, is_upto}
use Rattle.ic_expire.specs.Queue.{Queue, has_due, dues_of, without}
use Rattle.ic_law.specs.Clock.{last_tick}
use Rattle.ic_law.specs.Emitting.{query_due}
use Rattle.ic_sender.specs.declared.send_no.SendNo.{SendNo}
use Rattle.ic_sender.specs.Sending.{Sending, begun, halting, spent_of, waits_longer, copies}
use Rattle.ic_sender.specs.Calls.{Hears, acknowledging, repeating, missing_of, unknown, IsStrayAck, IsStrayDuplicate, IsStrayDisorder, IsStrayNak, is_unanswered, queries_next}
use Rattle.ic_sender.specs.Entries.{tried_when, queried_when}

-- ---- what it is

pub record TimedState : Type 0 where
  pub sending : Sending
  -- its packets that wait for an answer, each until a tick
  pub held : List Item
  -- the tick at which it is
  pub now : ℕ
  -- how many rows the chunks that were put end
  pub rows : ℕ

-- of which nothing was put
abbrev pub begun_at : ConnEnd → Settings → ℕ → TimedState
begun_at end settings now = record { sending = begun end 0 settings; held = []; now = now; rows = 0 }

-- what waits as a queue, asked at this tick, with room for as many packets as are kept
abbrev pub queue_of : TimedState → Queue
queue_of o = record { held = o.held; asked = o.now; room = o.sending.settings.send_depth }

-- one connection with the same settings
pub record SameEnd (old new : TimedState) : Type 0 where
  pub end : new.sending.end ≡ old.sending.end
  pub settings : new.sending.settings ≡ old.sending.settings

-- ---- a put

-- the chunk, if it was taken
abbrev pub taken_of : List ℕ → Result (List Datagram) SendNo → List (List ℕ)
taken_of chunk (Ok ds) = chunk ∷ []
taken_of chunk (Err refusal) = []

-- ---- an answer

-- what an answer of this kind, with these numbers and this body, makes of it
abbrev pub HearsBy : Flags → ℕ → ℕ → List ℕ → Sending → Queue → ℕ → Result (List Datagram) SendNo → Sending → Queue → Type 0
HearsBy Rows seq extra body s q now result after left = Unit {0}
HearsBy LastRows seq extra body s q now result after left = Unit {0}
HearsBy Query seq extra body s q now result after left = Unit {0}
HearsBy Ack seq extra body s q now result after left = Hears s q now (IsStrayAck s seq extra) (acknowledging seq extra) result after left
HearsBy Stop seq extra body s q now result after left = (result ≡ Ok []) × (after ≡ halting s) × (left ≡ record q { held = without (is_upto s.conn s.sent) q.held })
HearsBy Nak seq extra body s q now result after left = Hears s q now (IsStrayNak s seq) (unknown seq) result after left
HearsBy Disorder seq extra body s q now result after left = Hears s q now (IsStrayDisorder s seq extra body) (missing_of seq body) result after left
HearsBy Duplicate seq extra body s q now result after left = Hears s q now (IsStrayDuplicate s seq extra) (repeating seq extra) result after left

-- ---- the next tick

-- the clock stands still at its end
abbrev pub next_tick : ℕ → ℕ
next_tick now = min last_tick (now + 1)

-- a packet is due then
abbrev pub is_due_next : TimedState → Bool
is_due_next o = has_due (next_tick o.now) o.held

-- the numbers of the packets that are due then, in order
abbrev pub numbers_due : TimedState → List ℕ
numbers_due o = map (λ (d : Due). d.seq) (dues_of (next_tick o.now) o.held)

-- the first of them with no resending left
abbrev pub first_spent : TimedState → Option ℕ
first_spent o = spent_of o.sending (numbers_due o)

-- the status query is due then, with no resending left
abbrev pub is_query_spent : TimedState → Bool
is_query_spent o = is_unanswered o.sending.settings.retries (next_tick o.now) o.sending.asked

-- they go out again
abbrev pub datagrams_due : TimedState → List Datagram
datagrams_due o = copies o.sending.flights (numbers_due o)

-- and so does the status query
abbrev pub queries_due : TimedState → List Datagram
queries_due o = queries_next (next_tick o.now) o.sending

-- what the tick makes of it
abbrev pub ticking : TimedState → TimedState
ticking o =
    record {
      sending = queried_when (query_due (next_tick o.now) o.sending.asked) (next_tick o.now) (tried_when (numbers_due o) o.sending);
      held = waits_longer (next_tick o.now) o.sending (numbers_due o) (without (is_due (next_tick o.now)) o.held);
      now = next_tick o.now;
      rows = o.rows;
    }

-- nothing is given up at the next tick, at which these packets are due
pub record MayTick (o : TimedState) (numbers : List ℕ) : Type 0 where
  pub due : numbers ≡ numbers_due o
  pub unspent : first_spent o ≡ None
  pub answered : is_query_spent o ≡ false
