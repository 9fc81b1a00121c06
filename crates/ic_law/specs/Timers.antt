-- The packets in flight of a sending end, and its status query: what an answer and a tick change.
use Rattle.std.specs.Prelude.{ℕ, ◌-◌, List, [], ◌∷◌, map, Bool, true, false, ◌&&◌, ◌==◌, if◌then◌else◌, Option, None, ◌+◌, nat_le, nat_lt, filter}
use Rattle.std.specs.List.{list_any}
use Rattle.ic_base.specs.declared.keys.ConnKey.{ConnKey}
use Rattle.ic_header.specs.declared.flags.Flags.{Flags}
use Rattle.ic_header.specs.declared.flags.Flags.TheVariants.{Rows, LastRows, Query, Ack, Stop, Nak, Disorder, Duplicate}
use Rattle.ic_law.specs.declared.history.Entry.{Entry}
use Rattle.std.specs.Option.{option_map}
use Rattle.ic_base.specs.declared.settings.Settings.{Settings}
use Rattle.ic_window.specs.State.{WindowState, fresh, grown, lost, sampled}
use Rattle.ic_window.specs.Waiting.{wait_of}
use Rattle.ic_header.specs.Packets.{Packet}
use Rattle.ic_law.specs.Numbers.{words_in}
use Rattle.ic_law.specs.Hearing.{run_heard}
use Rattle.ic_law.specs.Clock.{clock_of}

-- ---- what a sending end keeps

-- a packet that was emitted and isn't acknowledged
pub record Timer : Type 0 where
  pub seq : ℕ
  -- the tick at which it is resent
  pub due : ℕ
  -- how often ticks resent it since the last answer that names it
  pub tries : ℕ
  -- the tick at which it was first emitted
  pub since : ℕ
  -- whether it was resent
  pub resent : Bool

-- a pending status query: when it is emitted, and how often it was since the last answer
pub record Asked : Type 0 where
  pub due : ℕ
  pub tries : ℕ

-- the window with the waiting time, the packets in flight by number, and the status query
pub record Timing : Type 0 where
  pub window : WindowState
  pub timers : List Timer
  pub asked : Option Asked

abbrev pub fresh_timing : Settings → Timing
fresh_timing settings = record { window = fresh settings.receive_depth settings.flow; timers = []; asked = None }

-- how many ticks to wait for an answer, after this many tries
abbrev pub wait_in : WindowState → ℕ → ℕ
wait_in w tries = wait_of tries w.round_trip

-- ---- an answer that is heard

-- how many packets the answer newly frees
abbrev pub freed_by : ConnKey → List Entry → List Entry → ℕ
freed_by c before now = run_heard c now - run_heard c before

abbrev pub timer_of : ℕ → List Timer → List Timer
timer_of seq timers = filter (λ t. t.seq == seq) timers

-- the time of the greatest freed packet is a sample, if it was never resent
abbrev pub sample_by : ℕ → List Timer → WindowState → WindowState
sample_by clock [] w = w
sample_by clock (t ∷ ts) w = if t.resent then w else sampled (clock - t.since) w

abbrev pub freed_window : ConnKey → List Entry → List Entry → Timing → WindowState
freed_window c before now t =
    if freed_by c before now == 0 then t.window else
    sample_by (clock_of now) (timer_of (run_heard c now) t.timers) (grown (freed_by c before now) t.window)

-- the packets in flight that aren't freed
abbrev pub kept_timers : ConnKey → List Entry → Timing → List Timer
kept_timers c now t = filter (λ x. nat_lt (run_heard c now) x.seq) t.timers

abbrev pub names_its_number : Flags → Bool
names_its_number Rows = false
names_its_number LastRows = false
names_its_number Query = false
names_its_number Ack = false
names_its_number Stop = false
names_its_number Nak = true
names_its_number Disorder = true
names_its_number Duplicate = true

-- the packet that the answer names has no tries any more
abbrev pub named : Packet → Timer → Timer
named p x = if names_its_number p.head.flags && (x.seq == p.head.seq) then record x { tries = 0 } else x

abbrev pub listed_by : Flags → Packet → List ℕ
listed_by Rows p = []
listed_by LastRows p = []
listed_by Query p = []
listed_by Ack p = []
listed_by Stop p = []
listed_by Nak p = []
listed_by Disorder p = words_in p.body
listed_by Duplicate p = []

abbrev pub is_among : List Timer → ℕ → Bool
is_among timers seq = list_any (λ x. x.seq == seq) timers

-- the packets that a Disorder lists, as far as they are still in flight
abbrev pub listed_of : ConnKey → List Entry → Timing → Packet → List ℕ
listed_of c now t p = filter (is_among (kept_timers c now t)) (listed_by p.head.flags p)

abbrev pub marked : List ℕ → Timer → Timer
marked numbers x = if list_any (λ n. n == x.seq) numbers then record x { resent = true } else x

abbrev pub lost_where : List ℕ → WindowState → WindowState
lost_where [] w = w
lost_where (n ∷ ns) w = lost w

-- an answer postpones a pending status query
abbrev pub asked_later : ℕ → WindowState → Asked → Asked
asked_later clock w a = record { due = clock + wait_in w 0; tries = 0 }

-- an answer: what it frees lets the window grow and gives a sample; what it lists is resent and shrinks the window
abbrev pub timing_heard : ConnKey → List Entry → List Entry → Timing → Packet → Timing
timing_heard c before now t p =
    let w = freed_window c before now t in
    let listed = listed_of c now t p in
    record {
      window = lost_where listed w;
      timers = map (λ x. marked listed (named p x)) (kept_timers c now t);
      asked = option_map (asked_later (clock_of now) w) t.asked;
    }

-- ---- a tick

abbrev pub is_due : ℕ → Timer → Bool
is_due clock x = nat_le x.due clock

abbrev pub due_numbers : ℕ → List Timer → List ℕ
due_numbers clock timers = map (λ x. x.seq) (filter (is_due clock) timers)

-- a packet that is due is resent, and then due after a longer time
abbrev pub tried : ℕ → WindowState → Timer → Timer
tried clock w x = if is_due clock x then record x { due = clock + wait_in w (x.tries + 1); tries = x.tries + 1; resent = true } else x

abbrev pub asked_again : ℕ → WindowState → Asked → Asked
asked_again clock w a = if nat_le a.due clock then record { due = clock + wait_in w (a.tries + 1); tries = a.tries + 1 } else a

-- a tick resends what is due, which shrinks the window once, and emits a status query that is due
abbrev pub timing_ticked : ℕ → Timing → Timing
timing_ticked clock t =
    record {
      window = lost_where (due_numbers clock t.timers) t.window;
      timers = map (tried clock t.window) t.timers;
      asked = option_map (asked_again clock t.window) t.asked;
    }
