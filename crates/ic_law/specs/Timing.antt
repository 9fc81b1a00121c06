-- What a sending end emits for the first time, when a status query is pending, and the end's timing after a history.
use Rattle.std.specs.Prelude.{ℕ, ◌-◌, List, [], ◌∷◌, ◌++◌, map, false, ◌&&◌, ◌==◌, if◌then◌else◌, Option, Some, None, slice_get, ◌+◌, min, nat_le, nat_lt, zero}
use Rattle.std.specs.Prelude.{suc, length}
use Rattle.std.specs.List.{flat_map}
use Rattle.ic_base.specs.declared.keys.ConnKey.{ConnKey}
use Rattle.ic_law.specs.declared.history.Entry.{Entry}
use Rattle.ic_base.specs.declared.settings.Settings.{Settings}
use Rattle.ic_window.specs.State.{WindowState}
use Rattle.ic_window.specs.Window.{room_of}
use Rattle.ic_header.specs.Packets.{Packet, RowPacket}
use Rattle.ic_law.specs.History.{sent_upto}
use Rattle.ic_law.specs.Hearing.{hears, run_heard, consumed_heard, stopped_of}
use Rattle.ic_law.specs.Filling.{Sealed, sealed_of}
use Rattle.ic_law.specs.Clock.{ticks_by, clock_of}
use Rattle.ic_law.specs.Timers.{Timer, Asked, Timing, fresh_timing, wait_in, timing_heard, timing_ticked}

-- ---- what is emitted for the first time

-- How many packets an entry emits for the first time: the unsent ones, as far as there is room in the window and at the
-- receiver.
abbrev pub fresh_count : ConnKey → Settings → List Entry → List Entry → WindowState → ℕ
fresh_count c settings before now w =
    min (length (sealed_of c settings now) - sent_upto c before)
    (room_of w.window (sent_upto c before - run_heard c now) (settings.receive_depth - (sent_upto c before - consumed_heard c now)))

abbrev pub row_at : Option Sealed → ℕ → List RowPacket
row_at None seq = []
row_at (Some s) seq = record { seq = seq; payload = s.payload; last = s.last } ∷ []

-- the packets with these numbers
abbrev pub rows_at : List Sealed → List ℕ → List RowPacket
rows_at packets numbers = flat_map (λ seq. row_at (slice_get packets (seq - 1)) seq) numbers

-- this many numbers after n
abbrev pub numbers_behind : ℕ → ℕ → List ℕ
numbers_behind n zero = []
numbers_behind n (suc count) = (n + 1) ∷ numbers_behind (n + 1) count

abbrev pub fresh_timer : ℕ → WindowState → ℕ → Timer
fresh_timer clock w seq = record { seq = seq; due = clock + wait_in w 0; tries = 0; since = clock; resent = false }

abbrev pub with_fresh : ConnKey → Settings → List Entry → List Entry → Timing → Timing
with_fresh c settings before now t =
    record t { timers = t.timers ++ map (fresh_timer (clock_of now) t.window) (numbers_behind (sent_upto c before) (fresh_count c settings before now t.window)) }

-- ---- the status query

abbrev pub standing : ℕ → WindowState → Option Asked → Option Asked
standing clock w (Some a) = Some a
standing clock w None = Some (record { due = clock + wait_in w 0; tries = 0 })

-- If nothing is in flight, a packet is unsent and the receiver has no room, a status query is pending. Room at the
-- receiver ends it.
abbrev pub asked_then : ConnKey → Settings → List Entry → ℕ → WindowState → Option Asked → Option Asked
asked_then c settings now sent w asked =
    if nat_lt 0 (settings.receive_depth - (sent - consumed_heard c now)) then None else
    (if nat_le sent (run_heard c now) && nat_lt sent (length (sealed_of c settings now)) then standing (clock_of now) w asked else asked)

-- ---- one more entry

abbrev pub heard_then : ConnKey → List Entry → List Entry → Timing → List Packet → Timing
heard_then c before now t [] = t
heard_then c before now t (p ∷ ps) = timing_heard c before now t p

-- the timing after an answer or a tick, before anything is emitted for the first time
abbrev pub moved : ConnKey → List Entry → Entry → Timing → Timing
moved c before e t =
    if ticks_by e.reply == 0 then heard_then c before (before ++ e ∷ []) t (hears c e) else timing_ticked (clock_of (before ++ e ∷ [])) t

abbrev pub settled : ConnKey → Settings → List Entry → List Entry → Timing → Timing
settled c settings before now t =
    record (with_fresh c settings before now t) {
      asked = asked_then c settings now (sent_upto c before + fresh_count c settings before now t.window) t.window t.asked;
    }

-- a stopped connection has nothing in flight
abbrev pub cleared : Timing → Timing
cleared t = record t { timers = []; asked = None }

abbrev pub next_timing : ConnKey → Settings → List Entry → Entry → Timing → Timing
next_timing c settings before e t =
    if stopped_of c (before ++ e ∷ []) then cleared t else settled c settings before (before ++ e ∷ []) (moved c before e t)

abbrev pub timing_from : ConnKey → Settings → List Entry → Timing → List Entry → Timing
timing_from c settings before t [] = t
timing_from c settings before t (e ∷ es) = timing_from c settings (before ++ e ∷ []) (next_timing c settings before e t) es

-- the timing of c's sending end after a history
unfoldable pub timing_of : ConnKey → Settings → List Entry → Timing
timing_of c settings h = timing_from c settings [] (fresh_timing settings) h
