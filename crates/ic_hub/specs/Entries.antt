-- The entry of a history that each call is.
use Rattle.std.specs.Prelude.{ℕ, List, Result, Ok, Err}
use Rattle.std.specs.declared.alloc.AllocError.{AllocError}
use Rattle.ic_base.specs.declared.keys.ConnKey.{ConnKey}
use Rattle.ic_base.specs.declared.keys.ConnEnd.{ConnEnd}
use Rattle.ic_base.specs.declared.keys.BeginNo.{BeginNo}
use Rattle.ic_base.specs.declared.keys.BeginNo.TheVariants as begin
use Rattle.ic_base.specs.declared.datagram.Datagram.{Datagram}
use Rattle.ic_base.specs.declared.datagram.Parcel.{Parcel}
use Rattle.ic_law.specs.declared.history.HubAsk.TheVariants.{Begin, Put, Finish, Take, TakeFrom, Halt, Arrive, Tick, Clear, Leave}
use Rattle.ic_law.specs.declared.history.HubReply.{HubReply}
use Rattle.ic_law.specs.declared.history.HubReply.TheVariants.{Begun, Gave, Took, Came, Ticked, Cleared, Left, Memory}
use Rattle.ic_law.specs.declared.history.HubNo.{HubNo}
use Rattle.ic_law.specs.declared.history.HubNo.TheVariants as no
use Rattle.ic_law.specs.declared.history.Arrived.{Arrived}
use Rattle.ic_law.specs.declared.history.TickNo.{TickNo}
use Rattle.ic_law.specs.declared.history.TickNo.TheVariants as tick
use Rattle.ic_law.specs.declared.history.Unclear.{Unclear}
use Rattle.ic_law.specs.declared.history.LeaveNo.{LeaveNo}
use Rattle.ic_law.specs.declared.history.Entry.{Entry}

-- ---- replies: out of memory is the one variant Memory

abbrev pub begun_of : Result (Unit {0}) BeginNo → HubReply
begun_of (Ok done) = Begun (Ok done)
begun_of (Err (begin.Old top)) = Begun (Err (begin.Old top))
begun_of (Err begin.Twice) = Begun (Err begin.Twice)
begun_of (Err begin.Memory) = Memory

abbrev pub gave_of : Result (List Datagram) HubNo → HubReply
gave_of (Ok ds) = Gave (Ok ds)
gave_of (Err no.Full) = Gave (Err no.Full)
gave_of (Err no.Empty) = Gave (Err no.Empty)
gave_of (Err no.Stopped) = Gave (Err no.Stopped)
gave_of (Err no.Ended) = Gave (Err no.Ended)
gave_of (Err (no.TooLong key)) = Gave (Err (no.TooLong key))
gave_of (Err (no.Unknown query motion)) = Gave (Err (no.Unknown query motion))
gave_of (Err no.Memory) = Memory

abbrev pub took_of : Result (Parcel × List Datagram) HubNo → HubReply
took_of (Ok r) = Took (Ok r)
took_of (Err no.Full) = Took (Err no.Full)
took_of (Err no.Empty) = Took (Err no.Empty)
took_of (Err no.Stopped) = Took (Err no.Stopped)
took_of (Err no.Ended) = Took (Err no.Ended)
took_of (Err (no.TooLong key)) = Took (Err (no.TooLong key))
took_of (Err (no.Unknown query motion)) = Took (Err (no.Unknown query motion))
took_of (Err no.Memory) = Memory

abbrev pub came_of : Result (Arrived × List Datagram) AllocError → HubReply
came_of (Ok r) = Came r.0 r.1
came_of (Err e) = Memory

abbrev pub ticked_of : Result (List Datagram) TickNo → HubReply
ticked_of (Ok ds) = Ticked (Ok ds)
ticked_of (Err (tick.Spent key seq tries)) = Ticked (Err (tick.Spent key seq tries))
ticked_of (Err tick.Memory) = Memory

-- what the slice is given by a take
abbrev pub own_of : Result (Parcel × List Datagram) HubNo → Result Parcel HubNo
own_of (Ok r) = Ok r.0
own_of (Err refusal) = Err refusal

-- ---- entries

abbrev pub begin_entry : ℕ → List ConnEnd → Result (Unit {0}) BeginNo → Entry
begin_entry query ends result = record { ask = Begin query ends; reply = begun_of result }

abbrev pub put_entry : ConnKey → List ℕ → Result (List Datagram) HubNo → Entry
put_entry key chunk result = record { ask = Put key chunk; reply = gave_of result }

abbrev pub finish_entry : ConnKey → Result (List Datagram) HubNo → Entry
finish_entry key result = record { ask = Finish key; reply = gave_of result }

abbrev pub take_entry : ℕ → ℕ → Result (Parcel × List Datagram) HubNo → Entry
take_entry query motion result = record { ask = Take query motion; reply = took_of result }

abbrev pub take_from_entry : ConnKey → Result (Parcel × List Datagram) HubNo → Entry
take_from_entry key result = record { ask = TakeFrom key; reply = took_of result }

abbrev pub halt_entry : ConnKey → Result (List Datagram) HubNo → Entry
halt_entry key result = record { ask = Halt key; reply = gave_of result }

abbrev pub arrive_entry : Datagram → Result (Arrived × List Datagram) AllocError → Entry
arrive_entry d result = record { ask = Arrive d; reply = came_of result }

abbrev pub tick_entry : Result (List Datagram) TickNo → Entry
tick_entry result = record { ask = Tick; reply = ticked_of result }

abbrev pub clear_entry : ℕ → Result (Unit {0}) Unclear → Entry
clear_entry query result = record { ask = Clear query; reply = Cleared result }

abbrev pub leave_entry : ℕ → Result (Unit {0}) LeaveNo → Entry
leave_entry query result = record { ask = Leave query; reply = Left result }
