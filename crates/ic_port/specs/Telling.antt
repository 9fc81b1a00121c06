-- What a worker and a driver are told of a hub's answer.
use Rattle.std.specs.Prelude.{◌≡◌, List, Result, Ok, Err}
use Rattle.ic_base.specs.declared.keys.ConnKey.{ConnKey}
use Rattle.ic_base.specs.declared.datagram.Datagram.{Datagram}
use Rattle.ic_base.specs.declared.datagram.Parcel.{Parcel}
use Rattle.ic_base.specs.declared.port.PortNo.{PortNo}
use Rattle.ic_base.specs.declared.port.PortNo.TheVariants as port
use Rattle.ic_base.specs.declared.port.PortAsk.{PortAsk}
use Rattle.ic_base.specs.Ports.{did, gave, added}
use Rattle.ic_law.specs.declared.history.HubNo.{HubNo}
use Rattle.ic_law.specs.declared.history.HubNo.TheVariants as hub
use Rattle.ic_law.specs.declared.history.TickNo.{TickNo}
use Rattle.ic_hub.specs.Entries.{gave_of, took_of}
use Rattle.ic_law.specs.Logs.{put_logs, take_logs, halt_logs}

-- ---- to the worker

-- what a put or a finish on this connection may be refused for
abbrev pub TellsPut : ConnKey → PortNo → Type 0
TellsPut key port.Full = Unit {0}
TellsPut key port.Empty = ⊥
TellsPut key port.Stopped = Unit {0}
TellsPut key port.Ended = ⊥
TellsPut key (port.TooLong which) = which ≡ key
TellsPut key port.Busy = ⊥
TellsPut key port.Memory = Unit {0}

-- what a halt may be refused for
abbrev pub TellsHalt : PortNo → Type 0
TellsHalt port.Full = ⊥
TellsHalt port.Empty = ⊥
TellsHalt port.Stopped = ⊥
TellsHalt port.Ended = ⊥
TellsHalt (port.TooLong which) = ⊥
TellsHalt port.Busy = ⊥
TellsHalt port.Memory = Unit {0}

-- the log has what the worker was told, whatever it asked
abbrev pub LogsPut : ConnKey → Result (List Datagram) HubNo → Result (Unit {0}) PortNo → Type 0
LogsPut key answer told = (asked : PortAsk) → added asked (did told) ≡ put_logs asked key (gave_of answer)

abbrev pub LogsHalt : Result (List Datagram) HubNo → Result (Unit {0}) PortNo → Type 0
LogsHalt answer told = (asked : PortAsk) → added asked (did told) ≡ halt_logs asked (gave_of answer)

abbrev pub LogsTake : Result (Parcel × List Datagram) HubNo → Result Parcel PortNo → Type 0
LogsTake answer told = (asked : PortAsk) → added asked (gave told) ≡ take_logs asked (took_of answer)

-- the parcel is the one that the hub gave
abbrev pub IsGiven : Result (Parcel × List Datagram) HubNo → Parcel → Type 0
IsGiven answer parcel = (ds : List Datagram) × (answer ≡ Ok (parcel, ds))

-- what the worker is told of a take
abbrev pub told_of : Result Parcel HubNo → Result Parcel PortNo
told_of (Ok parcel) = Ok parcel
told_of (Err hub.Empty) = Err port.Empty
told_of (Err hub.Ended) = Err port.Ended
told_of (Err hub.Full) = Err port.Memory
told_of (Err hub.Stopped) = Err port.Memory
told_of (Err (hub.TooLong key)) = Err port.Memory
told_of (Err (hub.Unknown query motion)) = Err port.Memory
told_of (Err hub.Memory) = Err port.Memory

-- ---- to the driver

-- a tick's refusal is passed on
abbrev pub told_tick : Result (List Datagram) TickNo → Result (Unit {0}) TickNo
told_tick (Ok ds) = Ok tt
told_tick (Err refusal) = Err refusal
