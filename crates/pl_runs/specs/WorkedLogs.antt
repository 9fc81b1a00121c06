-- The logs of two workers at one node: segment 1 of a join over a redistribute, which works slice 1 and slice 2.
use Rattle.std.specs.Prelude.{◌≡◌, ℕ, ℤ, pos, true, List, [], ◌∷◌, Ok, Err}
use Rattle.ic_base.specs.declared.datagram.Parcel.{Parcel}
use Rattle.ic_base.specs.declared.keys.ConnKey.{ConnKey}
use Rattle.ic_base.specs.declared.port.PortNo.TheVariants as port
use Rattle.ic_base.specs.declared.port.PortAsk.TheVariants as ask
use Rattle.ic_base.specs.declared.port.PortReply.TheVariants as reply
use Rattle.ic_base.specs.declared.port.PortEntry.{PortEntry}
use Rattle.ic_law.specs.declared.history.HubAsk.{HubAsk}
use Rattle.ic_law.specs.declared.history.HubAsk.TheVariants.{Begin, Put, Finish, Take, Halt, Tick}
use Rattle.ic_law.specs.declared.history.HubReply.{HubReply}
use Rattle.ic_law.specs.declared.history.HubReply.TheVariants.{Begun, Gave, Took, Ticked, Memory}
use Rattle.ic_law.specs.declared.history.HubNo.TheVariants as no
use Rattle.ic_law.specs.declared.history.Entry.{Entry}
use Rattle.pl_runs.specs.Logs.{ends_of, log_of}
use Rattle.pl_runs.specs.Lawful.{pairs, joining}
use Rattle.pl_runs.specs.Worked.{worker, dispatcher}

-- a connection of a query of session 7
abbrev pub key : ℕ → ℕ → ℤ → ℤ → ConnKey
key query motion from to = record { session = 7; query = query; motion = motion; from = from; to = to }

abbrev pub entry : HubAsk → HubReply → Entry
entry asked replied = record { ask = asked; reply = replied }

abbrev pub parcel : Parcel
parcel = record { from = pos 0; payload = 1 ∷ []; last = true }

-- Slice 2 puts to both segments, and once out of memory; slice 1 takes from itself and from segment 0, and puts to the dispatcher.
-- A put of another query stands between, and a tick.
abbrev pub history : List Entry
history =
    entry (Begin 1 []) (Begun (Ok tt)) ∷ entry (Put (key 1 2 (pos 1) (pos 1)) (5 ∷ [])) Memory
    ∷ entry (Put (key 1 2 (pos 1) (pos 1)) (5 ∷ [])) (Gave (Ok [])) ∷ entry (Put (key 2 1 (pos 1) dispatcher) (6 ∷ [])) (Gave (Ok []))
    ∷ entry (Take 1 2) (Took (Err no.Empty)) ∷ entry (Finish (key 1 2 (pos 1) (pos 0))) (Gave (Ok [])) ∷ entry Tick (Ticked (Ok []))
    ∷ entry (Take 1 2) (Took (Ok (parcel, []))) ∷ entry (Put (key 1 1 (pos 1) dispatcher) (7 ∷ [])) (Gave (Err no.Stopped))
    ∷ entry (Halt (key 1 2 (pos 1) (pos 1))) (Gave (Ok [])) ∷ []

abbrev pub logged : ℕ → List PortEntry
logged slice = log_of (ends_of (worker pairs joining slice (pos 1)) 7 1) history

-- each worker's log has its own calls alone, and all of them but those answered Memory
abbrev pub WorkersApart : Type 0
WorkersApart =
    (logged 1 ≡ record { ask = ask.Take 2; reply = reply.Refused port.Empty } ∷ record { ask = ask.Take 2; reply = reply.Gave parcel }
    ∷ record { ask = ask.Put 1 dispatcher (7 ∷ []); reply = reply.Refused port.Stopped } ∷ record { ask = ask.Halt 2 (pos 1); reply = reply.Did } ∷ [])
    × (logged 2 ≡ record { ask = ask.Put 2 (pos 1) (5 ∷ []); reply = reply.Did } ∷ record { ask = ask.Finish 2 (pos 0); reply = reply.Did } ∷ [])
    × (logged 0 ≡ [])
