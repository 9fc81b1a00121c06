-- The log of a slice worker's port, read from the history of its hub.
use Rattle.std.specs.Prelude.{◌≡◌, ℕ, ◌≤◌, ◌==◌, if◌then◌else◌, List, [], ◌∷◌, Ok, Err}
use Rattle.std.specs.List.{flat_map}
use Rattle.ic_base.specs.declared.keys.ConnKey.{ConnKey}
use Rattle.ic_base.specs.declared.port.PortNo.TheVariants as port
use Rattle.ic_base.specs.declared.port.PortAsk.{PortAsk}
use Rattle.ic_base.specs.declared.port.PortAsk.TheVariants as ask
use Rattle.ic_base.specs.declared.port.PortReply.{PortReply}
use Rattle.ic_base.specs.declared.port.PortReply.TheVariants as reply
use Rattle.ic_base.specs.declared.port.PortEntry.{PortEntry}
use Rattle.ic_law.specs.declared.history.HubAsk.{HubAsk}
use Rattle.ic_law.specs.declared.history.HubAsk.TheVariants.{Begin, Put, Finish, Take, TakeFrom, Halt, Arrive, Tick, Clear, Leave}
use Rattle.ic_law.specs.declared.history.HubReply.{HubReply}
use Rattle.ic_law.specs.declared.history.HubReply.TheVariants.{Begun, Gave, Took, Came, Ticked, Cleared, Left, Memory}
use Rattle.ic_law.specs.declared.history.HubNo.TheVariants as no
use Rattle.ic_law.specs.declared.history.Entry.{Entry}
use Rattle.ic_law.specs.Points.{Place}

-- ---- one entry

abbrev pub one : PortAsk → PortReply → List PortEntry
one asked replied = record { ask = asked; reply = replied } ∷ []

-- The log entry of a put or a finish on this connection, by the hub's reply. There is none if the call ran out of
-- memory, nor for a reply that a hub never gives to an end that is there.
abbrev pub put_logs : PortAsk → ConnKey → HubReply → List PortEntry
put_logs asked key (Gave (Ok ds)) = one asked reply.Did
put_logs asked key (Gave (Err no.Full)) = one asked (reply.Refused port.Full)
put_logs asked key (Gave (Err no.Stopped)) = one asked (reply.Refused port.Stopped)
put_logs asked key (Gave (Err (no.TooLong which))) = one asked (reply.Refused (port.TooLong key))
put_logs asked key (Gave (Err no.Empty)) = []
put_logs asked key (Gave (Err no.Ended)) = []
put_logs asked key (Gave (Err (no.Unknown query motion))) = []
put_logs asked key (Gave (Err no.Memory)) = []
put_logs asked key (Begun r) = []
put_logs asked key (Took r) = []
put_logs asked key (Came how ds) = []
put_logs asked key (Ticked r) = []
put_logs asked key (Cleared r) = []
put_logs asked key (Left r) = []
put_logs asked key Memory = []

-- the log entry of a take
abbrev pub take_logs : PortAsk → HubReply → List PortEntry
take_logs asked (Took (Ok r)) = one asked (reply.Gave r.0)
take_logs asked (Took (Err no.Empty)) = one asked (reply.Refused port.Empty)
take_logs asked (Took (Err no.Ended)) = one asked (reply.Refused port.Ended)
take_logs asked (Took (Err no.Full)) = []
take_logs asked (Took (Err no.Stopped)) = []
take_logs asked (Took (Err (no.TooLong which))) = []
take_logs asked (Took (Err (no.Unknown query motion))) = []
take_logs asked (Took (Err no.Memory)) = []
take_logs asked (Begun r) = []
take_logs asked (Gave r) = []
take_logs asked (Came how ds) = []
take_logs asked (Ticked r) = []
take_logs asked (Cleared r) = []
take_logs asked (Left r) = []
take_logs asked Memory = []

-- the log entry of a halt
abbrev pub halt_logs : PortAsk → HubReply → List PortEntry
halt_logs asked (Gave (Ok ds)) = one asked reply.Did
halt_logs asked (Gave (Err refusal)) = []
halt_logs asked (Begun r) = []
halt_logs asked (Took r) = []
halt_logs asked (Came how ds) = []
halt_logs asked (Ticked r) = []
halt_logs asked (Cleared r) = []
halt_logs asked (Left r) = []
halt_logs asked Memory = []

-- what a call with its reply adds to the log of the worker of this query
abbrev pub logs_by : ℕ → HubAsk → HubReply → List PortEntry
logs_by query (Begin q ends) replied = []
logs_by query (Put key chunk) replied = if key.query == query then put_logs (ask.Put key.motion key.to chunk) key replied else []
logs_by query (Finish key) replied = if key.query == query then put_logs (ask.Finish key.motion key.to) key replied else []
logs_by query (Take q motion) replied = if q == query then take_logs (ask.Take motion) replied else []
logs_by query (TakeFrom key) replied = if key.query == query then take_logs (ask.TakeFrom key.motion key.from) replied else []
logs_by query (Halt key) replied = if key.query == query then halt_logs (ask.Halt key.motion key.from) replied else []
logs_by query (Arrive d) replied = []
logs_by query Tick replied = []
logs_by query (Clear q) replied = []
logs_by query (Leave q) replied = []

abbrev pub logs : ℕ → Entry → List PortEntry
logs query e = logs_by query e.ask e.reply

-- ---- a history

-- the log of the worker of this query
abbrev pub log_of : ℕ → List Entry → List PortEntry
log_of query h = flat_map (logs query) h

-- ---- whose calls they are

-- if a worker made the call, it is the worker of this query
abbrev pub IsOf : ℕ → HubAsk → Type 0
IsOf query (Begin q ends) = Unit {0}
IsOf query (Put key chunk) = key.query ≡ query
IsOf query (Finish key) = key.query ≡ query
IsOf query (Take q motion) = q ≡ query
IsOf query (TakeFrom key) = key.query ≡ query
IsOf query (Halt key) = key.query ≡ query
IsOf query (Arrive d) = Unit {0}
IsOf query Tick = Unit {0}
IsOf query (Clear q) = Unit {0}
IsOf query (Leave q) = Unit {0}

-- if a worker made the call, it is the worker of this query or of an earlier one
abbrev pub IsUpto : ℕ → HubAsk → Type 0
IsUpto query (Begin q ends) = Unit {0}
IsUpto query (Put key chunk) = key.query ≤ query
IsUpto query (Finish key) = key.query ≤ query
IsUpto query (Take q motion) = q ≤ query
IsUpto query (TakeFrom key) = key.query ≤ query
IsUpto query (Halt key) = key.query ≤ query
IsUpto query (Arrive d) = Unit {0}
IsUpto query Tick = Unit {0}
IsUpto query (Clear q) = Unit {0}
IsUpto query (Leave q) = Unit {0}

-- a connection of this place's session that begins here
pub record SendsHere (place : Place) (key : ConnKey) : Type 0 where
  pub session : key.session ≡ place.session
  pub from : key.from ≡ place.at

-- a connection of this place's session that ends here
pub record EndsHere (place : Place) (key : ConnKey) : Type 0 where
  pub session : key.session ≡ place.session
  pub to : key.to ≡ place.at

-- if a worker made the call on a connection, the connection has the call's side here
abbrev pub IsOurs : Place → HubAsk → Type 0
IsOurs place (Begin q ends) = Unit {0}
IsOurs place (Put key chunk) = SendsHere place key
IsOurs place (Finish key) = SendsHere place key
IsOurs place (Take q motion) = Unit {0}
IsOurs place (TakeFrom key) = EndsHere place key
IsOurs place (Halt key) = EndsHere place key
IsOurs place (Arrive d) = Unit {0}
IsOurs place Tick = Unit {0}
IsOurs place (Clear q) = Unit {0}
IsOurs place (Leave q) = Unit {0}
