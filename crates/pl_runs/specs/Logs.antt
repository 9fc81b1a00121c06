-- A worker's log: what of its node's history goes by the connection ends of this worker. Several workers may be at one node.
use Rattle.std.specs.Prelude.{◌≡◌, ℕ, ℤ, Bool, true, not, ◌&&◌, ◌==◌, if◌then◌else◌, List, [], ◌∷◌, ◌++◌, filter}
use Rattle.std.specs.List.{flat_map, list_any}
use Rattle.std.specs.Ordering.{int_eq}
use Rattle.ic_base.specs.declared.datagram.Parcel.{Parcel}
use Rattle.ic_base.specs.declared.keys.ConnKey.{ConnKey}
use Rattle.ic_base.specs.declared.keys.ConnEnd.{ConnEnd}
use Rattle.ic_base.specs.declared.port.PortAsk.TheVariants as ask
use Rattle.ic_base.specs.declared.port.PortEntry.{PortEntry}
use Rattle.ic_base.specs.Keys.{key_eq}
use Rattle.ic_chunk.specs.Assembly.{Assembles, IsStream}
use Rattle.ic_law.specs.declared.history.HubAsk.{HubAsk}
use Rattle.ic_law.specs.declared.history.HubAsk.TheVariants.{Begin, Put, Finish, Take, TakeFrom, Halt, Arrive, Tick, Clear, Leave}
use Rattle.ic_law.specs.declared.history.HubReply.{HubReply}
use Rattle.ic_law.specs.declared.history.Entry.{Entry}
use Rattle.ic_law.specs.Logs.{put_logs, take_logs, halt_logs}
use Rattle.pl_plan.specs.Ends.{ends_in}
use Rattle.pl_ops.specs.Rows.{Line}
use Rattle.pl_runs.specs.Steps.{Step, parcels_by, takes_of, parcels_of}
use Rattle.pl_runs.specs.Slices.{Worker}

-- ---- the ends of a worker

-- the slice sends there, or receives
abbrev pub is_of_slice : ℕ → ConnEnd → Bool
is_of_slice slice end = if end.sending then end.send_slice == slice else (end.recv_slice == slice)

-- those ends of the plan at the worker's segment that are its slice's
abbrev pub ends_of : Worker → ℕ → ℕ → List ConnEnd
ends_of w session query = filter (is_of_slice w.slice) (ends_in w.site.schemas w.site.segments w.tree session query w.at)

-- ---- what goes by them

abbrev pub sends_by : List ConnEnd → ConnKey → Bool
sends_by ends key = list_any (λ (e : ConnEnd). e.sending && key_eq e.key key) ends

abbrev pub hears_by : List ConnEnd → ConnKey → Bool
hears_by ends key = list_any (λ (e : ConnEnd). not e.sending && key_eq e.key key) ends

abbrev pub hears_motion : List ConnEnd → ℕ → ℕ → Bool
hears_motion ends query motion = list_any (λ (e : ConnEnd). not e.sending && ((e.key.query == query) && (e.key.motion == motion))) ends

-- what a call of the node with its reply adds to the log: nothing if it goes by no end of these, and nothing if it was
-- answered Memory
abbrev pub logs_by : List ConnEnd → HubAsk → HubReply → List PortEntry
logs_by ends (Begin q es) reply = []
logs_by ends (Put key chunk) reply = if sends_by ends key then put_logs (ask.Put key.motion key.to chunk) key reply else []
logs_by ends (Finish key) reply = if sends_by ends key then put_logs (ask.Finish key.motion key.to) key reply else []
logs_by ends (Take q motion) reply = if hears_motion ends q motion then take_logs (ask.Take motion) reply else []
logs_by ends (TakeFrom key) reply = if hears_by ends key then take_logs (ask.TakeFrom key.motion key.from) reply else []
logs_by ends (Halt key) reply = if hears_by ends key then halt_logs (ask.Halt key.motion key.from) reply else []
logs_by ends (Arrive d) reply = []
logs_by ends Tick reply = []
logs_by ends (Clear q) reply = []
logs_by ends (Leave q) reply = []

abbrev pub logs : List ConnEnd → Entry → List PortEntry
logs ends e = logs_by ends e.ask e.reply

-- the log of the worker that has these ends, in the history of its node
abbrev pub log_of : List ConnEnd → List Entry → List PortEntry
log_of ends h = flat_map (logs ends) h

-- ---- the rows of parcels

abbrev pub payload_from : ℤ → Parcel → List (List ℕ)
payload_from sender p = if int_eq p.from sender then p.payload ∷ [] else []

-- the payloads of one sender, in order
abbrev pub payloads_from : ℤ → List Parcel → List (List ℕ)
payloads_from sender parcels = flat_map (payload_from sender) parcels

-- After these payloads of a sender one more completes these rows: before it the payloads assemble to some rows, and with it
-- to the same rows and these.
pub record Completes (before : List (List ℕ)) (payload : List ℕ) (rows : List Line) : Type 0 where
  pub done : List Line
  pub rest : List ℕ
  pub ended : Bool
  pub rest_now : List ℕ
  pub ended_now : Bool
  pub was : Assembles before done rest ended
  pub is : Assembles (before ++ payload ∷ []) (done ++ rows) rest_now ended_now

-- the rows that a parcel of a motion lets out after these steps: those that it completes, and none if its sender's payloads
-- with it are no front of a stream
pub data LetsOut (motion : ℕ) (before : List Step) (p : Parcel) : List Line → Type 0 where
  completes : (rows : List Line) → Completes (payloads_from p.from (parcels_of motion before)) p.payload rows → LetsOut motion before p rows
  spoils : (IsStream (payloads_from p.from (parcels_of motion before) ++ p.payload ∷ []) → ⊥) → LetsOut motion before p []

-- a call that took no parcel let out no rows
pub record IsRead (before : List Step) (s : Step) : Type 0 where
  pub took : (motion : ℕ) (p : Parcel) → takes_of motion s.entry.ask ≡ true → parcels_by s.entry.reply ≡ p ∷ [] → LetsOut motion before p s.rows
  pub none : parcels_by s.entry.reply ≡ [] → s.rows ≡ []
