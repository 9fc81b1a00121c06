-- Plans, tables and calls of which worked runs are made: two segments, packets of 128 bytes.
use Rattle.std.specs.Prelude.{ℕ, ℤ, pos, negsuc, Bool, true, false, List, [], ◌∷◌, ◌++◌}
use Rattle.std.specs.List.{flat_map}
use Rattle.ic_base.specs.declared.port.PortNo.{PortNo}
use Rattle.ic_base.specs.declared.port.PortNo.TheVariants.{Stopped, Empty}
use Rattle.ic_base.specs.declared.port.PortAsk.{PortAsk}
use Rattle.ic_base.specs.declared.port.PortAsk.TheVariants.{Put, Finish, Take, TakeFrom, Halt}
use Rattle.ic_base.specs.declared.port.PortReply.{PortReply}
use Rattle.ic_base.specs.declared.port.PortReply.TheVariants.{Did, Gave, Refused}
use Rattle.ic_row.specs.declared.value.Kind.TheVariants as kind
use Rattle.ic_row.specs.declared.value.Value.{Value}
use Rattle.ic_row.specs.declared.value.Value.TheVariants.{Int, Chars}
use Rattle.ic_row.specs.declared.order.Key.{Key}
use Rattle.ic_row.specs.Spelling.{spelling_of}
use Rattle.ic_chunk.specs.declared.chunk.ChunkKind.TheVariants.{Whole}
use Rattle.ic_chunk.specs.Chunks.{chunk_of, spelled, end_of_stream}
use Rattle.pl_tree.specs.declared.schema.Schema.{Schema}
use Rattle.pl_tree.specs.declared.schema.Placing.TheVariants.{Dealt}
use Rattle.pl_tree.specs.Trees.{Tree}
use Rattle.pl_ops.specs.declared.loaded.Spread.TheVariants.{Apart}
use Rattle.pl_ops.specs.Rows.{Line}
use Rattle.pl_mean.specs.Parts.{Site}
use Rattle.pl_runs.specs.Steps.{Step}
use Rattle.pl_runs.specs.Slices.{Worker}
use Rattle.pl_runs.specs.Runs.{Course}

-- ---- rows and tables

abbrev pub int : ℕ → Value
int n = Int (pos n)

-- a text of one letter
abbrev pub letter : ℕ → Value
letter code = Chars (code ∷ [])

abbrev pub one : ℕ → Line
one n = int n ∷ []

abbrev pub two : Value → Value → Line
two a b = a ∷ b ∷ []

abbrev pub t : List ℕ
t = 116 ∷ []

-- of one table, whose rows are these at segments 0 and 1
abbrev pub site_with : Schema → List Line → List Line → Site
site_with schema first second = record { schemas = schema ∷ []; tables = Apart (first ∷ second ∷ []) ∷ []; segments = 2 }

-- a table of one int, dealt
abbrev pub ints : Schema
ints = record { name = t; kinds = kind.Int ∷ []; place = Dealt }

abbrev pub by_first : List Key
by_first = record { column = 0; down = false } ∷ []

-- ---- workers

abbrev pub dispatcher : ℤ
dispatcher = negsuc 0

abbrev pub worker : Site → Tree → ℕ → ℤ → Worker
worker site tree slice at = record { site = site; tree = tree; packet = 128; slice = slice; at = at }

-- the worker is done, and let out these rows
abbrev pub finally : List Step → List Line → Course
finally steps rows = record { steps = steps; let_out = rows; done = true }

-- it isn't done
abbrev pub so_far : List Step → List Line → Course
so_far steps rows = record { steps = steps; let_out = rows; done = false }

-- ---- calls

abbrev pub call : PortAsk → PortReply → Step
call ask reply = record { entry = record { ask = ask; reply = reply }; rows = [] }

-- a short row is one whole chunk
abbrev pub chunk : Line → List ℕ
chunk row = spelled (chunk_of Whole (spelling_of row))

abbrev pub put : ℕ → ℤ → Line → Step
put motion to row = call (Put motion to (chunk row)) Did

abbrev pub put_refused : ℕ → ℤ → Line → PortNo → Step
put_refused motion to row why = call (Put motion to (chunk row)) (Refused why)

abbrev pub finish : ℕ → ℤ → Step
finish motion to = call (Finish motion to) Did

abbrev pub finish_stopped : ℕ → ℤ → Step
finish_stopped motion to = call (Finish motion to) (Refused Stopped)

abbrev pub ending : Bool → List ℕ
ending true = spelled end_of_stream
ending false = []

-- a parcel with these rows, and perhaps the end of the stream
abbrev pub got : PortAsk → ℤ → List Line → Bool → Step
got ask from rows last = record { entry = record { ask = ask; reply = Gave (record { from = from; payload = flat_map chunk rows ++ ending last; last = last }) }; rows = rows }

abbrev pub take : ℕ → ℤ → List Line → Bool → Step
take motion from rows last = got (Take motion) from rows last

abbrev pub take_from : ℕ → ℤ → List Line → Bool → Step
take_from motion from rows last = got (TakeFrom motion from) from rows last

abbrev pub nothing_yet : PortAsk → Step
nothing_yet ask = call ask (Refused Empty)

abbrev pub halt : ℕ → ℤ → Step
halt motion sender = call (Halt motion sender) Did
