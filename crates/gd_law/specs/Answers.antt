-- A query that was answered: its rows are a lawful answer, and its connections were served.
use Rattle.std.specs.Prelude.{◌≡◌, ℕ, pos, negsuc, List, Bool, Some, IsPermutation, slice_get}
use Rattle.ic_base.specs.declared.keys.ConnKey.{ConnKey}
use Rattle.ic_base.specs.declared.keys.ConnEnd.{ConnEnd}
use Rattle.ic_row.specs.declared.value.Value.{Value}
use Rattle.ic_chunk.specs.Assembly.{together}
use Rattle.ic_law.specs.declared.history.Entry.{Entry}
use Rattle.ic_law.specs.Putting.{chunks_put_of, IsFinished}
use Rattle.ic_law.specs.Taking.{IsWhole}
use Rattle.ic_law.specs.Streams.{history_of, AreSent, AreTaken}
use Rattle.gd_work.specs.Sending.{cut}
use Rattle.gd_work.specs.Taking.{parcels_of, LetsOut}
use Rattle.ic_law.specs.Logs.{log_of}

-- ---- connections of a gather

-- the connection from a segment to the dispatcher, of a gather's only motion
abbrev pub gather_key : ℕ → ℕ → ℕ → ConnKey
gather_key session query segment = record { session = session; query = query; motion = 1; from = pos segment; to = negsuc 0 }

-- one of its ends: the rows go from slice 1 to slice 0
abbrev pub gather_end : ℕ → ℕ → Bool → ℕ → ConnEnd
gather_end session query sending segment = record { key = gather_key session query segment; sending = sending; send_slice = 1; recv_slice = 0 }

-- ---- one connection

-- The connection from a segment was served. Its rows were cut into chunks; all chunks were put in order, and then the
-- end of stream. What was put assembles to these rows, what was taken assembles to the same rows, and the end was
-- taken.
pub record IsServed (session query packet segment : ℕ) (part : List (List Value)) (nodes : List (List Entry)) : Type 0 where
  pub put : chunks_put_of (gather_key session query segment) (history_of nodes (pos segment)) ≡ cut packet part
  pub finished : IsFinished (gather_key session query segment) (history_of nodes (pos segment))
  pub sent : AreSent (gather_key session query segment) (history_of nodes (pos segment)) part
  pub taken : AreTaken (gather_key session query segment) (history_of nodes (negsuc 0)) part
  pub whole : IsWhole (gather_key session query segment) (history_of nodes (negsuc 0))

-- ---- one query

-- The query was answered with these rows, and the segments from 0 on had these parts to send. Each part was sent and
-- taken whole. The rows are those that the dispatcher's parcels let out, in that order, and they are the rows of all
-- parts in some order.
pub record IsAnswered (session query packet : ℕ) (parts : List (List (List Value))) (nodes : List (List Entry)) (rows : List (List Value)) : Type 0 where
  pub served : (segment : ℕ) (part : List (List Value)) → slice_get parts segment ≡ Some part → IsServed session query packet segment part nodes
  pub lets_out : LetsOut (parcels_of 1 (log_of query (history_of nodes (negsuc 0)))) rows
  pub answer : IsPermutation (together parts) rows
