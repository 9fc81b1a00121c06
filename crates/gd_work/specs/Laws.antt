-- Laws of workers and their logs.
use Rattle.std.specs.Prelude.{ℕ, ◌≡◌, ◌≤◌, ℤ, List, [], Bool, false, Contains}
use Rattle.std.specs.List.{All, AllByRecursion, IsDistinct, flat_map}
use Rattle.std.specs.List.Sorted.{IsPermutation}
use Rattle.std.specs.Ordering.{int_eq}
use Rattle.ic_base.specs.declared.datagram.Parcel.{Parcel}
use Rattle.ic_base.specs.declared.port.PortEntry.{PortEntry}
use Rattle.ic_row.specs.declared.value.Value.{Value}
use Rattle.ic_row.specs.Spelling.{IsRow}
use Rattle.ic_chunk.specs.Assembly.{Assembles}
use Rattle.gd_work.specs.Sending.{Scanning, Scans, cut, puts_of, IsFinished}
use Rattle.gd_work.specs.Taking.{payloads_from, LetsOut}

-- A scanner of these rows that finished its stream put all their chunks, in order. Each row can be spelled and read
-- back, and the chunks put assemble to these rows.
pub record PutAll (rows : List (List Value)) (s : Scanning) (log : List PortEntry) : Type 0 where
  pub chunks : puts_of s.motion s.to log ≡ cut s.packet rows
  pub are_rows : AllByRecursion IsRow rows
  pub assemble : Assembles (puts_of s.motion s.to log) rows [] false

abbrev pub PutsAll : Type 0
PutsAll =
    (rows : List (List Value)) (s : Scanning) (log : List PortEntry)
    → 128 ≤ s.packet → s.packet ≤ 65507 → Scans rows s log → IsFinished s.motion s.to log → PutAll rows s log

-- the payloads of this sender assemble to these rows, with or without an unfinished row after them
pub record Gave (sender : ℤ) (parcels : List Parcel) (rows : List (List Value)) : Type 0 where
  pub rest : List ℕ
  pub ended : Bool
  pub assemble : Assembles (payloads_from sender parcels) rows rest ended

-- Parcels let out these rows. If the payloads of each of their senders assemble to rows, then the rows let out are the
-- rows of all senders, in some order.
abbrev pub LetsOutAll : Type 0
LetsOutAll =
    (parcels : List Parcel) (rows : List (List Value)) (senders : List ℤ) (of : ℤ → List (List Value))
    → LetsOut parcels rows
    → IsDistinct int_eq senders
    → ((p : Parcel) → Contains parcels p → Contains senders p.from)
    → ((sender : ℤ) → Contains senders sender → Gave sender parcels (of sender))
    → IsPermutation (flat_map of senders) rows
