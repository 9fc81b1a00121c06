-- What the datagrams of a sending end read as.
use Rattle.std.proofs.Common.{◌≡◌, ℕ, ◌+◌, ◌<◌, ◌≤◌, ◌^◌, List, [], ◌∷◌, ◌++◌, length, map, Bool, true, false, cond, ◌&&◌, refl, ap, sym, ◌∙◌, inl, inr}
use Rattle.std.specs.List.{flat_map, Contains}
use Rattle.ic_base.specs.declared.keys.ConnEnd.{ConnEnd}
use Rattle.ic_base.specs.declared.datagram.Datagram.{Datagram}
use Rattle.ic_base.specs.Keys.{key_eq}
use Rattle.ic_base.proofs.SameKeys.{key_eq-same}
use Rattle.ic_header.specs.Packets.{RowPacket, row_datagram, query_datagram, rows_flags}
use Rattle.ic_law.specs.History.{rows_in, rows_read}
use Rattle.ic_law.specs.Emitting.{queries_in, queries_read, is_query}
use Rattle.ic_law.proofs.Lists.{Contains-none, Contains-head, Contains-tail, head_or_tail}
use Rattle.ic_law.proofs.Making.{FitsWords, row_reads, row_in, query_reads}
use Rattle.ic_sender.specs.Standing.{IsNamed}

pub fits : (end : ConnEnd) → IsNamed end → FitsWords end
fits end n = record { session = n.session; query = n.query; motion = n.motion; send_slice = n.send_slice; recv_slice = n.recv_slice; from = n.from; to = n.to }

-- a packet of rows that a datagram can be
pub record CanTravel (p : RowPacket) : Type 0 where
  pub least : 4 ≤ length p.payload
  pub most : 64 + length p.payload < 2 ^ 32
  pub number : p.seq < 2 ^ 32

abbrev pub AllTravel : List RowPacket → Type 0
AllTravel rows = (p : RowPacket) → Contains rows p → CanTravel p

pub row_again : (end : ConnEnd) (p : RowPacket) → IsNamed end → CanTravel p → rows_in end.key (row_datagram end p) ≡ p ∷ []
row_again end p names can = row_in end p (fits end names) can.least can.most can.number

pub row_asks_nothing : (end : ConnEnd) (p : RowPacket) → IsNamed end → CanTravel p → queries_in end.key (row_datagram end p) ≡ []
row_asks_nothing end p names can = ap (queries_read end.key) (row_reads end p (fits end names) can.least can.most can.number) ∙ by p.last
  where
    by : (b : Bool) → cond (is_query (rows_flags b) && key_eq end.key end.key) (p.seq ∷ []) [] ≡ []
    by true = refl
    by false = refl

pub query_again : (end : ConnEnd) (seq : ℕ) → IsNamed end → seq < 2 ^ 32 → queries_in end.key (query_datagram end seq) ≡ seq ∷ []
query_again end seq names number = ap (queries_read end.key) (query_reads end seq (fits end names) number) ∙ ap (λ b. cond b (seq ∷ []) []) (key_eq-same end.key)

pub query_has_no_rows : (end : ConnEnd) (seq : ℕ) → IsNamed end → seq < 2 ^ 32 → rows_in end.key (query_datagram end seq) ≡ []
query_has_no_rows end seq names number = ap (rows_read end.key) (query_reads end seq (fits end names) number)

-- packets of rows, as datagrams, read back
pub rows_again : (end : ConnEnd) (rows : List RowPacket) → IsNamed end → AllTravel rows → flat_map (rows_in end.key) (map (row_datagram end) rows) ≡ rows
rows_again end [] names can = refl
rows_again end (p ∷ rows) names can =
    ap (λ l. l ++ flat_map (rows_in end.key) (map (row_datagram end) rows)) (row_again end p names (can p (Contains-head p rows)))
    ∙ ap (λ l. p ∷ l) (rows_again end rows names (λ q at. can q (Contains-tail p rows q at)))

pub rows_ask_nothing : (end : ConnEnd) (rows : List RowPacket) → IsNamed end → AllTravel rows → flat_map (queries_in end.key) (map (row_datagram end) rows) ≡ []
rows_ask_nothing end [] names can = refl
rows_ask_nothing end (p ∷ rows) names can =
    ap (λ l. l ++ flat_map (queries_in end.key) (map (row_datagram end) rows)) (row_asks_nothing end p names (can p (Contains-head p rows)))
    ∙ rows_ask_nothing end rows names (λ q at. can q (Contains-tail p rows q at))

-- such a datagram is the one of the packet that it reads as
pub rows_made : (end : ConnEnd) (rows : List RowPacket) (d : Datagram) → IsNamed end → AllTravel rows → Contains (map (row_datagram end) rows) d → (p : RowPacket) × (rows_in end.key d ≡ p ∷ []) × (queries_in end.key d ≡ []) × (d ≡ row_datagram end p)
rows_made end [] d names can h = absurd (Contains-none d h)
rows_made end (p ∷ rows) d names can h =
    elim (head_or_tail (row_datagram end p) (map (row_datagram end) rows) d h) [
      | inl same ↦
          let c = can p (Contains-head p rows) in
          (p, ap (rows_in end.key) (sym same) ∙ row_again end p names c, ap (queries_in end.key) (sym same) ∙ row_asks_nothing end p names c, sym same)
      | inr later ↦ rows_made end rows d names (λ q at. can q (Contains-tail p rows q at)) later
    ]
