-- The emission law: what each entry of a history emits.
use Rattle.std.specs.Prelude.{◌≡◌, ℕ, List, [], ◌∷◌, true, Contains}
use Rattle.std.specs.List.{flat_map}
use Rattle.ic_base.specs.declared.datagram.Datagram.{Datagram}
use Rattle.ic_law.specs.declared.history.Entry.{Entry}
use Rattle.ic_base.specs.declared.keys.ConnEnd.{ConnEnd}
use Rattle.ic_base.specs.declared.settings.Settings.{Settings}
use Rattle.ic_header.specs.Packets.{RowPacket, row_datagram, query_datagram}
use Rattle.ic_law.specs.History.{emits, rows_in}
use Rattle.ic_law.specs.Points.{Place, Every, IsHere}
use Rattle.ic_law.specs.Clock.{ticks_by}
use Rattle.ic_law.specs.Emitting.{rows_then, queries_then, queries_in}
use Rattle.ic_law.specs.Spending.{NoneSpent}
use Rattle.ic_law.specs.Order.{IsInOrder}

-- The entry emits exactly these packets of rows and status queries, and packets with the same number are the same
-- datagram.
pub record EmitsDue (settings : Settings) (end : ConnEnd) (before : List Entry) (e : Entry) : Type 0 where
  pub rows : flat_map (rows_in end.key) (emits e) ≡ rows_then end.key settings before e
  pub row_datagrams : (d : Datagram) (p : RowPacket) → Contains (emits e) d → rows_in end.key d ≡ p ∷ [] → d ≡ row_datagram end p
  pub queries : flat_map (queries_in end.key) (emits e) ≡ queries_then end.key settings before e
  pub query_datagrams : (d : Datagram) (seq : ℕ) → Contains (emits e) d → queries_in end.key d ≡ seq ∷ [] → d ≡ query_datagram end seq
  pub unspent : ticks_by e.reply ≡ 1 → NoneSpent settings end.key before

-- What one entry must emit. Except at a tick, only one connection emits. Its packets are one list: first those resent,
-- in the order in which a Disorder lists them, then those emitted for the first time, by number.
pub record EmissionPoint (place : Place) (before : List Entry) (e : Entry) : Type 0 where
  pub due : (end : ConnEnd) → end.sending ≡ true → IsHere end before → EmitsDue place.settings end before e
  pub order : ticks_by e.reply ≡ 1 → IsInOrder place.settings before e

-- each entry of a history emits what is due on each connection that has its sending end here, and a tick emits it in
-- the stated order
abbrev pub EmissionLaw : Place → List Entry → Type 0
EmissionLaw place h = Every (EmissionPoint place) h
