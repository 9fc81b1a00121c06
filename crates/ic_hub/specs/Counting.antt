-- What a hub counts of a connection, and what the counts tell of its history.
use Rattle.std.specs.Prelude.{◌≡◌, ℕ, ◌-◌, ◌^◌, min, List, length, Bool, true, false, Option, Some, None}
use Rattle.ic_base.specs.declared.keys.ConnKey.{ConnKey}
use Rattle.ic_base.specs.declared.keys.ConnEnd.{ConnEnd}
use Rattle.ic_base.specs.declared.settings.Settings.{Settings}
use Rattle.ic_row.specs.declared.value.Value.{Value}
use Rattle.ic_chunk.specs.Counts.{greatest_count}
use Rattle.ic_law.specs.declared.history.Entry.{Entry}
use Rattle.ic_law.specs.History.{rows_emitted_of, sent_upto}
use Rattle.ic_law.specs.Taking.{whole_of}
use Rattle.ic_law.specs.Points.{IsHere}
use Rattle.ic_law.specs.Streams.{AreSent, AreTaken}
use Rattle.ic_timed_sender.specs.Timed.{TimedState}
use Rattle.ic_timed_sender.specs.Standing.{Stands as SenderStands}
use Rattle.ic_receiver.specs.Receiving.{Receiving}
use Rattle.ic_receiver.specs.Standing.{Stands as ReceiverStands}
use Rattle.ic_hub.specs.declared.counts.Counts.{Counts}
use Rattle.ic_hub.specs.Hubbing.{Hubbing}
use Rattle.ic_hub.specs.Finding.{SenderIs, ReceiverIs, HasNo}

-- ---- what a history tells of a connection

-- At the sending end: how many rows were put, the greatest number of a packet of rows that was emitted, and how many
-- emissions of such packets there were beyond that.
pub record AreCountsSent (c : ConnKey) (h : List Entry) (n : Counts) : Type 0 where
  pub rows : (rows : List (List Value)) → AreSent c h rows → n.rows ≡ min greatest_count (length rows)
  pub packets : n.packets ≡ sent_upto c h
  pub resent : n.resent ≡ min (length (rows_emitted_of c h) - sent_upto c h) (2 ^ 128 - 1)
  pub whole : n.whole ≡ false

-- At the receiving end: how many rows were taken, and whether the end of stream was.
pub record AreCountsTaken (c : ConnKey) (h : List Entry) (n : Counts) : Type 0 where
  pub rows : (rows : List (List Value)) → AreTaken c h rows → n.rows ≡ min greatest_count (length rows)
  pub packets : n.packets ≡ 0
  pub resent : n.resent ≡ 0
  pub whole : n.whole ≡ whole_of c h

-- at the end of this side
abbrev pub AreCounts : Bool → ConnKey → List Entry → Counts → Type 0
AreCounts true c h n = AreCountsSent c h n
AreCounts false c h n = AreCountsTaken c h n

-- a live query has the connection with this side
pub record HasSide (sending : Bool) (c : ConnKey) (h : List Entry) : Type 0 where
  pub end : ConnEnd
  pub key : end.key ≡ c
  pub side : end.sending ≡ sending
  pub here : IsHere end h

-- the counts of the connection's end of this side; nothing exactly if no live query has it
abbrev pub TellsCounts : Bool → ConnKey → List Entry → Option Counts → Type 0
TellsCounts sending c h (Some n) = HasSide sending c h × AreCounts sending c h n
TellsCounts sending c h None = HasSide sending c h → ⊥

-- ---- what a hub counts

-- what a sender counts, which is what each history says for which it stands
pub record IsCountOfSender (o : TimedState) (n : Counts) : Type 0 where
  pub rows : n.rows ≡ o.rows
  pub packets : n.packets ≡ o.sending.sent
  pub resent : n.resent ≡ o.sending.resent
  pub whole : n.whole ≡ false
  pub tells : (h : List Entry) → SenderStands o h → AreCountsSent o.sending.end.key h n

-- what a receiver counts
pub record IsCountOfReceiver (r : Receiving) (n : Counts) : Type 0 where
  pub rows : n.rows ≡ r.rows
  pub packets : n.packets ≡ 0
  pub resent : n.resent ≡ 0
  pub whole : n.whole ≡ r.whole
  pub tells : (settings : Settings) (h : List Entry) → ReceiverStands settings r h → AreCountsTaken r.end.key h n

-- the counts of the sender, or the receiver, of this key
pub record CountsSender (s : Hubbing) (key : ConnKey) (n : Counts) : Type 0 where
  pub query : ℕ
  pub place : ℕ
  pub sender : SenderIs s key query place
  pub count : IsCountOfSender sender.sender n

pub record CountsReceiver (s : Hubbing) (key : ConnKey) (n : Counts) : Type 0 where
  pub query : ℕ
  pub place : ℕ
  pub receiver : ReceiverIs s key query place
  pub count : IsCountOfReceiver receiver.receiver n

-- nothing if no live query has an end of this key with this side
abbrev pub CountsFound : Bool → Hubbing → ConnKey → Option Counts → Type 0
CountsFound true s key (Some n) = CountsSender s key n
CountsFound false s key (Some n) = CountsReceiver s key n
CountsFound true s key None = HasNo true s key
CountsFound false s key None = HasNo false s key
