-- What each call does to a hub, and to a live query.
use Rattle.std.specs.Prelude.{◌≡◌, ℕ, ◌+◌, ◌-◌, ◌^◌, ◌≤◌, min, List, true, false, Some, Result, Ok, Err, slice_get, slice_set, IfOk, OnErr}
use Rattle.std.specs.List.{AllByRecursion}
use Rattle.ic_base.specs.declared.keys.ConnKey.{ConnKey}
use Rattle.ic_base.specs.declared.datagram.Datagram.{Datagram}
use Rattle.ic_law.specs.declared.history.Entry.{Entry}
use Rattle.ic_law.specs.declared.history.HubNo.{HubNo}
use Rattle.ic_law.specs.declared.history.HubNo.TheVariants as no
use Rattle.ic_law.specs.declared.history.Arrived.{Arrived}
use Rattle.ic_law.specs.declared.history.Arrived.TheVariants.{Handled, Dropped}
use Rattle.ic_timed_sender.specs.Timed.{TimedState, SameEnd}
use Rattle.ic_timed_sender.specs.Emitted.{AreOutgoing}
use Rattle.ic_timed_sender.specs.Standing.{StandsNext}
use Rattle.ic_receiver.specs.declared.take_no.TakeNo.{TakeNo}
use Rattle.ic_receiver.specs.declared.take_no.TakeNo.TheVariants as take
use Rattle.ic_sender.specs.declared.send_no.SendNo.{SendNo}
use Rattle.ic_sender.specs.declared.send_no.SendNo.TheVariants as send
use Rattle.ic_hub.specs.Hubbing.{Hubbing, Living}

-- ---- hubs

-- of the same session, segment and settings
pub record SamePlace (a b : Hubbing) : Type 0 where
  pub session : b.session ≡ a.session
  pub at : b.at ≡ a.at
  pub settings : b.settings ≡ a.settings

-- the query is live
pub record IsLiveIn (s : Hubbing) (query : ℕ) : Type 0 where
  pub at : ℕ
  pub living : Living
  pub here : slice_get s.live at ≡ Some living
  pub number : living.number ≡ query

-- a dropped datagram is counted, and changes nothing else; one that is handled isn't counted
abbrev pub CountsDrop : Hubbing → Hubbing → Arrived → Type 0
CountsDrop old new Handled = new.dropped ≡ old.dropped
CountsDrop old new (Dropped cause) = new ≡ record old { dropped = min (old.dropped + 1) (2 ^ 64 - 1) }

-- ---- refusals of connections, as the hub's

-- what a put is never answered becomes out of memory
abbrev pub put_no : SendNo → HubNo
put_no send.Full = no.Full
put_no send.Stopped = no.Stopped
put_no (send.TooLong key) = no.TooLong key
put_no (send.Spent key seq tries) = no.Memory
put_no send.Stray = no.Memory
put_no send.Memory = no.Memory

abbrev pub put_answer : Result (List Datagram) SendNo → Result (List Datagram) HubNo
put_answer (Ok ds) = Ok ds
put_answer (Err refusal) = Err (put_no refusal)

abbrev pub take_no : TakeNo → HubNo
take_no take.Empty = no.Empty
take_no take.Ended = no.Ended
take_no take.Memory = no.Memory

-- ---- one sender of a query

-- The sender at this place is another now, and stands for each history for which it stood, with such an entry more; its
-- end, its settings and its tick are as before.
pub record MovesSender (place : ℕ) (Is : ConnKey → Entry → Type 0) (l after : Living) : Type 0 where
  pub old : TimedState
  pub new : TimedState
  pub here : slice_get l.senders place ≡ Some old
  pub is : after ≡ record l { senders = slice_set l.senders place new }
  pub end : SameEnd old new
  pub now : new.now ≡ old.now
  pub stands : StandsNext old new (Is old.sending.end.key)

-- ---- puts

-- a chunk of this length fits in a packet of each sender
abbrev pub FitsAll : Living → ℕ → Type 0
FitsAll l length = AllByRecursion (λ (o : TimedState). length + 68 ≤ o.sending.settings.packet) l.senders

-- What a put on the sender at this place, or its finish, does: after the end of stream nothing; else what the connection
-- does, and if it refuses nothing. What it emits has the form of its packets.
pub data PutsOn (place : ℕ) (Is : ConnKey → Result (List Datagram) SendNo → Entry → Type 0) (l after : Living) (result : Result (List Datagram) HubNo) : Type 0 where
  Behind : (old : TimedState) → slice_get l.senders place ≡ Some old → old.sending.finished ≡ true → result ≡ Err no.Memory → after ≡ l → PutsOn place Is l after result
  Answered : (answer : Result (List Datagram) SendNo) → result ≡ put_answer answer → (moves : MovesSender place (λ c e. Is c answer e) l after)
      → moves.old.sending.finished ≡ false → OnErr answer (moves.new ≡ moves.old) → IfOk answer (AreOutgoing moves.old.sending) → PutsOn place Is l after result
