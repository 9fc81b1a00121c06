-- Where a hub finds a connection.
use Rattle.std.specs.Prelude.{◌≡◌, ◌≢◌, ℕ, Bool, true, false, Option, Some, None, slice_get, Contains}
use Rattle.ic_base.specs.declared.keys.ConnKey.{ConnKey}
use Rattle.ic_base.specs.declared.keys.ConnEnd.{ConnEnd}
use Rattle.ic_conntab.specs.Table.{is_past}
use Rattle.ic_timed_sender.specs.Timed.{TimedState}
use Rattle.ic_conntab.specs.Ends.{sender_at, receiver_at, keys_of}
use Rattle.ic_conntab.specs.declared.slots.Sides.{Sides}
use Rattle.ic_receiver.specs.Receiving.{Receiving}
use Rattle.ic_hub.specs.declared.finding.Found.{Found}
use Rattle.ic_hub.specs.declared.finding.Found.TheVariants.{Foreign, Ended, NotBegun, Here}
use Rattle.ic_hub.specs.Hubbing.{Hubbing, Living}

-- no live query has this number
abbrev pub IsNotLive : Hubbing → ℕ → Type 0
IsNotLive s query = (i : ℕ) (l : Living) → slice_get s.live i ≡ Some l → l.number ≢ query

-- What a hub says of a connection: of another session, of a live query without it, of a query that has ended, of one that
-- hasn't begun, or the places of its ends.
pub data IsFound (s : Hubbing) (key : ConnKey) (found : Found) : Type 0 where
  OfOther : key.session ≢ s.session → found ≡ Foreign → IsFound s key found
  NoSuchKey : key.session ≡ s.session → (i : ℕ) (l : Living) → slice_get s.live i ≡ Some l → l.number ≡ key.query → (Contains (keys_of l.ends) key → ⊥) → found ≡ Foreign → IsFound s key found
  OfEnded : key.session ≡ s.session → IsNotLive s key.query → is_past s.top key.query ≡ true → found ≡ Ended → IsFound s key found
  OfUnbegun : key.session ≡ s.session → IsNotLive s key.query → is_past s.top key.query ≡ false → found ≡ NotBegun → IsFound s key found
  There : key.session ≡ s.session → (i : ℕ) (l : Living) → slice_get s.live i ≡ Some l → l.number ≡ key.query → Contains (keys_of l.ends) key
      → (sides : Sides) → sides.sender ≡ sender_at l.ends key → sides.receiver ≡ receiver_at l.ends key → found ≡ Here i sides → IsFound s key found

-- no live query has an end of this key with this side
abbrev pub HasNo : Bool → Hubbing → ConnKey → Type 0
HasNo sending s key = (i : ℕ) (l : Living) → slice_get s.live i ≡ Some l → (end : ConnEnd) → Contains l.ends end → end.key ≡ key → end.sending ≡ sending → ⊥

-- the connection of this key's sending end, at this place among the senders of the query at this one
pub record SenderIs (s : Hubbing) (key : ConnKey) (query place : ℕ) : Type 0 where
  pub living : Living
  pub sender : TimedState
  pub live : slice_get s.live query ≡ Some living
  pub number : living.number ≡ key.query
  pub here : slice_get living.senders place ≡ Some sender
  pub is : sender.sending.end.key ≡ key

abbrev pub FindsSender : Hubbing → ConnKey → Option (ℕ × ℕ) → Type 0
FindsSender s key (Some at) = SenderIs s key at.0 at.1
FindsSender s key None = HasNo true s key

-- the connection of its receiving end
pub record ReceiverIs (s : Hubbing) (key : ConnKey) (query place : ℕ) : Type 0 where
  pub living : Living
  pub receiver : Receiving
  pub live : slice_get s.live query ≡ Some living
  pub number : living.number ≡ key.query
  pub here : slice_get living.receivers place ≡ Some receiver
  pub is : receiver.end.key ≡ key

abbrev pub FindsReceiver : Hubbing → ConnKey → Option (ℕ × ℕ) → Type 0
FindsReceiver s key (Some at) = ReceiverIs s key at.0 at.1
FindsReceiver s key None = HasNo false s key
