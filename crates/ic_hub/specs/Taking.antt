-- What takes and halts do to a receiver, and to a live query.
use Rattle.std.specs.Prelude.{◌≡◌, ◌⊎◌, ℕ, ℤ, negsuc, ◌+ℤ◌, ◌≤ℤ◌, int_lt, if◌then◌else◌, List, [], ◌∷◌, Option, Some, None, Result, Ok, Err, slice_get, slice_set, Contains}
use Rattle.ic_base.specs.declared.datagram.Datagram.{Datagram}
use Rattle.ic_base.specs.declared.datagram.Parcel.{Parcel}
use Rattle.ic_law.specs.declared.history.Entry.{Entry}
use Rattle.ic_law.specs.declared.history.HubNo.{HubNo}
use Rattle.ic_law.specs.declared.history.HubNo.TheVariants as no
use Rattle.ic_law.specs.Receiving.{IsTaking}
use Rattle.ic_law.specs.Points.{IsEnded}
use Rattle.ic_receiver.specs.Receiving.{Receiving, IsOver, IsEmpty, IsReady, HandsOver, Halts}
use Rattle.ic_receiver.specs.Entries.{IsRefusing, IsHalting, list_of}
use Rattle.ic_receiver.specs.Standing.{Stands, StandsOn, TakesNoMore, NotReady, TakesNow}
use Rattle.ic_base.specs.declared.settings.Settings.{Settings}
use Rattle.ic_conntab.specs.Ends.{receivers_of}
use Rattle.ic_hub.specs.declared.take.Ranked.{Ranked}
use Rattle.ic_hub.specs.Hubbing.{Living}

-- ---- one receiver

-- more is to be taken, in each history for which it stands
abbrev pub IsOpen : Receiving → Type 0
IsOpen r = (settings : Settings) (h : List Entry) → Stands settings r h → IsEnded r.end.key h → ⊥

-- What a take of one receiver does. Refused, it leaves the receiver: if memory runs out, if the next packet isn't there,
-- or if nothing more is to be taken. Else the receiver hands its next parcel over.
pub data Takes (old new : Receiving) (result : Result (Parcel × List Datagram) HubNo) : Type 0 where
  NoRoom : result ≡ Err no.Memory → new ≡ old → Takes old new result
  Waits : result ≡ Err no.Empty → new ≡ old → IsEmpty old → StandsOn old new (IsRefusing old.end.key no.Empty) → Takes old new result
  Done : result ≡ Err no.Ended → new ≡ old → IsOver old → StandsOn old new (IsRefusing old.end.key no.Ended) → Takes old new result
  Hands : (parcel : Parcel) (d : Datagram) → result ≡ Ok (parcel, d ∷ []) → HandsOver old parcel d new → StandsOn old new (IsTaking old.end.key parcel (d ∷ []))
      → TakesNow old parcel d → Takes old new result

-- what a halt of one receiver does: nothing if memory runs out
pub data HaltsOne (old new : Receiving) (result : Result (List Datagram) HubNo) : Type 0 where
  NoRoomToHalt : result ≡ Err no.Memory → new ≡ old → HaltsOne old new result
  HaltsIt : (told : Option Datagram) → result ≡ Ok (list_of told) → Halts old told new → StandsOn old new (IsHalting old.end.key told) → HaltsOne old new result

-- ---- one receiver of a query

-- the receiver at this place is another now, and so it is with the two
pub record AtReceiver (Is : Receiving → Receiving → Type 0) (place : ℕ) (l after : Living) : Type 0 where
  pub old : Receiving
  pub new : Receiving
  pub here : slice_get l.receivers place ≡ Some old
  pub is : after ≡ record l { receivers = slice_set l.receivers place new }
  pub does : Is old new

-- what a take of the receiver at this place does
abbrev pub TakesAt : ℕ → Living → Living → Result (Parcel × List Datagram) HubNo → Type 0
TakesAt place l after result = AtReceiver (λ old new. Takes old new result) place l after

-- what a halt of it does
abbrev pub HaltsAt : ℕ → Living → Living → Result (List Datagram) HubNo → Type 0
HaltsAt place l after result = AtReceiver (λ old new. HaltsOne old new result) place l after

-- ---- the first of a motion in cyclic order

-- After the segment served last the greater ones come first, and then the others, each by number: who comes first has the
-- least of these.
abbrev pub rank_of : Option ℤ → ℤ → ℤ
rank_of None from = from
rank_of (Some last) from = if int_lt last from then from +ℤ negsuc 64 else from

-- none of the receivers at these places has its next parcel
abbrev pub NobodyReady : List Receiving → List ℕ → Type 0
NobodyReady receivers places = (place : ℕ) (r : Receiving) → Contains places place → slice_get receivers place ≡ Some r → NotReady r

-- of the receivers at these places the one at this place has its next parcel, and none of the others that have comes before it
pub record ComesFirst (receivers : List Receiving) (places : List ℕ) (last : Option ℤ) (place : ℕ) (rank : ℤ) : Type 0 where
  pub among : Contains places place
  pub receiver : Receiving
  pub here : slice_get receivers place ≡ Some receiver
  pub ready : IsReady receiver
  pub rank_is : rank ≡ rank_of last receiver.end.key.from
  pub first : (other : ℕ) (r : Receiving) → Contains places other → slice_get receivers other ≡ Some r → NotReady r ⊎ (rank ≤ℤ rank_of last r.end.key.from)

-- what was found of the receivers at these places
abbrev pub Finds : List Receiving → List ℕ → Option ℤ → Option Ranked → Type 0
Finds receivers places last None = NobodyReady receivers places
Finds receivers places last (Some found) = ComesFirst receivers places last found.place found.rank

-- the first of the one found so far and this receiver at its place
pub data IsFirstOf (first : Option Ranked) (r : Receiving) (place : ℕ) (last : Option ℤ) (result : Option Ranked) : Type 0 where
  StillNot : NotReady r → result ≡ first → IsFirstOf first r place last result
  StaysFirst : (found : Ranked) → first ≡ Some found → found.rank ≤ℤ rank_of last r.end.key.from → result ≡ first → IsFirstOf first r place last result
  BecomesFirst : IsReady r → ((found : Ranked) → first ≡ Some found → rank_of last r.end.key.from ≤ℤ found.rank) → (now : Ranked) → now.place ≡ place → now.rank ≡ rank_of last r.end.key.from
      → result ≡ Some now → IsFirstOf first r place last result

-- the place of the first of the receivers at these places
abbrev pub FindsFirst : List Receiving → List ℕ → Option ℤ → Option ℕ → Type 0
FindsFirst receivers places last None = NobodyReady receivers places
FindsFirst receivers places last (Some place) = (rank : ℤ) × ComesFirst receivers places last place rank

-- ---- a take of any

-- why none of the receivers at these places has a parcel: nothing more is to be taken of all, or it isn't there
pub data Refuses (receivers : List Receiving) (places : List ℕ) (why : HubNo) : Type 0 where
  AllDone : ((place : ℕ) (r : Receiving) → Contains places place → slice_get receivers place ≡ Some r → TakesNoMore r) → why ≡ no.Ended → Refuses receivers places why
  OneOpen : (place : ℕ) (r : Receiving) → Contains places place → slice_get receivers place ≡ Some r → IsOpen r → why ≡ no.Empty → Refuses receivers places why

-- the segments served last, if this is the answer to a take of any of the motion at this place
abbrev pub served_by : List (Option ℤ) → ℕ → Result (Parcel × List Datagram) HubNo → List (Option ℤ)
served_by served motion (Ok r) = slice_set served motion (Some r.0.from)
served_by served motion (Err why) = served

-- What a take of any sender of a motion does, by its place and its number. It is refused if none of them is ready, and
-- else it is a take of the first in cyclic order, which is served last then.
pub data TakesAny (motion number : ℕ) (l after : Living) (result : Result (Parcel × List Datagram) HubNo) : Type 0 where
  Nobody : (why : HubNo) → NobodyReady l.receivers (receivers_of l.ends number) → Refuses l.receivers (receivers_of l.ends number) why → result ≡ Err why → after ≡ l → TakesAny motion number l after result
  Somebody : (last : Option ℤ) (place : ℕ) (rank : ℤ) (taken : Living) → slice_get l.served motion ≡ Some last → ComesFirst l.receivers (receivers_of l.ends number) last place rank
      → TakesAt place l taken result → after ≡ record taken { served = served_by l.served motion result } → TakesAny motion number l after result
