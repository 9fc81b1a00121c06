-- What is known of each kind of entry.
use Rattle.std.specs.Prelude.{◌≡◌, ◌≢◌, ℕ, List, [], ◌∷◌, ◌++◌, Bool, true, false, Contains}
use Rattle.ic_base.specs.declared.keys.ConnKey.{ConnKey}
use Rattle.ic_base.specs.declared.keys.ConnEnd.{ConnEnd}
use Rattle.ic_base.specs.declared.settings.Settings.{Settings}
use Rattle.ic_base.specs.declared.datagram.Datagram.{Datagram}
use Rattle.ic_law.specs.declared.history.HubAsk.TheVariants.{Take}
use Rattle.ic_law.specs.declared.history.HubReply.TheVariants.{Memory}
use Rattle.ic_law.specs.declared.history.Entry.{Entry}
use Rattle.ic_law.specs.History.{emits}
use Rattle.ic_law.specs.Points.{Place, Every, IsFormed, IsHere}
use Rattle.ic_law.specs.Asking.{IsAllowed}
use Rattle.ic_law.specs.Arriving.{IsLiveQuery, IsOld, IsUnknownKey, AnswersTakeAny}
use Rattle.ic_law.specs.Clock.{ticks_by}
use Rattle.ic_law.specs.Order.{IsInOrder}
use Rattle.ic_law.specs.Emission.{EmissionLaw}
use Rattle.ic_law.specs.Hub.{HubPoint, HubLaw}
use Rattle.ic_sender.specs.Entries.{IsSilent, IsBefore}
use Rattle.ic_receiver.specs.Entries.{IsSilent as IsSilentReceiving}
use Rattle.ic_hub_laws.specs.Entries.{IsOurs, HasEnd, EndsKeep, Concerns, IsNought, IsTick}

-- ---- what an entry leaves standing

-- the entry is silent for a sending end, and if the end isn't here, it comes before it
pub record PassesSending (end : ConnEnd) (h : List Entry) (e : Entry) : Type 0 where
  pub silent : IsSilent end h e
  pub before : (IsHere end h → ⊥) → IsBefore end h e

-- An entry about one end is silent for each other sending end, and for each other receiving end of this session and
-- segment; a connection of the segment to itself has two.
abbrev pub ConcernedPasses : Type 0
ConcernedPasses = (place : Place) (c : ConnKey) (side : Bool) (h : List Entry) (e : Entry) (other : ConnEnd) → Concerns place c side e
    → ((other.key ≡ c → side ≡ true → ⊥) → PassesSending other h e)
    × ((other.key ≡ c → side ≡ false → ⊥) → other.key.session ≡ place.session → other.key.to ≡ place.at → IsSilentReceiving other h e)

-- an entry of no end is silent for each end of this place
abbrev pub NoughtPasses : Type 0
NoughtPasses = (place : Place) (h : List Entry) (e : Entry) (end : ConnEnd) → IsNought place h e → IsOurs place end
    → (end.sending ≡ true → PassesSending end h e) × (end.sending ≡ false → IsSilentReceiving end h e)

-- a tick is silent for each receiving end, and comes before each sending end whose connection isn't here
abbrev pub TickPasses : Type 0
TickPasses = (h : List Entry) (e : Entry) (end : ConnEnd) → IsTick h e → (end.sending ≡ true → IsUnknownKey true end.key h → IsBefore end h e) × IsSilentReceiving end h e

-- ---- the points of an entry

-- What a hub has of an entry beside its kind: its law so far, the points of each end that is here, that the ask was
-- allowed, and the form of what is emitted.
pub record Holds (place : Place) (h : List Entry) (e : Entry) : Type 0 where
  pub law : HubLaw place h
  pub keeps : EndsKeep place h e
  pub allowed : e.reply ≢ Memory → IsAllowed place h e.ask
  pub formed : (d : Datagram) → Contains (emits e) d → IsFormed place d

-- An entry about an end that is here has its points, if a take from any sender was answered in their order.
abbrev pub ConcernedPoint : Type 0
ConcernedPoint = (place : Place) (c : ConnKey) (side : Bool) (h : List Entry) (e : Entry) → Concerns place c side e → HasEnd place c side h → Holds place h e
    → ((query motion : ℕ) → e.ask ≡ Take query motion → AnswersTakeAny query motion h e.reply) → HubPoint place h e

-- so has an entry of no end
abbrev pub NoughtPoint : Type 0
NoughtPoint = (place : Place) (h : List Entry) (e : Entry) → IsNought place h e → Holds place h e → HubPoint place h e

-- and a tick
abbrev pub TickPoint : Type 0
TickPoint = (place : Place) (h : List Entry) (e : Entry) → IsTick h e → Holds place h e → HubPoint place h e

-- ---- both laws go on

abbrev pub LawGoesOn : Type 0
LawGoesOn = (place : Place) (h : List Entry) (e : Entry) → HubLaw place h → HubPoint place h e → HubLaw place (h ++ e ∷ [])

-- if the entry is a tick that isn't refused, it emits in the order of ticks
abbrev pub TicksInOrder : Settings → List Entry → Entry → Type 0
TicksInOrder settings h e = ticks_by e.reply ≡ 1 → IsInOrder settings h e

-- what each end emits is what is due, if each keeps its points, and a tick is in order
abbrev pub EmissionGoesOn : Type 0
EmissionGoesOn = (place : Place) (h : List Entry) (e : Entry) → EmissionLaw place h → EndsKeep place h e → TicksInOrder place.settings h e → EmissionLaw place (h ++ e ∷ [])

-- ---- ends to come

-- the entry is about an end that is here, about none, or a tick
pub data IsAbout (place : Place) (h : List Entry) (e : Entry) : Type 0 where
  AboutEnd : (c : ConnKey) (side : Bool) → Concerns place c side e → HasEnd place c side h → IsAbout place h e
  AboutNone : IsNought place h e → IsAbout place h e
  AboutTicks : IsTick h e → IsAbout place h e

-- nothing in the history is of this end, which wasn't there
pub record IsAhead (end : ConnEnd) (h : List Entry) : Type 0 where
  pub sends : Every (IsBefore end) h
  pub receives : Every (IsSilentReceiving end) h

-- an end whose query isn't live, and of which nothing was, has nothing with one more entry; so has one that begins with it
abbrev pub StaysAhead : Type 0
StaysAhead = (place : Place) (h : List Entry) (e : Entry) (end : ConnEnd) → IsAbout place h e → (IsLiveQuery end.key.query h → ⊥) → IsAhead end h → IsAhead end (h ++ e ∷ [])

-- of each end whose query was never begun, nothing was
abbrev pub AreAhead : List Entry → Type 0
AreAhead h = (end : ConnEnd) → (IsLiveQuery end.key.query h → ⊥) → (IsOld end.key.query h → ⊥) → IsAhead end h

abbrev pub AheadGoesOn : Type 0
AheadGoesOn = (place : Place) (h : List Entry) (e : Entry) → IsAbout place h e → AreAhead h → AreAhead (h ++ e ∷ [])

-- ---- all of it goes on

-- what a hub keeps of its whole history
pub record Goes (place : Place) (h : List Entry) : Type 0 where
  pub law : HubLaw place h
  pub emission : EmissionLaw place h
  pub ahead : AreAhead h

abbrev pub GoesFirst : Type 0
GoesFirst = (place : Place) → Goes place []

-- with an entry about an end that is here, about none, or a tick in order, if each end keeps its points
abbrev pub GoesOn : Type 0
GoesOn = (place : Place) (h : List Entry) (e : Entry) → IsAbout place h e → Holds place h e → ((query motion : ℕ) → e.ask ≡ Take query motion → AnswersTakeAny query motion h e.reply)
    → TicksInOrder place.settings h e → EmissionLaw place h → AreAhead h → Goes place (h ++ e ∷ [])
