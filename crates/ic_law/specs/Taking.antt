-- What was taken on a connection, and whether it was halted.
use Rattle.std.specs.Prelude.{◌≡◌, ℕ, ℤ, List, [], ◌∷◌, ◌++◌, map, Bool, true, false, ◌&&◌, ◌==◌, if◌then◌else◌, Ok, Err}
use Rattle.std.specs.List.{flat_map, list_any}
use Rattle.std.specs.Ordering.{int_eq}
use Rattle.ic_base.specs.declared.keys.ConnKey.{ConnKey}
use Rattle.ic_base.specs.declared.datagram.Parcel.{Parcel}
use Rattle.ic_base.specs.Keys.{key_eq}
use Rattle.ic_law.specs.declared.history.HubAsk.{HubAsk}
use Rattle.ic_law.specs.declared.history.HubAsk.TheVariants.{Begin, Put, Finish, Take, TakeFrom, Halt, Arrive, Tick, Clear, Leave}
use Rattle.ic_law.specs.declared.history.HubReply.{HubReply}
use Rattle.ic_law.specs.declared.history.HubReply.TheVariants.{Begun, Gave, Took, Came, Ticked, Cleared, Left, Memory}
use Rattle.ic_law.specs.declared.history.Entry.{Entry}
use Rattle.ic_law.specs.Putting.{was_given}

-- ---- parcels taken

abbrev pub parcels_in : HubReply → List Parcel
parcels_in (Begun r) = []
parcels_in (Gave r) = []
parcels_in (Took (Ok r)) = r.0 ∷ []
parcels_in (Took (Err refusal)) = []
parcels_in (Came how ds) = []
parcels_in (Ticked r) = []
parcels_in (Cleared r) = []
parcels_in (Left r) = []
parcels_in Memory = []

-- those from this segment
abbrev pub parcels_from : ℤ → List Parcel → List Parcel
parcels_from from [] = []
parcels_from from (p ∷ ps) = if int_eq p.from from then p ∷ parcels_from from ps else parcels_from from ps

abbrev pub parcel_for : ConnKey → HubAsk → HubReply → List Parcel
parcel_for c (Begin query ends) reply = []
parcel_for c (Put key chunk) reply = []
parcel_for c (Finish key) reply = []
parcel_for c (Take query motion) reply = if (query == c.query) && (motion == c.motion) then parcels_from c.from (parcels_in reply) else []
parcel_for c (TakeFrom key) reply = if key_eq key c then parcels_in reply else []
parcel_for c (Halt key) reply = []
parcel_for c (Arrive d) reply = []
parcel_for c Tick reply = []
parcel_for c (Clear query) reply = []
parcel_for c (Leave query) reply = []

abbrev pub takes : ConnKey → Entry → List Parcel
takes c e = parcel_for c e.ask e.reply

-- the parcels that were taken on c, in order
abbrev pub parcels_of : ConnKey → List Entry → List Parcel
parcels_of c h = flat_map (takes c) h

abbrev pub payload_in : Parcel → List ℕ
payload_in p = p.payload

abbrev pub payloads_of : ConnKey → List Entry → List (List ℕ)
payloads_of c h = map payload_in (parcels_of c h)

abbrev pub is_last_parcel : Parcel → Bool
is_last_parcel p = p.last

abbrev pub whole_of : ConnKey → List Entry → Bool
whole_of c h = list_any is_last_parcel (parcels_of c h)

-- the parcel with the end of stream was taken
abbrev pub IsWhole : ConnKey → List Entry → Type 0
IsWhole c h = whole_of c h ≡ true

-- ---- halts

abbrev pub is_halt : ConnKey → HubAsk → HubReply → Bool
is_halt c (Begin query ends) reply = false
is_halt c (Put key chunk) reply = false
is_halt c (Finish key) reply = false
is_halt c (Take query motion) reply = false
is_halt c (TakeFrom key) reply = false
is_halt c (Halt key) reply = key_eq key c && was_given reply
is_halt c (Arrive d) reply = false
is_halt c Tick reply = false
is_halt c (Clear query) reply = false
is_halt c (Leave query) reply = false

abbrev pub halts : ConnKey → Entry → Bool
halts c e = is_halt c e.ask e.reply

-- a halt of c was answered Ok
abbrev pub IsHaltAsked : ConnKey → List Entry → Type 0
IsHaltAsked c h = list_any (halts c) h ≡ true

-- a halt of c was answered Ok while c wasn't whole
pub record IsHalted (c : ConnKey) (h : List Entry) : Type 0 where
  pub before : List Entry
  pub entry : Entry
  pub after : List Entry
  pub all : h ≡ before ++ entry ∷ after
  pub asked : halts c entry ≡ true
  pub unfinished : whole_of c before ≡ false
