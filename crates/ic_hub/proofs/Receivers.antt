-- One receiver of a query, where it is asked for its next parcel or halted.
use Rattle.std.proofs.Common.{◌≡◌, ℕ, zero, suc, ◌<◌, ℤ, List, [], ◌∷◌, set, length, Option, Some, Result, Err, refl, ap, sym, ◌∙◌, subst, slice_get, get_or}
use Rattle.std.proofs.lemmas.Option.{slice_get_within, slice_get-get_or}
use Rattle.ic_base.specs.declared.datagram.Datagram.{Datagram}
use Rattle.ic_base.specs.declared.datagram.Parcel.{Parcel}
use Rattle.ic_law.specs.declared.history.HubNo.{HubNo}
use Rattle.ic_law.specs.declared.history.HubNo.TheVariants as no
use Rattle.ic_receiver.specs.declared.take_no.TakeNo.{TakeNo}
use Rattle.ic_receiver.specs.declared.take_no.TakeNo.TheVariants as taking
use Rattle.ic_receiver.specs.Receiving.{Receiving, IsEmpty, IsOver, Halts, HaltsAgain, HaltsNow}
use Rattle.ic_receiver.specs.Entries.{IsRefusing}
use Rattle.ic_receiver.specs.Standing.{StandsOn}
use Rattle.ic_conntab.specs.Ends.{motions_of, receivers_of}
use Rattle.ic_hub.specs.Hubbing.{Living, IsLiving}
use Rattle.ic_hub.specs.Calls.{take_no}
use Rattle.ic_hub.proofs.Moving.{receiver_living}
use Rattle.ic_hub.specs.Taking.{Takes, NoRoom, Waits, Done, Hands, HaltsOne, NoRoomToHalt, HaltsIt, NobodyReady, ComesFirst, FindsFirst, Refuses, served_by, TakesAny, Nobody, Somebody}

pub at_place : {A : Type 0} (xs : List A) (i : ℕ) (x : A) → i < length xs → x ≡ get_or xs i x → slice_get xs i ≡ Some x
at_place xs i x within is = slice_get-get_or xs i x within ∙ ap Some (sym is)

pub set_same : {A : Type 0} (xs : List A) (i : ℕ) (x : A) → slice_get xs i ≡ Some x → set xs i x ≡ xs
set_same [] i x h = refl
set_same (y ∷ ys) zero x h = let same : y ≡ x = cc in ap (λ z. z ∷ ys) (sym same)
set_same (y ∷ ys) (suc i) x h = ap (λ zs. y ∷ zs) (set_same ys i x h)

-- what a take that is refused so does
pub take_refused : (old new : Receiving) (why : TakeNo) (result : Result (Parcel × List Datagram) HubNo) → result ≡ Err (take_no why) → new ≡ old
    → (why ≡ taking.Empty → IsEmpty old) → (why ≡ taking.Empty → StandsOn old new (IsRefusing old.end.key no.Empty))
    → (why ≡ taking.Ended → IsOver old) → (why ≡ taking.Ended → StandsOn old new (IsRefusing old.end.key no.Ended)) → Takes old new result
take_refused old new taking.Empty result is same empty waits over done = Waits is same (empty refl) (waits refl)
take_refused old new taking.Ended result is same empty waits over done = Done is same (over refl) (done refl)
take_refused old new taking.Memory result is same empty waits over done = NoRoom is same

pub take_end : (old new : Receiving) (result : Result (Parcel × List Datagram) HubNo) → Takes old new result → new.end ≡ old.end
take_end old new result (NoRoom is same) = ap (λ (r : Receiving). r.end) same
take_end old new result (Waits is same empty stands) = ap (λ (r : Receiving). r.end) same
take_end old new result (Done is same over stands) = ap (λ (r : Receiving). r.end) same
take_end old new result (Hands parcel d is hands stands takes) = ap (λ (r : Receiving). r.end) hands.after_is

pub halts_end : (old new : Receiving) (told : Option Datagram) → Halts old told new → new.end ≡ old.end
halts_end old new told (HaltsAgain over none same) = ap (λ (r : Receiving). r.end) same
halts_end old new told (HaltsNow d ring goes_on runs answer is after) = ap (λ (r : Receiving). r.end) after

pub halt_end : (old new : Receiving) (result : Result (List Datagram) HubNo) → HaltsOne old new result → new.end ≡ old.end
halt_end old new result (NoRoomToHalt is same) = ap (λ (r : Receiving). r.end) same
halt_end old new result (HaltsIt told is halts stands) = halts_end old new told halts

-- ---- a take of any

-- a query with such a receiver, and as many segments served last, is what a query always is
pub living_serving : (l : Living) (i : ℕ) (old new : Receiving) (served : List (Option ℤ)) → IsLiving l → slice_get l.receivers i ≡ Some old → new.end ≡ old.end → length served ≡ length l.served
    → IsLiving (record l { receivers = set l.receivers i new; served = served })
living_serving l i old new served living here same count = record { senders = living.senders; receivers = (receiver_living l i old new living here same).receivers; served = count ∙ living.served }

-- none of the motion is ready
pub nobody_any : (l now : Living) (motion number : ℕ) (looked asked : List Receiving) (places : List ℕ) (why : HubNo) → l ≡ now → looked ≡ l.receivers → asked ≡ l.receivers → places ≡ receivers_of l.ends number → NobodyReady looked places
    → Refuses asked places why → TakesAny motion number now now (Err why)
nobody_any l now motion number looked asked places why same looks asks are nobody refuses =
    let at : places ≡ receivers_of now.ends number = are ∙ ap (λ (x : Living). receivers_of x.ends number) same in
    let of_now : l.receivers ≡ now.receivers = ap (λ (x : Living). x.receivers) same in
    Nobody why
    (subst (λ ps. NobodyReady now.receivers ps) at (subst (λ rs. NobodyReady rs places) (looks ∙ of_now) nobody))
    (subst (λ ps. Refuses now.receivers ps why) at (subst (λ rs. Refuses rs places why) (asks ∙ of_now) refuses)) refl refl

-- the first of the motion is asked
pub somebody_any : (l now : Living) (motion number place : ℕ) (last : Option ℤ) (looked : List Receiving) (places : List ℕ) (old new : Receiving) (result : Result (Parcel × List Datagram) HubNo) → l ≡ now → IsLiving l
    → motion < length (motions_of now.ends) → looked ≡ l.receivers → places ≡ receivers_of l.ends number → last ≡ get_or l.served motion last → FindsFirst looked places last (Some place) → old ≡ get_or l.receivers place old → Takes old new result
    → TakesAny motion number now (record l { receivers = set l.receivers place new; served = served_by l.served motion result }) result
somebody_any l now motion number place last looked places old new result same living within looks are served first at takes =
    let firsts : ComesFirst l.receivers (receivers_of l.ends number) last place first.0 = subst (λ ps. ComesFirst l.receivers ps last place first.0) are (subst (λ rs. ComesFirst rs places last place first.0) looks first.1) in
    let here = at_place l.receivers place old (slice_get_within l.receivers place firsts.receiver firsts.here) at in
    let room : motion < length l.served = subst (λ n. motion < n) (sym (living.served ∙ ap (λ (x : Living). length (motions_of x.ends)) same)) within in
    subst (λ x. TakesAny motion number x (record l { receivers = set l.receivers place new; served = served_by l.served motion result }) result) same
    (Somebody last place first.0 (record l { receivers = set l.receivers place new }) (at_place l.served motion last room served) firsts
    (record { old = old; new = new; here = here; is = refl; does = takes }) refl)

-- and is there
pub first_here : (l : Living) (place : ℕ) (last : Option ℤ) (looked : List Receiving) (places : List ℕ) (old : Receiving) → looked ≡ l.receivers → FindsFirst looked places last (Some place) → old ≡ get_or l.receivers place old
    → slice_get l.receivers place ≡ Some old
first_here l place last looked places old looks first at =
    at_place l.receivers place old (slice_get_within l.receivers place first.1.receiver (subst (λ rs. slice_get rs place ≡ Some first.1.receiver) looks first.1.here)) at
