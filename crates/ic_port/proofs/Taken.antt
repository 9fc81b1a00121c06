-- From whom a parcel comes.
use Rattle.std.proofs.Common.{◌≡◌, ◌≢◌, ℕ, ℤ, List, [], ◌∷◌, ◌++◌, false, Result, Ok, Err, refl, ap, sym, ◌∙◌, subst}
use Rattle.std.specs.Prelude.{IfOk, IfErr}
use Rattle.std.specs.List.{Contains}
use Rattle.ic_base.specs.declared.keys.ConnKey.{ConnKey}
use Rattle.ic_base.specs.declared.keys.ConnEnd.{ConnEnd}
use Rattle.ic_base.specs.declared.datagram.Datagram.{Datagram}
use Rattle.ic_base.specs.declared.datagram.Parcel.{Parcel}
use Rattle.ic_base.specs.declared.port.PortNo.{PortNo}
use Rattle.ic_base.specs.declared.port.PortNo.TheVariants as port
use Rattle.ic_base.specs.declared.port.PortReply.TheVariants.{Gave, Refused}
use Rattle.ic_base.specs.Ports.{HearsFrom, Hears, MayRefuseTake, CountsBusy, gave}
use Rattle.ic_law.specs.declared.history.HubAsk.TheVariants.{TakeFrom}
use Rattle.ic_law.specs.declared.history.HubReply.TheVariants.{Took}
use Rattle.ic_law.specs.declared.history.HubNo.{HubNo}
use Rattle.ic_law.specs.declared.history.HubNo.TheVariants as refused
use Rattle.ic_law.specs.declared.history.Entry.{Entry}
use Rattle.ic_law.specs.Points.{Place, IsLive, IsHere}
use Rattle.ic_law.specs.Asking.{AreEnds}
use Rattle.ic_law.specs.Receiving.{AnswersTake, Over, None as NoneThere, Taken}
use Rattle.ic_law.specs.Arriving.{IsOfMotion, AnswersTakeAny, AllOver, NoneReady, Serves}
use Rattle.ic_law.specs.Hub.{HubLaw}
use Rattle.ic_law.proofs.Lists.{Contains-none}
use Rattle.ic_law.proofs.Lives.{live_once}
use Rattle.ic_hub.specs.Entries.{take_entry, take_from_entry, own_of}
use Rattle.ic_hub.specs.Hubbing.{Hubbing}
use Rattle.ic_hub.specs.Standing.{Stands}
use Rattle.ic_hub.specs.Calls.{SamePlace}
use Rattle.ic_port.specs.Noding.{Noding, place_of, IsNode}
use Rattle.ic_port.specs.Telling.{IsGiven, LogsTake, told_of}
use Rattle.ic_hub.proofs.Noting.{place_same}
use Rattle.ic_port.proofs.Keys.{key_of, heard_at, still}

-- an end is among them
pub not_none : (ends : List ConnEnd) (end : ConnEnd) → Contains ends end → ends ≢ []
not_none ends end at none = Contains-none end (subst (λ l. Contains l end) none at)

took_one : (p q : Parcel) (ds es : List Datagram) → Took (Ok (p, ds)) ≡ Took (Ok (q, es)) → p ≡ q
took_one p q ds es same = let pairs : (p, ds) ≡ (q, es) = cc in ap (λ (x : Parcel × List Datagram). x.0) pairs

-- an end that is there serves a take of any
served : (place : Place) (h : List Entry) (query motion : ℕ) (ends : List ConnEnd) (parcel : Parcel) (ds : List Datagram) → HubLaw place h → IsLive query ends h
    → AnswersTakeAny query motion h (Took (Ok (parcel, ds))) → HearsFrom ends motion parcel.from
served place h query motion ends parcel ds law live (AllOver over is) = absurd (let bad : Took (Ok (parcel, ds)) ≡ Took (Err refused.Ended) = is in cc)
served place h query motion ends parcel ds law live (NoneReady open_end of_motion goes_on none is) = absurd (let bad : Took (Ok (parcel, ds)) ≡ Took (Err refused.Empty) = is in cc)
served place h query motion ends parcel ds law live (Serves end ready last was first other es taken is) =
    let m = ready.of_motion in
    let there : IsLive query m.here.ends h = subst (λ n. IsLive n m.here.ends h) m.query_is m.here.live in
    let among : Contains ends end = subst (λ l. Contains l end) (live_once place h query m.here.ends ends law there live) m.here.stands in
    (among.0, end, among.1, among.2, (m.receiving, m.motion_is, sym (ap (λ (p : Parcel). p.from) (took_one parcel other ds es is) ∙ taken.from)))

-- a take of any sender serves one that the worker hears
pub from_any : (place : Place) (h : List Entry) (query motion : ℕ) (ends : List ConnEnd) (answer : Result (Parcel × List Datagram) HubNo) (parcel : Parcel)
    → AreEnds place query ends → (ends ≢ [] → IsLive query ends h) → Hears ends motion → HubLaw place h → HubLaw place (h ++ take_entry query motion answer ∷ []) → IsGiven answer parcel → HearsFrom ends motion parcel.from
from_any place h query motion ends answer parcel are lives hears law now given =
    let end : ConnEnd = hears.1 in
    let among : Contains ends end = (hears.0, hears.2, hears.3) in
    let live = lives (not_none ends end among) in
    let e : Entry = take_entry query motion (Ok (parcel, given.0)) in
    let now_is : HubLaw place (h ++ e ∷ []) = subst (λ r. HubLaw place (h ++ take_entry query motion r ∷ [])) given.1 now in
    let query_is = (are.each end among).query_is in
    let of_motion : IsOfMotion query motion end h = record {
      here = record { ends = ends; live = subst (λ n. IsLive n ends h) (sym query_is) live; stands = among };
      receiving = hears.4.0;
      query_is = query_is;
      motion_is = hears.4.1;
    } in
    served place h query motion ends parcel given.0 law live ((now_is h e [] refl).take query motion refl end of_motion (λ bad. cc))

-- a parcel that an end gives is of its sender
gave_one : (end : ConnEnd) (h : List Entry) (parcel : Parcel) (ds : List Datagram) → AnswersTake end h (Took (Ok (parcel, ds))) → parcel.from ≡ end.key.from
gave_one end h parcel ds (Over over is) = absurd (let bad : Took (Ok (parcel, ds)) ≡ Took (Err refused.Ended) = is in cc)
gave_one end h parcel ds (NoneThere goes_on none is) = absurd (let bad : Took (Ok (parcel, ds)) ≡ Took (Err refused.Empty) = is in cc)
gave_one end h parcel ds (Taken goes_on other es taken is) = ap (λ (p : Parcel). p.from) (took_one parcel other ds es is) ∙ taken.from

-- a take of one sender serves that one
pub from_one : (place : Place) (h : List Entry) (query motion : ℕ) (sender : ℤ) (ends : List ConnEnd) (answer : Result (Parcel × List Datagram) HubNo) (parcel : Parcel)
    → AreEnds place query ends → (ends ≢ [] → IsLive query ends h) → HearsFrom ends motion sender
    → HubLaw place (h ++ take_from_entry (key_of place.session query motion sender place.at) answer ∷ []) → IsGiven answer parcel → parcel.from ≡ sender
from_one place h query motion sender ends answer parcel are lives hears now given =
    let key = key_of place.session query motion sender place.at in
    let at = heard_at place query ends motion sender are hears in
    let live = lives (not_none ends at.end at.among) in
    let e : Entry = take_from_entry key (Ok (parcel, given.0)) in
    let now_is : HubLaw place (h ++ e ∷ []) = subst (λ r. HubLaw place (h ++ take_from_entry key r ∷ [])) given.1 now in
    let query_is : at.end.key.query ≡ query = ap (λ (k : ConnKey). k.query) at.key_is in
    let here : IsHere at.end h = record { ends = ends; live = subst (λ n. IsLive n ends h) (sym query_is) live; stands = at.among } in
    let asked : TakeFrom key ≡ TakeFrom at.end.key = ap TakeFrom (sym at.key_is) in
    gave_one at.end h parcel given.0 (((now_is h e [] refl).answered at.end at.receiving here).take_from asked (λ bad. cc)) ∙ ap (λ (k : ConnKey). k.from) at.key_is

-- ---- of a node

if_ok : {A E : Type 0} (P Q : A → Type 0) → ((x : A) → P x → Q x) → (r : Result A E) → IfOk r P → IfOk r Q
if_ok P Q f (Ok x) h = f x h
if_ok P Q f (Err e) h = tt

law_of : (n : Noding) (hub : Hubbing) (h : List Entry) → SamePlace n.hub hub → Stands hub h → HubLaw (place_of n) h
law_of n hub h same stands = subst (λ p. HubLaw p h) (place_same n.hub hub same) stands.goes.law

pub any_from : (n m : Noding) (hub : Hubbing) (motion : ℕ) (answer : Result (Parcel × List Datagram) HubNo) (told : Result Parcel PortNo)
    → IsNode n → n ≡ m → SamePlace n.hub hub → ((h : List Entry) → Stands n.hub h → Stands hub (h ++ take_entry n.query motion answer ∷ []))
    → Hears m.ends motion → IfOk told (IsGiven answer) → IfOk told (λ (p : Parcel). HearsFrom m.ends motion p.from)
any_from n m hub motion answer told is view same stands hears given =
    let was : Stands n.hub n.entries = is.stands in
    let heard : Hears n.ends motion = subst (λ (x : Noding). Hears x.ends motion) (sym view) hears in
    subst (λ (x : Noding). IfOk told (λ (p : Parcel). HearsFrom x.ends motion p.from)) view
    (if_ok (IsGiven answer) (λ (p : Parcel). HearsFrom n.ends motion p.from)
    (λ p here. from_any (place_of n) n.entries n.query motion n.ends answer p is.ends_are is.live heard was.goes.law (law_of n hub (n.entries ++ take_entry n.query motion answer ∷ []) same (stands n.entries was)) here)
    told given)

pub one_from : (n m : Noding) (hub : Hubbing) (key : ConnKey) (motion : ℕ) (sender : ℤ) (answer : Result (Parcel × List Datagram) HubNo) (told : Result Parcel PortNo)
    → IsNode n → n ≡ m → SamePlace n.hub hub → key ≡ key_of n.hub.session n.query motion sender n.hub.at
    → ((h : List Entry) → Stands n.hub h → Stands hub (h ++ take_from_entry key answer ∷ []))
    → HearsFrom m.ends motion sender → IfOk told (IsGiven answer) → IfOk told (λ (p : Parcel). p.from ≡ sender)
one_from n m hub key motion sender answer told is view same key_is stands hears given =
    let was : Stands n.hub n.entries = is.stands in
    let heard : HearsFrom n.ends motion sender = subst (λ (x : Noding). HearsFrom x.ends motion sender) (sym view) hears in
    let law = law_of n hub (n.entries ++ take_from_entry key answer ∷ []) same (stands n.entries was) in
    if_ok (IsGiven answer) (λ (p : Parcel). p.from ≡ sender)
    (λ p here. from_one (place_of n) n.entries n.query motion sender n.ends answer p is.ends_are is.live heard
    (subst (λ k. HubLaw (place_of n) (n.entries ++ take_from_entry k answer ∷ [])) key_is law) here)
    told given

-- ---- what a worker is told of a take

told_logs : (answer : Result (Parcel × List Datagram) HubNo) → LogsTake answer (told_of (own_of answer))
told_logs (Ok r) asked = refl
told_logs (Err refused.Full) asked = refl
told_logs (Err refused.Empty) asked = refl
told_logs (Err refused.Stopped) asked = refl
told_logs (Err refused.Ended) asked = refl
told_logs (Err (refused.TooLong key)) asked = refl
told_logs (Err (refused.Unknown query motion)) asked = refl
told_logs (Err refused.Memory) asked = refl

told_given : (answer : Result (Parcel × List Datagram) HubNo) → IfOk (told_of (own_of answer)) (IsGiven answer)
told_given (Ok r) = (r.1, refl)
told_given (Err refused.Full) = tt
told_given (Err refused.Empty) = tt
told_given (Err refused.Stopped) = tt
told_given (Err refused.Ended) = tt
told_given (Err (refused.TooLong key)) = tt
told_given (Err (refused.Unknown query motion)) = tt
told_given (Err refused.Memory) = tt

may_refuse : (own : Result Parcel HubNo) → IfErr (told_of own) MayRefuseTake
may_refuse (Ok p) = tt
may_refuse (Err refused.Full) = tt
may_refuse (Err refused.Empty) = tt
may_refuse (Err refused.Stopped) = tt
may_refuse (Err refused.Ended) = tt
may_refuse (Err (refused.TooLong key)) = tt
may_refuse (Err (refused.Unknown query motion)) = tt
may_refuse (Err refused.Memory) = tt

told_is : (answer : Result (Parcel × List Datagram) HubNo) (own : Result Parcel HubNo) (told : Result Parcel PortNo) → own ≡ own_of answer → told ≡ told_of own → told ≡ told_of (own_of answer)
told_is answer own told own_is is = is ∙ ap told_of own_is

-- the log has it
pub taken_logs : (answer : Result (Parcel × List Datagram) HubNo) (own : Result Parcel HubNo) (told : Result Parcel PortNo) → own ≡ own_of answer → told ≡ told_of own → LogsTake answer told
taken_logs answer own told own_is is = subst (LogsTake answer) (sym (told_is answer own told own_is is)) (told_logs answer)

-- the parcel is the hub's
pub taken_given : (answer : Result (Parcel × List Datagram) HubNo) (own : Result Parcel HubNo) (told : Result Parcel PortNo) → own ≡ own_of answer → told ≡ told_of own → IfOk told (IsGiven answer)
taken_given answer own told own_is is = subst (λ t. IfOk t (IsGiven answer)) (sym (told_is answer own told own_is is)) (told_given answer)

pub taken_may : (own : Result Parcel HubNo) (told : Result Parcel PortNo) → told ≡ told_of own → IfErr told MayRefuseTake
taken_may own told is = subst (λ t. IfErr t MayRefuseTake) (sym is) (may_refuse own)

-- it is never Busy
never_busy : (own : Result Parcel HubNo) → CountsBusy 0 0 (gave (told_of own))
never_busy (Ok p) = still (Gave p) (λ bad. cc)
never_busy (Err refused.Full) = still (Refused port.Memory) (λ bad. cc)
never_busy (Err refused.Empty) = still (Refused port.Empty) (λ bad. cc)
never_busy (Err refused.Stopped) = still (Refused port.Memory) (λ bad. cc)
never_busy (Err refused.Ended) = still (Refused port.Ended) (λ bad. cc)
never_busy (Err (refused.TooLong key)) = still (Refused port.Memory) (λ bad. cc)
never_busy (Err (refused.Unknown query motion)) = still (Refused port.Memory) (λ bad. cc)
never_busy (Err refused.Memory) = still (Refused port.Memory) (λ bad. cc)

pub taken_counts : (own : Result Parcel HubNo) (told : Result Parcel PortNo) → told ≡ told_of own → CountsBusy 0 0 (gave told)
taken_counts own told is = subst (λ t. CountsBusy 0 0 (gave t)) (sym is) (never_busy own)
