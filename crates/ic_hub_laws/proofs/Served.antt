-- Which sender of a motion was served last.
use Rattle.std.proofs.Common.{◌≡◌, ℕ, ℤ, List, [], ◌∷◌, ◌++◌, Bool, true, false, cond, ◌&&◌, ◌==◌, Some, None, Ok, refl, ap, sym, ◌∙◌, subst, inl, inr}
use Rattle.std.proofs.Common.{append_assoc}
use Rattle.std.specs.List.{Contains, flat_map}
use Rattle.std.specs.Ordering.{int_eq}
use Rattle.std.proofs.lemmas.List.Elements.{Contains-append_cases}
use Rattle.std.proofs.lemmas.Bool.Decides.{Decides-eqb, Decides-int_eq}
use Rattle.ic_base.specs.declared.keys.ConnKey.{ConnKey}
use Rattle.ic_base.specs.declared.keys.ConnEnd.{ConnEnd}
use Rattle.ic_law.specs.declared.history.HubAsk.TheVariants.{Take}
use Rattle.ic_law.specs.declared.history.HubReply.TheVariants.{Took}
use Rattle.ic_law.specs.declared.history.Entry.{Entry}
use Rattle.ic_law.specs.Taking.{takes}
use Rattle.ic_law.specs.Arriving.{IsServed, Nobody, Somebody}
use Rattle.ic_law.proofs.Lists.{Contains-none, Contains-one, Contains-flat_map}
use Rattle.ic_hub_laws.specs.Serving.{ServedBefore, ServedNow, ServedNobody}
use Rattle.ic_law.proofs.Datagrams.{entry_is, flag_of_true}

pub served_before : ServedBefore
served_before query motion h e None none (Nobody never) = Nobody (λ x from at is. elim (Contains-append_cases h (e ∷ []) x at) [
  | inl there ↦ never x from there is
  | inr now ↦ none from (subst (λ y. IsServed query motion y from) (Contains-one e x now) is)
])
served_before query motion h e (Some last) none (Somebody before s after from all is never) =
    Somebody before s (after ++ e ∷ []) from (ap (λ l. l ++ e ∷ []) all ∙ append_assoc before (s ∷ after) (e ∷ [])) is
    (λ x other at served. elim (Contains-append_cases after (e ∷ []) x at) [
      | inl there ↦ never x other there served
      | inr now ↦ none other (subst (λ y. IsServed query motion y other) (Contains-one e x now) served)
    ])

pub served_now : ServedNow
served_now query motion h e from is = Somebody h e [] from refl is (λ x other at served. Contains-none x at)

-- ---- a query that was never begun

-- an element has a place
split : (h : List Entry) (x : Entry) → Contains h x → (before : List Entry) × (after : List Entry) × (h ≡ before ++ x ∷ after)
split h x at = let w = Contains-flat_map one h x (subst (λ l. Contains l x) (sym (ones h)) at) in (w.0, w.2, w.3 ∙ ap (λ y. w.0 ++ y ∷ w.2) (sym (Contains-one w.1 x w.4)))
  where
    one : Entry → List Entry
    one y = y ∷ []

    ones : (l : List Entry) → flat_map one l ≡ l
    ones [] = refl
    ones (y ∷ l) = ap (λ r. y ∷ r) (ones l)

-- what serves a sender takes a parcel of its connection
takes_one : (query motion : ℕ) (e : Entry) (from : ℤ) (to : ℤ) (w : IsServed query motion e from) → takes (record { session = 0; query = query; motion = motion; from = from; to = to }) e ≡ w.parcel ∷ []
takes_one query motion e from to w =
    ap (takes (record { session = 0; query = query; motion = motion; from = from; to = to })) (entry_is e (Take query motion) (Took (Ok (w.parcel, w.ds))) w.ask w.reply)
    ∙ by (query == query) (motion == motion) (int_eq w.parcel.from from) ((Decides-eqb query query).1 refl) ((Decides-eqb motion motion).1 refl) ((Decides-int_eq w.parcel.from from).1 (sym w.sender))
  where
    by : (x y z : Bool) → x ≡ true → y ≡ true → z ≡ true → cond (x && y) (cond z (w.parcel ∷ []) []) [] ≡ w.parcel ∷ []
    by true true true a b c = refl
    by true true false a b c = absurd (flag_of_true false c refl)
    by true false z a b c = absurd (flag_of_true false b refl)
    by false y z a b c = absurd (flag_of_true false a refl)

pub served_nobody : ServedNobody
served_nobody query motion h ahead dead young = Nobody (λ x from at is.
    let key : ConnKey = record { session = 0; query = query; motion = motion; from = from; to = from } in
    let end : ConnEnd = record { key = key; sending = false; send_slice = 0; recv_slice = 0 } in
    let w = split h x at in
    let none = ((ahead end dead young).receives w.0 x w.1 w.2).takes_none in
    let bad : [] ≡ is.parcel ∷ [] = sym none ∙ takes_one query motion x from from is in
    cc)
