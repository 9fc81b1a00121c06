-- Whether a query is live, and whether an end is here, can be told from a history.
use Rattle.std.proofs.Common.{◌≡◌, ℕ, List, [], ◌∷◌, ◌++◌, Bool, true, false, ◌==◌, refl, ap, sym, ◌∙◌, subst, inl, inr, ◌⊎◌, append_assoc, append-nil}
use Rattle.std.specs.List.{Contains}
use Rattle.std.proofs.lemmas.Bool.Decides.{Decides-eqb}
use Rattle.ic_base.specs.declared.keys.ConnKey.{ConnKey}
use Rattle.ic_base.specs.declared.keys.ConnEnd.{ConnEnd}
use Rattle.ic_base.specs.Keys.{key_eq}
use Rattle.ic_base.proofs.SameKeys.{Decides-key_eq}
use Rattle.ic_law.specs.declared.history.HubAsk.{HubAsk}
use Rattle.ic_law.specs.declared.history.HubAsk.TheVariants.{Begin, Put, Finish, Take, TakeFrom, Halt, Arrive, Tick, Clear, Leave}
use Rattle.ic_law.specs.declared.history.Entry.{Entry}
use Rattle.ic_law.specs.Queries.{was_begun, leaves}
use Rattle.ic_law.specs.Points.{Place, IsLive, IsHere}
use Rattle.ic_law.specs.Arriving.{IsLiveQuery, IsUnknownKey, IsOfMotion}
use Rattle.ic_law.proofs.Lists.{Contains-none, Contains-head, Contains-tail, head_or_tail}
use Rattle.ic_law.specs.Hub.{HubLaw}
use Rattle.ic_law.proofs.Lives.{Starts, live_push, live_pull, live_now, live_once}

abbrev pub Told : Type 0 → Type 0
Told A = A ⊎ (A → ⊥)

-- ---- tests

told_bool : (b : Bool) → Told (b ≡ true)
told_bool true = inl refl
told_bool false = inr (λ h. let bad : false ≡ true = h in cc)

pub told_nat : (a b : ℕ) → Told (a ≡ b)
told_nat a b = elim (told_bool (a == b)) [ inl h ↦ inl ((Decides-eqb a b).0 h) | inr h ↦ inr (λ same. h ((Decides-eqb a b).1 same)) ]

pub told_key : (a b : ConnKey) → Told (a ≡ b)
told_key a b = elim (told_bool (key_eq a b)) [ inl h ↦ inl ((Decides-key_eq a b).0 h) | inr h ↦ inr (λ same. h ((Decides-key_eq a b).1 same)) ]

pub told_side : (a b : Bool) → Told (a ≡ b)
told_side true true = inl refl
told_side true false = inr (λ h. let bad : true ≡ false = h in cc)
told_side false true = inr (λ h. let bad : false ≡ true = h in cc)
told_side false false = inl refl

-- ---- live queries

record StartsIt (q : ℕ) (e : Entry) : Type 0 where
  pub ends : List ConnEnd
  pub starts : Starts q ends e

told_start : (q : ℕ) (e : Entry) → Told (StartsIt q e)
told_start q e = by e.ask refl
  where
    never : ((n : ℕ) (ends : List ConnEnd) → e.ask ≡ Begin n ends → ⊥) → Told (StartsIt q e)
    never no_one = inr (λ w. no_one q w.ends w.starts.ask)

    by : (ask : HubAsk) → e.ask ≡ ask → Told (StartsIt q e)
    by (Begin n ends) is = elim (told_nat n q) [
      | inl same ↦ elim (told_bool (was_begun e.reply)) [
        | inl begun ↦ inl (record { ends = ends; starts = record { ask = is ∙ ap (λ x. Begin x ends) same; begun = begun } })
        | inr none ↦ inr (λ w. none w.starts.begun)
      ]
      | inr other ↦ inr (λ w. let both : Begin n ends ≡ Begin q w.ends = sym is ∙ w.starts.ask in other (let same : n ≡ q = cc in same))
    ]
    by (Put key chunk) is = never (λ n ends at. let bad : Put key chunk ≡ Begin n ends = sym is ∙ at in cc)
    by (Finish key) is = never (λ n ends at. let bad : Finish key ≡ Begin n ends = sym is ∙ at in cc)
    by (Take query motion) is = never (λ n ends at. let bad : Take query motion ≡ Begin n ends = sym is ∙ at in cc)
    by (TakeFrom key) is = never (λ n ends at. let bad : TakeFrom key ≡ Begin n ends = sym is ∙ at in cc)
    by (Halt key) is = never (λ n ends at. let bad : Halt key ≡ Begin n ends = sym is ∙ at in cc)
    by (Arrive d) is = never (λ n ends at. let bad : Arrive d ≡ Begin n ends = sym is ∙ at in cc)
    by Tick is = never (λ n ends at. let bad : Tick ≡ Begin n ends = sym is ∙ at in cc)
    by (Clear query) is = never (λ n ends at. let bad : Clear query ≡ Begin n ends = sym is ∙ at in cc)
    by (Leave query) is = never (λ n ends at. let bad : Leave query ≡ Begin n ends = sym is ∙ at in cc)

pub told_among : (ns : List ℕ) (q : ℕ) → Told (Contains ns q)
told_among [] q = inr (Contains-none q)
told_among (n ∷ ns) q = elim (told_nat n q) [
  | inl same ↦ inl (subst (λ x. Contains (n ∷ ns) x) same (Contains-head n ns))
  | inr other ↦ elim (told_among ns q) [
    | inl there ↦ inl (Contains-tail n ns q there)
    | inr none ↦ inr (λ at. elim (head_or_tail n ns q at) [ inl same ↦ other same | inr there ↦ none there ])
  ]
]

pub told_live : (q : ℕ) (h : List Entry) → Told (IsLiveQuery q h)
told_live q h = go [] h (inr (λ w. let none : [] ≡ w.1.before ++ record { ask = Begin q w.0; reply = w.1.reply } ∷ w.1.after = w.1.all in nothing w.1.before _ w.1.after none)) refl
  where
    nothing : (before : List Entry) (e : Entry) (after : List Entry) → [] ≡ before ++ e ∷ after → ⊥
    nothing [] e after h = let bad : [] ≡ e ∷ after = h in cc
    nothing (b ∷ before) e after h = let bad : [] ≡ b ∷ (before ++ e ∷ after) = h in cc

    step : (before : List Entry) (e : Entry) → Told (IsLiveQuery q before) → Told (IsLiveQuery q (before ++ e ∷ []))
    step before e old = elim (told_start q e) [
      | inl w ↦ inl (w.ends, live_now q w.ends before e w.starts.ask w.starts.begun)
      | inr none ↦ elim old [
        | inl live ↦ elim (told_among (leaves e) q) [
          | inl left ↦ inr (λ w. elim (live_pull q w.0 before e w.1) [ inl s ↦ none (record { ends = w.0; starts = s }) | inr l ↦ l.1 left ])
          | inr stays ↦ inl (live.0, live_push q live.0 before e live.1 stays)
        ]
        | inr dead ↦ inr (λ w. elim (live_pull q w.0 before e w.1) [ inl s ↦ none (record { ends = w.0; starts = s }) | inr l ↦ dead (w.0, l.0) ])
      ]
    ]

    go : (before after : List Entry) → Told (IsLiveQuery q before) → h ≡ before ++ after → Told (IsLiveQuery q h)
    go before [] told at = subst (λ l. Told (IsLiveQuery q l)) (sym (at ∙ append-nil before)) told
    go before (e ∷ after) told at = go (before ++ e ∷ []) after (step before e told) (at ∙ sym (append_assoc before (e ∷ []) after))

-- ---- ends

-- an end of a list with a property that can be told
record Among (P : ConnEnd → Type 0) (ends : List ConnEnd) : Type 0 where
  pub end : ConnEnd
  pub stands : Contains ends end
  pub has : P end

told_end : (P : ConnEnd → Type 0) → ((end : ConnEnd) → Told (P end)) → (ends : List ConnEnd) → Told (Among P ends)
told_end P test [] = inr (λ w. Contains-none w.end w.stands)
told_end P test (x ∷ ends) = elim (test x) [
  | inl has ↦ inl (record { end = x; stands = Contains-head x ends; has = has })
  | inr not_it ↦ elim (told_end P test ends) [
    | inl w ↦ inl (record { end = w.end; stands = Contains-tail x ends w.end w.stands; has = w.has })
    | inr none ↦ inr (λ w. elim (head_or_tail x ends w.end w.stands) [ inl same ↦ not_it (subst P (sym same) w.has) | inr there ↦ none (record { end = w.end; stands = there; has = w.has }) ])
  ]
]

-- an end of this key and side is here
pub record HereWith (key : ConnKey) (side : Bool) (h : List Entry) : Type 0 where
  pub end : ConnEnd
  pub here : IsHere end h
  pub key_is : end.key ≡ key
  pub side_is : end.sending ≡ side

both_told : {A B : Type 0} → Told A → Told B → Told (A × B)
both_told (inl a) (inl b) = inl (a, b)
both_told (inl a) (inr b) = inr (λ w. b w.1)
both_told (inr a) b = inr (λ w. a w.0)

pub told_here : (place : Place) (key : ConnKey) (side : Bool) (h : List Entry) → HubLaw place h → HereWith key side h ⊎ IsUnknownKey side key h
told_here place key side h law =
    elim (told_live key.query h) [
      | inl live ↦ elim (told_end (λ end. (end.key ≡ key) × (end.sending ≡ side)) (λ end. both_told (told_key end.key key) (told_side end.sending side)) live.0) [
        | inl w ↦ inl (record {
          end = w.end;
          here = record { ends = live.0; live = subst (λ (k : ConnKey). IsLive k.query live.0 h) (sym w.has.0) live.1; stands = w.stands };
          key_is = w.has.0;
          side_is = w.has.1;
        })
        | inr none ↦ inr (λ end here same is. none (record {
          end = end;
          stands = subst (λ l. Contains l end) (live_once place h key.query here.ends live.0 law (subst (λ (k : ConnKey). IsLive k.query here.ends h) same here.live) live.1) here.stands;
          has = (same, is);
        }))
      ]
      | inr dead ↦ inr (λ end here same is. dead (here.ends, subst (λ (k : ConnKey). IsLive k.query here.ends h) same here.live))
    ]

-- a receiving end of this motion is here
pub record MotionHere (query motion : ℕ) (h : List Entry) : Type 0 where
  pub end : ConnEnd
  pub is : IsOfMotion query motion end h

pub told_motion : (place : Place) (query motion : ℕ) (h : List Entry) → HubLaw place h → MotionHere query motion h ⊎ ((end : ConnEnd) → IsOfMotion query motion end h → ⊥)
told_motion place query motion h law =
    elim (told_live query h) [
      | inl live ↦ elim (told_end (λ end. ((end.key.query ≡ query) × (end.key.motion ≡ motion)) × (end.sending ≡ false)) (λ end. both_told (both_told (told_nat end.key.query query) (told_nat end.key.motion motion)) (told_side end.sending false)) live.0) [
        | inl w ↦ inl (record {
          end = w.end;
          is = record {
            here = record { ends = live.0; live = subst (λ n. IsLive n live.0 h) (sym w.has.0.0) live.1; stands = w.stands };
            receiving = w.has.1;
            query_is = w.has.0.0;
            motion_is = w.has.0.1;
          };
        })
        | inr none ↦ inr (λ end is. none (record {
          end = end;
          stands = subst (λ l. Contains l end) (live_once place h query is.here.ends live.0 law (subst (λ n. IsLive n is.here.ends h) is.query_is is.here.live) live.1) is.here.stands;
          has = ((is.query_is, is.motion_is), is.receiving);
        }))
      ]
      | inr dead ↦ inr (λ end is. dead (is.here.ends, subst (λ n. IsLive n is.here.ends h) is.query_is is.here.live))
    ]
