-- Of an end whose query was never begun, nothing was.
use Rattle.std.proofs.Common.{◌≡◌, ℕ, List, [], ◌∷◌, ◌++◌, Bool, false, refl, ap, sym, ◌∙◌, subst, arith}
use Rattle.std.specs.List.{Contains}
use Rattle.std.proofs.lemmas.List.Elements.{Contains-append_left, Contains-append_right}
use Rattle.ic_base.specs.declared.keys.ConnKey.{ConnKey}
use Rattle.ic_base.specs.declared.keys.ConnEnd.{ConnEnd}
use Rattle.ic_header.specs.declared.flags.Flags.TheVariants.{Ack, Stop, Disorder, Duplicate}
use Rattle.ic_law.specs.declared.history.HubAsk.TheVariants.{Take}
use Rattle.ic_law.specs.declared.history.Entry.{Entry}
use Rattle.ic_law.specs.Queries.{leaves, left_of}
use Rattle.ic_law.specs.Points.{Place, IsHere}
use Rattle.ic_law.specs.Arriving.{IsLiveQuery, IsOld}
use Rattle.ic_law.specs.Arriving.{AnswersTakeAny}
use Rattle.ic_law.specs.Emission.{EmissionPoint}
use Rattle.ic_law.specs.Hub.{HubPoint}
use Rattle.ic_law.proofs.Readings.{every_none, every_push, left_of-push}
use Rattle.ic_sender.specs.Entries.{IsBefore}
use Rattle.ic_receiver.specs.Entries.{IsSilent as IsSilentReceiving}
use Rattle.ic_hub_laws.specs.Entries.{HasEnd}
use Rattle.ic_hub_laws.specs.Laws.{IsAbout, AboutEnd, AboutNone, AboutTicks, StaysAhead, AheadGoesOn, Holds, GoesFirst, GoesOn}
use Rattle.ic_hub_laws.proofs.Concerned.{nothing_of, receives_apart, answers_none}
use Rattle.ic_hub_laws.proofs.Nought.{quiet, stops, tells_none}
use Rattle.ic_hub_laws.proofs.Ticked.{tick_nothing, tick_passes}
use Rattle.ic_law.proofs.Lives.{live_push}
use Rattle.ic_hub_laws.proofs.Whole.{law_goes_on, emission_goes_on}
use Rattle.ic_hub_laws.proofs.ConcernedPoints.{concerned_point}
use Rattle.ic_hub_laws.proofs.NoughtPoints.{nought_point}
use Rattle.ic_hub_laws.proofs.TickPoints.{tick_point}

-- ---- an end whose query isn't live

away : (end : ConnEnd) (h : List Entry) → (IsLiveQuery end.key.query h → ⊥) → IsHere end h → ⊥
away end h dead here = dead (here.ends, here.live)

-- an end that is here has a live query
live_of : (place : Place) (c k : ConnKey) (side : Bool) (h : List Entry) → HasEnd place c side h → k.query ≡ c.query → IsLiveQuery k.query h
live_of place c k side h has same = subst (λ n. IsLiveQuery n h) (ap (λ (x : ConnKey). x.query) has.key ∙ sym same) (has.here.ends, has.here.live)

-- an entry is before it
pub is_before : (place : Place) (h : List Entry) (e : Entry) (end : ConnEnd) → IsAbout place h e → (IsLiveQuery end.key.query h → ⊥) → IsBefore end h e
is_before place h e end (AboutEnd c side is has) dead =
    record { nothing = nothing_of place c end.key side e is (λ same sends. dead (live_of place c end.key side h has (ap (λ (x : ConnKey). x.query) same))); away = away end h dead }
is_before place h e end (AboutNone is) dead = record { nothing = (quiet place h e is).nothing end.key; away = away end h dead }
is_before place h e end (AboutTicks is) dead =
    record { nothing = tick_nothing h e end.key is (λ other here key sends. dead (subst (λ (k : ConnKey). IsLiveQuery k.query h) key (here.ends, here.live))); away = away end h dead }

-- and is silent for it
pub is_silent : (place : Place) (h : List Entry) (e : Entry) (end : ConnEnd) → IsAbout place h e → (IsLiveQuery end.key.query h → ⊥) → IsSilentReceiving end h e
is_silent place h e end (AboutEnd c side is has) dead =
    let apart : end.key.query ≡ c.query → ⊥ = (λ same. dead (live_of place c end.key side h has same)) in
    let none = receives_apart place c end.key side e is.asks apart in
    let other : end.key ≡ c → side ≡ false → ⊥ = (λ same receives. apart (ap (λ (x : ConnKey). x.query) same)) in
    record {
      takes_none = none.takes_none;
      stores_none = none.stores_none;
      halts_none = none.halts_none;
      ack = λ p w. answers_none place c end.key side e is other Ack p refl w;
      duplicate = λ p w. answers_none place c end.key side e is other Duplicate p refl w;
      disorder = λ p w. answers_none place c end.key side e is other Disorder p refl w;
      stop = λ p w. absurd (answers_none place c end.key side e is other Stop p refl w);
      rows = λ here d q asked directed reads. absurd (away end h dead here);
      query = λ here d p asked directed reads key flags. absurd (away end h dead here);
      take_from = λ here asked. absurd (away end h dead here);
      halt = λ here asked. absurd (away end h dead here);
    }
is_silent place h e end (AboutNone is) dead =
    let q = quiet place h e is in
    let none = tells_none h e end.key q in
    record {
      takes_none = q.takes_none end.key;
      stores_none = q.stores_none end.key;
      halts_none = q.halts_none end.key;
      ack = none.ack;
      duplicate = none.duplicate;
      disorder = none.disorder;
      stop = stops h e end.key q;
      rows = λ here d x asked directed reads. absurd (away end h dead here);
      query = λ here d p asked directed reads key flags. absurd (away end h dead here);
      take_from = λ here asked. absurd (away end h dead here);
      halt = λ here asked. absurd (away end h dead here);
    }
is_silent place h e end (AboutTicks is) dead = (tick_passes h e end is).1

-- ---- the laws

pub stays_ahead : StaysAhead
stays_ahead place h e end is dead old =
    record { sends = every_push (IsBefore end) h e old.sends (is_before place h e end is dead); receives = every_push (IsSilentReceiving end) h e old.receives (is_silent place h e end is dead) }

-- a query that isn't live and not old after an entry was neither before
old_before : (q : ℕ) (h : List Entry) (e : Entry) → IsOld q h → IsOld q (h ++ e ∷ [])
old_before q h e old = (old.0, subst (λ l. Contains l old.0) (sym (left_of-push h e)) (Contains-append_left (left_of h) (leaves e) old.0 old.1), old.2)

old_now : (q : ℕ) (h : List Entry) (e : Entry) → Contains (leaves e) q → IsOld q (h ++ e ∷ [])
old_now q h e at = (q, subst (λ l. Contains l q) (sym (left_of-push h e)) (Contains-append_right (left_of h) (leaves e) q at), omega arith)

pub ahead_goes_on : AheadGoesOn
ahead_goes_on place h e is ahead end dead young =
    let q = end.key.query in
    let dead_before : IsLiveQuery q h → ⊥ = (λ live. dead (live.0, live_push q live.0 h e live.1 (λ at. young (old_now q h e at)))) in
    stays_ahead place h e end is dead_before (ahead end dead_before (λ old. young (old_before q h e old)))

-- ---- all of it

-- the points of the entry
about_point : (place : Place) (h : List Entry) (e : Entry) → IsAbout place h e → Holds place h e → ((query motion : ℕ) → e.ask ≡ Take query motion → AnswersTakeAny query motion h e.reply) → HubPoint place h e
about_point place h e (AboutEnd c side is has) holds take = concerned_point place c side h e is has holds take
about_point place h e (AboutNone is) holds take = nought_point place h e is holds
about_point place h e (AboutTicks is) holds take = tick_point place h e is holds

pub goes_on : GoesOn
goes_on place h e is holds take order emission ahead = record {
  law = law_goes_on place h e holds.law (about_point place h e is holds take);
  emission = emission_goes_on place h e emission holds.keeps order;
  ahead = ahead_goes_on place h e is ahead;
}

pub goes_first : GoesFirst
goes_first place = record {
  law = every_none (HubPoint place);
  emission = every_none (EmissionPoint place);
  ahead = λ end dead young. record { sends = every_none (IsBefore end); receives = every_none (IsSilentReceiving end) };
}
