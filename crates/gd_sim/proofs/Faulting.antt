-- The connection of a fault is of the query that isn't over.
use Rattle.std.proofs.Common.{◌≡◌, ◌≢◌, ◌⊎◌, ℕ, ◌<◌, ◌≤◌, List, [], ◌∷◌, ◌++◌, map, Bool, true, false, cond, Err, refl, ap, sym, ◌∙◌, subst, arith, inl, inr}
use Rattle.std.specs.List.{Contains}
use Rattle.std.proofs.lemmas.Bool.{cases_lt}
use Rattle.std.proofs.lemmas.List.Elements.{Contains-append_cases}
use Rattle.ic_base.specs.declared.keys.ConnKey.{ConnKey}
use Rattle.ic_base.specs.declared.keys.ConnEnd.{ConnEnd}
use Rattle.ic_base.specs.declared.settings.Settings.{Settings}
use Rattle.ic_law.specs.declared.history.HubAsk.TheVariants.{Begin, Tick}
use Rattle.ic_law.specs.declared.history.HubReply.{HubReply}
use Rattle.ic_law.specs.declared.history.HubReply.TheVariants.{Gave, Ticked, Memory}
use Rattle.ic_law.specs.declared.history.HubNo.TheVariants as hub
use Rattle.ic_law.specs.declared.history.TickNo.TheVariants as tick
use Rattle.ic_law.specs.declared.history.Entry.{Entry}
use Rattle.ic_law.specs.Queries.{left_of, leaves, left_by, was_begun}
use Rattle.ic_law.specs.Points.{Place, IsLive, IsHere}
use Rattle.ic_law.specs.Arriving.{AnswersBegin, IsOldOne, IsTwice, IsNew, IsUnknownKey, unknown}
use Rattle.ic_law.specs.Timers.{Timer}
use Rattle.ic_law.specs.Spending.{packets_spent, query_spent, spent_of}
use Rattle.ic_law.specs.Hub.{HubLaw, HubPoint}
use Rattle.ic_law.proofs.Lists.{Contains-none, Contains-head, Contains-one, Contains-middle, map-Contains, flat_map-append, Contains-flat_map, flat_map-Contains}
use Rattle.ic_law.proofs.Lives.{live_push}
use Rattle.ic_port.specs.Calls.{begins, begins_of}
use Rattle.gd_sim.specs.Run.{PutsOn}

-- ---- one live query

-- The history of a hub that was asked to begin queries from 1 up to this one, and left all before it.
pub record Alone (place : Place) (query : ℕ) (h : List Entry) : Type 0 where
  pub law : HubLaw place h
  pub begun : (n : ℕ) → Contains (begins_of h) n → (1 ≤ n) × (n ≤ query)
  pub left : (n : ℕ) → 1 ≤ n → n < query → Contains (left_of h) n

no_memory : (reply : HubReply) → was_begun reply ≡ true → reply ≢ Memory
no_memory reply begun is = let bad : false ≡ true = sym (ap was_begun is) ∙ begun in absurd cc

-- a live query was asked to begin
begun_live : (q : ℕ) (ends : List ConnEnd) (h : List Entry) → IsLive q ends h → Contains (begins_of h) q
begun_live q ends h live =
    let e : Entry = record { ask = Begin q ends; reply = live.reply } in
    flat_map-Contains begins h e q (subst (λ l. Contains l e) (sym live.all) (Contains-middle live.before e live.after)) (Contains-head q [])

is_young : (q : ℕ) (h : List Entry) (reply : HubReply) → AnswersBegin q h reply → was_begun reply ≡ true → Contains (left_of h) q → ⊥
is_young q h reply (IsOldOne top greatest under is) begun left = let bad : false ≡ true = sym (ap was_begun is) ∙ begun in absurd cc
is_young q h reply (IsTwice young live is) begun left = let bad : false ≡ true = sym (ap was_begun is) ∙ begun in absurd cc
is_young q h reply (IsNew young dead is) begun left = young (q, left, omega arith)

-- it was never left
not_left : (place : Place) (q : ℕ) (ends : List ConnEnd) (h : List Entry) → HubLaw place h → IsLive q ends h → Contains (left_of h) q → ⊥
not_left place q ends h law live left =
    let e : Entry = record { ask = Begin q ends; reply = live.reply } in
    let point : HubPoint place live.before e = law live.before e live.after live.all in
    let split : left_of h ≡ left_of live.before ++ left_of live.after = ap left_of live.all ∙ flat_map-append leaves live.before (e ∷ live.after) in
    elim (Contains-append_cases (left_of live.before) (left_of live.after) q (subst (λ l. Contains l q) split left)) [
      | inl before ↦ is_young q live.before live.reply (point.begin q ends refl (no_memory live.reply live.begun)) live.begun before
      | inr after ↦ live.stays after
    ]

-- so it is the last
only : (place : Place) (query : ℕ) (h : List Entry) (q : ℕ) (ends : List ConnEnd) → Alone place query h → IsLive q ends h → q ≡ query
only place query h q ends alone live =
    let within = alone.begun q (begun_live q ends h live) in
    elim (cases_lt q query) [
      | inl less ↦ absurd (not_left place q ends h alone.law live (alone.left q within.0 less))
      | inr least ↦ (let most = within.1 in omega (arith, least, most))
    ]

-- whose keys its ends have
own : (place : Place) (q : ℕ) (ends : List ConnEnd) (h : List Entry) → HubLaw place h → IsLive q ends h → (end : ConnEnd) → Contains ends end → end.key.query ≡ q
own place q ends h law live end has =
    let e : Entry = record { ask = Begin q ends; reply = live.reply } in
    let point : HubPoint place live.before e = law live.before e live.after live.all in
    let are = point.allowed (no_memory live.reply live.begun) in
    (are.each end has).query_is

-- ---- a packet that is given up

in_packets : (b : Bool) (k key : ConnKey) (seq : ℕ) (ts : List Timer) → Contains {X = ConnKey × ℕ} (cond b (map (λ (x : Timer). (k, x.seq)) ts) []) (key, seq) → k ≡ key
in_packets false k key seq ts at = absurd (Contains-none (key, seq) at)
in_packets true k key seq ts at =
    let w = map-Contains (λ (x : Timer). (k, x.seq)) ts (key, seq) at in
    sym (ap (λ (p : ConnKey × ℕ). p.0) w.2)

in_query : (b : Bool) (k key : ConnKey) (n seq : ℕ) → Contains {X = ConnKey × ℕ} (cond b ((k, n) ∷ []) []) (key, seq) → k ≡ key
in_query false k key n seq at = absurd (Contains-none (key, seq) at)
in_query true k key n seq at = sym (ap (λ (p : ConnKey × ℕ). p.0) (Contains-one (k, n) (key, seq) at))

-- what is given up first is of one of the ends
end_spent : (settings : Settings) (before : List Entry) (ends : List ConnEnd) (key : ConnKey) (seq : ℕ) (more : List (ConnKey × ℕ))
    → spent_of settings before ends ≡ (key, seq) ∷ more → (end : ConnEnd) × Contains ends end × (end.key ≡ key)
end_spent settings before ends key seq more first =
    let at : Contains (spent_of settings before ends) (key, seq) = subst (λ l. Contains l (key, seq)) (sym first) (Contains-head (key, seq) more) in
    elim (Contains-append_cases _ _ (key, seq) at) [
      | inl packets ↦ (
          let w = Contains-flat_map (packets_spent settings before) ends (key, seq) packets in
          let end : ConnEnd = w.1 in
          (end, subst (λ l. Contains l end) (sym w.3) (Contains-middle w.0 end w.2), in_packets end.sending end.key key seq _ w.4))
      | inr queries ↦ (
          let w = Contains-flat_map (query_spent settings before) ends (key, seq) queries in
          let end : ConnEnd = w.1 in
          (end, subst (λ l. Contains l end) (sym w.3) (Contains-middle w.0 end w.2), in_query _ end.key key _ seq w.4))
    ]

same_spent : (key k : ConnKey) (seq s tries retries : ℕ) → tick.Spent key seq tries ≡ tick.Spent k s retries → key ≡ k
same_spent key k seq s tries retries is = cc

-- the tick that is refused for it was asked while the query was live
pub spent_is_of : (place : Place) (query : ℕ) (h before : List Entry) (key : ConnKey) (seq tries : ℕ) → Alone place query h
    → h ≡ before ++ record { ask = Tick; reply = Ticked (Err (tick.Spent key seq tries)) } ∷ [] → key.query ≡ query
spent_is_of place query h before key seq tries alone all =
    let e : Entry = record { ask = Tick; reply = Ticked (Err (tick.Spent key seq tries)) } in
    let w = (alone.law before e [] all).tick (tick.Spent key seq tries) refl in
    let first = w.2 in
    let same : key ≡ w.0 = same_spent key w.0 seq w.1 tries place.settings.retries w.3 in
    let live : IsLive first.query first.ends h = subst (λ l. IsLive first.query first.ends l) (sym all) (live_push first.query first.ends before e first.live (λ at. Contains-none first.query at)) in
    let end = end_spent place.settings before first.ends w.0 w.1 first.more first.first in
    ap (λ (k : ConnKey). k.query) (same ∙ sym end.2) ∙ own place first.query first.ends h alone.law live end.0 end.1 ∙ only place query h first.query first.ends alone live

-- ---- numbers that are used up

-- the end of the connection is there
is_known : (place : Place) (query : ℕ) (h before : List Entry) (e : Entry) (key : ConnKey) → Alone place query h → h ≡ before ++ e ∷ [] → leaves e ≡ []
    → (end : ConnEnd) → IsHere end before → end.key ≡ key → key.query ≡ query
is_known place query h before e key alone all none end here is =
    let live : IsLive end.key.query here.ends h =
    subst (λ l. IsLive end.key.query here.ends l) (sym all) (live_push end.key.query here.ends before e here.live (λ at. Contains-none end.key.query (subst (λ l. Contains l end.key.query) none at))) in
    ap (λ (k : ConnKey). k.query) (sym is) ∙ only place query h end.key.query here.ends alone live

same_or_not : (m n : ℕ) → (m ≡ n) ⊎ ((m ≡ n) → ⊥)
same_or_not m n = elim (cases_lt m n) [
  | inl less ↦ inr (λ is. absurd (omega (arith, less, is)))
  | inr least ↦ elim (cases_lt n m) [ inl more ↦ inr (λ is. absurd (omega (arith, more, is))) | inr most ↦ inl (omega (arith, least, most)) ]
]

-- the put that is refused for them was asked while the query was live
pub used_is_of : (place : Place) (query : ℕ) (h before : List Entry) (e : Entry) (key which : ConnKey) → Alone place query h → h ≡ before ++ e ∷ [] → PutsOn key e.ask
    → e.reply ≡ Gave (Err (hub.TooLong which)) → key.query ≡ query
used_is_of place query h before e key which alone all puts replied = elim (same_or_not key.query query) [
  | inl same ↦ same
  | inr differ ↦ absurd (refuses puts differ)
]
  where
    known_not : leaves e ≡ [] → ((key.query ≡ query) → ⊥) → IsUnknownKey true key before
    known_not none differ end here is sends = differ (is_known place query h before e key alone all none end here is)

    given : e.reply ≢ Memory
    given is = let bad : Gave (Err (hub.TooLong which)) ≡ Memory = sym replied ∙ is in absurd cc

    apart : e.reply ≡ Gave (Err (unknown key.query key.motion)) → ⊥
    apart is = let bad : Gave (Err (hub.TooLong which)) ≡ Gave (Err (unknown key.query key.motion)) = sym replied ∙ is in absurd cc

    refuses : PutsOn key e.ask → ((key.query ≡ query) → ⊥) → ⊥
    refuses (inl put) differ = apart ((alone.law before e [] all).known.put key put.0 put.1 (known_not (ap (λ a. left_by a e.reply) put.1) differ) given)
    refuses (inr finish) differ = apart ((alone.law before e [] all).known.finish key finish (known_not (ap (λ a. left_by a e.reply) finish) differ) given)
