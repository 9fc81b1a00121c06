-- What an ask is answered, in each lawful history that is these entries so far: the reply that the laws leave, computed.
use Rattle.std.proofs.Common.{◌≡◌, ℕ, List, [], ◌∷◌, ◌++◌, map, true, false, Ok, Err, Some, refl, ap, sym, ◌∙◌, subst, append_assoc, arith, cond}
use Rattle.std.specs.List.{Contains, flat_map}
use Rattle.ic_base.specs.declared.keys.ConnEnd.{ConnEnd}
use Rattle.ic_base.specs.declared.datagram.Datagram.{Datagram}
use Rattle.ic_law.specs.declared.history.HubAsk.{HubAsk}
use Rattle.ic_law.specs.declared.history.HubAsk.TheVariants.{Begin, Put, Finish, Take, TakeFrom, Halt, Arrive, Tick, Clear, Leave}
use Rattle.ic_law.specs.declared.history.HubReply.{HubReply}
use Rattle.ic_law.specs.declared.history.HubReply.TheVariants.{Begun, Gave, Came, Ticked}
use Rattle.ic_law.specs.declared.history.HubNo.TheVariants as refused
use Rattle.ic_law.specs.declared.history.Arrived.TheVariants.{Handled}
use Rattle.ic_law.specs.declared.history.Entry.{Entry}
use Rattle.ic_header.specs.Packets.{Packet, packet_of, key_of, goes_forth, row_datagram}
use Rattle.ic_law.specs.History.{datagrams_of}
use Rattle.ic_law.specs.Hearing.{IsStopped}
use Rattle.ic_law.specs.Queries.{was_begun}
use Rattle.ic_law.specs.Points.{Place, IsDirected, IsLive, IsHere}
use Rattle.ic_law.specs.Arriving.{IsLiveQuery, IsOld, IsNew}
use Rattle.ic_law.specs.Sending.{Fits, IsFull, IsTooLong, IsStray, Stopped, Given, Heard}
use Rattle.ic_law.specs.Clock.{ticks_by}
use Rattle.ic_law.specs.Emitting.{rows_then}
use Rattle.ic_law.specs.Spending.{spent_of}
use Rattle.ic_law.specs.Order.{Live, query_out, AreLive}
use Rattle.ic_law.specs.Hub.{HubPoint}
use Rattle.ic_law.proofs.Lists.{Contains-head, Contains-one, Contains-middle, flat_map-Contains}
use Rattle.ic_law.proofs.Lives.{every_last}
use Rattle.ic_law.proofs.Datagrams.{entry_is}
use Rattle.ic_unique.specs.Unique.{MayReply, ask_of, IsRun}
use Rattle.ic_unique.proofs.Alike.{rows_alike}
use Rattle.ic_unique.proofs.Asks.{one_begin}
use Rattle.ic_unique.proofs.Emitting.{emits_alone}
use Rattle.ic_unique.proofs.Given.{put_entry, put_alone, put_alike, finish_entry, finish_alone, finish_alike, one_given, came_entry, came_alone, came_alike}
use Rattle.ic_unique.proofs.Given.{one_heard}
use Rattle.ic_unique.proofs.Orders.{tick_entry, same_live, same_out, query_same}
use Rattle.ic_unique.proofs.Ticks.{Ticks, Goes, Stays, ticks_cases, kind_of}
use Rattle.ic_unique.proofs.Unique.{AreBoth, both_of}
use Rattle.ic_unique.proofs.Runs.{may_reply}

-- after these entries the laws allow no other reply to the ask
abbrev pub Follows : Place → List Entry → HubAsk → HubReply → Type 0
Follows place h ask reply = (r : HubReply) → MayReply place h ask r → r ≡ reply

-- so each entry follows from those before it
abbrev pub AllFollow : Place → List Entry → List Entry → Type 0
AllFollow place h [] = Unit {0}
AllFollow place h (e ∷ es) = Follows place h e.ask e.reply × AllFollow place (h ++ e ∷ []) es

-- then a run with these asks is these entries
pub forced : (place : Place) (k : List Entry) → IsRun place k → (h xs es : List Entry) → k ≡ h ++ xs → map ask_of xs ≡ map ask_of es → AllFollow place h es → xs ≡ es
forced place k run h [] [] at same follow = refl
forced place k run h [] (e ∷ es) at same follow = let bad : [] ≡ e.ask ∷ map ask_of es = same in absurd cc
forced place k run h (x ∷ xs) [] at same follow = let bad : x.ask ∷ map ask_of xs ≡ [] = same in absurd cc
forced place k run h (x ∷ xs) (e ∷ es) at same follow =
    let both : x.ask ∷ map ask_of xs ≡ e.ask ∷ map ask_of es = same in
    let ask : x.ask ≡ e.ask = cc in
    let others : map ask_of xs ≡ map ask_of es = cc in
    let reply : x.reply ≡ e.reply = follow.0 x.reply (subst (λ a. MayReply place h a x.reply) ask (may_reply place k h x xs run at)) in
    let entry : x ≡ e = entry_is x e.ask e.reply ask reply in
    ap (λ z. z ∷ xs) entry ∙ ap (λ l. e ∷ l)
    (forced place k run (h ++ e ∷ []) xs es (at ∙ ap (λ z. h ++ z ∷ xs) entry ∙ sym (append_assoc h (e ∷ []) xs)) others follow.1)

-- ---- begin

pub begins : (place : Place) (h : List Entry) (query : ℕ) (ends : List ConnEnd) → (IsOld query h → ⊥) → (IsLiveQuery query h → ⊥) → Follows place h (Begin query ends) (Begun (Ok tt))
begins place h query ends young dead r may =
    one_begin query h r (Begun (Ok tt)) ((every_last (HubPoint place) h (record { ask = Begin query ends; reply = r }) may.law).begin query ends refl may.given) (IsNew young dead refl)

-- ---- puts, finishes and answers that are heard

-- a sending end that is here and isn't stopped
pub record Runs (h : List Entry) (end : ConnEnd) : Type 0 where
  pub here : IsHere end h
  pub sends : end.sending ≡ true
  pub going : IsStopped end.key h → ⊥

gave_is : (ds es : List Datagram) → Gave (Ok ds) ≡ Gave (Ok es) → ds ≡ es
gave_is ds es same = ap datagrams_of same

pub puts_follow : (place : Place) (h : List Entry) (end : ConnEnd) (chunk : List ℕ) → Runs h end
    → ((Fits place.settings end.key h chunk → ⊥) → (IsFull place.settings end.key h → ⊥) × (IsTooLong place.settings end.key h → ⊥))
    → Follows place h (Put end.key chunk) (Gave (Ok (map (row_datagram end) (rows_then end.key place.settings h (put_entry end.key chunk (Gave (Ok [])))))))
puts_follow place h end chunk runs room r may =
    let both = both_of place h (Put end.key chunk) r r may may in
    let due = map (row_datagram end) (rows_then end.key place.settings h (put_entry end.key chunk (Gave (Ok [])))) in
    one_given place.settings end h (Fits place.settings end.key h chunk → ⊥) r (Gave (Ok due))
    ((both.first.point.refused end runs.sends runs.here).put chunk refl may.given) (Given runs.going room due refl)
    (λ ds es is is2.
    sym (ap datagrams_of is) ∙ emits_alone place h (put_entry end.key chunk r) end both.rest runs.sends runs.here (put_alone place h end chunk r ds both.first is)
    ∙ ap (map (row_datagram end)) (rows_alike end.key place.settings h (put_entry end.key chunk r) (put_entry end.key chunk (Gave (Ok []))) (put_alike end chunk r (Gave (Ok [])) ds [] is refl))
    ∙ gave_is due es is2)

pub finish_follows : (place : Place) (h : List Entry) (end : ConnEnd) → Runs h end → (IsFull place.settings end.key h → ⊥) → (IsTooLong place.settings end.key h → ⊥)
    → Follows place h (Finish end.key) (Gave (Ok (map (row_datagram end) (rows_then end.key place.settings h (finish_entry end.key (Gave (Ok [])))))))
finish_follows place h end runs full long r may =
    let both = both_of place h (Finish end.key) r r may may in
    let due = map (row_datagram end) (rows_then end.key place.settings h (finish_entry end.key (Gave (Ok [])))) in
    one_given place.settings end h (Unit {0}) r (Gave (Ok due))
    ((both.first.point.refused end runs.sends runs.here).finish refl may.given) (Given runs.going (λ needs. (full, long)) due refl)
    (λ ds es is is2.
    sym (ap datagrams_of is) ∙ emits_alone place h (finish_entry end.key r) end both.rest runs.sends runs.here (finish_alone place h end r ds both.first is)
    ∙ ap (map (row_datagram end)) (rows_alike end.key place.settings h (finish_entry end.key r) (finish_entry end.key (Gave (Ok []))) (finish_alike end r (Gave (Ok [])) ds [] is refl))
    ∙ gave_is due es is2)

pub put_stopped : (place : Place) (h : List Entry) (end : ConnEnd) (chunk : List ℕ) → IsHere end h → end.sending ≡ true → IsStopped end.key h → Follows place h (Put end.key chunk) (Gave (Err refused.Stopped))
put_stopped place h end chunk here sends stopped r may =
    let both = both_of place h (Put end.key chunk) r r may may in
    one_given place.settings end h (Fits place.settings end.key h chunk → ⊥) r (Gave (Err refused.Stopped))
    ((both.first.point.refused end sends here).put chunk refl may.given) (Stopped stopped refl)
    (λ ds es is is2. absurd (let bad : Gave (Err refused.Stopped) ≡ Gave (Ok es) = is2 in cc))

-- an answer of this connection that came
pub record Comes (h : List Entry) (end : ConnEnd) (d : Datagram) (p : Packet) : Type 0 where
  pub reads : packet_of d ≡ Some p
  pub back : goes_forth p.head.flags ≡ false
  pub key : key_of p.head ≡ end.key
  pub directed : IsDirected false d end.key
  pub fine : IsStray end.key h p → ⊥

pub heard_follows : (place : Place) (h : List Entry) (end : ConnEnd) (d : Datagram) (p : Packet) → Runs h end → Comes h end d p
    → Follows place h (Arrive d) (Came Handled (map (row_datagram end) (rows_then end.key place.settings h (came_entry d (Came Handled [])))))
heard_follows place h end d p runs comes r may =
    let both = both_of place h (Arrive d) r r may may in
    let due = map (row_datagram end) (rows_then end.key place.settings h (came_entry d (Came Handled []))) in
    one_heard end h p r (Came Handled due)
    ((both.first.point.refused end runs.sends runs.here).heard d p refl comes.directed comes.reads comes.back comes.key may.given) (Heard runs.going comes.fine due refl)
    (λ ds es is is2.
    sym (ap datagrams_of is) ∙ emits_alone place h (came_entry d r) end both.rest runs.sends runs.here (came_alone place h end d p r ds comes.reads comes.back (sym comes.key) both.first is)
    ∙ ap (map (row_datagram end)) (rows_alike end.key place.settings h (came_entry d r) (came_entry d (Came Handled [])) (came_alike end d r (Came Handled []) ds [] is refl))
    ∙ ap datagrams_of is2)

-- ---- ticks

pub ticks_follow : (place : Place) (h : List Entry) (live : List Live) → AreLive h live → ((q : Live) → Contains live q → spent_of place.settings h q.ends ≡ [])
    → Follows place h Tick (Ticked (Ok (flat_map (query_out place.settings h (tick_entry (Ticked (Ok [])))) live)))
ticks_follow place h live are none r may = by (ticks_cases r (kind_of place h r both.first may.given))
  where
    both : AreBoth place h Tick r r
    both = both_of place h Tick r r may may

    due : List Datagram
    due = flat_map (query_out place.settings h (tick_entry (Ticked (Ok [])))) live

    by : Ticks r → r ≡ Ticked (Ok due)
    by (Goes ds is) =
        let order = both.first.order (ap ticks_by is) in
        let emitted : datagrams_of r ≡ due =
        order.emitted ∙ ap (flat_map (query_out place.settings h (tick_entry r))) (same_live h order.live live order.are are)
        ∙ same_out (query_out place.settings h (tick_entry r)) (query_out place.settings h (tick_entry (Ticked (Ok [])))) live (λ q. query_same place.settings h r (Ticked (Ok [])) ds [] q is refl) in
        is ∙ ap (λ l. Ticked (Ok l)) (sym (ap datagrams_of is) ∙ emitted)
    by (Stays refusal is) =
        let w = both.first.point.tick refusal is in
        absurd (let bad : [] ≡ (w.0, w.1) ∷ w.2.more = sym (none (record { number = w.2.query; ends = w.2.ends }) (are.all w.2.query w.2.ends w.2.live)) ∙ w.2.first in cc)

-- ---- one live query

abbrev begun_by : HubAsk → HubReply → List Live
begun_by (Begin query ends) reply = cond (was_begun reply) (record { number = query; ends = ends } ∷ []) []
begun_by (Put key chunk) reply = []
begun_by (Finish key) reply = []
begun_by (Take query motion) reply = []
begun_by (TakeFrom key) reply = []
begun_by (Halt key) reply = []
begun_by (Arrive d) reply = []
begun_by Tick reply = []
begun_by (Clear query) reply = []
begun_by (Leave query) reply = []

-- the query that an entry begins
abbrev pub begun_in : Entry → List Live
begun_in e = begun_by e.ask e.reply

-- what is live began
pub live_began : (query : ℕ) (ends : List ConnEnd) (h : List Entry) → IsLive query ends h → Contains (flat_map begun_in h) (record { number = query; ends = ends })
live_began query ends h live =
    let e : Entry = record { ask = Begin query ends; reply = live.reply } in
    let q : Live = record { number = query; ends = ends } in
    flat_map-Contains begun_in h e q (subst (λ l. Contains l e) (sym live.all) (Contains-middle live.before e live.after))
    (subst (λ b. Contains (cond b (q ∷ []) []) q) (sym live.begun) (Contains-head q []))

pub lone_live : (h : List Entry) (q : Live) → IsLive q.number q.ends h → flat_map begun_in h ≡ q ∷ [] → AreLive h (q ∷ [])
lone_live h q live alone = record {
  each = λ x at. subst (λ (y : Live). IsLive y.number y.ends h) (sym (Contains-one q x at)) live;
  all = λ number ends other. subst (λ l. Contains l (record { number = number; ends = ends })) alone (live_began number ends h other);
  increase = (omega arith, tt);
}
