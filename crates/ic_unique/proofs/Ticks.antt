-- A tick has one reply: one that is refused names what is given up first, and one that isn't emits what is due, in order.
use Rattle.std.proofs.Common.{◌≡◌, ◌≢◌, ℕ, List, [], ◌∷◌, ◌++◌, map, Bool, true, false, cond, ◌&&◌, Ok, Err, refl, ap, sym, ◌∙◌, subst, inl, inr}
use Rattle.std.specs.List.{Contains, flat_map}
use Rattle.ic_base.specs.declared.keys.ConnKey.{ConnKey}
use Rattle.ic_base.specs.declared.keys.ConnEnd.{ConnEnd}
use Rattle.ic_base.specs.declared.settings.Settings.{Settings}
use Rattle.ic_base.specs.declared.datagram.Datagram.{Datagram}
use Rattle.ic_law.specs.declared.history.HubReply.{HubReply}
use Rattle.ic_law.specs.declared.history.HubReply.TheVariants.{Begun, Gave, Took, Came, Ticked, Cleared, Left, Memory}
use Rattle.ic_law.specs.declared.history.TickNo.{TickNo}
use Rattle.ic_law.specs.declared.history.TickNo.TheVariants.{Spent}
use Rattle.ic_law.specs.declared.history.Entry.{Entry}
use Rattle.ic_law.specs.History.{datagrams_of, sent_upto}
use Rattle.ic_law.specs.Points.{Place, IsLive}
use Rattle.ic_law.specs.Clock.{ticks_by, next_clock}
use Rattle.ic_law.specs.Timers.{Timer}
use Rattle.ic_law.specs.Timing.{timing_of}
use Rattle.ic_law.specs.Spending.{spent_timers, spent_query, NoneSpent, packets_spent, query_spent, spent_of, IsFirstSpent}
use Rattle.ic_law.specs.Hub.{Beginning, Giving, Taking, Coming, Ticking, Clearing, Leaving, Refusing, kind_replied, HubLaw}
use Rattle.ic_law.proofs.Lists.{Contains-head, Contains-tail}
use Rattle.ic_law.proofs.Lives.{live_once, are_ends}
use Rattle.ic_unique.proofs.Takes.{either}
use Rattle.ic_unique.proofs.Given.{IsLawful}
use Rattle.ic_unique.proofs.Orders.{tick_entry, same_order}

-- ---- a tick that isn't refused

both_tick : (place : Place) (h : List Entry) (r s : HubReply) (ds es : List Datagram) → IsLawful place h (tick_entry r) → IsLawful place h (tick_entry s) → r ≡ Ticked (Ok ds) → s ≡ Ticked (Ok es) → r ≡ s
both_tick place h r s ds es lr ls is is2 =
    let all = same_order place h r s ds es is is2 (lr.order (ap ticks_by is)) (ls.order (ap ticks_by is2)) in
    is ∙ ap (λ l. Ticked (Ok l)) (sym (ap datagrams_of is) ∙ all ∙ ap datagrams_of is2) ∙ sym is2

-- ---- a tick that is refused

pub none_of : {A B : Type 0} (f : A → List B) (xs : List A) → ((x : A) → Contains xs x → f x ≡ []) → flat_map f xs ≡ []
none_of f [] none = refl
none_of f (x ∷ xs) none = ap (λ l. l ++ flat_map f xs) (none x (Contains-head x xs)) ∙ none_of f xs (λ y at. none y (Contains-tail x xs y at))

packets_none : (settings : Settings) (h : List Entry) (end : ConnEnd) (b : Bool) → end.sending ≡ b → (end.sending ≡ true → NoneSpent settings end.key h) → packets_spent settings h end ≡ []
packets_none settings h end true is none =
    ap (λ x. cond x (map (λ (t : Timer). (end.key, t.seq)) (spent_timers settings (next_clock h) (timing_of end.key settings h))) []) is
    ∙ ap (map (λ (t : Timer). (end.key, t.seq))) (none is).packets
packets_none settings h end false is none = ap (λ x. cond x (map (λ (t : Timer). (end.key, t.seq)) (spent_timers settings (next_clock h) (timing_of end.key settings h))) []) is

query_none : (settings : Settings) (h : List Entry) (end : ConnEnd) (b : Bool) → end.sending ≡ b → (end.sending ≡ true → NoneSpent settings end.key h) → query_spent settings h end ≡ []
query_none settings h end true is none =
    ap (λ x. cond (x && spent_query settings (next_clock h) (timing_of end.key settings h).asked) ((end.key, sent_upto end.key h) ∷ []) []) is
    ∙ ap (λ x. cond x ((end.key, sent_upto end.key h) ∷ []) []) (none is).query
query_none settings h end false is none = ap (λ x. cond (x && spent_query settings (next_clock h) (timing_of end.key settings h).asked) ((end.key, sent_upto end.key h) ∷ []) []) is

-- where nothing is given up none is the first that is
pub not_spent : (place : Place) (h : List Entry) (r : HubReply) (ds : List Datagram) (key : ConnKey) (seq : ℕ) → HubLaw place h → IsLawful place h (tick_entry r) → r ≡ Ticked (Ok ds) → IsFirstSpent place.settings h key seq → ⊥
not_spent place h r ds key seq law lawful is first = differ _ _ (sym none_spent ∙ first.first)
  where
    differ : (x : ConnKey × ℕ) (xs : List (ConnKey × ℕ)) → [] ≡ x ∷ xs → ⊥
    differ x xs bad = cc

    ours : (end : ConnEnd) → Contains first.ends end → end.sending ≡ true → NoneSpent place.settings end.key h
    ours end at sends =
        let query = ((are_ends place h first.query first.ends law first.live).each end at).query_is in
        (lawful.due end sends (record { ends = first.ends; live = subst (λ n. IsLive n first.ends h) (sym query) first.live; stands = at })).unspent (ap ticks_by is)

    none_spent : spent_of place.settings h first.ends ≡ []
    none_spent =
        ap (λ l. l ++ flat_map (query_spent place.settings h) first.ends) (none_of (packets_spent place.settings h) first.ends (λ end at. packets_none place.settings h end end.sending refl (ours end at)))
        ∙ none_of (query_spent place.settings h) first.ends (λ end at. query_none place.settings h end end.sending refl (ours end at))

one_spent : (place : Place) (h : List Entry) (a b : ConnKey) (m n : ℕ) → HubLaw place h → IsFirstSpent place.settings h a m → IsFirstSpent place.settings h b n → (a ≡ b) × (m ≡ n)
one_spent place h a b m n law u w = elim (either u.query w.query) [
  | inl same ↦
      let ends : u.ends ≡ w.ends = live_once place h w.query u.ends w.ends law (subst (λ q. IsLive q u.ends h) same u.live) w.live in
      let lists : (a, m) ∷ u.more ≡ (b, n) ∷ w.more = sym u.first ∙ ap (spent_of place.settings h) ends ∙ w.first in
      let pair : (a, m) ≡ (b, n) = cc in
      (ap (λ (x : ConnKey × ℕ). x.0) pair, ap (λ (x : ConnKey × ℕ). x.1) pair)
  | inr apart ↦ elim apart [
    | inl lt ↦ absurd (let bad : [] ≡ (a, m) ∷ u.more = sym (w.least u.query u.ends u.live lt) ∙ u.first in cc)
    | inr lt ↦ absurd (let bad : [] ≡ (b, n) ∷ w.more = sym (u.least w.query w.ends w.live lt) ∙ w.first in cc)
  ]
]

-- ---- a tick

pub data Ticks (r : HubReply) : Type 0 where
  Goes : (ds : List Datagram) → r ≡ Ticked (Ok ds) → Ticks r
  Stays : (refusal : TickNo) → r ≡ Ticked (Err refusal) → Ticks r

pub ticks_cases : (r : HubReply) → kind_replied r ≡ Ticking → Ticks r
ticks_cases (Begun x) h = absurd (let bad : Beginning ≡ Ticking = h in cc)
ticks_cases (Gave x) h = absurd (let bad : Giving ≡ Ticking = h in cc)
ticks_cases (Took x) h = absurd (let bad : Taking ≡ Ticking = h in cc)
ticks_cases (Came how ds) h = absurd (let bad : Coming ≡ Ticking = h in cc)
ticks_cases (Ticked (Ok ds)) h = Goes ds refl
ticks_cases (Ticked (Err refusal)) h = Stays refusal refl
ticks_cases (Cleared x) h = absurd (let bad : Clearing ≡ Ticking = h in cc)
ticks_cases (Left x) h = absurd (let bad : Leaving ≡ Ticking = h in cc)
ticks_cases Memory h = absurd (let bad : Refusing ≡ Ticking = h in cc)

pub kind_of : (place : Place) (h : List Entry) (reply : HubReply) → IsLawful place h (tick_entry reply) → reply ≢ Memory → kind_replied reply ≡ Ticking
kind_of place h reply lawful given = elim lawful.point.replied [ inl memory ↦ absurd (given memory) | inr is ↦ is ]

pub one_tick : (place : Place) (h : List Entry) (r s : HubReply) → HubLaw place h → IsLawful place h (tick_entry r) → IsLawful place h (tick_entry s) → r ≢ Memory → s ≢ Memory
    → r ≡ s
one_tick place h r s law lr ls gr gs = by (ticks_cases r (kind_of place h r lr gr)) (ticks_cases s (kind_of place h s ls gs))
  where
    by : Ticks r → Ticks s → r ≡ s
    by (Goes ds is) (Goes es is2) = both_tick place h r s ds es lr ls is is2
    by (Goes ds is) (Stays no2 is2) = let w = ls.point.tick no2 is2 in absurd (not_spent place h r ds w.0 w.1 law lr is w.2)
    by (Stays no1 is) (Goes es is2) = let w = lr.point.tick no1 is in absurd (not_spent place h s es w.0 w.1 law ls is2 w.2)
    by (Stays no1 is) (Stays no2 is2) =
        let u = lr.point.tick no1 is in
        let w = ls.point.tick no2 is2 in
        let one = one_spent place h u.0 w.0 u.1 w.1 law u.2 w.2 in
        is ∙ ap (λ x. Ticked (Err x)) (u.3 ∙ ap (λ k. Spent k u.1 place.settings.retries) one.0 ∙ ap (λ n. Spent w.0 n place.settings.retries) one.1 ∙ sym w.3) ∙ sym is2
