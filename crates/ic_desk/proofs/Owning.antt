-- The ends of one slice, among those of its node.
use Rattle.std.proofs.Common.{◌≡◌, ℕ, ℤ, Bool, true, false, not, ◌&&◌, ◌||◌, ◌==◌, cond, List, Result, Ok, Err, refl, ap, sym, ◌∙◌, subst}
use Rattle.std.specs.Prelude.{IfOk, IfErr}
use Rattle.std.specs.List.{Any, list_any, Contains}
use Rattle.std.proofs.lemmas.Bool.Decides.{Decides-eqb}
use Rattle.std.proofs.lemmas.List.Folds.{list_any-from_Any}
use Rattle.ic_base.specs.declared.keys.ConnKey.{ConnKey}
use Rattle.ic_base.specs.declared.keys.ConnEnd.{ConnEnd}
use Rattle.ic_base.specs.Keys.{key_eq}
use Rattle.ic_base.specs.declared.port.PortNo.{PortNo}
use Rattle.ic_base.specs.declared.port.PortNo.TheVariants as port
use Rattle.ic_base.specs.Ports.{SendsTo, Hears, HearsFrom, MayRefusePut}
use Rattle.ic_base.proofs.SameKeys.{key_eq-same}
use Rattle.ic_law.specs.Points.{Place}
use Rattle.ic_law.specs.Asking.{IsEndHere, AreEnds}
use Rattle.ic_law.specs.Logs.{SendsHere, EndsHere}
use Rattle.ic_sender.proofs.Lists.{in_filter, filter_has}
use Rattle.pl_runs.specs.Logs.{is_of_slice, sends_by, hears_by, hears_motion}
use Rattle.ic_desk.specs.Own.{is_heard_otherwise, is_own, own_ends}

-- ---- they are the node's

pub in_node : (ends : List ConnEnd) (slice : ℕ) (e : ConnEnd) → Contains (own_ends ends slice) e → Contains ends e
in_node ends slice e among = (in_filter (is_own ends slice) ends e among).0

-- each is an end of this place and query
pub record AreHere (place : Place) (query : ℕ) (own : List ConnEnd) : Type 0 where
  pub each : (e : ConnEnd) → Contains own e → IsEndHere place query e

pub own_here : (place : Place) (query : ℕ) (ends : List ConnEnd) (slice : ℕ) → AreEnds place query ends → AreHere place query (own_ends ends slice)
own_here place query ends slice are = record { each = λ e among. are.each e (in_node ends slice e among) }

pub any_widens : (P : ConnEnd → Type 0) (ends : List ConnEnd) (slice : ℕ) → Any P (own_ends ends slice) → Any P ends
any_widens P ends slice any =
    let among : Contains ends any.1 = in_node ends slice any.1 (any.0, any.2, any.3) in
    (among.0, any.1, among.1, among.2, any.4)

-- ---- what goes by them

same_key : (a b : ConnKey) → a.session ≡ b.session → a.query ≡ b.query → a.motion ≡ b.motion → a.from ≡ b.from → a.to ≡ b.to → a ≡ b
same_key a b s q m f t =
    ap (λ x. record a { session = x }) s ∙ ap (λ x. record a { session = b.session; query = x }) q ∙ ap (λ x. record a { session = b.session; query = b.query; motion = x }) m
    ∙ ap (λ x. record b { from = x; to = a.to }) f ∙ ap (λ x. record b { to = x }) t

same_true : (a b : ConnKey) → a ≡ b → key_eq a b ≡ true
same_true a b is = subst (λ k. key_eq a k ≡ true) is (key_eq-same a)

pub both_true : (a b : Bool) → a ≡ true → b ≡ true → (a && b) ≡ true
both_true true true h k = refl
both_true true false h k = k
both_true false b h k = h

not_false : (b : Bool) → b ≡ false → not b ≡ true
not_false true h = sym h
not_false false h = refl

pub equal : (a b : ℕ) → a ≡ b → (a == b) ≡ true
equal a b is = (Decides-eqb a b).1 is

pub sends_true : (place : Place) (query : ℕ) (own : List ConnEnd) (key : ConnKey) → AreHere place query own → SendsHere place key → key.query ≡ query
    → SendsTo own key.motion key.to → sends_by own key ≡ true
sends_true place query own key here ours its sends =
    let e : ConnEnd = sends.1 in
    let is = here.each e (sends.0, sends.2, sends.3) in
    let key_is : e.key ≡ key = same_key e.key key (is.session ∙ sym ours.session) (is.query_is ∙ sym its) sends.4.1 (is.sends_here sends.4.0 ∙ sym ours.from) sends.4.2 in
    list_any-from_Any (λ (x : ConnEnd). x.sending && key_eq x.key key) own
    (sends.0, e, sends.2, sends.3, both_true e.sending (key_eq e.key key) sends.4.0 (same_true e.key key key_is))

pub hears_true : (place : Place) (query : ℕ) (own : List ConnEnd) (key : ConnKey) → AreHere place query own → EndsHere place key → key.query ≡ query
    → HearsFrom own key.motion key.from → hears_by own key ≡ true
hears_true place query own key here ours its hears =
    let e : ConnEnd = hears.1 in
    let is = here.each e (hears.0, hears.2, hears.3) in
    let key_is : e.key ≡ key = same_key e.key key (is.session ∙ sym ours.session) (is.query_is ∙ sym its) hears.4.1 hears.4.2 (is.receives_here hears.4.0 ∙ sym ours.to) in
    list_any-from_Any (λ (x : ConnEnd). not x.sending && key_eq x.key key) own
    (hears.0, e, hears.2, hears.3, both_true (not e.sending) (key_eq e.key key) (not_false e.sending hears.4.0) (same_true e.key key key_is))

pub motion_true : (place : Place) (query : ℕ) (own : List ConnEnd) (q motion : ℕ) → AreHere place query own → q ≡ query → Hears own motion → hears_motion own q motion ≡ true
motion_true place query own q motion here its hears =
    let e : ConnEnd = hears.1 in
    let is = here.each e (hears.0, hears.2, hears.3) in
    list_any-from_Any (λ (x : ConnEnd). not x.sending && ((x.key.query == q) && (x.key.motion == motion))) own (
      hears.0,
      e,
      hears.2,
      hears.3,
      both_true (not e.sending) ((e.key.query == q) && (e.key.motion == motion)) (not_false e.sending hears.4.0)
          (both_true (e.key.query == q) (e.key.motion == motion) (equal e.key.query q (is.query_is ∙ sym its)) (equal e.key.motion motion hears.4.1)),
    )

-- ---- from whom

pub first_of : (a b : Bool) → (a && b) ≡ true → a ≡ true
first_of true b h = refl
first_of false b h = h

pub second_of : (a b : Bool) → (a && b) ≡ true → b ≡ true
second_of true b h = h
second_of false b h = absurd cc

-- a test that no element passes
fails_at : (p : ConnEnd → Bool) (ends : List ConnEnd) (e : ConnEnd) → Contains ends e → list_any p ends ≡ false → p e ≡ false
fails_at p ends e among none = by (p e) refl
  where
    by : (b : Bool) → p e ≡ b → b ≡ false
    by false is = refl
    by true is = sym (list_any-from_Any p ends (among.0, e, among.1, among.2, is)) ∙ none

hears_alone : (sending other : Bool) → sending ≡ false → (sending || not other) ≡ true → other ≡ false
hears_alone true other is h = absurd cc
hears_alone false true is h = sym h
hears_alone false false is h = refl

-- so an end of this motion that hears is of the slice
is_heard : (slice motion : ℕ) (e : ConnEnd) → e.sending ≡ false → e.key.motion ≡ motion → is_heard_otherwise slice motion e ≡ false → is_of_slice slice e ≡ true
is_heard slice motion e hears of other = by e.sending (e.key.motion == motion) (e.recv_slice == slice) hears (equal e.key.motion motion of) other
  where
    by : (s m r : Bool) → s ≡ false → m ≡ true → (not s && (m && not r)) ≡ false → cond s (e.send_slice == slice) r ≡ true
    by true m r s_is m_is h = absurd cc
    by false false r s_is m_is h = absurd cc
    by false true true s_is m_is h = refl
    by false true false s_is m_is h = sym h

own_at : (of alone sending : Bool) → of ≡ true → alone ≡ false → (of && (sending || not alone)) ≡ true
own_at true false true h k = refl
own_at true false false h k = refl
own_at true true sending h k = absurd cc
own_at false alone sending h k = absurd cc

-- who is heard by the node on a motion of the worker is heard by the worker
pub heard_by_own : (ends : List ConnEnd) (slice motion : ℕ) (sender : ℤ) → Hears (own_ends ends slice) motion → HearsFrom ends motion sender → HearsFrom (own_ends ends slice) motion sender
heard_by_own ends slice motion sender hears from =
    let e : ConnEnd = hears.1 in
    let f : ConnEnd = from.1 in
    let own = (in_filter (is_own ends slice) ends e (hears.0, hears.2, hears.3)).1 in
    let none : list_any (is_heard_otherwise slice e.key.motion) ends ≡ false =
    hears_alone e.sending (list_any (is_heard_otherwise slice e.key.motion) ends) hears.4.0 (second_of (is_of_slice slice e) (e.sending || not (list_any (is_heard_otherwise slice e.key.motion) ends)) own) in
    let motions : f.key.motion ≡ e.key.motion = from.4.1 ∙ sym hears.4.1 in
    let none_there : list_any (is_heard_otherwise slice f.key.motion) ends ≡ false = subst (λ m. list_any (is_heard_otherwise slice m) ends ≡ false) (sym motions) none in
    let of : is_of_slice slice f ≡ true = is_heard slice f.key.motion f from.4.0 refl (fails_at (is_heard_otherwise slice f.key.motion) ends f (from.0, from.2, from.3) none_there) in
    let among = filter_has (is_own ends slice) ends f (from.0, from.2, from.3) (own_at (is_of_slice slice f) (list_any (is_heard_otherwise slice f.key.motion) ends) f.sending of none_there) in
    (among.0, f, among.1, among.2, from.4)

-- ---- why a put is refused

pub may_put : (place : Place) (query : ℕ) (ends : List ConnEnd) (slice motion : ℕ) (to : ℤ) → AreEnds place query ends → SendsTo (own_ends ends slice) motion to
    → (r : Result (Unit {0}) PortNo) → IfErr r (MayRefusePut ends motion to) → IfErr r (MayRefusePut (own_ends ends slice) motion to)
may_put place query ends slice motion to are sends (Ok u) h = tt
may_put place query ends slice motion to are sends (Err port.Full) h = tt
may_put place query ends slice motion to are sends (Err port.Empty) h = h
may_put place query ends slice motion to are sends (Err port.Stopped) h = tt
may_put place query ends slice motion to are sends (Err port.Ended) h = h
may_put place query ends slice motion to are sends (Err (port.TooLong key)) h =
    let e : ConnEnd = sends.1 in
    let f : ConnEnd = h.2.1 in
    let mine = are.each e (in_node ends slice e (sends.0, sends.2, sends.3)) in
    let its = are.each f (h.2.0, h.2.2, h.2.3) in
    let is : f.key ≡ key = h.2.4.1 in
    let from : f.key.from ≡ place.at = its.sends_here h.2.4.0 in (
      h.0,
      h.1,
      (
        sends.0,
        e,
        sends.2,
        sends.3,
        (
          sends.4.0,
          same_key e.key key (mine.session ∙ sym its.session ∙ ap (λ (k : ConnKey). k.session) is) (mine.query_is ∙ sym its.query_is ∙ ap (λ (k : ConnKey). k.query) is) (sends.4.1 ∙ sym h.0)
              (mine.sends_here sends.4.0 ∙ sym from ∙ ap (λ (k : ConnKey). k.from) is) (sends.4.2 ∙ sym h.1),
        ),
      ),
    )
may_put place query ends slice motion to are sends (Err port.Busy) h = tt
may_put place query ends slice motion to are sends (Err port.Memory) h = tt

-- ---- what a parcel's sender is

pub if_ok : {A E : Type 0} (P Q : A → Type 0) → ((x : A) → P x → Q x) → (r : Result A E) → IfOk r P → IfOk r Q
if_ok P Q next (Ok x) h = next x h
if_ok P Q next (Err e) h = tt
