-- The ends of a worker, and which calls of its node go by them.
use Rattle.std.proofs.Common.{◌≡◌, ℕ, ℤ, List, [], ◌∷◌, ◌++◌, Bool, true, false, not, ◌&&◌, ◌||◌, ◌==◌, cond, Ok, Err, refl, ap, sym, ◌∙◌, inl, inr, ◌⊎◌}
use Rattle.std.specs.List.{AllByRecursion}
use Rattle.std.specs.Ordering.{int_eq}
use Rattle.std.proofs.lemmas.Bool.Decides.{Decides-int_eq, Decides-eqb}
use Rattle.ic_base.specs.declared.keys.ConnKey.{ConnKey}
use Rattle.ic_base.specs.declared.keys.ConnEnd.{ConnEnd}
use Rattle.ic_base.specs.declared.port.PortAsk.{PortAsk}
use Rattle.ic_base.specs.declared.port.PortEntry.{PortEntry}
use Rattle.ic_base.specs.Keys.{key_eq}
use Rattle.ic_base.proofs.SameKeys.{key_eq-tells}
use Rattle.ic_law.specs.declared.history.HubReply.{HubReply}
use Rattle.ic_law.specs.declared.history.HubReply.TheVariants.{Begun, Gave, Took, Came, Ticked, Cleared, Left, Memory}
use Rattle.ic_law.specs.declared.history.HubNo.TheVariants as no
use Rattle.ic_law.specs.Logs.{put_logs, take_logs, halt_logs}
use Rattle.pl_runs.specs.Logs.{sends_by, hears_by, hears_motion}

-- ---- keys with one side in common

pub sent_here : (key c : ConnKey) → key.session ≡ c.session → key.from ≡ c.from
    → key_eq key c ≡ ((key.query == c.query) && ((key.motion == c.motion) && int_eq key.to c.to))
unfolding key_eq
sent_here key c session from =
    ap (λ b. b && ((key.query == c.query) && ((key.motion == c.motion) && (int_eq key.from c.from && int_eq key.to c.to)))) ((Decides-eqb key.session c.session).1 session)
    ∙ ap (λ b. (key.query == c.query) && ((key.motion == c.motion) && (b && int_eq key.to c.to))) ((Decides-int_eq key.from c.from).1 from)

pub ends_here : (key c : ConnKey) → key.session ≡ c.session → key.to ≡ c.to
    → key_eq key c ≡ ((key.query == c.query) && ((key.motion == c.motion) && int_eq key.from c.from))
unfolding key_eq
ends_here key c session to =
    ap (λ b. b && ((key.query == c.query) && ((key.motion == c.motion) && (int_eq key.from c.from && int_eq key.to c.to)))) ((Decides-eqb key.session c.session).1 session)
    ∙ ap (λ b. (key.query == c.query) && ((key.motion == c.motion) && (int_eq key.from c.from && b))) ((Decides-int_eq key.to c.to).1 to)
    ∙ ap (λ b. (key.query == c.query) && ((key.motion == c.motion) && b)) (and_true (int_eq key.from c.from))
  where
    and_true : (b : Bool) → (b && true) ≡ b
    and_true true = refl
    and_true false = refl

-- ---- choices

pub differ : false ≡ true → ⊥
differ h = cc

pub both : (a b : Bool) → (a && b) ≡ true → (a ≡ true) × (b ≡ true)
both true true h = (refl, refl)
both true false h = absurd (differ h)
both false b h = absurd (differ h)

pub either : (a b : Bool) → (a || b) ≡ true → (a ≡ true) ⊎ (b ≡ true)
either true b h = inl refl
either false b h = inr h

pub chosen : {A : Type 0} (b : Bool) (x : A) → cond (b && true) (x ∷ []) [] ≡ cond b (x ∷ []) [] ++ []
chosen true x = refl
chosen false x = refl

pub unchosen : {A : Type 0} (b : Bool) (x : A) → cond (b && false) (x ∷ []) [] ≡ []
unchosen true x = refl
unchosen false x = refl

-- ---- the ends of a worker

-- of this session and query, and with their own side at this segment
pub record IsOwn (session query : ℕ) (at : ℤ) (e : ConnEnd) : Type 0 where
  pub session_is : e.key.session ≡ session
  pub query_is : e.key.query ≡ query
  pub sends : e.sending ≡ true → e.key.from ≡ at
  pub hears : e.sending ≡ false → e.key.to ≡ at

abbrev pub AreOwn : ℕ → ℕ → ℤ → List ConnEnd → Type 0
AreOwn session query at ends = AllByRecursion (IsOwn session query at) ends

pub no_not : (b : Bool) → not b ≡ true → b ≡ false
no_not true h = absurd (cc)
no_not false h = refl

pub sends_tells : (session query : ℕ) (at : ℤ) (ends : List ConnEnd) (key : ConnKey) → AreOwn session query at ends → sends_by ends key ≡ true → (key.session ≡ session) × (key.query ≡ query) × (key.from ≡ at)
sends_tells session query at [] key own h = absurd (differ h)
sends_tells session query at (e ∷ ends) key own h = by (either (e.sending && key_eq e.key key) (sends_by ends key) h) (sends_tells session query at ends key own.1)
  where
    by : ((e.sending && key_eq e.key key) ≡ true) ⊎ (sends_by ends key ≡ true) → (sends_by ends key ≡ true → (key.session ≡ session) × (key.query ≡ query) × (key.from ≡ at)) → (key.session ≡ session) × (key.query ≡ query) × (key.from ≡ at)
    by (inl x) ih =
        let t = both e.sending (key_eq e.key key) x in
        let same = key_eq-tells e.key key t.1 in
        let one = own.0 in
        (sym (ap (λ (k : ConnKey). k.session) same) ∙ one.session_is, sym (ap (λ (k : ConnKey). k.query) same) ∙ one.query_is, sym (ap (λ (k : ConnKey). k.from) same) ∙ one.sends t.0)
    by (inr x) ih = ih x

pub hears_tells : (session query : ℕ) (at : ℤ) (ends : List ConnEnd) (key : ConnKey) → AreOwn session query at ends → hears_by ends key ≡ true → (key.session ≡ session) × (key.query ≡ query) × (key.to ≡ at)
hears_tells session query at [] key own h = absurd (differ h)
hears_tells session query at (e ∷ ends) key own h = by (either (not e.sending && key_eq e.key key) (hears_by ends key) h) (hears_tells session query at ends key own.1)
  where
    by : ((not e.sending && key_eq e.key key) ≡ true) ⊎ (hears_by ends key ≡ true) → (hears_by ends key ≡ true → (key.session ≡ session) × (key.query ≡ query) × (key.to ≡ at)) → (key.session ≡ session) × (key.query ≡ query) × (key.to ≡ at)
    by (inl x) ih =
        let t = both (not e.sending) (key_eq e.key key) x in
        let same = key_eq-tells e.key key t.1 in
        let one = own.0 in
        (sym (ap (λ (k : ConnKey). k.session) same) ∙ one.session_is, sym (ap (λ (k : ConnKey). k.query) same) ∙ one.query_is, sym (ap (λ (k : ConnKey). k.to) same) ∙ one.hears (no_not e.sending t.0))
    by (inr x) ih = ih x

pub motion_tells : (session query : ℕ) (at : ℤ) (ends : List ConnEnd) (q m : ℕ) → AreOwn session query at ends → hears_motion ends q m ≡ true → q ≡ query
motion_tells session query at [] q m own h = absurd (differ h)
motion_tells session query at (e ∷ ends) q m own h = by (either (not e.sending && ((e.key.query == q) && (e.key.motion == m))) (hears_motion ends q m) h) (motion_tells session query at ends q m own.1)
  where
    by : ((not e.sending && ((e.key.query == q) && (e.key.motion == m))) ≡ true) ⊎ (hears_motion ends q m ≡ true) → (hears_motion ends q m ≡ true → q ≡ query) → q ≡ query
    by (inl x) ih =
        let t = both (not e.sending) ((e.key.query == q) && (e.key.motion == m)) x in
        let u = both (e.key.query == q) (e.key.motion == m) t.1 in
        let one = own.0 in
        sym ((Decides-eqb e.key.query q).0 u.0) ∙ one.query_is
    by (inr x) ih = ih x

-- ---- a key, by what the worker's ends say

abbrev pub SentSo : List ConnEnd → ConnKey → ConnKey → Type 0
SentSo ends key c = key_eq key c ≡ (sends_by ends key && ((key.motion == c.motion) && int_eq key.to c.to))

abbrev pub HeardSo : List ConnEnd → ConnKey → ConnKey → Type 0
HeardSo ends key c = key_eq key c ≡ (hears_by ends key && ((key.motion == c.motion) && int_eq key.from c.from))

module _ (ends : List ConnEnd) (c : ConnKey) where
  pub sent_key : (key : ConnKey) → AreOwn c.session c.query c.from ends → sends_by ends c ≡ true → SentSo ends key c
  sent_key key own mine = by (sends_by ends key) refl
    where
      other : (b : Bool) → key_eq key c ≡ b → sends_by ends key ≡ false → b ≡ false
      other true e h = absurd (differ (sym h ∙ ap (sends_by ends) (key_eq-tells key c e) ∙ mine))
      other false e h = refl

      by : (b : Bool) → sends_by ends key ≡ b → key_eq key c ≡ (b && ((key.motion == c.motion) && int_eq key.to c.to))
      by true e = let t = sends_tells c.session c.query c.from ends key own e in sent_here key c t.0 t.2 ∙ ap (λ b. b && ((key.motion == c.motion) && int_eq key.to c.to)) ((Decides-eqb key.query c.query).1 t.1)
      by false e = other (key_eq key c) refl e

  pub heard_key : (key : ConnKey) → AreOwn c.session c.query c.to ends → hears_by ends c ≡ true → HeardSo ends key c
  heard_key key own mine = by (hears_by ends key) refl
    where
      other : (b : Bool) → key_eq key c ≡ b → hears_by ends key ≡ false → b ≡ false
      other true e h = absurd (differ (sym h ∙ ap (hears_by ends) (key_eq-tells key c e) ∙ mine))
      other false e h = refl

      by : (b : Bool) → hears_by ends key ≡ b → key_eq key c ≡ (b && ((key.motion == c.motion) && int_eq key.from c.from))
      by true e = let t = hears_tells c.session c.query c.to ends key own e in ends_here key c t.0 t.2 ∙ ap (λ b. b && ((key.motion == c.motion) && int_eq key.from c.from)) ((Decides-eqb key.query c.query).1 t.1)
      by false e = other (key_eq key c) refl e

  pub heard_motion : (q m : ℕ) → AreOwn c.session c.query c.to ends → hears_motion ends c.query c.motion ≡ true → ((q == c.query) && (m == c.motion)) ≡ (hears_motion ends q m && (m == c.motion))
  heard_motion q m own mine = by (hears_motion ends q m) refl
    where
      other : (b : Bool) → ((q == c.query) && (m == c.motion)) ≡ b → hears_motion ends q m ≡ false → b ≡ false
      other true e h =
          let t = both (q == c.query) (m == c.motion) e in
          absurd (differ (sym h ∙ ap (λ x. hears_motion ends x m) ((Decides-eqb q c.query).0 t.0) ∙ ap (hears_motion ends c.query) ((Decides-eqb m c.motion).0 t.1) ∙ mine))
      other false e h = refl

      by : (b : Bool) → hears_motion ends q m ≡ b → ((q == c.query) && (m == c.motion)) ≡ (b && (m == c.motion))
      by true e = ap (λ b. b && (m == c.motion)) ((Decides-eqb q c.query).1 (motion_tells c.session c.query c.to ends q m own e))
      by false e = other ((q == c.query) && (m == c.motion)) refl e

-- ---- entries are of their ask

pub put_asks : (asked : PortAsk) (key : ConnKey) (replied : HubReply) → AllByRecursion (λ (e : PortEntry). e.ask ≡ asked) (put_logs asked key replied)
put_asks asked key (Gave (Ok ds)) = (refl, tt)
put_asks asked key (Gave (Err no.Full)) = (refl, tt)
put_asks asked key (Gave (Err no.Stopped)) = (refl, tt)
put_asks asked key (Gave (Err (no.TooLong which))) = (refl, tt)
put_asks asked key (Gave (Err no.Empty)) = tt
put_asks asked key (Gave (Err no.Ended)) = tt
put_asks asked key (Gave (Err (no.Unknown query motion))) = tt
put_asks asked key (Gave (Err no.Memory)) = tt
put_asks asked key (Begun r) = tt
put_asks asked key (Took r) = tt
put_asks asked key (Came how ds) = tt
put_asks asked key (Ticked r) = tt
put_asks asked key (Cleared r) = tt
put_asks asked key (Left r) = tt
put_asks asked key Memory = tt

pub take_asks : (asked : PortAsk) (replied : HubReply) → AllByRecursion (λ (e : PortEntry). e.ask ≡ asked) (take_logs asked replied)
take_asks asked (Took (Ok r)) = (refl, tt)
take_asks asked (Took (Err no.Empty)) = (refl, tt)
take_asks asked (Took (Err no.Ended)) = (refl, tt)
take_asks asked (Took (Err no.Full)) = tt
take_asks asked (Took (Err no.Stopped)) = tt
take_asks asked (Took (Err (no.TooLong which))) = tt
take_asks asked (Took (Err (no.Unknown query motion))) = tt
take_asks asked (Took (Err no.Memory)) = tt
take_asks asked (Begun r) = tt
take_asks asked (Gave r) = tt
take_asks asked (Came how ds) = tt
take_asks asked (Ticked r) = tt
take_asks asked (Cleared r) = tt
take_asks asked (Left r) = tt
take_asks asked Memory = tt

pub halt_asks : (asked : PortAsk) (replied : HubReply) → AllByRecursion (λ (e : PortEntry). e.ask ≡ asked) (halt_logs asked replied)
halt_asks asked (Gave (Ok ds)) = (refl, tt)
halt_asks asked (Gave (Err refusal)) = tt
halt_asks asked (Begun r) = tt
halt_asks asked (Took r) = tt
halt_asks asked (Came how ds) = tt
halt_asks asked (Ticked r) = tt
halt_asks asked (Cleared r) = tt
halt_asks asked (Left r) = tt
halt_asks asked Memory = tt

-- a choice of such a list or of none
pub chosen_asks : (asked : PortAsk) (b : Bool) (log : List PortEntry) → AllByRecursion (λ (e : PortEntry). e.ask ≡ asked) log → AllByRecursion (λ (e : PortEntry). e.ask ≡ asked) (cond b log [])
chosen_asks asked true log all = all
chosen_asks asked false log all = tt
