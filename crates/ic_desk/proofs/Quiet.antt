-- What adds to no worker's log.
use Rattle.std.proofs.Common.{◌≡◌, ℕ, Bool, true, false, not, ◌&&◌, ◌||◌, ◌==◌, cond, List, [], ◌∷◌, ◌++◌, refl, ap, sym, ◌∙◌, append-nil}
use Rattle.std.specs.List.{list_any, AllByRecursion}
use Rattle.std.proofs.lemmas.Bool.Decides.{Decides-eqb}
use Rattle.std.proofs.lemmas.List.Concat.{flat_map-append}
use Rattle.ic_base.specs.declared.keys.ConnKey.{ConnKey}
use Rattle.ic_base.specs.declared.keys.ConnEnd.{ConnEnd}
use Rattle.ic_base.specs.Keys.{key_eq}
use Rattle.ic_base.proofs.SameKeys.{key_eq-tells}
use Rattle.ic_base.specs.declared.port.PortEntry.{PortEntry}
use Rattle.ic_law.specs.declared.history.HubAsk.{HubAsk}
use Rattle.ic_law.specs.declared.history.HubAsk.TheVariants.{Begin, Put, Finish, Take, TakeFrom, Halt, Arrive, Tick, Clear, Leave}
use Rattle.ic_law.specs.declared.history.HubReply.{HubReply}
use Rattle.ic_law.specs.declared.history.Entry.{Entry}
use Rattle.ic_law.specs.Logs.{logs as query_logs, logs_by as query_logs_by, log_of as log_of_query}
use Rattle.pl_runs.specs.Logs.{sends_by, hears_by, hears_motion, logs, logs_by, log_of}
use Rattle.ic_desk.specs.Laws.{AreOf, NoneHasALog, IsDrivers, DriversLogNone}
use Rattle.ic_desk.proofs.Owning.{first_of, second_of}

-- ---- calls of drivers

drivers_none : (ends : List ConnEnd) (a : HubAsk) (r : HubReply) → IsDrivers a → logs_by ends a r ≡ []
drivers_none ends (Begin q es) r is = refl
drivers_none ends (Put key chunk) r is = absurd is
drivers_none ends (Finish key) r is = absurd is
drivers_none ends (Take q motion) r is = absurd is
drivers_none ends (TakeFrom key) r is = absurd is
drivers_none ends (Halt key) r is = absurd is
drivers_none ends (Arrive d) r is = refl
drivers_none ends Tick r is = refl
drivers_none ends (Clear q) r is = refl
drivers_none ends (Leave q) r is = refl

pub drivers_log_none : DriversLogNone
drivers_log_none ends h e is =
    flat_map-append (logs ends) h (e ∷ []) ∙ ap (λ l. log_of ends h ++ (l ++ [])) (drivers_none ends e.ask e.reply is) ∙ append-nil (log_of ends h)

-- ---- before the first call of a query

found : (P : ConnEnd → Type 0) (p : ConnEnd → Bool) (A : Type 0) → ((e : ConnEnd) → P e → p e ≡ true → A) → (ends : List ConnEnd) → AllByRecursion P ends → list_any p ends ≡ true → A
found P p A give [] all any = absurd (let bad : false ≡ true = any in cc)
found P p A give (e ∷ ends) all any = by (p e) refl any (found P p A give ends all.1)
  where
    by : (b : Bool) → p e ≡ b → (b || list_any p ends) ≡ true → (list_any p ends ≡ true → A) → A
    by true is any later = give e all.0 is
    by false is any later = later any

equal : (a b : ℕ) → a ≡ b → (a == b) ≡ true
equal a b is = (Decides-eqb a b).1 is

module _ (query : ℕ) (ends : List ConnEnd) (of : AreOf query ends) where
  sends_of : (key : ConnKey) → sends_by ends key ≡ true → (key.query == query) ≡ true
  sends_of key sends =
      found (λ (e : ConnEnd). e.key.query ≡ query) (λ (e : ConnEnd). e.sending && key_eq e.key key) ((key.query == query) ≡ true)
      (λ e its test. equal key.query query (sym (ap (λ (k : ConnKey). k.query) (key_eq-tells e.key key (second_of e.sending (key_eq e.key key) test))) ∙ its)) ends of sends

  hears_of : (key : ConnKey) → hears_by ends key ≡ true → (key.query == query) ≡ true
  hears_of key hears =
      found (λ (e : ConnEnd). e.key.query ≡ query) (λ (e : ConnEnd). not e.sending && key_eq e.key key) ((key.query == query) ≡ true)
      (λ e its test. equal key.query query (sym (ap (λ (k : ConnKey). k.query) (key_eq-tells e.key key (second_of (not e.sending) (key_eq e.key key) test))) ∙ its)) ends of hears

  motions_of : (q motion : ℕ) → hears_motion ends q motion ≡ true → (q == query) ≡ true
  motions_of q motion hears =
      found (λ (e : ConnEnd). e.key.query ≡ query) (λ (e : ConnEnd). not e.sending && ((e.key.query == q) && (e.key.motion == motion))) ((q == query) ≡ true)
      (λ e its test. equal q query (sym ((Decides-eqb e.key.query q).0 (first_of (e.key.query == q) (e.key.motion == motion) (second_of (not e.sending) _ test))) ∙ its)) ends of hears

  chosen_none : (mine its : Bool) (adds : List PortEntry) → (mine ≡ true → its ≡ true) → cond its adds [] ≡ [] → cond mine adds [] ≡ []
  chosen_none false its adds implies none = refl
  chosen_none true its adds implies none = sym (ap (λ b. cond b adds []) (implies refl)) ∙ none

  none_by : (a : HubAsk) (r : HubReply) → query_logs_by query a r ≡ [] → logs_by ends a r ≡ []
  none_by (Begin q es) r none = refl
  none_by (Put key chunk) r none = chosen_none (sends_by ends key) (key.query == query) _ (sends_of key) none
  none_by (Finish key) r none = chosen_none (sends_by ends key) (key.query == query) _ (sends_of key) none
  none_by (Take q motion) r none = chosen_none (hears_motion ends q motion) (q == query) _ (motions_of q motion) none
  none_by (TakeFrom key) r none = chosen_none (hears_by ends key) (key.query == query) _ (hears_of key) none
  none_by (Halt key) r none = chosen_none (hears_by ends key) (key.query == query) _ (hears_of key) none
  none_by (Arrive d) r none = refl
  none_by Tick r none = refl
  none_by (Clear q) r none = refl
  none_by (Leave q) r none = refl

  both_none : (a b : List PortEntry) → a ++ b ≡ [] → (a ≡ []) × (b ≡ [])
  both_none [] b none = (refl, none)
  both_none (x ∷ a) b none = absurd (let bad : x ∷ (a ++ b) ≡ [] = none in cc)

  none_in : (h : List Entry) → log_of_query query h ≡ [] → log_of ends h ≡ []
  none_in [] none = refl
  none_in (e ∷ h) none =
      let parts = both_none (query_logs query e) (log_of_query query h) none in
      ap (λ l. l ++ log_of ends h) (none_by e.ask e.reply parts.0) ∙ none_in h parts.1

pub none_has_a_log : NoneHasALog
none_has_a_log query ends h of none = none_in query ends of h none
