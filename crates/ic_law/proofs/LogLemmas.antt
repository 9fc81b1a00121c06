-- Laws of logs, for every history.
use Rattle.std.proofs.Common.{◌≡◌, ◌≢◌, ℕ, ◌<◌, ◌≤◌, List, [], ◌∷◌, ◌++◌, Bool, true, false, ◌==◌, cond, refl, ap, sym, ◌∙◌, subst, append-nil, arith}
use Rattle.std.proofs.lemmas.List.Concat.{flat_map-append}
use Rattle.std.proofs.lemmas.Bool.{ne_eqb}
use Rattle.std.specs.List.{AllByRecursion, flat_map}
use Rattle.ic_base.specs.declared.keys.ConnKey.{ConnKey}
use Rattle.ic_base.specs.declared.port.PortEntry.{PortEntry}
use Rattle.ic_law.specs.declared.history.HubAsk.{HubAsk}
use Rattle.ic_law.specs.declared.history.HubAsk.TheVariants.{Begin, Put, Finish, Take, TakeFrom, Halt, Arrive, Tick, Clear, Leave}
use Rattle.ic_law.specs.declared.history.HubReply.{HubReply}
use Rattle.ic_law.specs.declared.history.Entry.{Entry}
use Rattle.ic_law.specs.Logs.{logs, logs_by, log_of, IsOf, IsUpto}
use Rattle.ic_law.specs.LogLaws.{LogGrows, NoneYet, OthersPass}

pub log_grows : LogGrows
log_grows query h more = flat_map-append (logs query) h more

-- if the numbers differ, the choice is the other one
other_one : {A : Type 0} (a b : ℕ) (x : List A) → (a ≡ b → ⊥) → cond (a == b) x [] ≡ []
other_one a b x differ = ap (λ t. cond t x []) (ne_eqb a b differ)

-- a call of another query's worker adds nothing
silent_of : (other query : ℕ) (asked : HubAsk) (replied : HubReply) → IsOf other asked → other ≢ query → logs_by query asked replied ≡ []
silent_of other query (Begin q ends) replied is differ = refl
silent_of other query (Put key chunk) replied is differ = other_one key.query query _ (λ same. differ (sym is ∙ same))
silent_of other query (Finish key) replied is differ = other_one key.query query _ (λ same. differ (sym is ∙ same))
silent_of other query (Take q motion) replied is differ = other_one q query _ (λ same. differ (sym is ∙ same))
silent_of other query (TakeFrom key) replied is differ = other_one key.query query _ (λ same. differ (sym is ∙ same))
silent_of other query (Halt key) replied is differ = other_one key.query query _ (λ same. differ (sym is ∙ same))
silent_of other query (Arrive d) replied is differ = refl
silent_of other query Tick replied is differ = refl
silent_of other query (Clear q) replied is differ = refl
silent_of other query (Leave q) replied is differ = refl

not_upto : (last query n : ℕ) → n ≤ last → last < query → n ≡ query → ⊥
not_upto last query n upto before same = omega (arith, upto, before, same)

silent_upto : (last query : ℕ) (asked : HubAsk) (replied : HubReply) → IsUpto last asked → last < query → logs_by query asked replied ≡ []
silent_upto last query (Begin q ends) replied is before = refl
silent_upto last query (Put key chunk) replied is before = other_one key.query query _ (not_upto last query key.query is before)
silent_upto last query (Finish key) replied is before = other_one key.query query _ (not_upto last query key.query is before)
silent_upto last query (Take q motion) replied is before = other_one q query _ (not_upto last query q is before)
silent_upto last query (TakeFrom key) replied is before = other_one key.query query _ (not_upto last query key.query is before)
silent_upto last query (Halt key) replied is before = other_one key.query query _ (not_upto last query key.query is before)
silent_upto last query (Arrive d) replied is before = refl
silent_upto last query Tick replied is before = refl
silent_upto last query (Clear q) replied is before = refl
silent_upto last query (Leave q) replied is before = refl

pub none_yet : NoneYet
none_yet last query [] upto before = refl
none_yet last query (e ∷ h) upto before = ap (λ xs. xs ++ log_of query h) (silent_upto last query e.ask e.reply upto.0 before) ∙ none_yet last query h upto.1 before

none_of : (other query : ℕ) (more : List Entry) → AllByRecursion (λ e. IsOf other e.ask) more → other ≢ query → log_of query more ≡ []
none_of other query [] all differ = refl
none_of other query (e ∷ more) all differ = ap (λ xs. xs ++ log_of query more) (silent_of other query e.ask e.reply all.0 differ) ∙ none_of other query more all.1 differ

pub others_pass : OthersPass
others_pass other query h more all differ = log_grows query h more ∙ ap (λ xs. log_of query h ++ xs) (none_of other query more all differ) ∙ append-nil (log_of query h)
