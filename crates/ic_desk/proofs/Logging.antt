-- The log of a worker's ends, after a call by one of them.
use Rattle.std.proofs.Common.{◌≡◌, ℕ, ◌≤◌, Bool, true, false, ◌==◌, cond, List, [], ◌∷◌, length, Ok, Err, ◌⊎◌, inl, inr, refl, ap, sym, ◌∙◌, subst, append-nil, arith}
use Rattle.std.specs.List.{AllByRecursion}
use Rattle.std.proofs.lemmas.Bool.Decides.{Decides-eqb}
use Rattle.ic_base.specs.declared.keys.ConnKey.{ConnKey}
use Rattle.ic_base.specs.declared.keys.ConnEnd.{ConnEnd}
use Rattle.ic_base.specs.declared.port.PortNo.TheVariants as port
use Rattle.ic_base.specs.declared.port.PortAsk.{PortAsk}
use Rattle.ic_base.specs.declared.port.PortAsk.TheVariants as ask
use Rattle.ic_base.specs.declared.port.PortReply.{PortReply}
use Rattle.ic_base.specs.declared.port.PortReply.TheVariants as reply
use Rattle.ic_base.specs.declared.port.PortEntry.{PortEntry}
use Rattle.ic_base.specs.Ports.{SendsTo, Hears, HearsFrom, added}
use Rattle.ic_law.specs.declared.history.HubAsk.{HubAsk}
use Rattle.ic_law.specs.declared.history.HubAsk.TheVariants.{Begin, Put, Finish, Take, TakeFrom, Halt, Arrive, Tick, Clear, Leave}
use Rattle.ic_law.specs.declared.history.HubReply.{HubReply}
use Rattle.ic_law.specs.declared.history.HubReply.TheVariants.{Begun, Gave, Took, Came, Ticked, Cleared, Left, Memory}
use Rattle.ic_law.specs.declared.history.HubNo.TheVariants as hub
use Rattle.ic_law.specs.declared.history.Entry.{Entry}
use Rattle.ic_law.specs.Points.{Place}
use Rattle.ic_law.specs.Logs.{one, put_logs, take_logs, halt_logs, IsOf, IsOurs}
use Rattle.ic_law.specs.Logs.{logs_by as query_logs_by, log_of as log_of_query}
use Rattle.pl_runs.specs.Logs.{sends_by, hears_by, hears_motion, logs_by, log_of}
use Rattle.ic_desk.specs.Sitting.{AreApart}
use Rattle.ic_desk.proofs.Owning.{AreHere, sends_true, hears_true, motion_true}

-- ---- what a worker asks of its ends

abbrev pub Goes : List ConnEnd → PortAsk → Type 0
Goes ends (ask.Put motion to chunk) = SendsTo ends motion to
Goes ends (ask.Finish motion to) = SendsTo ends motion to
Goes ends (ask.Take motion) = Hears ends motion
Goes ends (ask.TakeFrom motion sender) = HearsFrom ends motion sender
Goes ends (ask.Halt motion sender) = HearsFrom ends motion sender

-- ---- an entry of this ask, or none

abbrev pub IsOne : PortAsk → List PortEntry → Type 0
IsOne asked l = (l ≡ []) ⊎ ((r : PortReply) × (l ≡ one asked r))

pub added_one : (asked : PortAsk) (told : PortReply) → IsOne asked (added asked told)
added_one asked reply.Did = inr (reply.Did, refl)
added_one asked (reply.Gave p) = inr (reply.Gave p, refl)
added_one asked (reply.Refused port.Full) = inr (reply.Refused port.Full, refl)
added_one asked (reply.Refused port.Empty) = inr (reply.Refused port.Empty, refl)
added_one asked (reply.Refused port.Stopped) = inr (reply.Refused port.Stopped, refl)
added_one asked (reply.Refused port.Ended) = inr (reply.Refused port.Ended, refl)
added_one asked (reply.Refused (port.TooLong key)) = inr (reply.Refused (port.TooLong key), refl)
added_one asked (reply.Refused port.Busy) = inl refl
added_one asked (reply.Refused port.Memory) = inl refl

pub put_one : (asked : PortAsk) (key : ConnKey) (r : HubReply) → IsOne asked (put_logs asked key r)
put_one asked key (Gave (Ok ds)) = inr (reply.Did, refl)
put_one asked key (Gave (Err hub.Full)) = inr (reply.Refused port.Full, refl)
put_one asked key (Gave (Err hub.Stopped)) = inr (reply.Refused port.Stopped, refl)
put_one asked key (Gave (Err (hub.TooLong which))) = inr (reply.Refused (port.TooLong key), refl)
put_one asked key (Gave (Err hub.Empty)) = inl refl
put_one asked key (Gave (Err hub.Ended)) = inl refl
put_one asked key (Gave (Err (hub.Unknown query motion))) = inl refl
put_one asked key (Gave (Err hub.Memory)) = inl refl
put_one asked key (Begun r) = inl refl
put_one asked key (Took r) = inl refl
put_one asked key (Came how ds) = inl refl
put_one asked key (Ticked r) = inl refl
put_one asked key (Cleared r) = inl refl
put_one asked key (Left r) = inl refl
put_one asked key Memory = inl refl

pub take_one : (asked : PortAsk) (r : HubReply) → IsOne asked (take_logs asked r)
take_one asked (Took (Ok r)) = inr (reply.Gave r.0, refl)
take_one asked (Took (Err hub.Empty)) = inr (reply.Refused port.Empty, refl)
take_one asked (Took (Err hub.Ended)) = inr (reply.Refused port.Ended, refl)
take_one asked (Took (Err hub.Full)) = inl refl
take_one asked (Took (Err hub.Stopped)) = inl refl
take_one asked (Took (Err (hub.TooLong which))) = inl refl
take_one asked (Took (Err (hub.Unknown query motion))) = inl refl
take_one asked (Took (Err hub.Memory)) = inl refl
take_one asked (Begun r) = inl refl
take_one asked (Gave r) = inl refl
take_one asked (Came how ds) = inl refl
take_one asked (Ticked r) = inl refl
take_one asked (Cleared r) = inl refl
take_one asked (Left r) = inl refl
take_one asked Memory = inl refl

pub halt_one : (asked : PortAsk) (r : HubReply) → IsOne asked (halt_logs asked r)
halt_one asked (Gave (Ok ds)) = inr (reply.Did, refl)
halt_one asked (Gave (Err refusal)) = inl refl
halt_one asked (Begun r) = inl refl
halt_one asked (Took r) = inl refl
halt_one asked (Came how ds) = inl refl
halt_one asked (Ticked r) = inl refl
halt_one asked (Cleared r) = inl refl
halt_one asked (Left r) = inl refl
halt_one asked Memory = inl refl

abbrev asked_first : PortAsk → List PortEntry → PortAsk
asked_first a [] = a
asked_first a (e ∷ l) = e.ask

asked_in : (a b : PortAsk) (r s : PortReply) → one a r ≡ one b s → a ≡ b
asked_in a b r s same =
    ap (λ (l : List PortEntry). asked_first a l) same

-- a list that is of two asks is of one, or has none
same_ask : (a b : PortAsk) (l : List PortEntry) → IsOne a l → IsOne b l → (l ≡ []) ⊎ (a ≡ b)
same_ask a b l (inl none) k = inl none
same_ask a b l (inr h) (inl none) = inl none
same_ask a b l (inr h) (inr k) = inr (asked_in a b h.0 k.0 (sym h.1 ∙ k.1))

-- ---- one call

-- What a call adds to the log of the ends that it goes by: the call is the worker's own, or adds nothing.
chosen : (asked its : PortAsk) (told : PortReply) (adds : List PortEntry) (mine : Bool) → adds ≡ added asked told → IsOne its adds → (asked ≡ its → mine ≡ true) → cond mine adds [] ≡ added asked told
chosen asked its told adds true is of own = is
chosen asked its told adds false is of own = elim (same_ask asked its adds (subst (IsOne asked) (sym is) (added_one asked told)) of) [
  | inl none ↦ sym none ∙ is
  | inr same ↦ absurd (let bad : false ≡ true = own same in cc)
]

-- and to the log of ends by which it doesn't go
left_out : (asked its : PortAsk) (told : PortReply) (adds : List PortEntry) (theirs : Bool) → adds ≡ added asked told → IsOne its adds → (asked ≡ its → theirs ≡ false) → cond theirs adds [] ≡ []
left_out asked its told adds false is of other = refl
left_out asked its told adds true is of other = elim (same_ask asked its adds (subst (IsOne asked) (sym is) (added_one asked told)) of) [
  | inl none ↦ none
  | inr same ↦ absurd (let bad : true ≡ false = other same in cc)
]

its_query : (q query : ℕ) (adds l : List PortEntry) → q ≡ query → cond (q == query) adds [] ≡ l → adds ≡ l
its_query q query adds l is same = sym (ap (λ b. cond b adds []) ((Decides-eqb q query).1 is)) ∙ same

module _ (place : Place) (query : ℕ) (own : List ConnEnd) (here : AreHere place query own) (asked : PortAsk) (told : PortReply) (goes : Goes own asked) where
  abbrev OwnLogs : HubAsk → HubReply → Type 0
  OwnLogs a r = logs_by own a r ≡ added asked told

  own_logs : (a : HubAsk) (r : HubReply) → IsOurs place a → IsOf query a → query_logs_by query a r ≡ added asked told → OwnLogs a r
  own_logs (Begin q es) r ours of is = is
  own_logs (Put key chunk) r ours of is =
      chosen asked (ask.Put key.motion key.to chunk) told (put_logs (ask.Put key.motion key.to chunk) key r) (sends_by own key) (its_query key.query query _ _ of is) (put_one _ key r)
      (λ same. sends_true place query own key here ours of (subst (Goes own) same goes))
  own_logs (Finish key) r ours of is =
      chosen asked (ask.Finish key.motion key.to) told (put_logs (ask.Finish key.motion key.to) key r) (sends_by own key) (its_query key.query query _ _ of is) (put_one _ key r)
      (λ same. sends_true place query own key here ours of (subst (Goes own) same goes))
  own_logs (Take q motion) r ours of is =
      chosen asked (ask.Take motion) told (take_logs (ask.Take motion) r) (hears_motion own q motion) (its_query q query _ _ of is) (take_one _ r)
      (λ same. motion_true place query own q motion here of (subst (Goes own) same goes))
  own_logs (TakeFrom key) r ours of is =
      chosen asked (ask.TakeFrom key.motion key.from) told (take_logs (ask.TakeFrom key.motion key.from) r) (hears_by own key) (its_query key.query query _ _ of is) (take_one _ r)
      (λ same. hears_true place query own key here ours of (subst (Goes own) same goes))
  own_logs (Halt key) r ours of is =
      chosen asked (ask.Halt key.motion key.from) told (halt_logs (ask.Halt key.motion key.from) r) (hears_by own key) (its_query key.query query _ _ of is) (halt_one _ r)
      (λ same. hears_true place query own key here ours of (subst (Goes own) same goes))
  own_logs (Arrive d) r ours of is = is
  own_logs Tick r ours of is = is
  own_logs (Clear q) r ours of is = is
  own_logs (Leave q) r ours of is = is

  others_log : (others : List ConnEnd) → AreApart own others → (a : HubAsk) (r : HubReply) → IsOurs place a → IsOf query a → query_logs_by query a r ≡ added asked told → logs_by others a r ≡ []
  others_log others apart (Begin q es) r ours of is = refl
  others_log others apart (Put key chunk) r ours of is =
      left_out asked (ask.Put key.motion key.to chunk) told (put_logs (ask.Put key.motion key.to chunk) key r) (sends_by others key) (its_query key.query query _ _ of is) (put_one _ key r)
      (λ same. apart.sent key (sends_true place query own key here ours of (subst (Goes own) same goes)))
  others_log others apart (Finish key) r ours of is =
      left_out asked (ask.Finish key.motion key.to) told (put_logs (ask.Finish key.motion key.to) key r) (sends_by others key) (its_query key.query query _ _ of is) (put_one _ key r)
      (λ same. apart.sent key (sends_true place query own key here ours of (subst (Goes own) same goes)))
  others_log others apart (Take q motion) r ours of is =
      left_out asked (ask.Take motion) told (take_logs (ask.Take motion) r) (hears_motion others q motion) (its_query q query _ _ of is) (take_one _ r)
      (λ same. apart.taken q motion (motion_true place query own q motion here of (subst (Goes own) same goes)))
  others_log others apart (TakeFrom key) r ours of is =
      left_out asked (ask.TakeFrom key.motion key.from) told (take_logs (ask.TakeFrom key.motion key.from) r) (hears_by others key) (its_query key.query query _ _ of is) (take_one _ r)
      (λ same. apart.heard key (hears_true place query own key here ours of (subst (Goes own) same goes)))
  others_log others apart (Halt key) r ours of is =
      left_out asked (ask.Halt key.motion key.from) told (halt_logs (ask.Halt key.motion key.from) r) (hears_by others key) (its_query key.query query _ _ of is) (halt_one _ r)
      (λ same. apart.heard key (hears_true place query own key here ours of (subst (Goes own) same goes)))
  others_log others apart (Arrive d) r ours of is = refl
  others_log others apart Tick r ours of is = refl
  others_log others apart (Clear q) r ours of is = refl
  others_log others apart (Leave q) r ours of is = refl

  -- ---- what a call adds to a history

  abbrev AreOurs : List Entry → Type 0
  AreOurs more = AllByRecursion (λ (e : Entry). IsOurs place e.ask) more

  abbrev AreOf : List Entry → Type 0
  AreOf more = AllByRecursion (λ (e : Entry). IsOf query e.ask) more

  pub own_more : (more : List Entry) → length more ≤ 1 → AreOurs more → AreOf more → log_of_query query more ≡ added asked told → log_of own more ≡ added asked told
  own_more [] few ours of is = is
  own_more (e ∷ []) few ours of is =
      append-nil (logs_by own e.ask e.reply) ∙ own_logs e.ask e.reply ours.0 of.0 (sym (append-nil (query_logs_by query e.ask e.reply)) ∙ is)
  own_more (e ∷ f ∷ more) few ours of is = absurd (omega (arith, few))

  pub others_more : (others : List ConnEnd) → AreApart own others → (more : List Entry) → length more ≤ 1 → AreOurs more → AreOf more → log_of_query query more ≡ added asked told → log_of others more ≡ []
  others_more others apart [] few ours of is = refl
  others_more others apart (e ∷ []) few ours of is =
      append-nil (logs_by others e.ask e.reply) ∙ others_log others apart e.ask e.reply ours.0 of.0 (sym (append-nil (query_logs_by query e.ask e.reply)) ∙ is)
  others_more others apart (e ∷ f ∷ more) few ours of is = absurd (omega (arith, few))
