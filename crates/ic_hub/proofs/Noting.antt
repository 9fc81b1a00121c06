-- What a call adds to a history.
use Rattle.std.proofs.Common.{◌≡◌, ℕ, ◌≤◌, List, [], ◌∷◌, ◌++◌, length, Bool, true, false, ◌==◌, cond, Result, Ok, Err, refl, ap, sym, ◌∙◌, subst, inl, inr, ◌⊎◌, append-nil, arith}
use Rattle.std.specs.Prelude.{OnErr}
use Rattle.std.specs.List.{AllByRecursion, Contains}
use Rattle.std.proofs.lemmas.Bool.Decides.{Decides-eqb}
use Rattle.ic_base.specs.declared.keys.ConnEnd.{ConnEnd}
use Rattle.ic_base.specs.declared.keys.BeginNo.{BeginNo}
use Rattle.ic_base.specs.declared.datagram.Datagram.{Datagram}
use Rattle.ic_base.specs.declared.datagram.Parcel.{Parcel}
use Rattle.ic_base.specs.declared.port.PortAsk.{PortAsk}
use Rattle.ic_base.specs.declared.port.PortEntry.{PortEntry}
use Rattle.ic_base.specs.declared.port.PortReply.{PortReply}
use Rattle.ic_base.specs.Ports.{added, logged}
use Rattle.ic_law.specs.declared.history.HubAsk.{HubAsk}
use Rattle.ic_law.specs.declared.history.HubAsk.TheVariants.{Begin, Put, Finish, Take, TakeFrom, Halt, Arrive, Tick, Clear, Leave}
use Rattle.ic_law.specs.declared.history.HubReply.{HubReply}
use Rattle.ic_law.specs.declared.history.HubReply.TheVariants.{Begun, Gave, Took, Came, Ticked, Cleared, Left, Memory}
use Rattle.ic_law.specs.declared.history.HubNo.{HubNo}
use Rattle.ic_law.specs.declared.history.TickNo.{TickNo}
use Rattle.ic_law.specs.declared.history.Entry.{Entry}
use Rattle.ic_law.specs.History.{datagram_in, arrived_of}
use Rattle.ic_law.specs.Queries.{left_by, left_of}
use Rattle.ic_law.specs.Points.{IsLive, place_at}
use Rattle.ic_law.proofs.Lists.{flat_map-append, Contains-none}
use Rattle.ic_law.proofs.Lives.{live_push}
use Rattle.ic_hub.specs.Hubbing.{Hubbing, place_in}
use Rattle.ic_hub.specs.Standing.{Stands}
use Rattle.ic_hub.specs.Entries.{begun_of, gave_of, took_of, ticked_of}
use Rattle.ic_law.specs.Logs.{logs, logs_by, log_of}
use Rattle.ic_hub.specs.Noting.{noted}
use Rattle.ic_hub.specs.Calls.{SamePlace}

-- ---- lists

pub all_append : {A : Type 0} (P : A → Type 0) (xs ys : List A) → AllByRecursion P xs → AllByRecursion P ys → AllByRecursion P (xs ++ ys)
all_append P [] ys all more = more
all_append P (x ∷ xs) ys all more = (all.0, all_append P xs ys all.1 more)

pub all_map : {A : Type 0} (P Q : A → Type 0) → ((x : A) → P x → Q x) → (xs : List A) → AllByRecursion P xs → AllByRecursion Q xs
all_map P Q f [] all = tt
all_map P Q f (x ∷ xs) all = (f x all.0, all_map P Q f xs all.1)

-- ---- by the reply

-- nothing if it found no memory, else the entry
pub noted_cases : (ask : HubAsk) (reply : HubReply) → ((reply ≡ Memory) × (noted ask reply ≡ [])) ⊎ (noted ask reply ≡ record { ask = ask; reply = reply } ∷ [])
noted_cases ask (Begun r) = inr refl
noted_cases ask (Gave r) = inr refl
noted_cases ask (Took r) = inr refl
noted_cases ask (Came how ds) = inr refl
noted_cases ask (Ticked r) = inr refl
noted_cases ask (Cleared r) = inr refl
noted_cases ask (Left r) = inr refl
noted_cases ask Memory = inl (refl, refl)

pub noted_all : (P : Entry → Type 0) (ask : HubAsk) (reply : HubReply) → P (record { ask = ask; reply = reply }) → AllByRecursion P (noted ask reply)
noted_all P ask (Begun r) here = (here, tt)
noted_all P ask (Gave r) here = (here, tt)
noted_all P ask (Took r) here = (here, tt)
noted_all P ask (Came how ds) here = (here, tt)
noted_all P ask (Ticked r) here = (here, tt)
noted_all P ask (Cleared r) here = (here, tt)
noted_all P ask (Left r) here = (here, tt)
noted_all P ask Memory here = tt

pub noted_few : (ask : HubAsk) (reply : HubReply) → length (noted ask reply) ≤ 1
noted_few ask reply = elim (noted_cases ask reply) [
  | inl h ↦ subst (λ (l : List Entry). length l ≤ 1) (sym h.1) (omega arith)
  | inr h ↦ subst (λ (l : List Entry). length l ≤ 1) (sym h) (omega arith)
]

-- no datagram came, where none is in the ask
pub noted_came : (ask : HubAsk) (reply : HubReply) → datagram_in ask ≡ [] → arrived_of (noted ask reply) ≡ []
noted_came ask reply none_in = elim (noted_cases ask reply) [
  | inl h ↦ ap arrived_of h.1
  | inr h ↦ ap arrived_of h ∙ append-nil (datagram_in ask) ∙ none_in
]

pub noted_left : (ask : HubAsk) (reply : HubReply) → left_by ask reply ≡ [] → left_of (noted ask reply) ≡ []
noted_left ask reply none_left = elim (noted_cases ask reply) [
  | inl h ↦ ap left_of h.1
  | inr h ↦ ap left_of h ∙ append-nil (left_by ask reply) ∙ none_left
]

-- the hub stands for the history with what the call adds
pub noted_stands : (a b : Hubbing) (h : List Entry) (ask : HubAsk) (reply : HubReply) → (reply ≡ Memory → b ≡ a) → (Stands a h → Stands b (h ++ record { ask = ask; reply = reply } ∷ [])) → Stands a h → Stands b (h ++ noted ask reply)
noted_stands a b h ask reply same stands was = elim (noted_cases ask reply) [
  | inl m ↦ subst (λ l. Stands b l) (sym (ap (λ l. h ++ l) m.1 ∙ append-nil h)) (subst (λ s. Stands s h) (sym (same m.0)) was)
  | inr m ↦ subst (λ l. Stands b (h ++ l)) (sym m) (stands was)
]

-- a live query stays so, where the call leaves none
pub noted_lives : (query : ℕ) (ends : List ConnEnd) (h : List Entry) (ask : HubAsk) (reply : HubReply) → left_by ask reply ≡ [] → IsLive query ends h → IsLive query ends (h ++ noted ask reply)
noted_lives query ends h ask reply none_left live = elim (noted_cases ask reply) [
  | inl m ↦ subst (λ l. IsLive query ends l) (sym (ap (λ l. h ++ l) m.1 ∙ append-nil h)) live
  | inr m ↦ subst (λ l. IsLive query ends (h ++ l)) (sym m)
      (live_push query ends h (record { ask = ask; reply = reply }) live (λ at. Contains-none query (subst (λ l. Contains l query) none_left at)))
]

-- ---- out of memory

pub begun_memory : (P : Type 0) (r : Result (Unit {0}) BeginNo) → OnErr r P → begun_of r ≡ Memory → P
begun_memory P (Ok u) h m = cc
begun_memory P (Err e) h m = h

pub gave_memory : (P : Type 0) (r : Result (List Datagram) HubNo) → OnErr r P → gave_of r ≡ Memory → P
gave_memory P (Ok ds) h m = cc
gave_memory P (Err e) h m = h

pub took_memory : (P : Type 0) (r : Result (Parcel × List Datagram) HubNo) → OnErr r P → took_of r ≡ Memory → P
took_memory P (Ok x) h m = cc
took_memory P (Err e) h m = h

pub ticked_memory : (P : Type 0) (r : Result (List Datagram) TickNo) → OnErr r P → ticked_of r ≡ Memory → P
ticked_memory P (Ok ds) h m = cc
ticked_memory P (Err e) h m = h

-- ---- places

pub place_same : (a b : Hubbing) → SamePlace a b → place_in b ≡ place_in a
place_same a b same = ap (λ x. place_at x b.at b.settings) same.session ∙ ap (λ x. place_at a.session x b.settings) same.at ∙ ap (λ x. place_at a.session a.at x) same.settings

pub same_self : (a : Hubbing) → SamePlace a a
same_self a = record { session = refl; at = refl; settings = refl }

-- ---- logs

abbrev none_logged : List PortEntry
none_logged = []

cond_none : (b : Bool) → cond b none_logged none_logged ≡ none_logged
cond_none true = refl
cond_none false = refl

memory_logs : (query : ℕ) (ask : HubAsk) → logs_by query ask Memory ≡ []
memory_logs query (Begin q ends) = refl
memory_logs query (Put key chunk) = cond_none (key.query == query)
memory_logs query (Finish key) = cond_none (key.query == query)
memory_logs query (Take q motion) = cond_none (q == query)
memory_logs query (TakeFrom key) = cond_none (key.query == query)
memory_logs query (Halt key) = cond_none (key.query == query)
memory_logs query (Arrive d) = refl
memory_logs query Tick = refl
memory_logs query (Clear q) = refl
memory_logs query (Leave q) = refl

-- what a call adds to a worker's log
pub noted_logs : (query : ℕ) (ask : HubAsk) (reply : HubReply) → log_of query (noted ask reply) ≡ logs_by query ask reply
noted_logs query ask reply = elim (noted_cases ask reply) [
  | inl m ↦ ap (log_of query) m.1 ∙ sym (memory_logs query ask) ∙ ap (logs_by query ask) (sym m.0)
  | inr m ↦ ap (log_of query) m ∙ append-nil (logs_by query ask reply)
]

pub log_on : (query : ℕ) (h more : List Entry) → log_of query (h ++ more) ≡ log_of query h ++ log_of query more
log_on query h more = flat_map-append (logs query) h more

-- the log grows by the entry of this call
pub noted_log : (query : ℕ) (h : List Entry) (ask : HubAsk) (reply : HubReply) (asked : PortAsk) (told : PortReply) → added asked told ≡ logs_by query ask reply
    → log_of query (h ++ noted ask reply) ≡ logged asked told (log_of query h)
noted_log query h ask reply asked told same = log_on query h (noted ask reply) ∙ ap (λ l. log_of query h ++ l) (noted_logs query ask reply ∙ sym same)
