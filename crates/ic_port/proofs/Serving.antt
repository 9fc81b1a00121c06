-- The calls of a worker, as entries.
use Rattle.std.proofs.Common.{◌≡◌, ℕ, ◌≤◌, ℤ, List, [], ◌∷◌, ◌++◌, cond, ◌==◌, Result, refl, ap, sym, ◌∙◌, subst, arith}
use Rattle.std.specs.Prelude.{IfErr}
use Rattle.std.proofs.lemmas.Bool.Decides.{Decides-eqb}
use Rattle.ic_base.specs.declared.keys.ConnKey.{ConnKey}
use Rattle.ic_base.specs.declared.port.PortNo.{PortNo}
use Rattle.ic_base.specs.declared.port.PortAsk.{PortAsk}
use Rattle.ic_base.specs.declared.port.PortAsk.TheVariants as ask
use Rattle.ic_base.specs.declared.port.PortReply.{PortReply}
use Rattle.ic_base.specs.Ports.{SendsTo, SendsAs, added, logged, MayRefusePut}
use Rattle.ic_law.specs.declared.history.HubAsk.{HubAsk}
use Rattle.ic_law.specs.declared.history.HubAsk.TheVariants.{Put, Finish, Take, TakeFrom, Halt}
use Rattle.ic_law.specs.declared.history.HubReply.{HubReply}
use Rattle.ic_law.specs.declared.history.HubReply.TheVariants.{Memory}
use Rattle.ic_law.specs.declared.history.Entry.{Entry}
use Rattle.ic_hub.specs.Hubbing.{Hubbing}
use Rattle.ic_hub.specs.Standing.{Stands}
use Rattle.ic_hub.specs.Calls.{SamePlace}
use Rattle.ic_law.specs.Logs.{logs_by, log_of, put_logs, take_logs, halt_logs, IsOurs, IsUpto, SendsHere, EndsHere}
use Rattle.ic_port.specs.Noding.{Noding, place_of, IsNode}
use Rattle.ic_port.specs.Telling.{TellsPut}
use Rattle.ic_hub.specs.Noting.{noted}
use Rattle.ic_hub.proofs.Noting.{noted_log}
use Rattle.ic_port.proofs.Keeping.{Notes}
use Rattle.ic_port.proofs.Keys.{key_of, sends_as, put_refused}

-- ---- any call

-- what a call did to the hub and to the entries, step by step
pub record Called (n : Noding) (hub : Hubbing) (entries reserved : List Entry) (asked : HubAsk) (ask : HubAsk) (reply : HubReply) (told : HubReply) : Type 0 where
  pub place : SamePlace n.hub hub
  pub same : reply ≡ Memory → hub ≡ n.hub
  pub stands : (h : List Entry) → Stands n.hub h → Stands hub (h ++ record { ask = ask; reply = reply } ∷ [])
  pub asked_is : asked ≡ ask
  pub reserved_is : reserved ≡ n.entries
  pub told_is : told ≡ reply
  pub entries_are : entries ≡ reserved ++ noted asked told

pub called_notes : (n : Noding) (hub : Hubbing) (entries reserved : List Entry) (asked ask : HubAsk) (reply : HubReply) (told : HubReply)
    → Called n hub entries reserved asked ask reply told → IsOurs (place_of n) ask → IsUpto n.query ask → Notes n hub entries ask reply
called_notes n hub entries reserved asked ask reply told c ours upto = record {
  place = c.place;
  same = c.same;
  stands = c.stands n.entries;
  ours = ours;
  upto = upto;
  grown = c.entries_are ∙ ap (λ l. l ++ noted asked told) c.reserved_is ∙ ap (λ a. n.entries ++ noted a told) c.asked_is ∙ ap (λ r. n.entries ++ noted ask r) c.told_is;
}

-- ---- on a connection

pub sends_ours : (n : Noding) (key : ConnKey) (motion : ℕ) (to : ℤ) → key ≡ key_of n.hub.session n.query motion n.hub.at to → SendsHere (place_of n) key
sends_ours n key motion to is = record { session = ap (λ (k : ConnKey). k.session) is; from = ap (λ (k : ConnKey). k.from) is }

pub ends_ours : (n : Noding) (key : ConnKey) (motion : ℕ) (from : ℤ) → key ≡ key_of n.hub.session n.query motion from n.hub.at → EndsHere (place_of n) key
ends_ours n key motion from is = record { session = ap (λ (k : ConnKey). k.session) is; to = ap (λ (k : ConnKey). k.to) is }

pub its_query : (query : ℕ) (key : ConnKey) (session motion : ℕ) (from to : ℤ) → key ≡ key_of session query motion from to → key.query ≤ query
its_query query key session motion from to is = let same : key.query ≡ query = ap (λ (k : ConnKey). k.query) is in omega (arith, same)

-- ---- logs

-- the test on one number and itself
its_own : {A : Type 0} (n : ℕ) (xs : List A) → cond (n == n) xs [] ≡ xs
its_own n xs = ap (λ b. cond b xs []) ((Decides-eqb n n).1 refl)

pub put_same : (query session motion : ℕ) (from to : ℤ) (key : ConnKey) (chunk : List ℕ) (reply : HubReply) → key ≡ key_of session query motion from to
    → put_logs (ask.Put motion to chunk) key reply ≡ logs_by query (Put key chunk) reply
put_same query session motion from to key chunk reply is =
    subst (λ (k : ConnKey). put_logs (ask.Put motion to chunk) k reply ≡ logs_by query (Put k chunk) reply) (sym is)
    (sym (its_own query (put_logs (ask.Put motion to chunk) (key_of session query motion from to) reply)))

pub finish_same : (query session motion : ℕ) (from to : ℤ) (key : ConnKey) (reply : HubReply) → key ≡ key_of session query motion from to
    → put_logs (ask.Finish motion to) key reply ≡ logs_by query (Finish key) reply
finish_same query session motion from to key reply is =
    subst (λ (k : ConnKey). put_logs (ask.Finish motion to) k reply ≡ logs_by query (Finish k) reply) (sym is)
    (sym (its_own query (put_logs (ask.Finish motion to) (key_of session query motion from to) reply)))

pub take_same : (query motion : ℕ) (reply : HubReply) → take_logs (ask.Take motion) reply ≡ logs_by query (Take query motion) reply
take_same query motion reply = sym (its_own query (take_logs (ask.Take motion) reply))

pub take_from_same : (query session motion : ℕ) (from to : ℤ) (key : ConnKey) (reply : HubReply) → key ≡ key_of session query motion from to
    → take_logs (ask.TakeFrom motion from) reply ≡ logs_by query (TakeFrom key) reply
take_from_same query session motion from to key reply is =
    subst (λ (k : ConnKey). take_logs (ask.TakeFrom motion from) reply ≡ logs_by query (TakeFrom k) reply) (sym is)
    (sym (its_own query (take_logs (ask.TakeFrom motion from) reply)))

pub halt_same : (query session motion : ℕ) (from to : ℤ) (key : ConnKey) (reply : HubReply) → key ≡ key_of session query motion from to
    → halt_logs (ask.Halt motion from) reply ≡ logs_by query (Halt key) reply
halt_same query session motion from to key reply is =
    subst (λ (k : ConnKey). halt_logs (ask.Halt motion from) reply ≡ logs_by query (Halt k) reply) (sym is)
    (sym (its_own query (halt_logs (ask.Halt motion from) reply)))

-- the log after a call, against the node before it
pub called_log : (n m : Noding) (hub : Hubbing) (entries : List Entry) (ask : HubAsk) (reply : HubReply) (asked : PortAsk) (told : PortReply)
    → n ≡ m → Notes n hub entries ask reply → added asked told ≡ logs_by n.query ask reply → log_of n.query entries ≡ logged asked told (log_of m.query m.entries)
called_log n m hub entries ask reply asked told view notes same =
    ap (log_of n.query) notes.grown ∙ noted_log n.query n.entries ask reply asked told same ∙ ap (λ (x : Noding). logged asked told (log_of x.query x.entries)) view

-- ---- refusals

pub put_may : (n m : Noding) (key : ConnKey) (motion : ℕ) (to : ℤ) (told : Result (Unit {0}) PortNo) → IsNode n → n ≡ m
    → key ≡ key_of n.hub.session n.query motion n.hub.at to → SendsTo m.ends motion to → IfErr told (TellsPut key) → IfErr told (MayRefusePut m.ends motion to)
put_may n m key motion to told is view key_is sends tells =
    let sent : SendsTo n.ends motion to = subst (λ (x : Noding). SendsTo x.ends motion to) (sym view) sends in
    subst (λ (x : Noding). IfErr told (MayRefusePut x.ends motion to)) view
    (put_refused n.ends motion to key (subst (λ k. SendsAs n.ends motion to k) (sym key_is) (sends_as (place_of n) n.query n.ends motion to is.ends_are sent)) told tells)
