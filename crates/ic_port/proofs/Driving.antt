-- The other calls, as entries.
use Rattle.std.proofs.Common.{◌≡◌, ℕ, ◌<◌, ℤ, List, [], ◌∷◌, ◌++◌, true, false, Option, Result, Ok, Err, refl, ap, sym, ◌∙◌, subst, arith}
use Rattle.std.specs.Prelude.{OnErr, OnOk, is_err}
use Rattle.ic_base.specs.declared.keys.ConnEnd.{ConnEnd}
use Rattle.ic_base.specs.declared.keys.BeginNo.{BeginNo}
use Rattle.ic_base.specs.declared.datagram.Datagram.{Datagram}
use Rattle.ic_law.specs.declared.history.HubAsk.{HubAsk}
use Rattle.ic_law.specs.declared.history.HubAsk.TheVariants.{Begin, Tick, Leave}
use Rattle.ic_law.specs.declared.history.HubReply.{HubReply}
use Rattle.ic_law.specs.declared.history.HubReply.TheVariants.{Left}
use Rattle.ic_law.specs.declared.history.TickNo.{TickNo}
use Rattle.ic_law.specs.declared.history.LeaveNo.{LeaveNo}
use Rattle.ic_law.specs.declared.history.Entry.{Entry}
use Rattle.ic_law.specs.Queries.{left_by}
use Rattle.ic_law.specs.Points.{IsLive}
use Rattle.ic_law.specs.Asking.{AreEnds}
use Rattle.ic_law.proofs.Lives.{live_now}
use Rattle.ic_hub.specs.Hubbing.{Hubbing}
use Rattle.ic_hub.specs.Standing.{Stands}
use Rattle.ic_hub.specs.Calls.{SamePlace}
use Rattle.ic_hub.specs.Entries.{begun_of, ticked_of, begin_entry, tick_entry, leave_entry}
use Rattle.ic_law.specs.Logs.{log_of, IsUpto}
use Rattle.ic_law.proofs.LogLemmas.{none_yet}
use Rattle.ic_port.specs.Noding.{Noding, place_of, IsNode}
use Rattle.ic_port.specs.Calls.{Adds, Begins, Ticks, Stays}
use Rattle.ic_port.specs.Telling.{told_tick}
use Rattle.ic_hub.specs.Noting.{noted}
use Rattle.ic_hub.proofs.Noting.{all_append, begun_memory}
use Rattle.ic_port.proofs.Keeping.{Notes, after, notes_keep_with, no_ends}
use Rattle.ic_port.proofs.Serving.{called_notes}

-- the entry stands there, and all else is as it was
pub adds_of : (n : Noding) (hub : Hubbing) (entries : List Entry) (ask : HubAsk) (reply : HubReply) (e : Entry) → Notes n hub entries ask reply → noted ask reply ≡ e ∷ [] → Adds e n (after n hub n.query n.ends entries)
adds_of n hub entries ask reply e notes one = record { place = notes.place; query = refl; ends = refl; entries = notes.grown ∙ ap (λ l. n.entries ++ l) one }

-- ---- a query that begins

pub begin_notes : (n : Noding) (hub : Hubbing) (entries reserved : List Entry) (query : ℕ) (given seen ends : List ConnEnd) (answer : Result (Unit {0}) BeginNo) (told : HubReply)
    → SamePlace n.hub hub → OnErr answer (hub ≡ n.hub) → ((h : List Entry) → Stands n.hub h → Stands hub (h ++ begin_entry query seen answer ∷ []))
    → seen ≡ ends → given ≡ ends → reserved ≡ n.entries → told ≡ begun_of answer → entries ≡ reserved ++ noted (Begin query given) told
    → Notes n hub entries (Begin query ends) (begun_of answer)
begin_notes n hub entries reserved query given seen ends answer told place err stands seen_is given_is reserved_is told_is entries_are =
    called_notes n hub entries reserved (Begin query given) (Begin query ends) (begun_of answer) told
    (record {
      place = place;
      same = λ memory. begun_memory (hub ≡ n.hub) answer err memory;
      stands = λ h was. subst (λ l. Stands hub (h ++ begin_entry query l answer ∷ [])) seen_is (stands h was);
      asked_is = ap (λ l. Begin query l) given_is;
      reserved_is = reserved_is;
      told_is = told_is;
      entries_are = entries_are;
    })
    tt tt

-- with the entry of a query that began
pub begun_grown : (n : Noding) (hub : Hubbing) (entries : List Entry) (query : ℕ) (ends : List ConnEnd) (answer : Result (Unit {0}) BeginNo) (u : Unit {0}) → answer ≡ Ok u
    → Notes n hub entries (Begin query ends) (begun_of answer) → entries ≡ n.entries ++ begin_entry query ends (Ok tt) ∷ []
begun_grown n hub entries query ends answer u is notes = notes.grown ∙ ap (λ r. n.entries ++ noted (Begin query ends) (begun_of r)) is

pub begun_keeps : (n m : Noding) (hub : Hubbing) (entries : List Entry) (query : ℕ) (ends : List ConnEnd) (answer : Result (Unit {0}) BeginNo) (u : Unit {0})
    → IsNode n → n ≡ m → answer ≡ Ok u → Notes n hub entries (Begin query ends) (begun_of answer) → m.query < query → AreEnds (place_of m) query ends
    → IsNode (after n hub query ends entries)
begun_keeps n m hub entries query ends answer u is view ok notes later are =
    let e : Entry = begin_entry query ends (Ok tt) in
    let less : n.query < query = subst (λ (x : Noding). x.query < query) (sym view) later in
    notes_keep_with n hub entries (Begin query ends) (begun_of answer) is notes query ends (omega (arith, less)) (subst (λ (x : Noding). AreEnds (place_of x) query ends) (sym view) are)
    (λ ends_there. subst (λ l. IsLive query ends l) (sym (begun_grown n hub entries query ends answer u ok notes)) (live_now query ends n.entries e refl refl))

pub begun_begins : (n m : Noding) (hub : Hubbing) (entries : List Entry) (query : ℕ) (ends : List ConnEnd) (answer : Result (Unit {0}) BeginNo) (u : Unit {0})
    → IsNode n → n ≡ m → answer ≡ Ok u → Notes n hub entries (Begin query ends) (begun_of answer) → m.query < query → Begins query ends m (after n hub query ends entries)
begun_begins n m hub entries query ends answer u is view ok notes later =
    let e : Entry = begin_entry query ends (Ok tt) in
    let grown = begun_grown n hub entries query ends answer u ok notes in
    let less : n.query < query = subst (λ (x : Noding). x.query < query) (sym view) later in
    subst (λ (x : Noding). Begins query ends x (after n hub query ends entries)) view (record {
      place = notes.place;
      query_is = refl;
      ends_are = refl;
      entries = grown;
      log = ap (log_of query) grown ∙ none_yet n.query query (n.entries ++ e ∷ []) (all_append (λ (x : Entry). IsUpto n.query x.ask) n.entries (e ∷ []) is.upto (tt, tt)) less;
    })

-- ---- ticks

pub tick_tells : (T : Type 0) (answer : Result (List Datagram) TickNo) (told : Result (Unit {0}) TickNo) → told ≡ told_tick answer → ((ds : List Datagram) → answer ≡ Ok ds → T) → OnOk told T
tick_tells T (Ok ds) told is f = subst (λ r. OnOk r T) (sym is) (f ds refl)
tick_tells T (Err e) told is f = subst (λ r. OnOk r T) (sym is) tt

pub tick_adds : (n m : Noding) (hub : Hubbing) (entries : List Entry) (answer : Result (List Datagram) TickNo) (told : Result (Unit {0}) TickNo) → n ≡ m → Notes n hub entries Tick (ticked_of answer) → told ≡ told_tick answer
    → OnOk told (Ticks m (after n hub n.query n.ends entries))
tick_adds n m hub entries answer told view notes is =
    subst (λ (x : Noding). OnOk told (Ticks x (after n hub n.query n.ends entries))) view
    (tick_tells (Ticks n (after n hub n.query n.ends entries)) answer told is (λ ds ok. record {
      emitted = ds;
      adds = adds_of n hub entries Tick (ticked_of answer) (tick_entry (Ok ds)) notes (ap (λ r. noted Tick (ticked_of r)) ok);
    }))

-- ---- a query that is left

pub left_err : (answer : Result (Unit {0}) LeaveNo) → is_err answer ≡ true → (e : LeaveNo) × (answer ≡ Err e)
left_err (Ok u) h = cc
left_err (Err e) h = (e, refl)

pub stays_none_left : (query : ℕ) (answer : Result (Unit {0}) LeaveNo) → is_err answer ≡ true → left_by (Leave query) (Left answer) ≡ []
stays_none_left query (Ok u) h = cc
stays_none_left query (Err e) h = refl

pub leave_stays : (n m : Noding) (hub : Hubbing) (entries : List Entry) (answer : Result (Unit {0}) LeaveNo) → n ≡ m → is_err answer ≡ true → Notes n hub entries (Leave n.query) (Left answer)
    → Stays m (after n hub n.query n.ends entries)
leave_stays n m hub entries answer view err notes =
    let why = left_err answer err in
    subst (λ (x : Noding). Stays x (after n hub n.query n.ends entries)) view (record {
      refusal = why.0;
      adds = adds_of n hub entries (Leave n.query) (Left answer) (leave_entry n.query (Err why.0)) notes (ap (λ r. noted (Leave n.query) (Left r)) why.1);
    })

pub left_keeps : (n : Noding) (hub : Hubbing) (entries : List Entry) (ends : List ConnEnd) (answer : Result (Unit {0}) LeaveNo)
    → IsNode n → Notes n hub entries (Leave n.query) (Left answer) → ends ≡ [] → IsNode (after n hub n.query ends entries)
left_keeps n hub entries ends answer is notes none =
    notes_keep_with n hub entries (Leave n.query) (Left answer) is notes n.query ends (omega arith)
    (subst (λ l. AreEnds (place_of n) n.query l) (sym none) (no_ends (place_of n) n.query)) (λ there. absurd (there none))
